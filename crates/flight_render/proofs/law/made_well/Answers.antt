use Rattle.flight_render.proofs.There.{rendered_made, node_known, tables_belong}
use Rattle.flight_render.proofs.Closed.{reached_known, closed}
use Rattle.flight_render.proofs.law.made_well.Goals as goal

pub returns : goal.returns
returns c = record { bodies = rendered_made; nodes = node_known; tables = tables_belong; reached = reached_known; closed = closed }
