use Rattle.flight_graph.proofs.Drawn.{draw_one_canon}
use Rattle.flight_graph.proofs.Same.{one_canon_draws}
use Rattle.flight_graph.proofs.law.same_by_pairs.Goals as goal

pub returns : goal.returns
returns c = record { same = draw_one_canon; drawn = one_canon_draws }
