use Rattle.flight_render.proofs.Idle.{body_waits, component_waits}
use Rattle.flight_render.proofs.law.waits_right.Goals as goal

pub returns : goal.returns
returns c = record { rendered = body_waits; component = component_waits }
