use Rattle.flight_render.proofs.Larger.{body-keeps, root-keeps}
use Rattle.flight_render.proofs.Dearer.{body_dearer}
use Rattle.flight_render.proofs.law.larger_bodies.Goals as goal

pub returns : goal.returns
returns c = record { component = body-keeps; first = root-keeps; cost = body_dearer }
