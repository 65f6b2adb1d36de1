use Rattle.flight_bundle.specs.Parts.{alone}
use Rattle.flight_bundle.proofs.part.parts_of.Goals as goal

pub returns-in-None : goal.returns-in-None
returns-in-None c = alone c.in-None.ensures
