use Rattle.flight_place.proofs.Within.{tree_within}
use Rattle.flight_place.proofs.law.numbers_lead_to_places.Goals as goal

pub returns : goal.returns
returns c = tree_within
