use Rattle.flight_place.proofs.Ordered.{tree_ordered}
use Rattle.flight_place.proofs.law.names_ascend.Goals as goal

pub returns : goal.returns
returns c = tree_ordered
