use Rattle.flight_graph.proofs.Renamed.{canon_valid}
use Rattle.flight_graph.proofs.law.canon_is_valid.Goals as goal

pub returns : goal.returns
returns c = canon_valid
