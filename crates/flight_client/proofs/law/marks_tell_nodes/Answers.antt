use Rattle.flight_client.proofs.OneMark.{has_one_mark}
use Rattle.flight_client.proofs.law.marks_tell_nodes.Goals as goal

pub returns : goal.returns
returns c = has_one_mark
