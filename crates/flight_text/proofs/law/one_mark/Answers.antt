use Rattle.flight_text.proofs.Lines.{same_mark}
use Rattle.flight_text.proofs.law.one_mark.Goals as goal

pub returns : goal.returns
returns c = same_mark
