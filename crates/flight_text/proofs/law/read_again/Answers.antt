use Rattle.flight_text.proofs.Written.{is_spelling}
use Rattle.flight_text.proofs.law.read_again.Goals as goal

pub returns : goal.returns
returns c = is_spelling
