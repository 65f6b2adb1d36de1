use Rattle.flight_syntax.proofs.Readings.{one_reading}
use Rattle.flight_syntax.proofs.lex.one_reading.Goals as goal

pub returns : goal.returns
returns c = one_reading
