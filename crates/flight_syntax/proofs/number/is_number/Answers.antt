use Rattle.std.specs.Char.{is_ascii_digit}
use Rattle.flight_syntax.proofs.Fronts.{all-prefix}
use Rattle.flight_syntax.proofs.number.is_number.Goals as goal

pub is_numeral-requires-clause-digits : goal.is_numeral-requires-clause-digits
is_numeral-requires-clause-digits c = rw c.requires.digits (all-prefix is_ascii_digit c.args.text.now)
