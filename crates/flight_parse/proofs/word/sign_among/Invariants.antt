use Rattle.std.proofs.Common.{◌≡◌, drop}
use Rattle.flight_syntax.specs.Lexicon.{sign_spelled, so_spelled}
use Rattle.flight_parse.proofs.word.sign_among.Given as goal

abbrev pub invariant-loop-sign : goal.invariant-loop-sign
invariant-loop-sign l = so_spelled sign_spelled l.bytes (drop l.sign-index l.signs) ≡ so_spelled sign_spelled l.bytes l.signs
