use Rattle.std.proofs.Common.{◌≡◌, take}
use Rattle.flight_syntax.specs.Lexicon.{words_of}
use Rattle.flight_parse.specs.Code.{words}
use Rattle.flight_parse.proofs.lexeme.lexemes.Given as goal

abbrev pub invariant-loop-token : goal.invariant-loop-token
invariant-loop-token l = words l.lexemes.items ≡ words_of l.text (take l.token-index l.tokens)
