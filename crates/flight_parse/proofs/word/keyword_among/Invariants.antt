use Rattle.std.proofs.Common.{◌≡◌, drop}
use Rattle.flight_syntax.specs.Lexicon.{spelled, so_spelled}
use Rattle.flight_parse.proofs.word.keyword_among.Given as goal

abbrev pub invariant-loop-keyword : goal.invariant-loop-keyword
invariant-loop-keyword l = so_spelled spelled l.name (drop l.keyword-index l.keywords) ≡ so_spelled spelled l.name l.keywords
