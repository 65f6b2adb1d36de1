use Rattle.std.proofs.Common.{◌≡◌, length, map}
use Rattle.flight_syntax.specs.declared.word.Punctuator.TheVariants.{Comma}
use Rattle.flight_syntax.specs.Lexicon.{is_mark, lower_of}
use Rattle.flight_grammar.specs.Reading.{at, behind, both, made, more, first_and, want}
use Rattle.flight_parse.specs.Code.{words, placed}
use Rattle.flight_parse.proofs.Turns.{going}
use Rattle.flight_parse.proofs.declaration.some_parameters.Given as goal

abbrev pub invariant-loop : goal.invariant-loop
invariant-loop l =
    going (length (words l.initial.rest)) l.counter (at (is_mark Comma)) (behind (is_mark Comma) (want lower_of)) (map placed l.params) (words l.rest)
    ≡ made first_and (both (want lower_of) (λ a. more (want lower_of))) (words l.lexemes)
