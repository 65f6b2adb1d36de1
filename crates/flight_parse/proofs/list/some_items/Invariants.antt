use Rattle.std.proofs.Common.{◌≡◌, length, map}
use Rattle.flight_syntax.specs.declared.word.Punctuator.TheVariants.{Comma}
use Rattle.flight_syntax.specs.Lexicon.{is_mark}
use Rattle.flight_grammar.specs.Reading.{at, behind, both, made, more, first_and}
use Rattle.flight_grammar.specs.Reader as reader
use Rattle.flight_parse.specs.Code.{words, tree_of}
use Rattle.flight_parse.proofs.Turns.{going}
use Rattle.flight_parse.proofs.list.some_items.Given as goal

abbrev pub invariant-loop : goal.invariant-loop
invariant-loop g l =
    going (length (words l.initial.rest)) l.counter (at (is_mark Comma)) (behind (is_mark Comma) (reader.expression l.below)) (map tree_of l.items) (words l.rest)
    ≡ made first_and (both (reader.expression l.below) (λ a. more (reader.expression l.below))) (words l.lexemes)
