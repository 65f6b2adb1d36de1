use Rattle.std.proofs.Common.{◌≡◌, length, map}
use Rattle.flight_syntax.specs.declared.word.Punctuator.TheVariants.{Comma}
use Rattle.flight_syntax.specs.Lexicon.{is_mark}
use Rattle.flight_grammar.specs.Reading.{at, behind, both, made, more, first_and}
use Rattle.flight_grammar.specs.Reader as reader
use Rattle.flight_parse.specs.Code.{words}
use Rattle.flight_parse.specs.Values.{member_of}
use Rattle.flight_parse.proofs.Turns.{going}
use Rattle.flight_parse.proofs.values.some_members.Given as goal

abbrev pub invariant-loop : goal.invariant-loop
invariant-loop g l =
    going (length (words l.initial.rest)) l.counter (at (is_mark Comma)) (behind (is_mark Comma) (reader.json_key (reader.json_value l.below))) (map member_of l.members) (words l.rest)
    ≡ made first_and (both (reader.json_key (reader.json_value l.below)) (λ a. more (reader.json_key (reader.json_value l.below)))) (words l.lexemes)
