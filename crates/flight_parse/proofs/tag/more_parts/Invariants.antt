use Rattle.std.proofs.Common.{◌≡◌, length, map}
use Rattle.flight_syntax.specs.declared.word.Punctuator.TheVariants.{Minus}
use Rattle.flight_syntax.specs.Lexicon.{is_mark, name_of}
use Rattle.flight_grammar.specs.Reading.{want, at, behind}
use Rattle.flight_grammar.specs.Reader as reader
use Rattle.flight_parse.specs.Code.{words, placed}
use Rattle.flight_parse.proofs.Turns.{going}
use Rattle.flight_parse.proofs.tag.more_parts.Given as goal

abbrev pub invariant-loop : goal.invariant-loop
invariant-loop l =
    going (length (words l.lexemes)) l.counter (at (is_mark Minus)) (behind (is_mark Minus) (want name_of)) (map placed l.parts.items) (words l.rest)
    ≡ reader.more_parts (words l.lexemes)
