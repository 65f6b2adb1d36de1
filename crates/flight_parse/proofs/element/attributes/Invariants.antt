use Rattle.std.proofs.Common.{◌≡◌, length, map}
use Rattle.flight_syntax.specs.Lexicon.{name_of}
use Rattle.flight_grammar.specs.Reading.{at}
use Rattle.flight_grammar.specs.Reader as reader
use Rattle.flight_parse.specs.Code.{words, property_of}
use Rattle.flight_parse.proofs.Turns.{going}
use Rattle.flight_parse.proofs.element.attributes.Given as goal

abbrev pub invariant-loop : goal.invariant-loop
invariant-loop g l = going (length (words l.lexemes)) l.counter (at name_of) (reader.attribute (reader.expression l.below)) (map property_of l.attributes) (words l.rest) ≡ reader.attributes (reader.expression l.below) (words l.lexemes)
