use Rattle.std.proofs.Common.{◌≡◌, length, map}
use Rattle.flight_grammar.specs.Reader as reader
use Rattle.flight_parse.specs.Code.{words, tree_of}
use Rattle.flight_parse.proofs.Turns.{going}
use Rattle.flight_parse.proofs.element.children.Given as goal

abbrev pub invariant-loop : goal.invariant-loop
invariant-loop g l = going (length (words l.lexemes)) l.counter reader.starts_child (reader.child (reader.expression l.below) (reader.child_element l.below)) (map tree_of l.children) (words l.rest) ≡ reader.children (reader.expression l.below) (reader.child_element l.below) (words l.lexemes)
