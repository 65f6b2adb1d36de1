use Rattle.std.proofs.Common.{◌≡◌, length, map}
use Rattle.flight_grammar.specs.Reading.{many}
use Rattle.flight_grammar.specs.Reader as reader
use Rattle.flight_parse.specs.Code.{words}
use Rattle.flight_parse.proofs.Turns.{going}
use Rattle.flight_parse.specs.Declarations.{declaration_of}
use Rattle.flight_parse.proofs.declaration.declarations.Given as goal

abbrev pub invariant-loop : goal.invariant-loop
invariant-loop l =
    going (length (words l.lexemes)) l.counter reader.starts_declaration reader.declaration (map declaration_of l.declarations.items) (words l.rest)
    ≡ many reader.starts_declaration reader.declaration (words l.lexemes)
