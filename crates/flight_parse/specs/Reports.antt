-- What a fault says of a text.
use Rattle.std.specs.Prelude.{ℕ, List}
use Rattle.flight_grammar.specs.Outcome.{ComesTo, lexed, unexpected, too_deep}
use Rattle.flight_syntax.specs.declared.token.Lexed.{Lexed}
use Rattle.flight_syntax.specs.declared.token.Lexed.TheVariants as lexeds
use Rattle.flight_parse.specs.declared.fault.TreeFault.{TreeFault}
use Rattle.flight_parse.specs.declared.fault.TreeFault.TheVariants as fault

-- a fault of the tokens
abbrev pub of_lexed : Lexed → TreeFault
of_lexed (lexeds.Fault f) = fault.Lex f
of_lexed lexeds.Memory = fault.Memory

-- the fault is the text's first; want of memory says nothing of it
abbrev pub IsFaultOf : List ℕ → TreeFault → Type 0
IsFaultOf text (fault.Lex f) = ComesTo text (lexed f)
IsFaultOf text (fault.Unexpected place) = ComesTo text (unexpected place)
IsFaultOf text (fault.TooDeep place) = ComesTo text (too_deep place)
IsFaultOf text fault.Memory = Unit {0}
