-- What a fault says of a text.
use Rattle.std.specs.Prelude.{ℕ, List}
use Rattle.flight_syntax.specs.Faults.{unknown, twice, key_on_server}
use Rattle.flight_grammar.specs.Outcome.{ComesTo, lexed, unexpected, too_deep, misnamed, no_app}
use Rattle.flight_parse.specs.declared.fault.TreeFault.{TreeFault}
use Rattle.flight_parse.specs.declared.fault.TreeFault.TheVariants as trees
use Rattle.flight_resolve.specs.declared.name_fault.NameFault.{NameFault}
use Rattle.flight_resolve.specs.declared.name_fault.NameFault.TheVariants as names
use Rattle.flight_resolve.specs.declared.fault.ParseFault.{ParseFault}
use Rattle.flight_resolve.specs.declared.fault.ParseFault.TheVariants as fault

-- the fault is what the text comes to; want of memory says nothing of it
abbrev pub IsParseFault : List ℕ → ParseFault → Type 0
IsParseFault text (fault.Lex f) = ComesTo text (lexed f)
IsParseFault text (fault.Unexpected place) = ComesTo text (unexpected place)
IsParseFault text (fault.TooDeep place) = ComesTo text (too_deep place)
IsParseFault text (fault.Unknown name place) = ComesTo text (misnamed (unknown (record { bytes = name; at = place })))
IsParseFault text (fault.Twice name place) = ComesTo text (misnamed (twice (record { bytes = name; at = place })))
IsParseFault text (fault.KeyOnServer place) = (key : List ℕ) × ComesTo text (misnamed (key_on_server (record { bytes = key; at = place })))
IsParseFault text fault.NoApp = ComesTo text no_app
IsParseFault text fault.Memory = Unit {0}

-- a fault of the form of a text, and of its names
abbrev pub of_tree : TreeFault → ParseFault
of_tree (trees.Lex f) = fault.Lex f
of_tree (trees.Unexpected place) = fault.Unexpected place
of_tree (trees.TooDeep place) = fault.TooDeep place
of_tree trees.Memory = fault.Memory

abbrev pub of_name : NameFault → ParseFault
of_name (names.Unknown name) = fault.Unknown name.bytes name.at
of_name (names.Twice name) = fault.Twice name.bytes name.at
of_name (names.KeyOnServer name) = fault.KeyOnServer name.at
