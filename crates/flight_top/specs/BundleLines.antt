-- The line that tells why a bundle is refused.
use Rattle.std.specs.Prelude.{ℕ, List, [], ◌++◌, codes, decimal, Option, Some, None}
use Rattle.flight_graph.specs.Text.{string_text}
use Rattle.flight_syntax.specs.declared.token.LexFault.{LexFault}
use Rattle.flight_syntax.specs.declared.token.LexKind.{LexKind}
use Rattle.flight_syntax.specs.declared.token.LexKind.TheVariants as lex
use Rattle.flight_resolve.specs.declared.fault.ParseFault.{ParseFault}
use Rattle.flight_resolve.specs.declared.fault.ParseFault.TheVariants as parse
use Rattle.flight_script.specs.declared.fault.ScriptFault.{ScriptFault}
use Rattle.flight_script.specs.declared.fault.ScriptFault.TheVariants as script
use Rattle.flight_bundle.specs.declared.fault.BundleFault.{BundleFault}
use Rattle.flight_bundle.specs.declared.fault.BundleFault.TheVariants as bundle

-- a place in bytes, behind what is wrong there
abbrev pub at_place : ℕ → List ℕ
at_place place = codes " at " ++ decimal place

abbrev pub lex_words : LexKind → List ℕ
lex_words lex.BadByte = codes "bad byte"
lex_words lex.BadText = codes "bad text"
lex_words lex.BadNumber = codes "bad number"

abbrev pub program_words : ParseFault → List ℕ
program_words (parse.Lex fault) = lex_words fault.kind ++ at_place fault.at
program_words (parse.Unexpected place) = codes "unexpected" ++ at_place place
program_words (parse.TooDeep place) = codes "too deep" ++ at_place place
program_words (parse.Unknown name place) = codes "unknown " ++ string_text name ++ at_place place
program_words (parse.Twice name place) = codes "twice " ++ string_text name ++ at_place place
program_words (parse.KeyOnServer place) = codes "key on server" ++ at_place place
program_words parse.NoApp = codes "no App"
program_words parse.Memory = codes "out of memory"

-- a node by its number, or the value
abbrev pub node_words : Option ℕ → List ℕ
node_words None = codes "value"
node_words (Some number) = decimal number

abbrev pub script_words : ScriptFault → List ℕ
script_words script.BadJson = codes "bad json"
script_words (script.BadShape place) = codes "bad shape " ++ string_text place
script_words (script.BadNode source node) = codes "bad node " ++ string_text source ++ codes " " ++ node_words node
script_words (script.Number source) = codes "number " ++ string_text source
script_words (script.UnknownSource name) = codes "unknown " ++ string_text name
script_words (script.SettledTwice name) = codes "settled twice " ++ string_text name
script_words script.Memory = codes "out of memory"

abbrev pub bundle_words : BundleFault → List ℕ
bundle_words bundle.TooLong = codes "bundle: too long"
bundle_words (bundle.NotUtf8 place) = codes "bundle: not UTF-8" ++ at_place place
bundle_words bundle.ReplyWanted = codes "bundle: reply wanted"
bundle_words bundle.ReplyNotWanted = codes "bundle: reply not wanted"
bundle_words (bundle.Program f) = codes "program: " ++ program_words f
bundle_words (bundle.Script f) = codes "script: " ++ script_words f
bundle_words bundle.Memory = codes "bundle: out of memory"

abbrev pub bundle_line : BundleFault → List ℕ
bundle_line f = bundle_words f ++ codes "\n"
