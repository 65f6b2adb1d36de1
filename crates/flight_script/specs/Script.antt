-- The script that a text is, or its first fault.
use Rattle.std.specs.Prelude.{ℕ, ◌≡◌, ◌==◌, ◌&&◌, Bool, true, false, List, [], ◌∷◌, ◌++◌, map, codes, Option, Some, None, option_and_then, unwrap_or}
use Rattle.std.specs.Option.{option_map_or}
use Rattle.std.specs.List.{AllZip, list_all, flat_map}
use Rattle.serde_json.specs.Data.{Data}
use Rattle.serde_json.specs.Read.{read}
use Rattle.serde_json.specs.Find.{get, as_number, as_u64}
use Rattle.flight_value.specs.Graph.{Ascend}
use Rattle.flight_syntax.specs.declared.program.Declared.{Declared}
use Rattle.flight_syntax.specs.declared.script.Script.{Script}
use Rattle.flight_syntax.specs.Names.{is_plain_name}
use Rattle.flight_script.specs.declared.fault.ScriptFault.{ScriptFault}
use Rattle.flight_script.specs.declared.fault.ScriptFault.TheVariants.{BadJson, BadShape}
use Rattle.flight_script.specs.Json.{Member, list_at, as_members, has_only}
use Rattle.flight_script.specs.Sources.{source_tests, IsSource}
use Rattle.flight_script.specs.Streams.{stream_tests, IsStream}
use Rattle.flight_script.specs.Settlers.{AreSettled, settler_tests}
use Rattle.flight_script.specs.Program.{program_tests}
use Rattle.flight_script.specs.Tests.{Test, holds, AllPass, IsFirstFault}

-- ---- the parts of a script

-- the version is 1
abbrev pub is_version : Data → Bool
is_version d = option_map_or (λ n. n == 1) (option_and_then as_u64 (option_and_then as_number (get (codes "version") d))) false

-- an object with lawful names
abbrev pub are_named : Data → Bool
are_named d = option_map_or (list_all (λ m. is_plain_name m.0)) (as_members d) false

abbrev pub has_sources : Data → Bool
has_sources d = option_map_or are_named (get (codes "sources") d) false

-- there may be none
abbrev pub may_have_streams : Data → Bool
may_have_streams d = option_map_or are_named (get (codes "streams") d) true

-- an object of these members, of which `streams` and `settlers` may be absent
abbrev pub is_script : Data → Bool
is_script d =
    has_only (codes "version" ∷ codes "sources" ∷ codes "streams" ∷ codes "settlers" ∷ []) d
    && (is_version d && (has_sources d && may_have_streams d))

-- the members of an object in an object
abbrev pub members_at : List ℕ → Data → List Member
members_at name d = unwrap_or (option_and_then as_members (get name d)) []

abbrev pub sources_in : Data → List Member
sources_in d = members_at (codes "sources") d

abbrev pub streams_in : Data → List Member
streams_in d = members_at (codes "streams") d

abbrev pub names : List Member → List (List ℕ)
names ms = map (λ m. m.0) ms

-- ---- what is asked of a script, in order

abbrev pub script_tests : Data → List Declared → List Test
script_tests d declared =
    holds (is_script d) (BadShape (codes "script"))
    ∷ (flat_map source_tests (sources_in d)
    ++ (flat_map (stream_tests (names (sources_in d))) (streams_in d)
    ++ (settler_tests (names (sources_in d)) d
    ++ program_tests (names (sources_in d)) (names (streams_in d)) declared)))

abbrev pub tests : Option Data → List Declared → List Test
tests None declared = holds false BadJson ∷ []
tests (Some d) declared = script_tests d declared

-- ---- the script, and the first fault

-- the JSON is the script; the members of an object ascend by their names
pub record IsScript (d : Data) (script : Script) : Type 0 where
  pub sources_ascend : Ascend (names (sources_in d))
  pub streams_ascend : Ascend (names (streams_in d))
  pub sources : AllZip IsSource (sources_in d) script.sources
  pub streams : AllZip (IsStream (names (sources_in d))) (streams_in d) script.streams
  pub settlers : AllZip (AreSettled (names (sources_in d))) (list_at (codes "settlers") d) script.settlers

-- the text is the script, over the program
pub record IsScriptOf (text : List ℕ) (declared : List Declared) (script : Script) : Type 0 where
  pub json : Data
  pub is_read : read text ≡ Some json
  pub all_pass : AllPass (tests (read text) declared)
  pub is_script : IsScript json script

-- this is the first fault of the text
abbrev pub IsFaultOf : List ℕ → List Declared → ScriptFault → Type 0
IsFaultOf text declared fault = IsFirstFault (tests (read text) declared) fault
