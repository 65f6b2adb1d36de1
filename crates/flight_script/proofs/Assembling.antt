-- The parts of a script, one after another.
use Rattle.std.proofs.Common.{◌≡◌, List, [], ◌∷◌, ◌++◌, true, codes}
use Rattle.std.specs.List.{flat_map}
use Rattle.serde_json.specs.Data.{Data}
use Rattle.flight_syntax.specs.declared.program.Declared.{Declared}
use Rattle.flight_script.specs.declared.fault.ScriptFault.{ScriptFault}
use Rattle.flight_script.specs.declared.fault.ScriptFault.TheVariants.{BadShape}
use Rattle.flight_script.specs.Sources.{source_tests}
use Rattle.flight_script.specs.Streams.{stream_tests}
use Rattle.flight_script.specs.Settlers.{settler_tests}
use Rattle.flight_script.specs.Program.{program_tests}
use Rattle.flight_script.specs.Script.{is_script, sources_in, streams_in, names, script_tests}
use Rattle.flight_script.specs.Tests.{Test, holds, AllPass, Refuses}
use Rattle.flight_script.proofs.Passing.{all_behind, refuses_front, refuses_behind}

abbrev of_sources : Data → List Test
of_sources d = flat_map source_tests (sources_in d)

abbrev of_streams : Data → List Test
of_streams d = flat_map (stream_tests (names (sources_in d))) (streams_in d)

abbrev of_settlers : Data → List Test
of_settlers d = settler_tests (names (sources_in d)) d

abbrev of_program : Data → List Declared → List Test
of_program d declared = program_tests (names (sources_in d)) (names (streams_in d)) declared

behind_front : (d : Data) (ts : List Test) (e : ScriptFault) → is_script d ≡ true → Refuses ts e → Refuses (holds (is_script d) (BadShape (codes "script")) ∷ ts) e
behind_front d ts e h r = refuses_behind (holds (is_script d) (BadShape (codes "script")) ∷ []) ts e (h, tt) r

pub sources_refuse : (d : Data) (declared : List Declared) (e : ScriptFault) → is_script d ≡ true → Refuses (flat_map source_tests (sources_in d)) e → Refuses (script_tests d declared) e
sources_refuse d declared e h r = behind_front d _ e h (refuses_front (of_sources d) (of_streams d ++ (of_settlers d ++ of_program d declared)) e r)

pub streams_refuse : (d : Data) (declared : List Declared) (e : ScriptFault) → is_script d ≡ true → AllPass (flat_map source_tests (sources_in d))
    → Refuses (flat_map (stream_tests (names (sources_in d))) (streams_in d)) e → Refuses (script_tests d declared) e
streams_refuse d declared e h a r =
    behind_front d _ e h (refuses_behind (of_sources d) _ e a (refuses_front (of_streams d) (of_settlers d ++ of_program d declared) e r))

pub settlers_refuse : (d : Data) (declared : List Declared) (e : ScriptFault) → is_script d ≡ true → AllPass (flat_map source_tests (sources_in d)) → AllPass (flat_map (stream_tests (names (sources_in d))) (streams_in d))
    → Refuses (settler_tests (names (sources_in d)) d) e → Refuses (script_tests d declared) e
settlers_refuse d declared e h a b r =
    behind_front d _ e h (refuses_behind (of_sources d) _ e a (refuses_behind (of_streams d) _ e b (refuses_front (of_settlers d) (of_program d declared) e r)))

pub program_refuses : (d : Data) (declared : List Declared) (e : ScriptFault) → is_script d ≡ true → AllPass (flat_map source_tests (sources_in d)) → AllPass (flat_map (stream_tests (names (sources_in d))) (streams_in d))
    → AllPass (settler_tests (names (sources_in d)) d) → Refuses (program_tests (names (sources_in d)) (names (streams_in d)) declared) e → Refuses (script_tests d declared) e
program_refuses d declared e h a b s r =
    behind_front d _ e h (refuses_behind (of_sources d) _ e a (refuses_behind (of_streams d) _ e b (refuses_behind (of_settlers d) (of_program d declared) e s r)))

pub script_passes : (d : Data) (declared : List Declared) → is_script d ≡ true → AllPass (flat_map source_tests (sources_in d)) → AllPass (flat_map (stream_tests (names (sources_in d))) (streams_in d))
    → AllPass (settler_tests (names (sources_in d)) d) → AllPass (program_tests (names (sources_in d)) (names (streams_in d)) declared) → AllPass (script_tests d declared)
script_passes d declared h a b s p =
    (h, all_behind (of_sources d) _ a (all_behind (of_streams d) _ b (all_behind (of_settlers d) (of_program d declared) s p)))
