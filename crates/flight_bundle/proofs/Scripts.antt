-- Each name of a source or a stream that a program has is there in its script.
use Rattle.std.proofs.Common.{◌≡◌, ℕ, suc, ◌+◌, ◌<◌, inl, inr, Bool, true, false, cond, nat_lt, List, [], ◌∷◌, ◌++◌, length, Some, None, refl, sym, subst, ◌∙◌, arith}
use Rattle.std.specs.Prelude.{is_some, not, ◌||◌, position}
use Rattle.std.specs.List.{AllZip, list_any, flat_map, position_or_len}
use Rattle.std.specs.Str.{bytes_eq}
use Rattle.std.proofs.lemmas.Bool.{or_cases, or_left, or_right}
use Rattle.std.proofs.lemmas.Bool.Decides.{nat_tests}
use Rattle.serde_json.specs.Data.{Data}
use Rattle.flight_syntax.specs.declared.program.Declared.{Declared}
use Rattle.flight_syntax.proofs.Meanings.{bytes_is, bytes_same}
use Rattle.flight_script.specs.Json.{Member, is_among}
use Rattle.flight_script.specs.Sources.{IsSource, source_tests}
use Rattle.flight_script.specs.Streams.{IsStream, stream_tests}
use Rattle.flight_script.specs.Settlers.{settler_tests}
use Rattle.flight_script.specs.Program.{Named, source_named as of_source, stream_named as of_stream, names_of, named_tests, program_tests}
use Rattle.flight_script.specs.Script.{names, sources_in, streams_in, tests, script_tests, IsScript, IsScriptOf}
use Rattle.flight_script.specs.Tests.{Test, AllPass}
use Rattle.flight_render.specs.declared.root.Ground.{Ground}
use Rattle.flight_bundle.proofs.Terms.{AreThere}

-- ---- positions

first_within : {A : Type 0} (p : A → Bool) (xs : List A) → list_any p xs ≡ true → position_or_len p xs < length xs
first_within p [] e = absurd cc
first_within p (x ∷ xs) e = by (p x) e (first_within p xs)
  where
    by : (b : Bool) → (b || list_any p xs) ≡ true → (list_any p xs ≡ true → position_or_len p xs < length xs) → cond (not b) (1 + position_or_len p xs) 0 < suc (length xs)
    by true q again = omega arith
    by false q again = let l = again q in omega (arith, l)

found : {A : Type 0} (p : A → Bool) (xs : List A) → list_any p xs ≡ true → is_some (position p xs) ≡ true
found p xs e = by (nat_lt (position_or_len p xs) (length xs)) (let l = first_within p xs e in grind (arith, nat_tests))
  where
    by : (b : Bool) → b ≡ true → is_some (cond b (Some (position_or_len p xs)) None) ≡ true
    by true q = refl
    by false q = absurd cc

-- ---- names

same_name : (a b c : List ℕ) → c ≡ a → bytes_eq a b ≡ true → bytes_eq b c ≡ true
same_name a b c e h = bytes_same b c (sym (bytes_is a b h) ∙ sym e)

any_named : {S : Type 0} (R : Member → S → Type 0) (f : S → List ℕ) → ((m : Member) (s : S) → R m s → f s ≡ m.0) → (name : List ℕ) (ms : List Member) (ss : List S) → AllZip R ms ss → is_among (names ms) name ≡ true → list_any (λ s. bytes_eq name (f s)) ss ≡ true
any_named R f same name [] ss z e = absurd cc
any_named R f same name (m ∷ ms) [] z e = absurd z
any_named R f same name (m ∷ ms) (s ∷ ss) z e = elim (or_cases (bytes_eq m.0 name) (is_among (names ms) name) e) [
  | inl h ↦ or_left (bytes_eq name (f s)) (list_any (λ s. bytes_eq name (f s)) ss) (same_name m.0 name (f s) (same m s z.0) h)
  | inr h ↦ or_right (bytes_eq name (f s)) (list_any (λ s. bytes_eq name (f s)) ss) (any_named R f same name ms ss z.1 h)
]

there : (g : Ground) (d : Data) → IsScript d g.script → (ns : List Named) → AllPass (named_tests (names (sources_in d)) (names (streams_in d)) ns) → AreThere g ns
there g d i [] h = tt
there g d i (of_source name ∷ ns) h = (found (λ s. bytes_eq name s.name) g.script.sources (any_named IsSource (λ s. s.name) (λ m s k. k.0) name (sources_in d) g.script.sources i.sources h.0), there g d i ns h.1)
there g d i (of_stream name ∷ ns) h = (found (λ s. bytes_eq name s.name) g.script.streams (any_named (IsStream (names (sources_in d))) (λ s. s.name) (λ m s k. k.is_name) name (streams_in d) g.script.streams i.streams h.0), there g d i ns h.1)

-- ---- tests

pass_rest : (a b : List Test) → AllPass (a ++ b) → AllPass b
pass_rest [] b h = h
pass_rest (t ∷ a) b h = pass_rest a b h.1

program_passes : (d : Data) (ds : List Declared) → AllPass (script_tests d ds) → AllPass (program_tests (names (sources_in d)) (names (streams_in d)) ds)
program_passes d ds h =
    pass_rest (settler_tests (names (sources_in d)) d) _
    (pass_rest (flat_map (stream_tests (names (sources_in d))) (streams_in d)) _
    (pass_rest (flat_map source_tests (sources_in d)) _ h.1))

-- the names of the whole program
pub names_there : (g : Ground) (text : List ℕ) → IsScriptOf text g.program.declared g.script → AreThere g (flat_map names_of g.program.declared)
names_there g text s =
    there g s.json s.is_script (flat_map names_of g.program.declared) (program_passes s.json g.program.declared (subst (λ r. AllPass (tests r g.program.declared)) s.is_read s.all_pass))
