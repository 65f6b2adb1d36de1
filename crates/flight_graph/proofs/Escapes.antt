-- A run of bytes that are not escaped stands as it is.
use Rattle.std.proofs.Common.{◌≡◌, ◌<◌, ◌≤◌, ℕ, zero, suc, ◌+◌, ◌-◌, Bool, true, false, ◌||◌, nat_eq, nat_lt, List, [], ◌∷◌, ◌++◌, length, take, drop, get_or, refl, sym, ◌∙◌, ap, ap₂, arith, append_assoc, inl, inr, ◌⊎◌}
use Rattle.std.specs.List.{flat_map, slice_range, All, AllByRecursion}
use Rattle.std.specs.Str.{IsUtf8, IsCharBoundary}
use Rattle.std.proofs.lemmas.Str.{IsCharBoundary-after_ascii}
use Rattle.std.proofs.lemmas.Bool.Decides.{nat_tests}
use Rattle.std.proofs.lemmas.List.Elements.{recursion_from_All}
use Rattle.flight_graph.specs.Text.{escaped}
use Rattle.flight_graph.specs.Writing.{is_escaped}

pub or_false : (a b : Bool) → (a || b) ≡ false → (a ≡ false) × (b ≡ false)
or_false true b h = absurd (let k : true ≡ false = h in cc)
or_false false b h = (refl, h)

pub escaped_plain : (b : ℕ) → is_escaped b ≡ false → escaped b ≡ b ∷ []
escaped_plain b h =
    let p = or_false (nat_lt b 32) (nat_eq b 34 || nat_eq b 92) h in
    let q = or_false (nat_eq b 34) (nat_eq b 92) p.1 in
    let low : nat_lt b 32 ≡ false = p.0 in
    let quote : nat_eq b 34 ≡ false = q.0 in
    let slash : nat_eq b 92 ≡ false = q.1 in
    let past : 32 ≤ b = grind (arith, nat_tests) in
    let b8 : nat_eq b 8 ≡ false = grind (arith, nat_tests) in
    let b12 : nat_eq b 12 ≡ false = grind (arith, nat_tests) in
    let b10 : nat_eq b 10 ≡ false = grind (arith, nat_tests) in
    let b13 : nat_eq b 13 ≡ false = grind (arith, nat_tests) in
    let b9 : nat_eq b 9 ≡ false = grind (arith, nat_tests) in
    rw (quote, slash, b8, b12, b10, b13, b9, low) refl

or_true : (a b : Bool) → (a || b) ≡ true → (a ≡ true) ⊎ (b ≡ true)
or_true true b h = inl refl
or_true false b h = inr h

abbrev Plain : List ℕ → Type 0
Plain bytes = AllByRecursion (λ b. is_escaped b ≡ false) bytes

pub all_plain : (bytes : List ℕ) → Plain bytes → flat_map escaped bytes ≡ bytes
all_plain [] h = refl
all_plain (b ∷ bytes) h = ap₂ (λ x y. x ++ y) (escaped_plain b h.0) (all_plain bytes h.1)

pub run_plain : (at : ℕ) (bytes : List ℕ) → at < length bytes → Plain (take at bytes) → flat_map escaped bytes ≡ take at bytes ++ (escaped (get_or bytes at 0) ++ flat_map escaped (drop (suc at) bytes))
run_plain at [] within h = absurd (omega (arith, within))
run_plain zero (b ∷ bytes) within h = refl
run_plain (suc at) (b ∷ bytes) within h = ap₂ (λ x y. x ++ y) (escaped_plain b h.0) (run_plain at bytes (omega (arith, within)) h.1)

pub run_written : (old new after before text rest : List ℕ) (at : ℕ) → at < length rest → All (λ b. is_escaped b ≡ false) (take at rest) → old ++ flat_map escaped rest ≡ before ++ flat_map escaped text → new ≡ old ++ take at rest → after ≡ new ++ escaped (get_or rest at 0) → after ++ flat_map escaped (drop (at + 1) rest) ≡ before ++ flat_map escaped text
run_written old new after before text rest at within plain so_far run escape =
    let next : at + 1 ≡ suc at = omega arith in
    ap₂ (λ x k. x ++ flat_map escaped (drop k rest)) (escape ∙ ap (λ x. x ++ escaped (get_or rest at 0)) run) next
    ∙ (append_assoc (old ++ take at rest) (escaped (get_or rest at 0)) (flat_map escaped (drop (suc at) rest))
    ∙ (append_assoc old (take at rest) (escaped (get_or rest at 0) ++ flat_map escaped (drop (suc at) rest))
    ∙ (ap (λ x. old ++ x) (sym (run_plain at rest within (recursion_from_All (λ b. is_escaped b ≡ false) (take at rest) plain)))
    ∙ so_far)))

pub escaped_ascii : (b : ℕ) → is_escaped b ≡ true → b < 128
escaped_ascii b h =
    elim (or_true (nat_lt b 32) (nat_eq b 34 || nat_eq b 92) h) [
      | inl e ↦ grind (arith, nat_tests)
      | inr e ↦ elim (or_true (nat_eq b 34) (nat_eq b 92) e) [ inl f ↦ grind (arith, nat_tests) | inr f ↦ grind (arith, nat_tests) ]
    ]

-- what is known of the place of the first byte that is escaped
abbrev pub IsFound : List ℕ → ℕ → Type 0
IsFound bytes at = (at < length bytes) × (is_escaped (get_or bytes at 0) ≡ true) × All (λ b. is_escaped b ≡ false) (take at bytes)

pub past_found : (rest : List ℕ) (at : ℕ) → IsUtf8 rest → IsFound rest at → IsCharBoundary rest (at + 1)
past_found rest at utf8 found = IsCharBoundary-after_ascii rest at utf8 found.0 (escaped_ascii (get_or rest at 0) found.1)

pub all_written : (old after before text rest : List ℕ) → All (λ b. is_escaped b ≡ false) rest → old ++ flat_map escaped rest ≡ before ++ flat_map escaped text → after ≡ old ++ rest → after ≡ before ++ flat_map escaped text
all_written old after before text rest plain so_far run = run ∙ (ap (λ x. old ++ x) (sym (all_plain rest (recursion_from_All (λ b. is_escaped b ≡ false) rest plain))) ∙ so_far)

pub front_range : (rest : List ℕ) (at : ℕ) → slice_range rest 0 at ≡ take at rest
front_range rest at = let e : at - 0 ≡ at = omega arith in ap (λ k. take k rest) e

pub string_written : (old before run after text : List ℕ) → before ≡ old ++ 34 ∷ [] → run ≡ before ++ flat_map escaped text → after ≡ run ++ 34 ∷ [] → after ≡ old ++ 34 ∷ (flat_map escaped text ++ 34 ∷ [])
string_written old before run after text first middle end =
    end
    ∙ (ap (λ x. x ++ 34 ∷ []) (middle ∙ ap (λ x. x ++ flat_map escaped text) first)
    ∙ (append_assoc (old ++ 34 ∷ []) (flat_map escaped text) (34 ∷ [])
    ∙ append_assoc old (34 ∷ []) (flat_map escaped text ++ 34 ∷ [])))
