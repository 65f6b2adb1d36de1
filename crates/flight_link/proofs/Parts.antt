-- Lines of nodes in a text with gaps, written from what their slots lead to.
use Rattle.std.proofs.Common.{◌≡◌, ℕ, zero, suc, ◌+◌, ◌<◌, ◌≤◌, nat_eq, false, codes, List, [], ◌∷◌, ◌++◌, length, take, drop, get_or, refl, sym, ◌∙◌, ap, arith, append_assoc, append-nil}
use Rattle.std.specs.Prelude.{flat_map}
use Rattle.std.proofs.lemmas.List.{take_more, length-take-le}
use Rattle.std.proofs.lemmas.Bool.Decides.{nat_tests}
use Rattle.std.proofs.lemmas.Grind.{flat_map-append}
use Rattle.flight_meaning.specs.declared.place.Named.{Named}
use Rattle.flight_graph.specs.Writing.{comma_before}
use Rattle.flight_link.specs.declared.target.Target.{Target}
use Rattle.flight_link.specs.Drafted.{Part, byte, plain, commas_parts, more_parts, pair_parts, prop_parts, with_names, in_twos}
use Rattle.flight_link.proofs.Lines.{two_first}

appended : (out start old more new : List Part) → out ≡ start ++ old → new ≡ out ++ more → new ≡ start ++ (old ++ more)
appended out start old more new e h = h ∙ (ap (λ (x : List Part). x ++ more) e ∙ append_assoc start old more)

-- ---- items with commas

-- one more item behind others
pub commas-snoc : {A : Type 0} (each : A → List Part) (xs : List A) (x : A) → commas_parts each (xs ++ x ∷ []) ≡ commas_parts each xs ++ (plain (comma_before (length xs)) ++ each x)
commas-snoc each [] x = append-nil (each x)
commas-snoc {A} each (y ∷ xs) x =
    let test : nat_eq (suc (length xs)) 0 ≡ false = grind (arith, nat_tests) in
    let comma : comma_before (suc (length xs)) ≡ codes "," = rw test refl in
    let more : A → List Part = λ z. plain (codes ",") ++ each z in
    ap (λ (z : List Part). each y ++ z) (flat_map-append more xs (x ∷ []) ∙ ap (λ (z : List Part). flat_map more xs ++ z) (append-nil (plain (codes ",") ++ each x)))
    ∙ (sym (append_assoc (each y) (flat_map more xs) (plain (codes ",") ++ each x))
    ∙ ap (λ z. commas_parts each (y ∷ xs) ++ (plain z ++ each x)) (sym comma))

-- an item behind the old ones, where the new ones are these and it
item_more : {A : Type 0} (each : A → List Part) (old news : List A) (x : A) (i : ℕ) (start out between new : List Part) → news ≡ old ++ x ∷ [] → length old ≡ i → out ≡ start ++ commas_parts each old → between ≡ out ++ plain (comma_before i) → new ≡ between ++ each x → new ≡ start ++ commas_parts each news
item_more each old news x i start out between new e long so_far comma item =
    appended out start (commas_parts each old) (plain (comma_before i) ++ each x) new so_far (appended between out (plain (comma_before i)) (each x) new comma item)
    ∙ ap (λ (y : List Part). start ++ y) (
    ap (λ k. commas_parts each old ++ (plain (comma_before k) ++ each x)) (sym long)
    ∙ (sym (commas-snoc each old x) ∙ ap (commas_parts each) (sym e))
    )

-- one more of the front
pub commas_more : {A : Type 0} (each : A → List Part) (xs : List A) (i : ℕ) (x : A) (start out between new : List Part) → i < length xs → x ≡ get_or xs i x → out ≡ start ++ commas_parts each (take i xs) → between ≡ out ++ plain (comma_before i) → new ≡ between ++ each x → new ≡ start ++ commas_parts each (take (i + 1) xs)
commas_more each xs i x start out between new less e so_far comma item =
    item_more each (take i xs) (take (i + 1) xs) x i start out between new (take_more xs i x less ∙ ap (λ y. take i xs ++ y ∷ []) (sym e)) (length-take-le i xs (omega (arith, less))) so_far comma item

-- ---- properties

names-snoc : (ns : List Named) (ts : List Target) (i : ℕ) (n : Named) (t : Target) → i < length ns → i < length ts → n ≡ get_or ns i n → t ≡ get_or ts i t → with_names (take (i + 1) ns) (take (i + 1) ts) ≡ with_names (take i ns) (take i ts) ++ (n, t) ∷ []
names-snoc ns ts i n t less l e h =
    let next : i + 1 ≡ suc i = omega arith in
    ap (λ (k : ℕ). with_names (take k ns) (take k ts)) next ∙ go ns ts i less l e h
  where
    go : (ns : List Named) (ts : List Target) (i : ℕ) → i < length ns → i < length ts → n ≡ get_or ns i n → t ≡ get_or ts i t → with_names (take (suc i) ns) (take (suc i) ts) ≡ with_names (take i ns) (take i ts) ++ (n, t) ∷ []
    go [] ts i less l e h = absurd (omega (arith, less))
    go (m ∷ ns) [] i less l e h = absurd (omega (arith, l))
    go (m ∷ ns) (u ∷ ts) zero less l e h = ap (λ (k : Named). (k, u) ∷ []) (sym e) ∙ ap (λ (k : Target). (n, k) ∷ []) (sym h)
    go (m ∷ ns) (u ∷ ts) (suc i) less l e h = ap (λ (ps : List (Named × Target)). (m, u) ∷ ps) (go ns ts i (omega (arith, less)) (omega (arith, l)) e h)

names_count : (ns : List Named) (ts : List Target) (i : ℕ) → i < length ns → i < length ts → length (with_names (take i ns) (take i ts)) ≡ i
names_count ns ts zero less l = refl
names_count [] ts (suc i) less l = absurd (omega (arith, less))
names_count (n ∷ ns) [] (suc i) less l = absurd (omega (arith, l))
names_count (n ∷ ns) (t ∷ ts) (suc i) less l = ap suc (names_count ns ts i (omega (arith, less)) (omega (arith, l)))

pub prop_more : (ns : List Named) (ts : List Target) (i : ℕ) (n : Named) (t : Target) (start out comma new : List Part) → length ts ≡ length ns → i < length ts → n ≡ get_or ns i n → t ≡ get_or ts i t → out ≡ start ++ commas_parts prop_parts (with_names (take i ns) (take i ts)) → comma ≡ out ++ plain (comma_before i) → new ≡ comma ++ prop_parts (n, t) → new ≡ start ++ commas_parts prop_parts (with_names (take (i + 1) ns) (take (i + 1) ts))
prop_more ns ts i n t start out comma new long less e h so_far c item =
    let within : i < length ns = omega (arith, less, long) in
    item_more prop_parts (with_names (take i ns) (take i ts)) (with_names (take (i + 1) ns) (take (i + 1) ts)) (n, t) i start out comma new (names-snoc ns ts i n t within less e h) (names_count ns ts i within less) so_far c item

-- ---- entries

-- one more of the entries that are left
pub entry_more : (xs rest behind : List Target) (a b : Target) (start out mid new : List Part) → behind ≡ drop 2 rest → 2 ≤ length rest → a ≡ get_or rest 0 a → b ≡ get_or rest 1 b → out ++ more_parts pair_parts (in_twos rest) ≡ start ++ more_parts pair_parts (in_twos xs) → mid ≡ out ++ byte 44 ∷ [] → new ≡ mid ++ pair_parts (a, b) → new ++ more_parts pair_parts (in_twos behind) ≡ start ++ more_parts pair_parts (in_twos xs)
entry_more xs rest behind a b start out mid new is_behind two is_a is_b so_far comma pair =
    let left : List Part = more_parts pair_parts (in_twos (drop 2 rest)) in
    ap (λ ts. new ++ more_parts pair_parts (in_twos ts)) is_behind
    ∙ (ap (λ (x : List Part). x ++ left) (appended mid out (byte 44 ∷ []) (pair_parts (a, b)) new comma pair)
    ∙ (append_assoc out (byte 44 ∷ pair_parts (a, b)) left
    ∙ (ap (λ ts. out ++ more_parts pair_parts (in_twos ts)) (sym (two_first rest a b two is_a is_b)) ∙ so_far)))
