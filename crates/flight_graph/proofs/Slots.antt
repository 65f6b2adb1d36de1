-- The slots of a Map, by the numbers of its entries.
use Rattle.std.proofs.Common.{◌≡◌, ℕ, zero, suc, ◌+◌, ◌*◌, ◌<◌, ◌≤◌, List, [], ◌∷◌, length, get_or, Some, None, refl, ap, sym, arith}
use Rattle.std.specs.Prelude.{slice_get, flat_map}
use Rattle.flight_value.specs.declared.graph.Slot.{Slot}
use Rattle.flight_value.specs.declared.graph.Pair.{Pair}

abbrev pub pair_slots : List Pair → List Slot
pair_slots ps = flat_map (λ p. p.key ∷ p.value ∷ []) ps

pub get-key : (ps : List Pair) (q n : ℕ) (x : Pair) → q < length ps → x ≡ get_or ps q x → n ≡ 2 * q → slice_get (pair_slots ps) n ≡ Some x.key
get-key [] q n x h e k = absurd (omega arith)
get-key (p ∷ ps) zero zero x h e k = ap (λ y. Some y.key) (sym e)
get-key (p ∷ ps) zero (suc n) x h e k = absurd (omega arith)
get-key (p ∷ ps) (suc q) zero x h e k = absurd (omega arith)
get-key (p ∷ ps) (suc q) (suc zero) x h e k = absurd (omega arith)
get-key (p ∷ ps) (suc q) (suc (suc n)) x h e k = get-key ps q n x (omega arith) e (omega arith)

pub get-value : (ps : List Pair) (q n : ℕ) (x : Pair) → q < length ps → x ≡ get_or ps q x → n ≡ 2 * q + 1 → slice_get (pair_slots ps) n ≡ Some x.value
get-value [] q n x h e k = absurd (omega arith)
get-value (p ∷ ps) q zero x h e k = absurd (omega arith)
get-value (p ∷ ps) zero (suc zero) x h e k = ap (λ y. Some y.value) (sym e)
get-value (p ∷ ps) zero (suc (suc n)) x h e k = absurd (omega arith)
get-value (p ∷ ps) (suc q) (suc zero) x h e k = absurd (omega arith)
get-value (p ∷ ps) (suc q) (suc (suc n)) x h e k = get-value ps q n x (omega arith) e (omega arith)

-- past the entries there is no slot
pub get-past : (ps : List Pair) (n : ℕ) → 2 * length ps ≤ n → slice_get (pair_slots ps) n ≡ None
get-past [] n h = refl
get-past (p ∷ ps) zero h = absurd (omega arith)
get-past (p ∷ ps) (suc zero) h = absurd (omega arith)
get-past (p ∷ ps) (suc (suc n)) h = get-past ps n (omega arith)
