-- What is known of a node's slots is known of its properties and entries.
use Rattle.std.proofs.Common.{◌≡◌, ℕ, zero, suc, ◌*◌, List, [], ◌∷◌, map, flat_map, length, refl, arith}
use Rattle.flight_value.specs.declared.graph.Slot.{Slot}
use Rattle.flight_value.specs.declared.graph.Prop.{Prop}
use Rattle.flight_value.specs.declared.graph.Pair.{Pair}
use Rattle.flight_reply_out.specs.Known.{AreGoodSlots, AreGoodProps, AreGoodPairs}

abbrev pub prop_slots : List Prop → List Slot
prop_slots props = map (λ p. p.slot) props

abbrev pub pair_slots : List Pair → List Slot
pair_slots pairs = flat_map (λ p. p.key ∷ p.value ∷ []) pairs

pub props_good : (count : ℕ) (props : List Prop) → AreGoodSlots count (prop_slots props) → AreGoodProps count props
props_good count [] h k d lt = absurd (omega arith)
props_good count (p ∷ ps) h zero d lt = h 0 p.slot (omega arith)
props_good count (p ∷ ps) h (suc k) d lt = props_good count ps (λ i e l. h (suc i) e (omega (arith, l))) k d (omega (arith, lt))

pub pairs_good : (count : ℕ) (pairs : List Pair) → AreGoodSlots count (pair_slots pairs) → AreGoodPairs count pairs
pairs_good count [] h k d lt = absurd (omega arith)
pairs_good count (p ∷ ps) h zero d lt = (h 0 p.key (omega arith), h 1 p.key (omega arith))
pairs_good count (p ∷ ps) h (suc k) d lt = pairs_good count ps (λ i e l. h (suc (suc i)) e (omega (arith, l))) k d (omega (arith, lt))

-- there are twice as many slots as entries
pub pair_count : (pairs : List Pair) → length (pair_slots pairs) ≡ 2 * length pairs
pair_count [] = refl
pair_count (p ∷ pairs) = let h = pair_count pairs in omega (arith, h)
