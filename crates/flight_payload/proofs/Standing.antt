-- Each value stands at its number among the places of the whole.
use Rattle.std.proofs.Common.{◌≡◌, ℕ, zero, suc, ◌+◌, List, [], ◌∷◌, ◌++◌, length, None, Some, refl, sym, ap, ap₂, ◌∙◌, subst, arith, append_assoc, append-nil, length-append}
use Rattle.std.specs.Prelude.{slice_get}
use Rattle.flight_meaning.specs.declared.place.Place.{Place}
use Rattle.flight_meaning.specs.declared.place.Place.TheVariants as place
use Rattle.flight_payload.specs.Tree.{Tree, single, array, object, element, Trees, no_trees, tree_and, Props, no_props, prop_and, count, tree_count, prop_count, tree_numbers, prop_numbers, places_from, tree_places, prop_places, element_place, mark_place}
use Rattle.flight_payload.specs.Standing.{IsAt, Stands, AllStand, EachStands}

-- ---- a value has as many places as are counted

mutual
  places_count : (n : ℕ) (t : Tree) → length (places_from n t) ≡ count t
  places_count n (single p) = refl
  places_count n (array ts) = let e = trees_count (n + 1) ts in omega arith
  places_count n (object ps) = let e = props_count (n + 1) ps in omega arith
  places_count n (element tag key props) =
      let a = places_count (n + 2) tag in
      let b = places_count (n + 2 + count tag) key in
      let c = places_count (n + 2 + count tag + count key) props in
      let outer = length-append (places_from (n + 2) tag) (places_from (n + 2 + count tag) key ++ places_from (n + 2 + count tag + count key) props) in
      let inner = length-append (places_from (n + 2 + count tag) key) (places_from (n + 2 + count tag + count key) props) in
      omega arith

  trees_count : (n : ℕ) (ts : Trees) → length (tree_places n ts) ≡ tree_count ts
  trees_count n no_trees = refl
  trees_count n (tree_and t ts) = length-append (places_from n t) (tree_places (n + count t) ts) ∙ ap₂ (λ a b. a + b) (places_count n t) (trees_count (n + count t) ts)

  props_count : (n : ℕ) (ps : Props) → length (prop_places n ps) ≡ prop_count ps
  props_count n no_props = refl
  props_count n (prop_and name t ps) = length-append (places_from n t) (prop_places (n + count t) ps) ∙ ap₂ (λ a b. a + b) (places_count n t) (props_count (n + count t) ps)

-- ---- places in the midst of others

at_seam : (front rest : List Place) (p : Place) (n : ℕ) → length front ≡ n → slice_get (front ++ p ∷ rest) n ≡ Some p
at_seam [] rest p n e = subst (λ k. slice_get (p ∷ rest) k ≡ Some p) e refl
at_seam (q ∷ front) rest p zero e = absurd (omega (arith, e))
at_seam (q ∷ front) rest p (suc n) e = at_seam front rest p n (omega (arith, e))

-- these places stand in the list from number n on
record Holds (places : List Place) (n : ℕ) (section : List Place) : Type 0 where
  front : List Place
  back : List Place
  is : places ≡ front ++ (section ++ back)
  len : length front ≡ n

holds_first : (places : List Place) (n : ℕ) (p : Place) (section : List Place) → Holds places n (p ∷ section) → IsAt places n p
holds_first places n p section h = rw h.is (at_seam h.front (section ++ h.back) p n h.len)

holds_rest : (places : List Place) (n m : ℕ) (p : Place) (section : List Place) → n + 1 ≡ m → Holds places n (p ∷ section) → Holds places m section
holds_rest places n m p section e h =
    record {
      front = h.front ++ p ∷ [];
      back = h.back;
      is = h.is ∙ sym (append_assoc h.front (p ∷ []) (section ++ h.back));
      len = let l = length-append h.front (p ∷ []) in let k = h.len in omega arith;
    }

holds_left : (places : List Place) (n : ℕ) (xs ys : List Place) → Holds places n (xs ++ ys) → Holds places n xs
holds_left places n xs ys h = record { front = h.front; back = ys ++ h.back; is = h.is ∙ ap (λ zs. h.front ++ zs) (append_assoc xs ys h.back); len = h.len }

holds_right : (places : List Place) (n k : ℕ) (xs ys : List Place) → length xs ≡ k → Holds places n (xs ++ ys) → Holds places (n + k) ys
holds_right places n k xs ys e h =
    record {
      front = h.front ++ xs;
      back = h.back;
      is = h.is ∙ (ap (λ zs. h.front ++ zs) (append_assoc xs ys h.back) ∙ sym (append_assoc h.front xs (ys ++ h.back)));
      len = let l = length-append h.front xs in let m = h.len in omega arith;
    }

mutual
  value_stands : (places : List Place) (n : ℕ) (t : Tree) → Holds places n (places_from n t) → Stands places n t
  value_stands places n (single p) h = holds_first places n p [] h
  value_stands places n (array ts) h =
      let first : Place = place.Array (tree_numbers (n + 1) ts) in
      (holds_first places n first (tree_places (n + 1) ts) h, trees_stand places (n + 1) ts (holds_rest places n (n + 1) first (tree_places (n + 1) ts) refl h))
  value_stands places n (object ps) h =
      let first : Place = place.Object (prop_numbers (n + 1) ps) in
      (holds_first places n first (prop_places (n + 1) ps) h, props_stand places (n + 1) ps (holds_rest places n (n + 1) first (prop_places (n + 1) ps) refl h))
  value_stands places n (element tag key props) h =
      let first : Place = element_place n tag key in
      let slot_key = places_from (n + 2 + count tag) key in
      let slot_props = places_from (n + 2 + count tag + count key) props in
      let slots : List Place = places_from (n + 2) tag ++ (slot_key ++ slot_props) in
      let marked : Holds places (n + 1) (mark_place ∷ slots) = holds_rest places n (n + 1) first (mark_place ∷ slots) refl h in
      let at_tag : Holds places (n + 2) slots = holds_rest places (n + 1) (n + 2) mark_place slots (omega arith) marked in
      let at_key : Holds places (n + 2 + count tag) (slot_key ++ slot_props) = holds_right places (n + 2) (count tag) (places_from (n + 2) tag) (slot_key ++ slot_props) (places_count (n + 2) tag) at_tag in
      let at_props : Holds places (n + 2 + count tag + count key) slot_props = holds_right places (n + 2 + count tag) (count key) slot_key slot_props (places_count (n + 2 + count tag) key) at_key in (
        holds_first places n first (mark_place ∷ slots) h,
        value_stands places (n + 2) tag (holds_left places (n + 2) (places_from (n + 2) tag) (slot_key ++ slot_props) at_tag),
        value_stands places (n + 2 + count tag) key (holds_left places (n + 2 + count tag) slot_key slot_props at_key),
        value_stands places (n + 2 + count tag + count key) props at_props,
      )

  trees_stand : (places : List Place) (n : ℕ) (ts : Trees) → Holds places n (tree_places n ts) → AllStand places n ts
  trees_stand places n no_trees h = tt
  trees_stand places n (tree_and t ts) h = (
    value_stands places n t (holds_left places n (places_from n t) (tree_places (n + count t) ts) h),
    trees_stand places (n + count t) ts (holds_right places n (count t) (places_from n t) (tree_places (n + count t) ts) (places_count n t) h),
  )

  props_stand : (places : List Place) (n : ℕ) (ps : Props) → Holds places n (prop_places n ps) → EachStands places n ps
  props_stand places n no_props h = tt
  props_stand places n (prop_and name t ps) h = (
    value_stands places n t (holds_left places n (places_from n t) (prop_places (n + count t) ps) h),
    props_stand places (n + count t) ps (holds_right places n (count t) (places_from n t) (prop_places (n + count t) ps) (places_count n t) h),
  )

pub whole_stands : (t : Tree) → Stands (places_from 0 t) 0 t
whole_stands t = value_stands (places_from 0 t) 0 t (record { front = []; back = []; is = sym (append-nil (places_from 0 t)); len = refl })

-- ---- a fact of each place and its number

abbrev mutual
  pub Each : (ℕ → Place → Type 0) → ℕ → Tree → Type 0
  Each P n (single p) = P n p
  Each P n (array ts) = P n (place.Array (tree_numbers (n + 1) ts)) × EachTree P (n + 1) ts
  Each P n (object ps) = P n (place.Object (prop_numbers (n + 1) ps)) × EachProp P (n + 1) ps
  Each P n (element tag key props) =
      P n (element_place n tag key) × P (n + 1) mark_place × Each P (n + 2) tag × Each P (n + 2 + count tag) key × Each P (n + 2 + count tag + count key) props

  pub EachTree : (ℕ → Place → Type 0) → ℕ → Trees → Type 0
  EachTree P n no_trees = Unit {0}
  EachTree P n (tree_and t ts) = Each P n t × EachTree P (n + count t) ts

  pub EachProp : (ℕ → Place → Type 0) → ℕ → Props → Type 0
  EachProp P n no_props = Unit {0}
  EachProp P n (prop_and name t ps) = Each P n t × EachProp P (n + count t) ps

abbrev EachFrom : (ℕ → Place → Type 0) → ℕ → List Place → Type 0
EachFrom P n [] = Unit {0}
EachFrom P n (p ∷ ps) = P n p × EachFrom P (n + 1) ps

from_append : (P : ℕ → Place → Type 0) (n k : ℕ) (xs ys : List Place) → n + length xs ≡ k → EachFrom P n xs → EachFrom P k ys → EachFrom P n (xs ++ ys)
from_append P n k [] ys e h i = subst (λ m. EachFrom P m ys) (let z : k ≡ n = omega (arith, e) in z) i
from_append P n k (x ∷ xs) ys e h i = (h.0, from_append P (n + 1) k xs ys (omega (arith, e)) h.1 i)

mutual
  value_from : (P : ℕ → Place → Type 0) (n : ℕ) (t : Tree) → Each P n t → EachFrom P n (places_from n t)
  value_from P n (single p) h = (h, tt)
  value_from P n (array ts) h = (h.0, trees_from P (n + 1) ts h.1)
  value_from P n (object ps) h = (h.0, props_from P (n + 1) ps h.1)
  value_from P n (element tag key props) h =
      let at_key = n + 2 + count tag in
      let at_props = at_key + count key in
      let next : n + 2 ≡ n + 1 + 1 = omega arith in
      let a = places_count (n + 2) tag in
      let b = places_count at_key key in (
        h.0,
        (
          h.1,
          subst (λ m. EachFrom P m (places_from (n + 2) tag ++ (places_from at_key key ++ places_from at_props props))) next
              (from_append P (n + 2) at_key (places_from (n + 2) tag) (places_from at_key key ++ places_from at_props props) (omega arith) (value_from P (n + 2) tag h.2)
              (from_append P at_key at_props (places_from at_key key) (places_from at_props props) (omega arith) (value_from P at_key key h.3) (value_from P at_props props h.4))),
        ),
      )

  trees_from : (P : ℕ → Place → Type 0) (n : ℕ) (ts : Trees) → EachTree P n ts → EachFrom P n (tree_places n ts)
  trees_from P n no_trees h = tt
  trees_from P n (tree_and t ts) h =
      let a = places_count n t in
      from_append P n (n + count t) (places_from n t) (tree_places (n + count t) ts) (omega arith) (value_from P n t h.0) (trees_from P (n + count t) ts h.1)

  props_from : (P : ℕ → Place → Type 0) (n : ℕ) (ps : Props) → EachProp P n ps → EachFrom P n (prop_places n ps)
  props_from P n no_props h = tt
  props_from P n (prop_and name t ps) h =
      let a = places_count n t in
      from_append P n (n + count t) (places_from n t) (prop_places (n + count t) ps) (omega arith) (value_from P n t h.0) (props_from P (n + count t) ps h.1)

at_number : (P : ℕ → Place → Type 0) (n k : ℕ) (ps : List Place) (p : Place) → EachFrom P n ps → slice_get ps k ≡ Some p → P (n + k) p
at_number P n k [] p h e = absurd (no_place e)
  where
    no_place : None ≡ Some p → ⊥
    no_place e = cc
at_number P n zero (q ∷ ps) p h e = let same : q ≡ p = cc in let z : n ≡ n + 0 = omega arith in subst (λ m. P m p) z (subst (P n) same h.0)
at_number P n (suc k) (q ∷ ps) p h e = let z : n + 1 + k ≡ n + suc k = omega arith in subst (λ m. P m p) z (at_number P (n + 1) k ps p h.1 e)

-- what holds of each place of a value holds at each number of its row
pub each_place : (P : ℕ → Place → Type 0) (t : Tree) → Each P 0 t → (k : ℕ) (p : Place) → IsAt (places_from 0 t) k p → P k p
each_place P t h k p e = let z : 0 + k ≡ k = omega arith in subst (λ m. P m p) z (at_number P 0 k (places_from 0 t) p (value_from P 0 t h) e)
