-- The parts of a composite: their numbers, the steps that lead to them, and the node that they make.
use Rattle.std.proofs.Common.{◌≡◌, ℕ, suc, ◌+◌, ◌^◌, ◌<◌, ◌≤◌, true, false, if◌then◌else◌, inl, inr, List, [], ◌∷◌, map, length, codes, Option, Some, refl, sym, ap, ap₂, ◌∙◌, subst, arith}
use Rattle.std.proofs.lemmas.Fmt.{decimal_injective}
use Rattle.std.proofs.lemmas.Slice.Eq.{bytes_eq-Decides}
use Rattle.std.specs.Prelude.{slice_get}
use Rattle.std.specs.Fmt.{decimal}
use Rattle.std.specs.Str.{bytes_eq}
use Rattle.flight_value.specs.Listed.{In, Distinct}
use Rattle.flight_value.specs.Store as store
use Rattle.flight_meaning.specs.declared.place.Named.{Named}
use Rattle.flight_meaning.specs.declared.place.Place.{Place}
use Rattle.flight_meaning.specs.declared.place.Place.TheVariants as place
use Rattle.flight_meaning.specs.Linked.{Spot}
use Rattle.flight_meaning.specs.Resolve.{property, item_from, part, step, IsStop}
use Rattle.flight_meaning.specs.Meaning.{node_here, at_places}
use Rattle.flight_payload.specs.Tree.{trees_of, count, tree_count, prop_count, tree_numbers, prop_numbers}
use Rattle.flight_payload.specs.Standing.{Stands, AllStand, EachStands}
use Rattle.flight_emit.specs.Sheet.{Form, as_array, as_object, as_element, Drawn, Parts, no_parts, part_and, names_in, tree_of, trees_in, props_with, composed, head, label_of}
use Rattle.flight_emit.specs.Good.{AreIndices, HasNames}

-- ---- numbers

abbrev pub numbers_in : ℕ → Parts → List ℕ
numbers_in n no_parts = []
numbers_in n (part_and name drawn rest) = n ∷ numbers_in (n + count (tree_of drawn)) rest

abbrev pub named_in : ℕ → Parts → List Named
named_in n no_parts = []
named_in n (part_and name drawn rest) = record { name = name; place = n } ∷ named_in (n + count (tree_of drawn)) rest

abbrev pub counts : Parts → ℕ
counts no_parts = 0
counts (part_and name drawn rest) = count (tree_of drawn) + counts rest

-- each part stands at its number
abbrev pub PartsStand : List Place → ℕ → Parts → Type 0
PartsStand places n no_parts = Unit {0}
PartsStand places n (part_and name drawn rest) = Stands places n (tree_of drawn) × PartsStand places (n + count (tree_of drawn)) rest

-- a step of its name leads to each part
abbrev pub PartsLead : (List ℕ → Option ℕ) → ℕ → Parts → Type 0
PartsLead f n no_parts = Unit {0}
PartsLead f n (part_and name drawn rest) = (f name ≡ Some n) × PartsLead f (n + count (tree_of drawn)) rest

pub tree_numbers_in : (n : ℕ) (ps : Parts) → tree_numbers n (trees_of (trees_in ps)) ≡ numbers_in n ps
tree_numbers_in n no_parts = refl
tree_numbers_in n (part_and name d ps) = ap (λ xs. n ∷ xs) (tree_numbers_in (n + count (tree_of d)) ps)

prop_numbers_in : (n : ℕ) (ps : Parts) → prop_numbers n (props_with (names_in ps) (trees_in ps)) ≡ named_in n ps
prop_numbers_in n no_parts = refl
prop_numbers_in n (part_and name d ps) = ap (λ xs. record { name = name; place = n } ∷ xs) (prop_numbers_in (n + count (tree_of d)) ps)

tree_counts : (ps : Parts) → tree_count (trees_of (trees_in ps)) ≡ counts ps
tree_counts no_parts = refl
tree_counts (part_and name d ps) = ap (λ k. count (tree_of d) + k) (tree_counts ps)

prop_counts : (ps : Parts) → prop_count (props_with (names_in ps) (trees_in ps)) ≡ counts ps
prop_counts no_parts = refl
prop_counts (part_and name d ps) = ap (λ k. count (tree_of d) + k) (prop_counts ps)

array_stands : (places : List Place) (n : ℕ) (ps : Parts) → AllStand places n (trees_of (trees_in ps)) → PartsStand places n ps
array_stands places n no_parts h = tt
array_stands places n (part_and name d ps) h = (h.0, array_stands places (n + count (tree_of d)) ps h.1)

object_stands : (places : List Place) (n : ℕ) (ps : Parts) → EachStands places n (props_with (names_in ps) (trees_in ps)) → PartsStand places n ps
object_stands places n no_parts h = tt
object_stands places n (part_and name d ps) h = (h.0, object_stands places (n + count (tree_of d)) ps h.1)

-- ---- steps

lead_alike : (f h : List ℕ → Option ℕ) (n : ℕ) (ps : Parts) → ((name : List ℕ) → In name (names_in ps) → f name ≡ h name) → PartsLead h n ps → PartsLead f n ps
lead_alike f h n no_parts same lead = tt
lead_alike f h n (part_and name d ps) same lead = (same name (inl refl) ∙ lead.0, lead_alike f h (n + count (tree_of d)) ps (λ other i. same other (inr i)) lead.1)

equal_bytes : (xs : List ℕ) → bytes_eq xs xs ≡ true
equal_bytes xs = let h = bytes_eq-Decides xs xs in grind arith

other_bytes : (xs ys : List ℕ) → (xs ≡ ys → ⊥) → bytes_eq xs ys ≡ false
other_bytes xs ys apart = let h = bytes_eq-Decides xs ys in grind arith

-- later indices are greater
index_of : (n : ℕ) (names : List (List ℕ)) (name : List ℕ) → AreIndices n names → In name names → (k : ℕ) × (name ≡ decimal k) × (n ≤ k) × (k < n + length names)
index_of n [] name h i = absurd i
index_of n (x ∷ names) name h (inl e) = (n, e ∙ h.0, omega arith, omega arith)
index_of n (x ∷ names) name h (inr i) = let r = index_of (suc n) names name h.1 i in (r.0, r.1, let z = r.2 in omega (arith, z), let z = r.3 in omega (arith, z))

pub array_leads : (i n : ℕ) (ps : Parts) → AreIndices i (names_in ps) → i + length (names_in ps) ≤ 2 ^ 64 → PartsLead (item_from i (numbers_in n ps)) n ps
array_leads i n no_parts h few = tt
array_leads i n (part_and name d ps) h few = (
  ap (λ b. if b then Some n else item_from (suc i) (numbers_in (n + count (tree_of d)) ps) name) (ap (λ z. bytes_eq (decimal i) z) h.0 ∙ equal_bytes (decimal i)),
  lead_alike (item_from i (n ∷ numbers_in (n + count (tree_of d)) ps)) (item_from (suc i) (numbers_in (n + count (tree_of d)) ps)) (n + count (tree_of d)) ps passes
      (array_leads (suc i) (n + count (tree_of d)) ps h.1 (omega (arith, few))),
)
  where
    passes : (other : List ℕ) → In other (names_in ps) → item_from i (n ∷ numbers_in (n + count (tree_of d)) ps) other ≡ item_from (suc i) (numbers_in (n + count (tree_of d)) ps) other
    passes other at_name =
        let r = index_of (suc i) (names_in ps) other h.1 at_name in
        ap (λ b. if b then Some n else item_from (suc i) (numbers_in (n + count (tree_of d)) ps) other)
        (other_bytes (decimal i) other (λ e. let k = r.0 in let low = r.2 in let high = r.3 in absurd (let same : i ≡ k = decimal_injective i k (omega (arith, few)) (omega (arith, few, high)) (e ∙ r.1) in omega (arith, same, low))))

pub object_leads : (n : ℕ) (ps : Parts) → Distinct (names_in ps) → PartsLead (property (named_in n ps)) n ps
object_leads n no_parts h = tt
object_leads n (part_and name d ps) h = (
  ap (λ b. if b then Some n else property (named_in (n + count (tree_of d)) ps) name) (equal_bytes name),
  lead_alike (property (named_in n (part_and name d ps))) (property (named_in (n + count (tree_of d)) ps)) (n + count (tree_of d)) ps passes (object_leads (n + count (tree_of d)) ps h.1),
)
  where
    passes : (other : List ℕ) → In other (names_in ps) → property (named_in n (part_and name d ps)) other ≡ property (named_in (n + count (tree_of d)) ps) other
    passes other at_name =
        ap (λ b. if b then Some n else property (named_in (n + count (tree_of d)) ps) other)
        (other_bytes name other (λ e. h.0 (subst (λ z. In z (names_in ps)) (sym e) at_name)))

-- ---- a composite at its number

pub record Composite (places : List Place) (n : ℕ) (form : Form) (ps : Parts) : Type 0 where
  pub above : Place
  pub is_place : slice_get places n ≡ Some above
  pub stops : IsStop above
  pub stand : PartsStand places (n + head form) ps
  pub lead : PartsLead (step above) (n + head form) ps
  pub node : (s : Spot) → node_here s above ≡ Some (record { label = label_of form (names_in ps); slots = at_places s (numbers_in (n + head form) ps) })
  pub size : count (composed form (names_in ps) (trees_in ps)) ≡ head form + counts ps

pub names_named : (n : ℕ) (ps : Parts) → map (λ p. p.name) (named_in n ps) ≡ names_in ps
names_named n no_parts = refl
names_named n (part_and name d ps) = ap (λ xs. name ∷ xs) (names_named (n + count (tree_of d)) ps)

places_named : (n : ℕ) (ps : Parts) → map (λ p. p.place) (named_in n ps) ≡ numbers_in n ps
places_named n no_parts = refl
places_named n (part_and name d ps) = ap (λ xs. n ∷ xs) (places_named (n + count (tree_of d)) ps)

-- ---- an element has three parts

array_composite : (places : List Place) (n : ℕ) (ps : Parts) → Stands places n (composed as_array (names_in ps) (trees_in ps)) → HasNames as_array (names_in ps) → Composite places n as_array ps
array_composite places n ps stands names =
    record {
      above = place.Array (tree_numbers (n + 1) (trees_of (trees_in ps)));
      is_place = stands.0;
      stops = tt;
      stand = array_stands places (n + 1) ps stands.1;
      lead = subst (λ xs. PartsLead (item_from 0 xs) (n + 1) ps) (sym (tree_numbers_in (n + 1) ps)) (array_leads 0 (n + 1) ps names.0 (let few = names.1 in omega (arith, few)));
      node = λ s. ap (λ xs. Some (record { label = label_of as_array (names_in ps); slots = at_places s xs })) (tree_numbers_in (n + 1) ps);
      size = ap (λ k. 1 + k) (tree_counts ps);
    }

object_composite : (places : List Place) (n : ℕ) (ps : Parts) → Stands places n (composed as_object (names_in ps) (trees_in ps)) → HasNames as_object (names_in ps) → Composite places n as_object ps
object_composite places n ps stands names =
    record {
      above = place.Object (prop_numbers (n + 1) (props_with (names_in ps) (trees_in ps)));
      is_place = stands.0;
      stops = tt;
      stand = object_stands places (n + 1) ps stands.1;
      lead = subst (λ xs. PartsLead (property xs) (n + 1) ps) (sym (prop_numbers_in (n + 1) ps)) (object_leads (n + 1) ps names);
      node = λ s.
          ap (λ xs. Some (record { label = store.object (map (λ p. p.name) xs); slots = at_places s (map (λ p. p.place) xs) })) (prop_numbers_in (n + 1) ps)
          ∙ ap₂ (λ xs ys. Some (record { label = store.object xs; slots = at_places s ys })) (names_named (n + 1) ps) (places_named (n + 1) ps);
      size = ap (λ k. 1 + k) (prop_counts ps);
    }

element_of_three : (places : List Place) (n : ℕ) (a b c : List ℕ) (t k p : Drawn) → a ≡ codes "type" → b ≡ codes "key" → c ≡ codes "props"
    → Stands places n (composed as_element (a ∷ b ∷ c ∷ []) (tree_of t ∷ tree_of k ∷ tree_of p ∷ []))
    → Composite places n as_element (part_and a t (part_and b k (part_and c p no_parts)))
element_of_three places n a b c t k p x y z stands =
    record {
      above = place.Element (n + 2) (n + 2 + count (tree_of t)) (n + 2 + count (tree_of t) + count (tree_of k));
      is_place = stands.0;
      stops = tt;
      stand = (stands.1, (stands.2, (stands.3, tt)));
      lead =
          let parts = part (n + 2) (n + 2 + count (tree_of t)) (n + 2 + count (tree_of t) + count (tree_of k)) in
          (ap parts x, (ap parts y, (ap parts z, tt)));
      node = λ s. refl;
      size = omega arith;
    }

tail_same : {A : Type 0} (x y : A) (xs ys : List A) → x ∷ xs ≡ y ∷ ys → (x ≡ y) × (xs ≡ ys)
tail_same x y xs ys e = (cc, cc)

not_empty : {A : Type 0} (x : A) (xs : List A) → x ∷ xs ≡ [] → ⊥
not_empty x xs e = cc

element_composite : (places : List Place) (n : ℕ) (ps : Parts) → Stands places n (composed as_element (names_in ps) (trees_in ps)) → HasNames as_element (names_in ps) → Composite places n as_element ps
element_composite places n (part_and a t (part_and b k (part_and c p no_parts))) stands names =
    let first = tail_same a (codes "type") (b ∷ c ∷ []) (codes "key" ∷ codes "props" ∷ []) names in
    let second = tail_same b (codes "key") (c ∷ []) (codes "props" ∷ []) first.1 in
    let third = tail_same c (codes "props") [] [] second.1 in
    element_of_three places n a b c t k p first.0 second.0 third.0 stands
element_composite places n no_parts stands names = absurd (not_empty (codes "type") (codes "key" ∷ codes "props" ∷ []) (sym names))
element_composite places n (part_and a t no_parts) stands names =
    let first = tail_same a (codes "type") [] (codes "key" ∷ codes "props" ∷ []) names in absurd (not_empty (codes "key") (codes "props" ∷ []) (sym first.1))
element_composite places n (part_and a t (part_and b k no_parts)) stands names =
    let first = tail_same a (codes "type") (b ∷ []) (codes "key" ∷ codes "props" ∷ []) names in
    let second = tail_same b (codes "key") [] (codes "props" ∷ []) first.1 in absurd (not_empty (codes "props") [] (sym second.1))
element_composite places n (part_and a t (part_and b k (part_and c p (part_and d q rest)))) stands names =
    let first = tail_same a (codes "type") (b ∷ c ∷ d ∷ names_in rest) (codes "key" ∷ codes "props" ∷ []) names in
    let second = tail_same b (codes "key") (c ∷ d ∷ names_in rest) (codes "props" ∷ []) first.1 in
    let third = tail_same c (codes "props") (d ∷ names_in rest) [] second.1 in absurd (not_empty d (names_in rest) third.1)

pub composite_there : (places : List Place) (n : ℕ) (form : Form) (ps : Parts) → Stands places n (composed form (names_in ps) (trees_in ps)) → HasNames form (names_in ps) → Composite places n form ps
composite_there places n as_array ps stands names = array_composite places n ps stands names
composite_there places n as_object ps stands names = object_composite places n ps stands names
composite_there places n as_element ps stands names = element_composite places n ps stands names
