-- Graphs that draw one graph have one canon.
use Rattle.std.proofs.Common.{◌≡◌, ◌≢◌, ℕ, zero, suc, ◌+◌, ◌<◌, ◌≤◌, Bool, true, false, nat_eq, is_some, List, [], ◌∷◌, ◌++◌, length, map, Option, Some, None, unwrap_or, slice_get, refl, sym, ◌∙◌, ap, ap₂, subst, arith, inl, inr, ◌⊎◌, ◌||◌, length-append, zero-add}
use Rattle.std.specs.Prelude.{if◌then◌else◌, option_map}
use Rattle.std.specs.List.{AllZip, AllByRecursion, IsDistinct, list_any}
use Rattle.std.specs.Cmp.{nat_eq_equiv}
use Rattle.std.proofs.lemmas.Map.Steps.{length-le_from_distinct_below}
use Rattle.std.proofs.lemmas.Map.Keys.{IsDistinct-push}
use Rattle.std.proofs.lemmas.List.Folds.{list_any-append}
use Rattle.std.proofs.lemmas.List.Elements.{recursion_from_All}
use Rattle.std.proofs.lemmas.Bool.Decides.{nat_tests, eqb_tells}
use Rattle.std.proofs.lemmas.Option.{none-some}
use Rattle.flight_value.specs.Graph.{IsValid, IsValidNode, IsValidSlot, slots_of}
use Rattle.flight_value.specs.Store.{Shape, TargetsFit, SlotsFit, Fits, label_of, shape_of, target_of, of_graph}
use Rattle.flight_value.specs.declared.graph.Slot.{Slot}
use Rattle.flight_value.specs.declared.graph.Slot.TheVariants as slot
use Rattle.flight_value.specs.declared.graph.Node.{Node}
use Rattle.flight_value.specs.declared.graph.Node.TheVariants as node
use Rattle.flight_value.specs.declared.graph.Graph.{Graph}
use Rattle.flight_graph.specs.Canon.{node_at, slots_at, place_from, place_in, walk, walk_with, visited_of, renamed, map_slots, canon_under, canon_of}
use Rattle.flight_graph.proofs.Rebuilt.{rebuilt, map_slots-rebuilt}

-- slots that fit: equal atoms, or the two nodes of a pair
abbrev SlotFits : (ℕ → ℕ → Type 0) → Slot → Slot → Type 0
SlotFits P (slot.Atom a) (slot.Atom b) = a ≡ b
SlotFits P (slot.Atom a) (slot.Node n) = ⊥
SlotFits P (slot.Node m) (slot.Atom b) = ⊥
SlotFits P (slot.Node m) (slot.Node n) = P m n

-- what two graphs share under pairs of their nodes
pub record AreSameBy (P : ℕ → ℕ → Type 0) (g h : Graph) : Type 0 where
  pub forth : (m n n' : ℕ) → P m n → P m n' → n ≡ n'
  pub back : (m m' n : ℕ) → P m n → P m' n → m ≡ m'
  pub roots : SlotFits P g.root h.root
  pub labels : (m n : ℕ) → P m n → label_of (node_at g.nodes m) ≡ label_of (node_at h.nodes n)
  pub each : (m n : ℕ) → P m n → AllZip (SlotFits P) (slots_at g.nodes m) (slots_at h.nodes n)

-- ---- from stores

slot_fits : (P : ℕ → ℕ → Type 0) (s t : Slot) → TargetsFit P (target_of s) (target_of t) → SlotFits P s t
slot_fits P (slot.Atom a) (slot.Atom b) h = h
slot_fits P (slot.Atom a) (slot.Node n) h = h
slot_fits P (slot.Node m) (slot.Atom b) h = h
slot_fits P (slot.Node m) (slot.Node n) h = h

from_slots : (P : ℕ → ℕ → Type 0) (g h : Graph) (s t : Slot) → SlotsFit P (of_graph g) (of_graph h) s t → SlotFits P s t
from_slots P g h s t f = slot_fits P s t (subst (λ z. TargetsFit P z (target_of t)) (sym f.leads_here) (subst (λ z. TargetsFit P f.here z) (sym f.leads_there) f.targets_fit))

all_slots : (P : ℕ → ℕ → Type 0) (g h : Graph) (ss ts : List Slot) → AllZip (SlotsFit P (of_graph g) (of_graph h)) ss ts → AllZip (SlotFits P) ss ts
all_slots P g h [] [] f = tt
all_slots P g h [] (t ∷ ts) f = absurd f
all_slots P g h (s ∷ ss) [] f = absurd f
all_slots P g h (s ∷ ss) (t ∷ ts) f = (from_slots P g h s t f.0, all_slots P g h ss ts f.1)

some-injective : {A : Type 0} (a b : A) → Some a ≡ Some b → a ≡ b
some-injective a b p = ap (λ o. unwrap_or o a) p

shape_read : (o : Option Node) (shape : Shape Slot) → option_map shape_of o ≡ Some shape → shape_of (unwrap_or o (node.Array [])) ≡ shape
shape_read None shape h = absurd (none-some shape h)
shape_read (Some n) shape h = some-injective (shape_of n) shape h

pub same_by : (P : ℕ → ℕ → Type 0) (g h : Graph) → Fits P (of_graph g) (of_graph h) → AreSameBy P g h
same_by P g h f =
    record {
      forth = f.one_there;
      back = λ m m' n. f.one_here m m' n;
      roots = from_slots P g h g.root h.root f.roots;
      labels = λ m n p.
          let e = f.each m n p in
          ap (λ (s : Shape Slot). s.label) (shape_read (slice_get g.nodes m) e.here e.is_here) ∙ (e.labels ∙ sym (ap (λ (s : Shape Slot). s.label) (shape_read (slice_get h.nodes n) e.there e.is_there)));
      each = λ m n p.
          let e = f.each m n p in
          let here : slots_at g.nodes m ≡ e.here.slots = ap (λ (s : Shape Slot). s.slots) (shape_read (slice_get g.nodes m) e.here e.is_here) in
          let there : slots_at h.nodes n ≡ e.there.slots = ap (λ (s : Shape Slot). s.slots) (shape_read (slice_get h.nodes n) e.there e.is_there) in
          subst (λ z. AllZip (SlotFits P) z (slots_at h.nodes n)) (sym here) (subst (λ z. AllZip (SlotFits P) e.here.slots z) (sym there) (all_slots P g h e.here.slots e.there.slots e.slots_fit));
    }

-- ---- the walks go side by side

zip_append : {A B : Type 0} (R : A → B → Type 0) (xs xs' : List A) (ys ys' : List B) → AllZip R xs ys → AllZip R xs' ys' → AllZip R (xs ++ xs') (ys ++ ys')
zip_append R [] xs' [] ys' h k = k
zip_append R [] xs' (y ∷ ys) ys' h k = absurd h
zip_append R (x ∷ xs) xs' [] ys' h k = absurd h
zip_append R (x ∷ xs) xs' (y ∷ ys) ys' h k = (h.0, zip_append R xs xs' ys ys' h.1 k)

either : (b : Bool) (P : ℕ → ℕ → Type 0) (x y x' y' : List ℕ) → AllZip P x x' → AllZip P y y' → AllZip P (if b then x else y) (if b then x' else y')
either true P x y x' y' p q = p
either false P x y x' y' p q = q

-- equal on one side exactly where equal on the other
same_test : (P : ℕ → ℕ → Type 0) (g h : Graph) → AreSameBy P g h → (x m y n : ℕ) → P x y → P m n → nat_eq x m ≡ nat_eq y n
same_test P g h same x m y n p k =
    elim (eqb_tells x m) [
      | inl e ↦
          let one : y ≡ n = same.forth m y n (subst (λ q. P q y) e.1 p) k in
          let test : nat_eq y n ≡ true = grind (arith, nat_tests) in
          e.0 ∙ sym test
      | inr e ↦
          let apart : y ≢ n = λ s. e.1 (same.back x m n (subst (P x) s p) k) in
          let test : nat_eq y n ≡ false = grind (arith, nat_tests) in
          e.0 ∙ sym test
    ]

same_place : (P : ℕ → ℕ → Type 0) (g h : Graph) → AreSameBy P g h → (i m n : ℕ) (v w : List ℕ) → P m n → AllZip P v w → place_from i m v ≡ place_from i n w
same_place P g h same i m n [] [] k z = refl
same_place P g h same i m n [] (y ∷ w) k z = absurd z
same_place P g h same i m n (x ∷ v) [] k z = absurd z
same_place P g h same i m n (x ∷ v) (y ∷ w) k z =
    ap₂ (λ b o. if b then Some i else o) (same_test P g h same x m y n z.0 k) (same_place P g h same (i + 1) m n v w k z.1)

abbrev Goes : (ℕ → ℕ → Type 0) → (List ℕ → List Slot → List ℕ) → (List ℕ → List Slot → List ℕ) → Type 0
Goes P next next' = (v w : List ℕ) (s t : List Slot) → AllZip P v w → AllZip (SlotFits P) s t → AllZip P (next v s) (next' w t)

with_zip : (P : ℕ → ℕ → Type 0) (g h : Graph) → AreSameBy P g h → (next next' : List ℕ → List Slot → List ℕ) → Goes P next next' → (s t : List Slot) (v w : List ℕ) → AllZip P v w → AllZip (SlotFits P) s t → AllZip P (walk_with next g.nodes v s) (walk_with next' h.nodes w t)
with_zip P g h same next next' go [] [] v w p q = p
with_zip P g h same next next' go [] (y ∷ t) v w p q = absurd q
with_zip P g h same next next' go (x ∷ s) [] v w p q = absurd q
with_zip P g h same next next' go (slot.Atom a ∷ s) (slot.Atom b ∷ t) v w p q = with_zip P g h same next next' go s t v w p q.1
with_zip P g h same next next' go (slot.Atom a ∷ s) (slot.Node n ∷ t) v w p q = absurd q.0
with_zip P g h same next next' go (slot.Node m ∷ s) (slot.Atom b ∷ t) v w p q = absurd q.0
with_zip P g h same next next' go (slot.Node m ∷ s) (slot.Node n ∷ t) v w p q =
    let test : is_some (place_in m v) ≡ is_some (place_in n w) = ap is_some (same_place P g h same 0 m n v w q.0 p) in
    rw test (either (is_some (place_in n w)) P (walk_with next g.nodes v s) (next (v ++ m ∷ []) (slots_at g.nodes m ++ s)) (walk_with next' h.nodes w t) (next' (w ++ n ∷ []) (slots_at h.nodes n ++ t))
    (with_zip P g h same next next' go s t v w p q.1)
    (go (v ++ m ∷ []) (w ++ n ∷ []) (slots_at g.nodes m ++ s) (slots_at h.nodes n ++ t) (zip_append P v (m ∷ []) w (n ∷ []) p (q.0, tt)) (zip_append (SlotFits P) (slots_at g.nodes m) s (slots_at h.nodes n) t (same.each m n q.0) q.1)))

walks_zip : (P : ℕ → ℕ → Type 0) (g h : Graph) → AreSameBy P g h → (k : ℕ) → Goes P (walk k g.nodes) (walk k h.nodes)
walks_zip P g h same zero = λ v w s t p q. p
walks_zip P g h same (suc k) = λ v w s t p q. with_zip P g h same (walk k g.nodes) (walk k h.nodes) (walks_zip P g h same k) s t v w p q

-- ---- the new numbers are the same

same_name : (P : ℕ → ℕ → Type 0) (g h : Graph) → AreSameBy P g h → (v w : List ℕ) (s t : Slot) → AllZip P v w → SlotFits P s t → renamed v s ≡ renamed w t
same_name P g h same v w (slot.Atom a) (slot.Atom b) p q = ap slot.Atom q
same_name P g h same v w (slot.Atom a) (slot.Node n) p q = absurd q
same_name P g h same v w (slot.Node m) (slot.Atom b) p q = absurd q
same_name P g h same v w (slot.Node m) (slot.Node n) p q = ap (λ o. slot.Node (unwrap_or o 0)) (same_place P g h same 0 m n v w q p)

same_names : (P : ℕ → ℕ → Type 0) (g h : Graph) → AreSameBy P g h → (v w : List ℕ) (s t : List Slot) → AllZip P v w → AllZip (SlotFits P) s t → map (renamed v) s ≡ map (renamed w) t
same_names P g h same v w [] [] p q = refl
same_names P g h same v w [] (y ∷ t) p q = absurd q
same_names P g h same v w (x ∷ s) [] p q = absurd q
same_names P g h same v w (x ∷ s) (y ∷ t) p q = ap₂ (λ a b. a ∷ b) (same_name P g h same v w x y p q.0) (same_names P g h same v w s t p q.1)

same_node : (P : ℕ → ℕ → Type 0) (g h : Graph) → AreSameBy P g h → (v w : List ℕ) → AllZip P v w → (m n : ℕ) → P m n → map_slots (renamed v) (node_at g.nodes m) ≡ map_slots (renamed w) (node_at h.nodes n)
same_node P g h same v w p m n q =
    map_slots-rebuilt (renamed v) (node_at g.nodes m)
    ∙ (ap₂ rebuilt (same.labels m n q) (same_names P g h same v w (slots_at g.nodes m) (slots_at h.nodes n) p (same.each m n q))
    ∙ sym (map_slots-rebuilt (renamed w) (node_at h.nodes n)))

same_nodes : (P : ℕ → ℕ → Type 0) (g h : Graph) → AreSameBy P g h → (v w xs ys : List ℕ) → AllZip P v w → AllZip P xs ys → map (λ n. map_slots (renamed v) (node_at g.nodes n)) xs ≡ map (λ n. map_slots (renamed w) (node_at h.nodes n)) ys
same_nodes P g h same v w [] [] p q = refl
same_nodes P g h same v w [] (y ∷ ys) p q = absurd q
same_nodes P g h same v w (x ∷ xs) [] p q = absurd q
same_nodes P g h same v w (x ∷ xs) (y ∷ ys) p q = ap₂ (λ a b. a ∷ b) (same_node P g h same v w p x y q.0) (same_nodes P g h same v w xs ys p q.1)

same_canon : (P : ℕ → ℕ → Type 0) (g h : Graph) → AreSameBy P g h → (v w : List ℕ) → AllZip P v w → canon_under g v ≡ canon_under h w
same_canon P g h same v w p =
    ap₂ (λ (root : Slot) (nodes : List Node). let c : Graph = record { root = root; nodes = nodes } in c)
    (same_name P g h same v w g.root h.root p same.roots) (same_nodes P g h same v w v w p p)

-- ---- as many turns as there are nodes are enough

-- a slot names a node below that number
abbrev pub IsBelow : ℕ → Slot → Type 0
IsBelow count (slot.Atom a) = Unit {0}
IsBelow count (slot.Node n) = n < count

pub both_low : (count : ℕ) (s t : List Slot) → AllByRecursion (IsBelow count) s → AllByRecursion (IsBelow count) t → AllByRecursion (IsBelow count) (s ++ t)
both_low count [] t p q = q
both_low count (x ∷ s) t p q = (p.0, both_low count s t p.1 q)

pub nothing_distinct : IsDistinct nat_eq []
unfolding IsDistinct
nothing_distinct = tt

pub fresh_any : (i m : ℕ) (v : List ℕ) → place_from i m v ≡ None → list_any (nat_eq m) v ≡ false
fresh_any i m [] h = refl
fresh_any i m (x ∷ v) h =
    elim (eqb_tells x m) [
      | inl e ↦ let k = rw e.0 at h in cc
      | inr e ↦
          let later : place_from (i + 1) m v ≡ None = rw e.0 at h in
          let apart : m ≢ x = λ s. e.1 (sym s) in
          let test : nat_eq m x ≡ false = grind (arith, nat_tests) in
          rw test (fresh_any (i + 1) m v later)
    ]

abbrev pub Below : ℕ → List ℕ → Type 0
Below count v = (q : ℕ) → list_any (nat_eq q) v ≡ true → q < count

or_true : (a b : Bool) → (a || b) ≡ true → (a ≡ true) ⊎ (b ≡ true)
or_true true b h = inl refl
or_true false b h = inr h

pub below_push : (count m : ℕ) (v : List ℕ) → Below count v → m < count → Below count (v ++ m ∷ [])
below_push count m v low lt q h =
    elim (or_true (list_any (nat_eq q) v) (list_any (nat_eq q) (m ∷ [])) (rw list_any-append at h)) [
      | inl a ↦ low q a
      | inr b ↦ elim (or_true (nat_eq q m) false b) [ inl e ↦ (let same : q ≡ m = grind (arith, nat_tests) in omega arith) | inr e ↦ cc ]
    ]

chosen : (o : Option ℕ) (x x' y y' : List ℕ) → x ≡ x' → (o ≡ None → y ≡ y') → (if is_some o then x else y) ≡ (if is_some o then x' else y')
chosen None x x' y y' p q = q refl
chosen (Some a) x x' y y' p q = p

with_enough : (nodes : List Node) (count : ℕ) (next next' : List ℕ → List Slot → List ℕ) (v : List ℕ) → ((n : ℕ) → AllByRecursion (IsBelow count) (slots_at nodes n)) → ((m : ℕ) (t : List Slot) → place_in m v ≡ None → m < count → AllByRecursion (IsBelow count) t → next (v ++ m ∷ []) t ≡ next' (v ++ m ∷ []) t) → (s : List Slot) → AllByRecursion (IsBelow count) s → walk_with next nodes v s ≡ walk_with next' nodes v s
with_enough nodes count next next' v low go [] q = refl
with_enough nodes count next next' v low go (slot.Atom a ∷ s) q = with_enough nodes count next next' v low go s q.1
with_enough nodes count next next' v low go (slot.Node m ∷ s) q =
    chosen (place_in m v) (walk_with next nodes v s) (walk_with next' nodes v s) (next (v ++ m ∷ []) (slots_at nodes m ++ s)) (next' (v ++ m ∷ []) (slots_at nodes m ++ s))
    (with_enough nodes count next next' v low go s q.1)
    (λ fresh. go m (slots_at nodes m ++ s) fresh q.0 (both_low count (slots_at nodes m) s (low m) q.1))

enough : (nodes : List Node) (count : ℕ) → ((n : ℕ) → AllByRecursion (IsBelow count) (slots_at nodes n)) → (k : ℕ) (v : List ℕ) (s : List Slot) → IsDistinct nat_eq v → Below count v → AllByRecursion (IsBelow count) s → count < k + length v → walk k nodes v s ≡ walk (suc k) nodes v s
enough nodes count low zero v s distinct below q room = absurd (let most : length v ≤ count = length-le_from_distinct_below v count distinct below in omega arith)
enough nodes count low (suc k) v s distinct below q room =
    with_enough nodes count (walk k nodes) (walk (suc k) nodes) v low
    (λ m t fresh lt r. enough nodes count low k (v ++ m ∷ []) t (IsDistinct-push nat_eq_equiv v m distinct (fresh_any 0 m v fresh)) (below_push count m v below lt) r (simp length-append (omega arith)))
    s q

more_turns : (nodes : List Node) (count : ℕ) (s : List Slot) → ((n : ℕ) → AllByRecursion (IsBelow count) (slots_at nodes n)) → AllByRecursion (IsBelow count) s → (d : ℕ) → walk (suc count) nodes [] s ≡ walk (d + suc count) nodes [] s
more_turns nodes count s low q zero = ap (λ k. walk k nodes [] s) (sym (zero-add (suc count)))
more_turns nodes count s low q (suc d) =
    let step : suc (d + suc count) ≡ suc d + suc count = omega arith in
    more_turns nodes count s low q d
    ∙ (enough nodes count low (d + suc count) [] s nothing_distinct (λ x h. cc) q (omega arith) ∙ ap (λ k. walk k nodes [] s) step)

-- ---- the slots of a valid graph are below

low_slot : (count : ℕ) (s : Slot) → IsValidSlot count s → IsBelow count s
low_slot count (slot.Atom a) h = tt
low_slot count (slot.Node n) h = h

low_slots : (count : ℕ) (slots : List Slot) → AllByRecursion (IsValidSlot count) slots → AllByRecursion (IsBelow count) slots
low_slots count [] h = tt
low_slots count (s ∷ slots) h = (low_slot count s h.0, low_slots count slots h.1)

low_at : (count : ℕ) (all nodes : List Node) (n : ℕ) → length all ≡ count → AllByRecursion (IsValidNode all) nodes → AllByRecursion (IsBelow count) (slots_at nodes n)
low_at count all [] n e h = tt
low_at count all (x ∷ nodes) zero e h = low_slots count (slots_of x) (subst (λ k. AllByRecursion (IsValidSlot k) (slots_of x)) e (recursion_from_All (IsValidSlot (length all)) (slots_of x) h.0.slots))
low_at count all (x ∷ nodes) (suc n) e h = low_at count all nodes n e h.1

pub low_nodes : (g : Graph) → IsValid g → (n : ℕ) → AllByRecursion (IsBelow (length g.nodes)) (slots_at g.nodes n)
low_nodes g valid n = low_at (length g.nodes) g.nodes g.nodes n refl (recursion_from_All (IsValidNode g.nodes) g.nodes valid.each)

pub low_root : (g : Graph) → IsValid g → AllByRecursion (IsBelow (length g.nodes)) (g.root ∷ [])
low_root g valid = (low_slot (length g.nodes) g.root valid.valid_root, tt)

-- graphs that are the same by pairs have one canon
pub one_canon : (P : ℕ → ℕ → Type 0) (g h : Graph) → IsValid g → IsValid h → AreSameBy P g h → canon_of g ≡ canon_of h
unfolding canon_of visited_of
one_canon P g h valid valid' same =
    let turns : length h.nodes + suc (length g.nodes) ≡ length g.nodes + suc (length h.nodes) = omega arith in
    let left = more_turns g.nodes (length g.nodes) (g.root ∷ []) (low_nodes g valid) (low_root g valid) (length h.nodes) in
    let right = more_turns h.nodes (length h.nodes) (h.root ∷ []) (low_nodes h valid') (low_root h valid') (length g.nodes) in
    let zipped = walks_zip P g h same (length g.nodes + suc (length h.nodes)) [] [] (g.root ∷ []) (h.root ∷ []) tt (same.roots, tt) in
    ap (canon_under g) (left ∙ ap (λ k. walk k g.nodes [] (g.root ∷ [])) turns)
    ∙ (same_canon P g h same (walk (length g.nodes + suc (length h.nodes)) g.nodes [] (g.root ∷ [])) (walk (length g.nodes + suc (length h.nodes)) h.nodes [] (h.root ∷ [])) zipped
    ∙ ap (canon_under h) (sym right))
