-- The walk, turn by turn.
use Rattle.std.proofs.Common.{◌≡◌, ◌≢◌, ℕ, zero, suc, ◌+◌, ◌<◌, ◌≤◌, Bool, true, false, nat_eq, not, is_some, List, [], ◌∷◌, ◌++◌, map, reverse, length, Option, Some, None, slice_set, slice_index_or, refl, sym, ◌∙◌, ap, ap₂, subst, arith, add-zero, zero-add, inl, inr, replicate, get_or-set_same, get_or-set_other}
use Rattle.std.specs.Option.{option_or}
use Rattle.std.specs.List.{AllByRecursion}
use Rattle.std.specs.Prelude.{if◌then◌else◌, All}
use Rattle.std.proofs.lemmas.Bool.Decides.{nat_tests, eqb_tells}
use Rattle.std.proofs.lemmas.List.Sums.{sum_by-set, sum_by-cons}
use Rattle.std.proofs.lemmas.List.{nil_from_length, length-set, length-append, length-reverse, map-append, reverse-append, reverse-reverse}
use Rattle.std.proofs.lemmas.List.Elements.{All-push, All-pop, All-append, All-nil, All-from_recursion, recursion_from_All}
use Rattle.std.proofs.lemmas.List.Sorted.{All-permutation, IsPermutation-reverse}
use Rattle.std.proofs.lemmas.Grind.{flat_map-append}
use Rattle.flight_value.specs.Graph.{slots_of, IsValid, IsValidNode, IsValidSlot}
use Rattle.flight_value.specs.declared.graph.Slot.{Slot}
use Rattle.flight_value.specs.declared.graph.Slot.TheVariants as slot
use Rattle.flight_value.specs.declared.graph.Node.{Node}
use Rattle.flight_value.specs.declared.graph.Graph.{Graph}
use Rattle.flight_graph.specs.declared.walk.Walk.{Walk}
use Rattle.flight_graph.specs.Canon.{node_at, slots_at, place_from, place_in, walk, walk_with, visited_of}
use Rattle.flight_graph.specs.Walk.{named_by, named, unvisited, unmet, slots_waiting, reached, reached_with, turns_left, NamesBelow, IsKept, IsUnvisited, Visits}

-- ---- places

pub place_from-snoc : (i q m : ℕ) (v : List ℕ) → place_from i q (v ++ m ∷ []) ≡ option_or (place_from i q v) (if nat_eq m q then Some (i + length v) else None)
place_from-snoc i q m [] = rw add-zero refl
place_from-snoc i q m (x ∷ v) =
    let count : i + 1 + length v ≡ i + suc (length v) = omega arith in
    elim (nat_eq x q) as (λ b. (if b then Some i else place_from (i + 1) q (v ++ m ∷ [])) ≡ option_or (if b then Some i else place_from (i + 1) q v) (if nat_eq m q then Some (i + suc (length v)) else None)) [
      | true ↦ refl
      | false ↦ place_from-snoc (i + 1) q m v ∙ ap (λ k. option_or (place_from (i + 1) q v) (if nat_eq m q then Some k else None)) count
    ]

or_none : {A : Type 0} (o : Option A) → option_or o None ≡ o
or_none None = refl
or_none (Some x) = refl

placed_same : (places : List (Option ℕ)) (order : List ℕ) (n : ℕ) → n < length places → place_in n order ≡ None → slice_index_or (slice_set places n (Some (length order))) n None ≡ place_in n (order ++ n ∷ [])
placed_same places order n within fresh =
    let test : nat_eq n n ≡ true = grind (arith, nat_tests) in
    get_or-set_same places n (Some (length order)) None within
    ∙ sym (place_from-snoc 0 n n order ∙ rw (fresh, test, zero-add) refl)

placed_more : (places : List (Option ℕ)) (order : List ℕ) (n q : ℕ) → n < length places → place_in n order ≡ None → slice_index_or places q None ≡ place_in q order → slice_index_or (slice_set places n (Some (length order))) q None ≡ place_in q (order ++ n ∷ [])
placed_more places order n q within fresh same =
    elim (eqb_tells n q) [
      | inl e ↦ subst (λ q. slice_index_or (slice_set places n (Some (length order))) q None ≡ place_in q (order ++ n ∷ [])) e.1 (placed_same places order n within fresh)
      | inr e ↦
          let apart : q ≢ n = λ x. e.1 (sym x) in
          get_or-set_other places n q (Some (length order)) None apart
          ∙ (same
          ∙ (sym (or_none (place_in q order))
          ∙ (ap (λ b. option_or (place_in q order) (if b then Some (0 + length order) else None)) (sym e.0)
          ∙ sym (place_from-snoc 0 q n order))))
    ]

unvisited_less : (places : List (Option ℕ)) (n place : ℕ) → n < length places → slice_index_or places n None ≡ None → suc (unvisited (slice_set places n (Some place))) ≡ unvisited places
unvisited_less places n place within fresh =
    let e = sum_by-set (λ (p : Option ℕ). if is_some p then 0 else 1) places n (Some place) None within in
    let f = rw fresh at e in
    omega arith

unmet_less : (nodes : List Node) (places : List (Option ℕ)) (n place : ℕ) → n < length nodes → length places ≡ length nodes → slice_index_or places n None ≡ None → length (named (slots_at nodes n)) + unmet nodes (slice_set places n (Some place)) ≡ unmet nodes places
unmet_less [] places n place within long fresh = absurd (omega (arith, within))
unmet_less (x ∷ nodes) [] n place within long fresh = absurd (omega (arith, long))
unmet_less (x ∷ nodes) (p ∷ places) zero place within long fresh = ap (λ k. length (named (slots_of x)) + k) (zero-add (unmet nodes places)) ∙ ap (λ o. (if is_some o then 0 else length (named (slots_of x))) + unmet nodes places) (sym fresh)
unmet_less (x ∷ nodes) (p ∷ places) (suc n) place within long fresh =
    let h = unmet_less nodes places n place (omega (arith, within)) (omega (arith, long)) fresh in
    omega (arith, h)

-- ---- slots that are atoms make no difference

pub names : List Slot → List Slot
names slots = map slot.Node (named slots)

pub names-append : (s t : List Slot) → names (s ++ t) ≡ names s ++ names t
unfolding names
names-append s t = ap (map slot.Node) (flat_map-append named_by s t) ∙ map-append slot.Node (named s) (named t)

pub names_of : (ns : List ℕ) → names (map slot.Node ns) ≡ map slot.Node ns
unfolding names
names_of [] = refl
names_of (n ∷ ns) = ap (λ s. slot.Node n ∷ s) (names_of ns)

names_twice : (s : List Slot) → names (names s) ≡ names s
unfolding names
names_twice s = names_of (named s)

names_after : (s t : List Slot) → names (s ++ t) ≡ names (s ++ names t)
names_after s t = names-append s t ∙ (ap (λ r. names s ++ r) (sym (names_twice t)) ∙ sym (names-append s (names t)))

chosen : (b : Bool) (x x' y y' : List ℕ) → x ≡ x' → y ≡ y' → (if b then x else y) ≡ (if b then x' else y')
chosen b x x' y y' p q = ap₂ (λ x y. if b then x else y) p q

with_names : (next : List ℕ → List Slot → List ℕ) (nodes : List Node) → ((v : List ℕ) (t : List Slot) → next v t ≡ next v (names t)) → (v : List ℕ) (s : List Slot) → walk_with next nodes v s ≡ walk_with next nodes v (names s)
unfolding names
with_names next nodes go v [] = refl
with_names next nodes go v (slot.Atom a ∷ s) = with_names next nodes go v s
with_names next nodes go v (slot.Node n ∷ s) =
    chosen (is_some (place_in n v)) _ _ _ _ (with_names next nodes go v s)
    (go (v ++ n ∷ []) (slots_at nodes n ++ s) ∙ (ap (next (v ++ n ∷ [])) (names_after (slots_at nodes n) s) ∙ sym (go (v ++ n ∷ []) (slots_at nodes n ++ names s))))

pub walk_names : (k : ℕ) (nodes : List Node) (v : List ℕ) (s : List Slot) → walk k nodes v s ≡ walk k nodes v (names s)
walk_names zero nodes v s = refl
walk_names (suc k) nodes v s = with_names (walk k nodes) nodes (walk_names k nodes) v s

-- ---- a node is visited

pub waiting_more : (ns left : List ℕ) → slots_waiting (left ++ reverse ns) ≡ map slot.Node ns ++ slots_waiting left
waiting_more ns left = ap (map slot.Node) (reverse-append left (reverse ns) ∙ ap (λ r. r ++ reverse left) (reverse-reverse ns)) ∙ map-append slot.Node ns (reverse left)

-- the slots of a node, in front of those that wait
pub slots_more : (k : ℕ) (nodes : List Node) (v left : List ℕ) (s : List Slot) → walk k nodes v (slots_waiting (left ++ reverse (named s))) ≡ walk k nodes v (s ++ slots_waiting left)
unfolding names
slots_more k nodes v left s =
    ap (walk k nodes v) (waiting_more (named s) left ∙ (ap (λ r. names s ++ r) (sym (names_of (reverse left))) ∙ sym (names-append s (slots_waiting left))))
    ∙ sym (walk_names k nodes v (s ++ slots_waiting left))

pub visits : (nodes : List Node) (v : List ℕ) (slots : List Slot) (count n : ℕ) → place_in n v ≡ None → walk (suc count) nodes v (slot.Node n ∷ slots) ≡ walk count nodes (v ++ n ∷ []) (slots_at nodes n ++ slots)
visits nodes v slots count n fresh = rw fresh refl

pub passes : (nodes : List Node) (v : List ℕ) (slots : List Slot) (count n : ℕ) → is_some (place_in n v) ≡ true → walk (suc count) nodes v (slot.Node n ∷ slots) ≡ walk (suc count) nodes v slots
passes nodes v slots count n test = rw test refl

pub visited_kept : (w w' : Walk) (nodes : List Node) (n : ℕ) → IsKept (length nodes) w → n < length nodes → NamesBelow (length nodes) (node_at nodes n) → slice_index_or w.places.items n None ≡ None → Visits nodes n w w' → IsKept (length nodes) w'
visited_kept w w' nodes n kept within below none v =
    let lt : n < length w.places.items = omega (arith, kept.long) in
    let fresh : place_in n w.order.items ≡ None = sym (kept.is_placed n) ∙ none in
    record {
      long = rw v.places (length-set w.places.items n (Some (length w.order.items)) ∙ kept.long);
      is_placed = λ q. rw (v.places, v.order) (placed_more w.places.items w.order.items n q lt fresh (kept.is_placed q));
      waits = rw v.waiting (All-append (λ m. m < length nodes) w.waiting.items (reverse (named (slots_at nodes n))) kept.waits (All-permutation (λ m. m < length nodes) (named (slots_at nodes n)) (reverse (named (slots_at nodes n))) (IsPermutation-reverse (named (slots_at nodes n))) below));
      visits = rw v.order (All-push (λ m. m < length nodes) w.order.items n kept.visits within);
    }

pub visited_reached : (w w' : Walk) (nodes : List Node) (n : ℕ) → IsKept (length nodes) w → n < length nodes → slice_index_or w.places.items n None ≡ None → Visits nodes n w w' → reached nodes w' ≡ reached_with nodes w n
unfolding reached reached_with
visited_reached w w' nodes n kept within none v =
    let lt : n < length w.places.items = omega (arith, kept.long) in
    let fresh : place_in n w.order.items ≡ None = sym (kept.is_placed n) ∙ none in
    let less : suc (unvisited w'.places.items) ≡ unvisited w.places.items = rw v.places (unvisited_less w.places.items n (length w.order.items) lt none) in
    ap (λ k. walk k nodes w'.order.items (slots_waiting w'.waiting.items)) less
    ∙ (ap₂ (λ o r. walk (unvisited w.places.items) nodes o (slots_waiting r)) v.order v.waiting
    ∙ (slots_more (unvisited w.places.items) nodes (w.order.items ++ n ∷ []) w.waiting.items (slots_at nodes n)
    ∙ sym (visits nodes w.order.items (slots_waiting w.waiting.items) (unvisited w.places.items) n fresh)))

pub visited_turns : (w w' : Walk) (nodes : List Node) (n : ℕ) → IsKept (length nodes) w → n < length nodes → slice_index_or w.places.items n None ≡ None → Visits nodes n w w' → turns_left nodes w' ≤ turns_left nodes w
visited_turns w w' nodes n kept within none v =
    let less = unmet_less nodes w.places.items n (length w.order.items) within kept.long none in
    let long : length w'.waiting.items ≡ length w.waiting.items + length (named (slots_at nodes n)) = ap length v.waiting ∙ (length-append _ _ ∙ ap (λ k. length w.waiting.items + k) (length-reverse (named (slots_at nodes n)))) in
    let same : unmet nodes w'.places.items ≡ unmet nodes (slice_set w.places.items n (Some (length w.order.items))) = ap (unmet nodes) v.places in
    omega (arith, less, long, same)

pub none_at : (places : List (Option ℕ)) (n : ℕ) (o : Option ℕ) → o ≡ slice_index_or places n o → (t : Bool) → is_some o ≡ not t → t ≡ true → slice_index_or places n None ≡ None
none_at places n None e t h k = sym e
none_at places n (Some x) e t h k = cc

some_at : (places : List (Option ℕ)) (n : ℕ) (o : Option ℕ) → n < length places → o ≡ slice_index_or places n o → is_some o ≡ true → is_some (slice_index_or places n None) ≡ true
some_at [] n o within e h = absurd (omega (arith, within))
some_at (p ∷ places) zero o within e h = ap is_some (sym e) ∙ h
some_at (p ∷ places) (suc n) o within e h = some_at places n o (omega (arith, within)) e h

-- a node that was visited before
pub passed_reached : (w : Walk) (nodes : List Node) (n : ℕ) (o : Option ℕ) → IsKept (length nodes) w → n < length nodes → o ≡ slice_index_or w.places.items n o → (t : Bool) → is_some o ≡ not t → t ≡ false → reached nodes w ≡ reached_with nodes w n
unfolding reached reached_with
passed_reached w nodes n o kept within e t same test =
    let h : is_some o ≡ true = same ∙ ap not test in
    let lt : n < length w.places.items = omega (arith, kept.long) in
    sym (passes nodes w.order.items (slots_waiting w.waiting.items) (unvisited w.places.items) n (ap is_some (sym (kept.is_placed n)) ∙ some_at w.places.items n o lt e h))

-- ---- a node is taken from those that wait

pub taken_kept : (count n : ℕ) (w w' : Walk) → IsKept count w → w'.places.items ≡ w.places.items → w'.order.items ≡ w.order.items → w.waiting.items ≡ w'.waiting.items ++ n ∷ [] → IsKept count w' × (n < count)
taken_kept count n w w' kept places order waiting =
    let parts = All-pop (λ m. m < count) w.waiting.items w'.waiting.items (Some n) waiting kept.waits in (
      record {
        long = rw places kept.long;
        is_placed = λ q. rw (places, order) (kept.is_placed q);
        waits = parts.0;
        visits = rw order kept.visits;
      },
      parts.1,
    )

pub taken_reached : (nodes : List Node) (n : ℕ) (w w' : Walk) → w'.places.items ≡ w.places.items → w'.order.items ≡ w.order.items → w.waiting.items ≡ w'.waiting.items ++ n ∷ [] → reached_with nodes w' n ≡ reached nodes w
unfolding reached reached_with
taken_reached nodes n w w' places order waiting =
    ap₂ (λ p o. walk (suc (unvisited p)) nodes o (slot.Node n ∷ slots_waiting w'.waiting.items)) places order
    ∙ ap (λ r. walk (suc (unvisited w.places.items)) nodes w.order.items (map slot.Node r)) (sym (ap reverse waiting ∙ reverse-append w'.waiting.items (n ∷ [])))

pub taken_turns : (nodes : List Node) (n : ℕ) (w w' : Walk) → w'.places.items ≡ w.places.items → w.waiting.items ≡ w'.waiting.items ++ n ∷ [] → turns_left nodes w' < turns_left nodes w
taken_turns nodes n w w' places waiting =
    let long : length w.waiting.items ≡ length w'.waiting.items + 1 = ap length waiting ∙ length-append _ _ in
    let same : unmet nodes w'.places.items ≡ unmet nodes w.places.items = ap (unmet nodes) places in
    omega (arith, long, same)

pub nothing_waits : (nodes : List Node) (w : Walk) → length w.waiting.items ≡ 0 → reached nodes w ≡ w.order.items
unfolding reached
nothing_waits nodes w h =
    let e : w.waiting.items ≡ [] = nil_from_length w.waiting.items h in
    ap (λ r. walk (suc (unvisited w.places.items)) nodes w.order.items (slots_waiting r)) e

-- ---- the walk begins

none_placed : (count n : ℕ) → slice_index_or (replicate count None) n (let o : Option ℕ = None in o) ≡ None
none_placed zero n = refl
none_placed (suc count) zero = refl
none_placed (suc count) (suc n) = none_placed count n

all_unvisited : (count : ℕ) → unvisited (replicate count None) ≡ count
all_unvisited zero = refl
all_unvisited (suc count) = sum_by-cons (λ (p : Option ℕ). if is_some p then 0 else 1) None (replicate count None) ∙ (ap (λ n. 1 + n) (all_unvisited count) ∙ omega arith)

long_replicate : (count : ℕ) → length (replicate count (let o : Option ℕ = None in o)) ≡ count
long_replicate zero = refl
long_replicate (suc count) = ap suc (long_replicate count)

pub root_first : (k : ℕ) (nodes : List Node) (root : Slot) → walk (suc k) nodes [] (slots_waiting (named_by root)) ≡ walk (suc k) nodes [] (root ∷ [])
root_first k nodes (slot.Atom a) = refl
root_first k nodes (slot.Node n) = refl

root_below : (count : ℕ) (root : Slot) → IsValidSlot count root → All (λ n. n < count) (named_by root)
root_below count (slot.Atom a) h = All-nil (λ n. n < count)
root_below count (slot.Node n) h = All-push (λ n. n < count) [] n (All-nil (λ n. n < count)) h

begins_kept : (count : ℕ) (root : Slot) (w w' : Walk) → IsUnvisited count w → IsValidSlot count root → w'.places.items ≡ w.places.items → w'.order.items ≡ w.order.items → w'.waiting.items ≡ w.waiting.items ++ named_by root → IsKept count w'
begins_kept count root w w' u valid places order waiting =
    record {
      long = rw (places, u.places) (long_replicate count);
      is_placed = λ n. rw (places, order, u.places, u.order) (none_placed count n);
      waits = rw (waiting, u.waiting) (root_below count root valid);
      visits = rw (order, u.order) (All-nil (λ n. n < count));
    }

begins_reached : (nodes : List Node) (root : Slot) (w w' : Walk) → IsUnvisited (length nodes) w → w'.places.items ≡ w.places.items → w'.order.items ≡ w.order.items → w'.waiting.items ≡ w.waiting.items ++ named_by root → reached nodes w' ≡ walk (suc (length nodes)) nodes [] (root ∷ [])
unfolding reached
begins_reached nodes root w w' u places order waiting =
    ap₂ (λ p o. walk (suc (unvisited p)) nodes o (slots_waiting w'.waiting.items)) (places ∙ u.places) (order ∙ u.order)
    ∙ (ap₂ (λ k r. walk (suc k) nodes [] (slots_waiting r)) (all_unvisited (length nodes)) (waiting ∙ ap (λ r. r ++ named_by root) u.waiting)
    ∙ root_first (length nodes) nodes root)

-- ---- the nodes of a valid graph name nodes of it

below_slot : (count : ℕ) (s : Slot) → IsValidSlot count s → AllByRecursion (λ n. n < count) (named_by s)
below_slot count (slot.Atom a) h = tt
below_slot count (slot.Node n) h = (h, tt)

both_below : (count : ℕ) (s t : List ℕ) → AllByRecursion (λ n. n < count) s → AllByRecursion (λ n. n < count) t → AllByRecursion (λ n. n < count) (s ++ t)
both_below count [] t p q = q
both_below count (x ∷ s) t p q = (p.0, both_below count s t p.1 q)

below_slots : (count : ℕ) (slots : List Slot) → AllByRecursion (IsValidSlot count) slots → AllByRecursion (λ n. n < count) (named slots)
below_slots count [] h = tt
below_slots count (s ∷ slots) h = both_below count (named_by s) (named slots) (below_slot count s h.0) (below_slots count slots h.1)

below_at : (count : ℕ) (all nodes : List Node) (n : ℕ) → count ≡ length all → AllByRecursion (IsValidNode all) nodes → NamesBelow count (node_at nodes n)
below_at count all [] n e h = All-nil (λ m. m < count)
below_at count all (x ∷ nodes) zero e h = All-from_recursion (λ m. m < count) (named (slots_of x)) (below_slots count (slots_of x) (subst (λ k. AllByRecursion (IsValidSlot k) (slots_of x)) (sym e) (recursion_from_All (IsValidSlot (length all)) (slots_of x) h.0.slots)))
below_at count all (x ∷ nodes) (suc n) e h = below_at count all nodes n e h.1

pub names_below : (g : Graph) → IsValid g → (n : ℕ) → NamesBelow (length g.nodes) (node_at g.nodes n)
names_below g valid n = below_at (length g.nodes) g.nodes g.nodes n refl (recursion_from_All (IsValidNode g.nodes) g.nodes valid.each)

pub begins : (g : Graph) (nodes : List Node) → nodes ≡ g.nodes → IsValid g → (w w' : Walk) → IsUnvisited (length nodes) w → w'.places.items ≡ w.places.items → w'.order.items ≡ w.order.items → w'.waiting.items ≡ w.waiting.items ++ named_by g.root → IsKept (length nodes) w' × (reached nodes w' ≡ visited_of g)
unfolding visited_of
begins g nodes same valid w w' u places order waiting = (
  begins_kept (length nodes) g.root w w' u (subst (λ (ns : List Node). IsValidSlot (length ns) g.root) (sym same) valid.valid_root) places order waiting,
  begins_reached nodes g.root w w' u places order waiting ∙ ap (λ (ns : List Node). walk (suc (length ns)) ns [] (g.root ∷ [])) same,
)
