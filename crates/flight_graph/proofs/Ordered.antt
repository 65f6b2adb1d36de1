-- A graph whose nodes stand in the order of a first visit is its own canon.
use Rattle.std.proofs.Common.{◌≡◌, ℕ, zero, suc, ◌+◌, ◌<◌, ◌≤◌, false, nat_eq, List, [], ◌∷◌, ◌++◌, map, length, take, Some, None, get_or, refl, sym, ◌∙◌, ap, ap₂, arith, inl, inr, length-append}
use Rattle.std.specs.List.{AllByRecursion, flat_map}
use Rattle.std.proofs.lemmas.Bool.Decides.{nat_tests, eqb_tells}
use Rattle.std.proofs.lemmas.List.{map-append, take_more, take_all}
use Rattle.std.proofs.lemmas.List.Elements.{recursion_from_All}
use Rattle.flight_value.specs.Graph.{IsValid, IsValidNode, IsValidSlot, end_slots, slots_of}
use Rattle.flight_value.specs.declared.graph.Slot.{Slot}
use Rattle.flight_value.specs.declared.graph.Slot.TheVariants as slot
use Rattle.flight_value.specs.declared.graph.End.{End}
use Rattle.flight_value.specs.declared.graph.End.TheVariants as end
use Rattle.flight_value.specs.declared.graph.Prop.{Prop}
use Rattle.flight_value.specs.declared.graph.Pair.{Pair}
use Rattle.flight_value.specs.declared.graph.Node.{Node}
use Rattle.flight_value.specs.declared.graph.Node.TheVariants as node
use Rattle.flight_value.specs.declared.graph.Graph.{Graph}
use Rattle.flight_graph.specs.Canon.{canon_of, canon_under, map_end, map_pair, map_prop, map_slots, node_at, place_in, renamed, visited_of}
use Rattle.flight_graph.specs.Ordered.{in_order}
use Rattle.flight_graph.specs.Text.{graph_text, text_of}
use Rattle.flight_graph.proofs.Walks.{place_from-snoc}

-- ---- numbers in order

pub order_long : (n : ℕ) → length (in_order n) ≡ n
order_long zero = refl
order_long (suc n) = length-append (in_order n) (n ∷ []) ∙ omega (arith, order_long n)

pub order_past : (n q : ℕ) → n ≤ q → place_in q (in_order n) ≡ None
order_past zero q h = refl
order_past (suc n) q h =
    let rest : place_in q (in_order n) ≡ None = order_past n q (omega (arith, h)) in
    let test : nat_eq n q ≡ false = grind (arith, nat_tests, h) in
    place_from-snoc 0 q n (in_order n) ∙ rw (rest, test) refl

pub order_at : (n q : ℕ) → q < n → place_in q (in_order n) ≡ Some q
order_at zero q h = absurd (omega (arith, h))
order_at (suc n) q h =
    elim (eqb_tells n q) [
      | inl e ↦
          let same = e.1 in
          let rest : place_in q (in_order n) ≡ None = order_past n q (omega (arith, same)) in
          let count : 0 + length (in_order n) ≡ q = omega (arith, order_long n, same) in
          place_from-snoc 0 q n (in_order n) ∙ rw (rest, e.0) (ap Some count)
      | inr e ↦
          let less : q < n = grind (arith, h, e.1) in
          let rest : place_in q (in_order n) ≡ Some q = order_at n q less in
          place_from-snoc 0 q n (in_order n) ∙ rw rest refl
    ]

-- ---- a node with each slot as it is

IsKept : (Slot → Slot) → List Slot → Type 0
IsKept f slots = AllByRecursion (λ s. f s ≡ s) slots

kept_front : (f : Slot → Slot) (s t : List Slot) → IsKept f (s ++ t) → IsKept f s
unfolding IsKept
kept_front f [] t h = tt
kept_front f (x ∷ s) t h = (h.0, kept_front f s t h.1)

kept_back : (f : Slot → Slot) (s t : List Slot) → IsKept f (s ++ t) → IsKept f t
unfolding IsKept
kept_back f [] t h = h
kept_back f (x ∷ s) t h = kept_back f s t h.1

slots_kept : (f : Slot → Slot) (slots : List Slot) → IsKept f slots → map f slots ≡ slots
unfolding IsKept
slots_kept f [] h = refl
slots_kept f (s ∷ slots) h = ap₂ (λ x xs. x ∷ xs) h.0 (slots_kept f slots h.1)

props_kept : (f : Slot → Slot) (props : List Prop) → IsKept f (map (λ p. p.slot) props) → map (map_prop f) props ≡ props
unfolding IsKept
props_kept f [] h = refl
props_kept f (p ∷ props) h = ap₂ (λ x (xs : List Prop). record { name = p.name; slot = x } ∷ xs) h.0 (props_kept f props h.1)

pairs_kept : (f : Slot → Slot) (pairs : List Pair) → IsKept f (flat_map (λ p. p.key ∷ p.value ∷ []) pairs) → map (map_pair f) pairs ≡ pairs
unfolding IsKept
pairs_kept f [] h = refl
pairs_kept f (p ∷ pairs) h =
    ap (λ x. record { key = x; value = f p.value } ∷ map (map_pair f) pairs) h.0
    ∙ ap₂ (λ x (xs : List Pair). record { key = p.key; value = x } ∷ xs) h.1.0 (pairs_kept f pairs h.1.1)

end_kept : (f : Slot → Slot) (e : End) → IsKept f (end_slots e) → map_end f e ≡ e
unfolding IsKept
end_kept f end.Going h = refl
end_kept f (end.Closed s) h = ap end.Closed h.0
end_kept f (end.Broken digest) h = refl

node_kept : (f : Slot → Slot) (n : Node) → IsKept f (slots_of n) → map_slots f n ≡ n
unfolding IsKept
node_kept f (node.Array items) h = ap node.Array (slots_kept f items h)
node_kept f (node.Object props) h = ap node.Object (props_kept f props h)
node_kept f (node.Map pairs) h = ap node.Map (pairs_kept f pairs h)
node_kept f (node.Set items) h = ap node.Set (slots_kept f items h)
node_kept f (node.Element tag key props) h = ap (λ x. node.Element x (f key) (f props)) h.0 ∙ ap₂ (λ x y. node.Element tag x y) h.1.0 h.1.1.0
node_kept f (node.Promise outcome) h = ap node.Promise h.0
node_kept f (node.Stream flow items e) h = ap₂ (λ x y. node.Stream flow x y) (slots_kept f items (kept_front f items (end_slots e) h)) (end_kept f e (kept_back f items (end_slots e) h))
node_kept f (node.Action id bound) h = ap (node.Action id) h.0

-- ---- slots under the numbers in order

slot_renamed : (n : ℕ) (s : Slot) → IsValidSlot n s → renamed (in_order n) s ≡ s
slot_renamed n (slot.Atom a) h = refl
slot_renamed n (slot.Node q) h = rw (order_at n q h) refl

slots_renamed : (n : ℕ) (slots : List Slot) → AllByRecursion (IsValidSlot n) slots → IsKept (renamed (in_order n)) slots
unfolding IsKept
slots_renamed n [] h = tt
slots_renamed n (s ∷ slots) h = (slot_renamed n s h.0, slots_renamed n slots h.1)

node_renamed : (all : List Node) (n : Node) → IsValidNode all n → map_slots (renamed (in_order (length all))) n ≡ n
node_renamed all n h = node_kept (renamed (in_order (length all))) n (slots_renamed (length all) (slots_of n) (recursion_from_All (IsValidSlot (length all)) (slots_of n) h.slots))

-- ---- the nodes

node_got : (nodes : List Node) (n : ℕ) → n < length nodes → node_at nodes n ≡ get_or nodes n (node.Array [])
node_got [] n h = absurd (omega (arith, h))
node_got (x ∷ nodes) zero h = refl
node_got (x ∷ nodes) (suc n) h = node_got nodes n (omega (arith, h))

valid_got : (all nodes : List Node) (n : ℕ) → n < length nodes → AllByRecursion (IsValidNode all) nodes → IsValidNode all (node_at nodes n)
valid_got all [] n h v = absurd (omega (arith, h))
valid_got all (x ∷ nodes) zero h v = v.0
valid_got all (x ∷ nodes) (suc n) h v = valid_got all nodes n (omega (arith, h)) v.1

nodes_renamed : (nodes : List Node) (k : ℕ) → AllByRecursion (IsValidNode nodes) nodes → k ≤ length nodes → map (λ n. map_slots (renamed (in_order (length nodes))) (node_at nodes n)) (in_order k) ≡ take k nodes
nodes_renamed nodes zero v h = refl
nodes_renamed nodes (suc k) v h =
    let f : ℕ → Node = λ n. map_slots (renamed (in_order (length nodes))) (node_at nodes n) in
    let less : k < length nodes = omega (arith, h) in
    let on : k + 1 ≡ suc k = omega arith in
    let one : f k ≡ get_or nodes k (node.Array []) = node_renamed nodes (node_at nodes k) (valid_got nodes nodes k less v) ∙ node_got nodes k less in
    map-append f (in_order k) (k ∷ [])
    ∙ (ap₂ (λ xs x. xs ++ x ∷ []) (nodes_renamed nodes k v (omega (arith, h))) one
    ∙ (sym (take_more nodes k (node.Array []) less) ∙ ap (λ n. take n nodes) on))

-- ---- the graph

under_order : (g : Graph) → IsValid g → canon_under g (in_order (length g.nodes)) ≡ g
under_order g valid =
    ap₂ (λ root (nodes : List Node). record { root = root; nodes = nodes }) (slot_renamed (length g.nodes) g.root valid.valid_root)
    (nodes_renamed g.nodes (length g.nodes) (recursion_from_All (IsValidNode g.nodes) g.nodes valid.each) (omega arith) ∙ take_all (length g.nodes) g.nodes (omega arith))

pub ordered_canon : (g : Graph) → IsValid g → visited_of g ≡ in_order (length g.nodes) → canon_of g ≡ g
unfolding canon_of
ordered_canon g valid e = ap (canon_under g) e ∙ under_order g valid

pub ordered_text : (g : Graph) → IsValid g → visited_of g ≡ in_order (length g.nodes) → text_of g ≡ graph_text g
unfolding text_of
ordered_text g valid e = ap graph_text (ordered_canon g valid e)
