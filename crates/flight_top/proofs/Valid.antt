-- The graph of plain JSON is valid.
use Rattle.std.proofs.Common.{◌≡◌, ℕ, ◌+◌, ◌-◌, ◌^◌, ◌<◌, ◌≤◌, List, [], ◌∷◌, ◌++◌, length, map, refl, sym, ◌∙◌, ap, subst, append_assoc, append-nil, length-append, arith, true, false, Bool, All, Option, Some, None, is_some, unwrap_or, nat_lt, ◌&&◌}
use Rattle.std.specs.Prelude.{ℤ, pos, negsuc, ◌≤ℤ◌, if◌then◌else◌}
use Rattle.std.specs.List.{AllByRecursion}
use Rattle.serde_json.specs.Data.{Num, unsigned, negative, float, Data, null, boolean, number, string, array, object, Items, no_items, item, Members, no_members, member}
use lib.Dec.{le→leb}
use Rattle.std.proofs.lemmas.Bool.{false≢true, ltb-true}
use Rattle.std.proofs.lemmas.List.Elements.{All-from_recursion, recursion_from_All}
use Rattle.flight_value.specs.Graph.{IsSafe, IsValidSlot, IsValidNode, IsValidKind, IsValid, slots_of}
use Rattle.flight_value.specs.declared.graph.Slot.{Slot}
use Rattle.flight_value.specs.declared.graph.Node.{Node}
use Rattle.flight_value.specs.declared.graph.Node.TheVariants as node
use Rattle.flight_top.specs.Model.{whole_of, text_of, is_mark, is_marked, has_element_form, is_plain, is_array_plain, are_plain, are_members_plain, element_of, slot_at, nodes_at, array_node, array_nodes, item_nodes, item_slots, member_nodes, member_props, graph_of}
use Rattle.flight_top.specs.Fine.{IsFine}

-- ---- slots within a count, by recursion

abbrev Within : ℕ → List Slot → Type 0
Within count [] = Unit {0}
Within count (s ∷ ss) = IsValidSlot count s × Within count ss

abbrev NodesWithin : ℕ → List Node → Type 0
NodesWithin count [] = Unit {0}
NodesWithin count (n ∷ ns) = Within count (slots_of n) × NodesWithin count ns

nodes_within-append : (count : ℕ) (ms ns : List Node) → NodesWithin count ms → NodesWithin count ns → NodesWithin count (ms ++ ns)
nodes_within-append count [] ns h k = k
nodes_within-append count (m ∷ ms) ns h k = (h.0, nodes_within-append count ms ns h.1 k)

-- the parts of a test
both : (a b : Bool) → (a && b) ≡ true → (a ≡ true) × (b ≡ true)
both true b h = (refl, h)
both false b h = absurd (false≢true h)

safe_pos : (b : Bool) (n : ℕ) → (b ≡ true → n < 2 ^ 53) → is_some (if b then Some (pos n) else None) ≡ true → IsSafe (unwrap_or (if b then Some (pos n) else None) (pos 0))
safe_pos true n small h = let lt = small refl in (record { le = tt }, record { le = le→leb n (2 ^ 53 - 1) (omega (arith, lt)) })
safe_pos false n small h = absurd (false≢true h)

safe_neg : (b : Bool) (n : ℕ) → (b ≡ true → n < 2 ^ 53 - 1) → is_some (if b then Some (negsuc n) else None) ≡ true → IsSafe (unwrap_or (if b then Some (negsuc n) else None) (pos 0))
safe_neg true n small h = let lt = small refl in (record { le = le→leb n (2 ^ 53 - 2) (omega (arith, lt)) }, record { le = tt })
safe_neg false n small h = absurd (false≢true h)

-- a number that is whole is safe
safe : (x : Num) → is_some (whole_of x) ≡ true → IsSafe (unwrap_or (whole_of x) (pos 0))
safe (unsigned n) h = safe_pos (nat_lt n (2 ^ 53)) n (λ e. ltb-true n (2 ^ 53) e) h
safe (negative (pos n)) h = absurd (false≢true h)
safe (negative (negsuc n)) h = safe_neg (nat_lt n (2 ^ 53 - 1)) n (λ e. ltb-true n (2 ^ 53 - 1) e) h
safe (float x) h = absurd (false≢true h)

-- ---- the slots of plain JSON are within the count of its nodes

-- an array's own slots, and those of the nodes behind it
abbrev ArrayWithin : ℕ → ℕ → Items → Type 0
ArrayWithin count n ds = Within count (slots_of (array_node n ds)) × NodesWithin count (array_nodes n ds)

element_within : (count : ℕ) (slots : List Slot) → Within count slots → Within count (slots_of (element_of slots))
element_within count [] h = h
element_within count (a ∷ []) h = h
element_within count (a ∷ b ∷ []) h = h
element_within count (a ∷ b ∷ c ∷ []) h = h
element_within count (a ∷ b ∷ c ∷ d ∷ ss) h = h

array_within : (marked : Bool) (count n : ℕ) (d : Data) (ds : Items) → is_mark d ≡ marked
    → (marked ≡ true → Within count (item_slots n ds) × NodesWithin count (item_nodes n ds))
    → (marked ≡ false → Within count (slot_at n d ∷ item_slots (n + length (nodes_at n d)) ds) × NodesWithin count (nodes_at n d ++ item_nodes (n + length (nodes_at n d)) ds))
    → ArrayWithin count n (item d ds)
array_within true count n d ds e h k = let w = h refl in rw e (element_within count (item_slots n ds) w.0, w.1)
array_within false count n d ds e h k = let w = k refl in rw e (w.0, w.1)

-- how many nodes an array has behind its own
behind_len : (marked : Bool) (n : ℕ) (d : Data) (ds : Items) → is_mark d ≡ marked
    → (marked ≡ true → length (array_nodes n (item d ds)) ≡ length (item_nodes n ds))
    × (marked ≡ false → length (array_nodes n (item d ds)) ≡ length (nodes_at n d) + length (item_nodes (n + length (nodes_at n d)) ds))
behind_len true n d ds e = (λ t. rw e refl, λ f. absurd (false≢true (sym f)))
behind_len false n d ds e = (λ t. absurd (false≢true t), λ f. rw e (length-append (nodes_at n d) (item_nodes (n + length (nodes_at n d)) ds)))

-- what the test of an array says
array_parts : (marked : Bool) (d : Data) (ds : Items) → is_mark d ≡ marked → is_array_plain (item d ds) ≡ true
    → (marked ≡ true → are_plain ds ≡ true) × (marked ≡ false → (is_plain d ≡ true) × (are_plain ds ≡ true))
array_parts true d ds e h = (λ t. (both (has_element_form ds) (are_plain ds) (rw e at h)).1, λ f. absurd (false≢true (sym f)))
array_parts false d ds e h = (λ t. absurd (false≢true t), λ f. both (is_plain d) (are_plain ds) (rw e at h))

mutual
  slot_within : (count n : ℕ) (d : Data) → is_plain d ≡ true → n + length (nodes_at n d) ≤ count → IsValidSlot count (slot_at n d)
  slot_within count n null h fits = tt
  slot_within count n (boolean b) h fits = tt
  slot_within count n (number x) h fits = safe x h
  slot_within count n (string s) h fits = tt
  slot_within count n (array ds) h fits = omega arith
  slot_within count n (object ms) h fits = omega arith

  nodes_within : (count n : ℕ) (d : Data) → is_plain d ≡ true → n + length (nodes_at n d) ≤ count → NodesWithin count (nodes_at n d)
  nodes_within count n null h fits = tt
  nodes_within count n (boolean b) h fits = tt
  nodes_within count n (number x) h fits = tt
  nodes_within count n (string s) h fits = tt
  nodes_within count n (array ds) h fits = let w = array_nodes_within count (n + 1) ds h (omega arith) in (w.0, w.1)
  nodes_within count n (object ms) h fits = let w = members_within count (n + 1) ms h (omega arith) in (w.0, w.1)

  array_nodes_within : (count n : ℕ) (ds : Items) → is_array_plain ds ≡ true → n + length (array_nodes n ds) ≤ count → ArrayWithin count n ds
  array_nodes_within count n no_items h fits = (tt, tt)
  array_nodes_within count n (item d ds) h fits =
      let parts = array_parts (is_mark d) d ds refl h in
      let lens = behind_len (is_mark d) n d ds refl in
      array_within (is_mark d) count n d ds refl
      (λ t. let len = lens.0 t in items_within count n ds (parts.0 t) (omega (arith, len)))
      (λ f.
      let len = lens.1 f in
      let first = (parts.1 f).0 in
      let rest = items_within count (n + length (nodes_at n d)) ds (parts.1 f).1 (omega (arith, len)) in (
        (slot_within count n d first (omega (arith, len)), rest.0),
        nodes_within-append count (nodes_at n d) (item_nodes (n + length (nodes_at n d)) ds) (nodes_within count n d first (omega (arith, len))) rest.1,
      ))

  items_within : (count n : ℕ) (ds : Items) → are_plain ds ≡ true → n + length (item_nodes n ds) ≤ count → Within count (item_slots n ds) × NodesWithin count (item_nodes n ds)
  items_within count n no_items h fits = (tt, tt)
  items_within count n (item d ds) h fits =
      let parts = both (is_plain d) (are_plain ds) h in
      let len = length-append (nodes_at n d) (item_nodes (n + length (nodes_at n d)) ds) in
      let rest = items_within count (n + length (nodes_at n d)) ds parts.1 (omega (arith, len)) in (
        (slot_within count n d parts.0 (omega (arith, len)), rest.0),
        nodes_within-append count (nodes_at n d) (item_nodes (n + length (nodes_at n d)) ds) (nodes_within count n d parts.0 (omega (arith, len))) rest.1,
      )

  members_within : (count n : ℕ) (ms : Members) → are_members_plain ms ≡ true → n + length (member_nodes n ms) ≤ count → Within count (map (λ p. p.slot) (member_props n ms)) × NodesWithin count (member_nodes n ms)
  members_within count n no_members h fits = (tt, tt)
  members_within count n (member name d ms) h fits =
      let parts = both (is_plain d) (are_members_plain ms) h in
      let len = length-append (nodes_at n d) (member_nodes (n + length (nodes_at n d)) ms) in
      let rest = members_within count (n + length (nodes_at n d)) ms parts.1 (omega (arith, len)) in (
        (slot_within count n d parts.0 (omega (arith, len)), rest.0),
        nodes_within-append count (nodes_at n d) (member_nodes (n + length (nodes_at n d)) ms) (nodes_within count n d parts.0 (omega (arith, len))) rest.1,
      )

-- ---- valid nodes

-- no node of plain JSON is a server reference
abbrev IsCommon : Node → Type 0
IsCommon (node.Action id bound) = ⊥
IsCommon n = Unit {0}

abbrev AreCommon : List Node → Type 0
AreCommon [] = Unit {0}
AreCommon (n ∷ ns) = IsCommon n × AreCommon ns

common-append : (ms ns : List Node) → AreCommon ms → AreCommon ns → AreCommon (ms ++ ns)
common-append [] ns h k = k
common-append (m ∷ ms) ns h k = (h.0, common-append ms ns h.1 k)

element_common : (slots : List Slot) → IsCommon (element_of slots)
element_common [] = tt
element_common (a ∷ []) = tt
element_common (a ∷ b ∷ []) = tt
element_common (a ∷ b ∷ c ∷ []) = tt
element_common (a ∷ b ∷ c ∷ d ∷ ss) = tt

array_common : (marked : Bool) (n : ℕ) (d : Data) (ds : Items) → is_mark d ≡ marked → AreCommon (item_nodes n ds) → AreCommon (nodes_at n d ++ item_nodes (n + length (nodes_at n d)) ds) → IsCommon (array_node n (item d ds)) × AreCommon (array_nodes n (item d ds))
array_common true n d ds e h k = rw e (element_common (item_slots n ds), h)
array_common false n d ds e h k = rw e (tt, k)

mutual
  nodes_common : (n : ℕ) (d : Data) → AreCommon (nodes_at n d)
  nodes_common n null = tt
  nodes_common n (boolean b) = tt
  nodes_common n (number x) = tt
  nodes_common n (string s) = tt
  nodes_common n (array ds) = array_nodes_common (n + 1) ds
  nodes_common n (object ms) = (tt, members_common (n + 1) ms)

  array_nodes_common : (n : ℕ) (ds : Items) → IsCommon (array_node n ds) × AreCommon (array_nodes n ds)
  array_nodes_common n no_items = (tt, tt)
  array_nodes_common n (item d ds) =
      array_common (is_mark d) n d ds refl (items_common n ds) (common-append (nodes_at n d) (item_nodes (n + length (nodes_at n d)) ds) (nodes_common n d) (items_common (n + length (nodes_at n d)) ds))

  items_common : (n : ℕ) (ds : Items) → AreCommon (item_nodes n ds)
  items_common n no_items = tt
  items_common n (item d ds) = common-append (nodes_at n d) (item_nodes (n + length (nodes_at n d)) ds) (nodes_common n d) (items_common (n + length (nodes_at n d)) ds)

  members_common : (n : ℕ) (ms : Members) → AreCommon (member_nodes n ms)
  members_common n no_members = tt
  members_common n (member name d ms) = common-append (nodes_at n d) (member_nodes (n + length (nodes_at n d)) ms) (nodes_common n d) (members_common (n + length (nodes_at n d)) ms)

all_slots : (count : ℕ) (ss : List Slot) → Within count ss → AllByRecursion (IsValidSlot count) ss
all_slots count [] h = tt
all_slots count (s ∷ ss) h = (h.0, all_slots count ss h.1)

valid_kind : (nodes : List Node) (n : Node) → IsCommon n → IsFine n → IsValidKind nodes n
valid_kind nodes (node.Array ss) h fine = tt
valid_kind nodes (node.Object ps) h fine = fine.names
valid_kind nodes (node.Map ps) h fine = tt
valid_kind nodes (node.Set ss) h fine = tt
valid_kind nodes (node.Element a b c) h fine = tt
valid_kind nodes (node.Promise s) h fine = tt
valid_kind nodes (node.Stream f ss e) h fine = tt
valid_kind nodes (node.Action i b) h fine = absurd h

all_nodes : (nodes ns : List Node) → NodesWithin (length nodes) ns → AreCommon ns → AllByRecursion IsFine ns → AllByRecursion (IsValidNode nodes) ns
all_nodes nodes [] h c fine = tt
all_nodes nodes (n ∷ ns) h c fine =
    (record { few = fine.0.few; slots = All-from_recursion (IsValidSlot (length nodes)) (slots_of n) (all_slots (length nodes) (slots_of n) h.0); kind = valid_kind nodes n c.0 fine.0 }, all_nodes nodes ns h.1 c.1 fine.1)

-- plain JSON whose nodes are few and fine means a valid graph
pub graph_valid : (d : Data) → is_plain d ≡ true → length (nodes_at 0 d) < 2 ^ 32 → All IsFine (nodes_at 0 d) → IsValid (graph_of d)
graph_valid d plain few fine = record {
  few = few;
  valid_root = slot_within (length (nodes_at 0 d)) 0 d plain (omega arith);
  each = All-from_recursion (IsValidNode (nodes_at 0 d)) (nodes_at 0 d) (all_nodes (nodes_at 0 d) (nodes_at 0 d) (nodes_within (length (nodes_at 0 d)) 0 d plain (omega arith)) (nodes_common 0 d) (recursion_from_All IsFine (nodes_at 0 d) fine));
}
