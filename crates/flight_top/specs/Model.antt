-- The graph that a model row's JSON means, where nothing in it refers to another place.
use Rattle.std.specs.Prelude.{ℕ, ◌+◌, ◌-◌, ◌^◌, ◌<◌, ◌≡◌, ◌==◌, nat_lt, ◌&&◌, is_some, if◌then◌else◌, Bool, true, false, ℤ, pos, negsuc, List, [], ◌∷◌, ◌++◌, length, map, Option, Some, None, unwrap_or}
use Rattle.serde_json.specs.Data.{Num, unsigned, negative, float, Data, null, boolean, number, string, array, object, Items, no_items, item, Members, no_members, member}
use Rattle.serde_json.specs.Read.{read}
use Rattle.flight_value.specs.declared.graph.Atom.{Atom}
use Rattle.flight_value.specs.declared.graph.Atom.TheVariants as atom
use Rattle.flight_value.specs.declared.graph.Slot.{Slot}
use Rattle.flight_value.specs.declared.graph.Slot.TheVariants as slot
use Rattle.flight_value.specs.declared.graph.Prop.{Prop}
use Rattle.flight_value.specs.declared.graph.Node.{Node}
use Rattle.flight_value.specs.declared.graph.Node.TheVariants as node
use Rattle.flight_value.specs.declared.graph.Graph.{Graph}

-- ---- which JSON is plain

-- a whole number within 53 bits, written without fraction or exponent and not as -0
abbrev pub whole_of : Num → Option ℤ
whole_of (unsigned n) = if nat_lt n (2 ^ 53) then Some (pos n) else None
whole_of (negative (pos n)) = None
whole_of (negative (negsuc n)) = if nat_lt n (2 ^ 53 - 1) then Some (negsuc n) else None
whole_of (float x) = None

-- what a string stands for: itself, or behind `$` what begins with another `$`
abbrev pub text_of : List ℕ → Option (List ℕ)
text_of [] = Some []
text_of (b ∷ []) = if b == 36 then None else Some (b ∷ [])
text_of (b ∷ c ∷ bs) = if b == 36 then (if c == 36 then Some (c ∷ bs) else None) else Some (b ∷ c ∷ bs)

-- the string `$`
abbrev pub is_dollar : List ℕ → Bool
is_dollar (b ∷ []) = b == 36
is_dollar s = false

-- the mark that an element begins with
abbrev pub is_mark : Data → Bool
is_mark (string s) = is_dollar s
is_mark d = false

abbrev pub is_marked : Items → Bool
is_marked no_items = false
is_marked (item d ds) = is_mark d

abbrev pub is_key : Data → Bool
is_key null = true
is_key (string s) = true
is_key d = false

-- behind the mark a type, a key that is null or a text, and props
abbrev pub has_element_form : Items → Bool
has_element_form (item type (item key (item props no_items))) = is_key key
has_element_form ds = false

-- each number is whole, each array with a mark is an element, and each other string is a text
abbrev mutual
  pub is_plain : Data → Bool
  is_plain null = true
  is_plain (boolean b) = true
  is_plain (number x) = is_some (whole_of x)
  is_plain (string s) = is_some (text_of s)
  is_plain (array ds) = is_array_plain ds
  is_plain (object ms) = are_members_plain ms

  pub are_plain : Items → Bool
  are_plain no_items = true
  are_plain (item d ds) = is_plain d && are_plain ds

  pub is_array_plain : Items → Bool
  is_array_plain no_items = true
  is_array_plain (item d ds) = if is_mark d then has_element_form ds && are_plain ds else is_plain d && are_plain ds

  pub are_members_plain : Members → Bool
  are_members_plain no_members = true
  are_members_plain (member name d ms) = is_plain d && are_members_plain ms

-- ---- the graph, with a node before the nodes in its slots

abbrev pub element_of : List Slot → Node
element_of (type ∷ key ∷ props ∷ []) = node.Element type key props
element_of slots = node.Array slots

-- the slot that a value fills, where its own node, if it has one, gets number n
abbrev pub slot_at : ℕ → Data → Slot
slot_at n null = slot.Atom atom.Null
slot_at n (boolean b) = slot.Atom (atom.Bool b)
slot_at n (number x) = slot.Atom (atom.Whole (unwrap_or (whole_of x) (pos 0)))
slot_at n (string s) = slot.Atom (atom.Text (unwrap_or (text_of s) []))
slot_at n (array ds) = slot.Node n
slot_at n (object ms) = slot.Node n

abbrev mutual
  -- the nodes of a value, from number n on
  pub nodes_at : ℕ → Data → List Node
  nodes_at n null = []
  nodes_at n (boolean b) = []
  nodes_at n (number x) = []
  nodes_at n (string s) = []
  nodes_at n (array ds) = array_node (n + 1) ds ∷ array_nodes (n + 1) ds
  nodes_at n (object ms) = node.Object (member_props (n + 1) ms) ∷ member_nodes (n + 1) ms

  pub item_nodes : ℕ → Items → List Node
  item_nodes n no_items = []
  item_nodes n (item d ds) = nodes_at n d ++ item_nodes (n + length (nodes_at n d)) ds

  pub item_slots : ℕ → Items → List Slot
  item_slots n no_items = []
  item_slots n (item d ds) = slot_at n d ∷ item_slots (n + length (nodes_at n d)) ds

  -- the node of an array, and those behind it from number n on
  pub array_node : ℕ → Items → Node
  array_node n no_items = node.Array []
  array_node n (item d ds) = if is_mark d then element_of (item_slots n ds) else node.Array (slot_at n d ∷ item_slots (n + length (nodes_at n d)) ds)

  pub array_nodes : ℕ → Items → List Node
  array_nodes n no_items = []
  array_nodes n (item d ds) = if is_mark d then item_nodes n ds else nodes_at n d ++ item_nodes (n + length (nodes_at n d)) ds

  pub member_nodes : ℕ → Members → List Node
  member_nodes n no_members = []
  member_nodes n (member name d ms) = nodes_at n d ++ member_nodes (n + length (nodes_at n d)) ms

  pub member_props : ℕ → Members → List Prop
  member_props n no_members = []
  member_props n (member name d ms) = record { name = name; slot = slot_at n d } ∷ member_props (n + length (nodes_at n d)) ms

abbrev pub graph_of : Data → Graph
graph_of d = record { root = slot_at 0 d; nodes = nodes_at 0 d }

-- a payload's JSON is plain, and means this graph
pub record MeansGraph (payload : List ℕ) (graph : Graph) : Type 0 where
  pub json : Data
  pub reads : read payload ≡ Some json
  pub plain : is_plain json ≡ true
  pub is_graph : graph ≡ graph_of json
