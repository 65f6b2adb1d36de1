-- The graph of a static tree.
use Rattle.std.specs.Prelude.{ℕ, ◌+◌, pos, Bool, List, [], ◌∷◌, ◌++◌, length}
use Rattle.std.specs.Ordering.{nat_cmp, match_ordering}
use Rattle.std.specs.Cmp.Lexicographic.{slice_cmp}
use Rattle.flight_value.specs.declared.graph.Atom.TheVariants as atom
use Rattle.flight_value.specs.declared.graph.Slot.{Slot}
use Rattle.flight_value.specs.declared.graph.Slot.TheVariants as slot
use Rattle.flight_value.specs.declared.graph.Prop.{Prop}
use Rattle.flight_value.specs.declared.graph.Node.{Node}
use Rattle.flight_value.specs.declared.graph.Node.TheVariants as node
use Rattle.flight_value.specs.declared.graph.Graph.{Graph}
use Rattle.flight_top.specs.Static.{Static, null, boolean, whole, text, array, object, element, Items, no_items, item_and, Props, no_props, prop_and}

-- ---- properties by the bytes of their names

-- the properties with one more at its place
abbrev pub put : List ℕ → Static → Props → Props
put k t no_props = prop_and k t no_props
put k t (prop_and l u props) = match_ordering (slice_cmp nat_cmp k l) (prop_and k t (prop_and l u props)) (prop_and l t props) (prop_and l u (put k t props))

abbrev mutual
  -- the tree with all properties in order
  pub ordered : Static → Static
  ordered null = null
  ordered (boolean truth) = boolean truth
  ordered (whole n) = whole n
  ordered (text bytes) = text bytes
  ordered (array items) = array (ordered_items items)
  ordered (object props) = object (ordered_among props no_props)
  ordered (element tag props) = element tag (ordered_among props no_props)

  pub ordered_items : Items → Items
  ordered_items no_items = no_items
  ordered_items (item_and tree items) = item_and (ordered tree) (ordered_items items)

  -- the properties, put among some that are in order
  pub ordered_among : Props → Props → Props
  ordered_among no_props found = found
  ordered_among (prop_and named value props) found = ordered_among props (put named (ordered value) found)

-- ---- nodes, each before those in its slots

-- the slot that a tree fills, where its own node, if it has one, gets number n
abbrev pub slot_at : ℕ → Static → Slot
slot_at n null = slot.Atom atom.Null
slot_at n (boolean truth) = slot.Atom (atom.Bool truth)
slot_at n (whole m) = slot.Atom (atom.Whole (pos m))
slot_at n (text bytes) = slot.Atom (atom.Text bytes)
slot_at n (array items) = slot.Node n
slot_at n (object props) = slot.Node n
slot_at n (element tag props) = slot.Node n

abbrev mutual
  -- the nodes of a tree, from number n on; the props of an element are a node of their own
  pub nodes_at : ℕ → Static → List Node
  nodes_at n null = []
  nodes_at n (boolean truth) = []
  nodes_at n (whole m) = []
  nodes_at n (text bytes) = []
  nodes_at n (array items) = node.Array (item_slots (n + 1) items) ∷ item_nodes (n + 1) items
  nodes_at n (object props) = node.Object (slots_named (n + 1) props) ∷ prop_nodes (n + 1) props
  nodes_at n (element tag props) =
      node.Element (slot.Atom (atom.Text tag)) (slot.Atom atom.Null) (slot.Node (n + 1)) ∷ node.Object (slots_named (n + 1 + 1) props) ∷ prop_nodes (n + 1 + 1) props

  pub item_nodes : ℕ → Items → List Node
  item_nodes n no_items = []
  item_nodes n (item_and tree items) = nodes_at n tree ++ item_nodes (n + length (nodes_at n tree)) items

  pub item_slots : ℕ → Items → List Slot
  item_slots n no_items = []
  item_slots n (item_and tree items) = slot_at n tree ∷ item_slots (n + length (nodes_at n tree)) items

  pub prop_nodes : ℕ → Props → List Node
  prop_nodes n no_props = []
  prop_nodes n (prop_and named value props) = nodes_at n value ++ prop_nodes (n + length (nodes_at n value)) props

  pub slots_named : ℕ → Props → List Prop
  slots_named n no_props = []
  slots_named n (prop_and named value props) = record { name = named; slot = slot_at n value } ∷ slots_named (n + length (nodes_at n value)) props

-- the graph of a tree
abbrev pub graph_of : Static → Graph
graph_of tree = record { root = slot_at 0 (ordered tree); nodes = nodes_at 0 (ordered tree) }
