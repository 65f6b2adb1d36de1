-- The fields that a graph is sent as.
use Rattle.std.specs.Prelude.{ℕ, zero, suc, ◌+◌, ◌*◌, ◌&&◌, ◌||◌, not, Bool, List, [], ◌∷◌, ◌++◌, flat_map, length, codes, Option, Some, None, if◌then◌else◌}
use Rattle.json.specs.Print.{print}
use Rattle.flight_value.specs.declared.graph.Atom.TheVariants as atom
use Rattle.flight_value.specs.declared.graph.Slot.{Slot}
use Rattle.flight_value.specs.declared.graph.Slot.TheVariants as slot
use Rattle.flight_value.specs.declared.graph.Prop.{Prop}
use Rattle.flight_value.specs.declared.graph.Pair.{Pair}
use Rattle.flight_value.specs.declared.graph.Node.{Node}
use Rattle.flight_value.specs.declared.graph.Node.TheVariants as node
use Rattle.flight_value.specs.declared.graph.Graph.{Graph}
use Rattle.flight_meaning.specs.declared.place.Place.{Place}
use Rattle.flight_meaning.specs.declared.place.Place.TheVariants as place
use Rattle.flight_payload.specs.Tree.{Tree, single, array, object, no_trees, tree_and, no_props, prop_and, trees_of, props_of}
use Rattle.flight_payload.specs.Written.{tokens_of}
use Rattle.flight_graph.specs.Canon.{node_at}
use Rattle.flight_graph.specs.Ordered.{in_order}
use Rattle.flight_reply.specs.declared.field.Field.{Field}
use Rattle.flight_reply_out.specs.declared.origin.Origin.{Origin}
use Rattle.flight_reply_out.specs.declared.home.Home.{Home}
use Rattle.flight_reply_out.specs.Origins.{slot_of, origin_of, is_same}
use Rattle.flight_reply_out.specs.Homes.{has_entries, root_of, homes_of, home_at}

-- what is made of each item and its number, from i on
abbrev pub numbered : {A B : Type 0} → (ℕ → A → B) → ℕ → List A → List B
numbered make i [] = []
numbered make i (x ∷ xs) = make i x ∷ numbered make (suc i) xs

-- ---- values

-- what stands in the slot of an origin, or at the root
abbrev pub Shown : Type 0
Shown = Option Origin → Slot → Tree

-- items, properties, entries and the reference of node n
abbrev pub item_tree : Shown → ℕ → ℕ → Slot → Tree
item_tree show n i s = show (Some (slot_of n i)) s

abbrev pub prop_tree : Shown → ℕ → ℕ → Prop → List ℕ × Tree
prop_tree show n i p = (p.name, show (Some (slot_of n i)) p.slot)

-- an entry, whose key stands in slot i
abbrev pub entry_tree : Shown → ℕ → ℕ → Pair → Tree
entry_tree show n i p = array (tree_and (show (Some (slot_of n i)) p.key) (tree_and (show (Some (slot_of n (i + 1))) p.value) no_trees))

abbrev pub pair_tree : Shown → ℕ → ℕ → Pair → Tree
pair_tree show n i p = entry_tree show n (2 * i) p

abbrev pub action_tree : Shown → ℕ → List ℕ → Slot → Tree
action_tree show n id bound = object (prop_and (codes "bound") (show (Some (slot_of n 0)) bound) (prop_and (codes "id") (single (place.Atom (atom.Text id))) no_props))

-- what is in node n, as a value: a Map is an array of arrays of two, a Set an array, a promise its outcome, and a server
-- reference an object; elements and streams are not sent
abbrev pub value_tree : Shown → ℕ → Node → Tree
value_tree show n (node.Array items) = array (trees_of (numbered (item_tree show n) 0 items))
value_tree show n (node.Object props) = object (props_of (numbered (prop_tree show n) 0 props))
value_tree show n (node.Map pairs) = array (trees_of (numbered (pair_tree show n) 0 pairs))
value_tree show n (node.Set items) = array (trees_of (numbered (item_tree show n) 0 items))
value_tree show n (node.Promise outcome) = show (Some (slot_of n 0)) outcome
value_tree show n (node.Action id bound) = action_tree show n id bound
value_tree show n other = single (place.Atom atom.Null)

-- a node in place: a Map and a Set as a token that names the part of its entries
abbrev pub tree_in_place : Shown → ℕ → Home → Node → Tree
tree_in_place show n home (node.Map pairs) = single (place.Map (root_of home.content))
tree_in_place show n home (node.Set items) = single (place.Set (root_of home.content))
tree_in_place show n home other = value_tree show n other

-- a reference to a node
abbrev pub reference : Home → Node → Place
reference home (node.Promise outcome) = place.Promise home.content
reference home (node.Action id bound) = place.Action home.content
reference home other = place.Value home.place

-- node m is met first here, and stands in place
abbrev pub stands_here : List Node → List Home → Option Origin → ℕ → Bool
stands_here nodes homes here m = is_same (origin_of nodes m) here && not (home_at homes m).apart

-- a slot: no more than so many nodes stand in one another in place
abbrev pub slot_tree : ℕ → List Node → List Home → Shown
slot_tree levels nodes homes here (slot.Atom a) = single (place.Atom a)
slot_tree zero nodes homes here (slot.Node m) = single (reference (home_at homes m) (node_at nodes m))
slot_tree (suc levels) nodes homes here (slot.Node m) =
    if stands_here nodes homes here m then tree_in_place (slot_tree levels nodes homes) m (home_at homes m) (node_at nodes m)
    else single (reference (home_at homes m) (node_at nodes m))

-- a slot of a part
abbrev pub shown : List Node → List Home → Shown
shown nodes homes = slot_tree 40 nodes homes

-- ---- fields

-- a part with its value as JSON
abbrev pub field : ℕ → Tree → Field
field part t = record { name = part; value = print (tokens_of t) }

-- a Map's or Set's own part, and the part of what is in a node
abbrev pub token_fields : List Node → List Home → ℕ → Home → Node → List Field
token_fields nodes homes n home node = if has_entries node && home.apart then field home.place.id (tree_in_place (shown nodes homes) n home node) ∷ [] else []

abbrev pub value_fields : List Node → List Home → ℕ → Home → Node → List Field
value_fields nodes homes n home node = if has_entries node || home.apart then field home.content (value_tree (shown nodes homes) n node) ∷ [] else []

abbrev pub node_fields : List Node → List Home → ℕ → List Field
node_fields nodes homes n = token_fields nodes homes n (home_at homes n) (node_at nodes n) ++ value_fields nodes homes n (home_at homes n) (node_at nodes n)

abbrev pub fields_under : List Node → List Home → Slot → List Field
fields_under nodes homes root = field 0 (shown nodes homes None root) ∷ flat_map (node_fields nodes homes) (in_order (length nodes))

-- the fields of a canon: the root, and then the parts of each node
unfoldable pub fields_of : Graph → List Field
fields_of g = fields_under g.nodes (homes_of g.nodes) g.root
