-- A node laid out: what it is, what its slots lead to, and the text under keys of nodes.
use Rattle.std.specs.Prelude.{ℕ, ◌+◌, ◌<◌, ◌^◌, ◌≡◌, List, [], ◌∷◌, ◌++◌, length, map, slice_get, Some, unwrap_or}
use Rattle.std.specs.List.{AllZip}
use Rattle.flight_value.specs.declared.graph.Atom.TheVariants as atom
use Rattle.flight_value.specs.declared.graph.Slot.{Slot}
use Rattle.flight_value.specs.declared.graph.Slot.TheVariants as slot
use Rattle.flight_value.specs.declared.graph.Prop.{Prop}
use Rattle.flight_value.specs.declared.graph.Pair.{Pair}
use Rattle.flight_value.specs.declared.graph.Node.{Node}
use Rattle.flight_value.specs.declared.graph.Node.TheVariants as node
use Rattle.flight_value.specs.Store as store
use Rattle.flight_value.specs.Store.{Label, Shape}
use Rattle.flight_meaning.specs.declared.place.Place.{Place}
use Rattle.flight_meaning.specs.declared.place.Named.{Named}
use Rattle.flight_meaning.specs.declared.place.PlacedRow.{PlacedRow}
use Rattle.flight_meaning.specs.Linked as linked
use Rattle.flight_meaning.specs.Meaning.{Written, value_of, entries, HasShape}
use Rattle.flight_graph.specs.Text.{graph_text}
use Rattle.flight_link.specs.declared.key.NodeKey.{NodeKey}
use Rattle.flight_link.specs.declared.key.NodeKey.TheVariants.{Made, Promise, Action}
use Rattle.flight_link.specs.declared.laid.Head.{Head}
use Rattle.flight_link.specs.declared.laid.Head.TheVariants as head
use Rattle.flight_link.specs.declared.numbers.Numbers.{Numbers}
use Rattle.flight_link.specs.declared.target.Target.{Target}
use Rattle.flight_link.specs.declared.target.Target.TheVariants as target
use Rattle.flight_link.specs.Nodes.{place_in}
use Rattle.flight_link.specs.Targets.{IsTargetOf}
use Rattle.flight_link.specs.Numbering.{number_of}
use Rattle.flight_link.specs.Drawing.{identity_of, Draws, AreDrawn}

-- ---- what stands under a key

abbrev pub label_in : Head → Label
label_in head.Array = store.array
label_in (head.Object named) = store.object (map (λ n. n.name) named.now)
label_in head.Map = store.map_of
label_in head.Set = store.set_of
label_in head.Element = store.element
label_in head.Promise = store.promise
label_in (head.Action id) = store.action id.now

-- so many slots it may have: a property has one, and an entry of a Map two
abbrev pub IsCount : Head → ℕ → Type 0
IsCount head.Array n = Unit {0}
IsCount (head.Object named) n = n ≡ length named.now
IsCount head.Map n = (m : ℕ) × (n ≡ m + m)
IsCount head.Set n = Unit {0}
IsCount head.Element n = n ≡ 3
IsCount head.Promise n = n ≡ 1
IsCount (head.Action id) n = n ≡ 1

-- the node of a key, and in order what its slots lead to
pub record IsLaid (rows : List PlacedRow) (key : NodeKey) (head : Head) (targets : List Target) : Type 0 where
  pub shape : Shape Written
  pub stands : HasShape rows (identity_of rows key) shape
  pub label : label_in head ≡ shape.label
  pub slots : AllZip (IsTargetOf rows) shape.slots targets
  pub count : IsCount head (length targets)
  pub few : length targets < 2 ^ 32

-- ---- on the way

-- the places of the row of this number
abbrev pub ArePlacesOf : List PlacedRow → ℕ → List Place → Type 0
ArePlacesOf rows row places = (n : ℕ) → place_in rows (record { row = row; place = n }) ≡ slice_get places n

-- behind the old targets stand those of these slots
abbrev pub Adds : List PlacedRow → List Written → List Target → List Target → Type 0
Adds rows slots old new = (more : List Target) × (new ≡ old ++ more) × AllZip (IsTargetOf rows) slots more

-- of the entries at these numbers
abbrev pub AddsEntries : List PlacedRow → linked.Spot → List ℕ → List Target → List Target → Type 0
AddsEntries rows s numbers old new = (slots : List Written) × (entries rows s numbers ≡ Some slots) × Adds rows slots old new

-- ---- slots

-- the number of a key; of a key without one, some number
abbrev pub number_in : List PlacedRow → Numbers → NodeKey → ℕ
number_in rows n key = unwrap_or (number_of rows n key) 0

abbrev pub slot_of : List PlacedRow → Numbers → Target → Slot
slot_of rows n (target.Atom a) = slot.Atom a.now
slot_of rows n (target.Node spot) = slot.Node (number_in rows n (Made spot))
slot_of rows n (target.Promise id) = slot.Node (number_in rows n (Promise id))
slot_of rows n (target.Action id) = slot.Node (number_in rows n (Action id))
slot_of rows n (target.Awaits id) = slot.Atom atom.Pending
slot_of rows n target.Lost = slot.Atom atom.Pending

abbrev pub slots_for : List PlacedRow → Numbers → List Target → List Slot
slots_for rows n targets = map (slot_of rows n) targets

-- a key has a number
abbrev pub IsNumbered : List PlacedRow → Numbers → NodeKey → Type 0
IsNumbered rows n key = (i : ℕ) × (number_of rows n key ≡ Some i)

-- the node to which it leads has one
abbrev pub LeadsToNumber : List PlacedRow → Numbers → Target → Type 0
LeadsToNumber rows n (target.Node spot) = IsNumbered rows n (Made spot)
LeadsToNumber rows n (target.Promise id) = IsNumbered rows n (Promise id)
LeadsToNumber rows n (target.Action id) = IsNumbered rows n (Action id)
LeadsToNumber rows n t = Unit {0}

-- ---- nodes

abbrev pub props_of : List Named → List Slot → List Prop
props_of (n ∷ named) (s ∷ slots) = record { name = n.name; slot = s } ∷ props_of named slots
props_of named slots = []

abbrev pub pairs_of : List Slot → List Pair
pairs_of (key ∷ value ∷ slots) = record { key = key; value = value } ∷ pairs_of slots
pairs_of slots = []

-- with so many slots as it may have; with others, some node
abbrev pub node_with : Head → List Slot → Node
node_with head.Array slots = node.Array slots
node_with (head.Object named) slots = node.Object (props_of named.now slots)
node_with head.Map slots = node.Map (pairs_of slots)
node_with head.Set slots = node.Set slots
node_with head.Element (tag ∷ key ∷ props ∷ slots) = node.Element tag key props
node_with head.Promise (outcome ∷ slots) = node.Promise outcome
node_with (head.Action id) (bound ∷ slots) = node.Action id.now bound
node_with h slots = node.Array slots

-- ---- the text

-- of a graph whose nodes stand under these keys
pub record IsTextUnder (rows : List PlacedRow) (keys : List NodeKey) (text : List ℕ) : Type 0 where
  pub root : Slot
  pub nodes : List Node
  pub leads : Draws rows keys root (value_of 0)
  pub drawn : AreDrawn rows keys nodes
  pub long : length nodes ≡ length keys
  pub few : length nodes < 2 ^ 32
  pub is_text : text ≡ graph_text (record { root = root; nodes = nodes })
