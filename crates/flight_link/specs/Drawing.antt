-- A graph on its way, under keys of nodes.
use Rattle.std.specs.Prelude.{ℕ, suc, ◌<◌, ◌≤◌, ◌^◌, ◌≡◌, List, [], ◌∷◌, length, slice_get, Some, unwrap_or}
use Rattle.std.specs.List.{AllZip}
use Rattle.flight_value.specs.Graph.{slots_of}
use Rattle.flight_value.specs.declared.graph.Slot.{Slot}
use Rattle.flight_value.specs.declared.graph.Slot.TheVariants as slot
use Rattle.flight_value.specs.declared.graph.Prop.{Prop}
use Rattle.flight_value.specs.declared.graph.Pair.{Pair}
use Rattle.flight_value.specs.declared.graph.Node.{Node}
use Rattle.flight_value.specs.declared.graph.Graph.{Graph}
use Rattle.flight_value.specs.Store as store
use Rattle.flight_value.specs.Store.{Shape, label_of}
use Rattle.flight_meaning.specs.declared.place.Named.{Named}
use Rattle.flight_meaning.specs.declared.place.PlacedRow.{PlacedRow}
use Rattle.flight_meaning.specs.Linked.{Spot, place_at, beside}
use Rattle.flight_meaning.specs.Meaning.{Written, at_place, value_of, Identity, made_at, promise_of, action_of, entry, HasShape, Leads}
use Rattle.flight_link.specs.declared.key.NodeKey.{NodeKey}
use Rattle.flight_link.specs.declared.key.NodeKey.TheVariants.{Made, Promise, Action}
use Rattle.flight_link.specs.declared.draw.Drawing.{Drawing}
use Rattle.flight_link.specs.Nodes.{spot_of}
use Rattle.flight_link.specs.Origins.{origin_of}

-- what a key stands for
abbrev pub identity_of : List PlacedRow → NodeKey → Identity
identity_of rows (Made s) = made_at (spot_of rows s)
identity_of rows (Promise id) = promise_of id
identity_of rows (Action id) = action_of id

-- a slot has the atom to which the written slot leads, or the number of the node
abbrev pub Draws : List PlacedRow → List NodeKey → Slot → Written → Type 0
Draws rows keys (slot.Atom a) w = Leads rows w (store.atom a)
Draws rows keys (slot.Node n) w = (key : NodeKey) × (slice_get keys n ≡ Some key) × Leads rows w (store.node_at (identity_of rows key))

-- slots of the places of these numbers, in the row of a place
abbrev pub AreSlots : List PlacedRow → List NodeKey → Spot → List Slot → List ℕ → Type 0
AreSlots rows keys s slots places = AllZip (λ slot n. Draws rows keys slot (at_place (beside s n))) slots places

-- properties of these names
abbrev pub AreProps : List PlacedRow → List NodeKey → Spot → List Prop → List Named → Type 0
AreProps rows keys s props named = AllZip (λ (p : Prop) (n : Named). (p.name ≡ n.name) × Draws rows keys p.slot (at_place (beside s n.place))) props named

-- an entry that stands in place
abbrev pub IsPairAt : List PlacedRow → List NodeKey → Spot → Pair → ℕ → Type 0
IsPairAt rows keys s pair n = (key : ℕ) × (value : ℕ) × (entry s (place_at rows (beside s n)) ≡ Some (at_place (beside s key) ∷ at_place (beside s value) ∷ [])) × Draws rows keys pair.key (at_place (beside s key)) × Draws rows keys pair.value (at_place (beside s value))

abbrev pub ArePairs : List PlacedRow → List NodeKey → Spot → List Pair → List ℕ → Type 0
ArePairs rows keys s pairs places = AllZip (IsPairAt rows keys s) pairs places

-- a node draws what stands under an identity
pub record DrawsNode (rows : List PlacedRow) (keys : List NodeKey) (identity : Identity) (node : Node) : Type 0 where
  pub shape : Shape Written
  pub stands : HasShape rows identity shape
  pub label : label_of node ≡ shape.label
  pub slots : AllZip (Draws rows keys) (slots_of node) shape.slots
  pub few : length (slots_of node) < 2 ^ 32

-- each node draws what its key stands for, and each key has its node
pub record AreDrawn (rows : List PlacedRow) (keys : List NodeKey) (nodes : List Node) : Type 0 where
  pub each : (n : ℕ) (node : Node) → slice_get nodes n ≡ Some node → (key : NodeKey) × (slice_get keys n ≡ Some key) × DrawsNode rows keys (identity_of rows key) node
  pub all : length keys ≤ length nodes

-- no node stands twice
abbrev pub AreApart : List PlacedRow → List NodeKey → Type 0
AreApart rows keys = (m n : ℕ) (k l : NodeKey) → slice_get keys m ≡ Some k → slice_get keys n ≡ Some l → identity_of rows k ≡ identity_of rows l → m ≡ n

pub record IsDrawing (rows : List PlacedRow) (d : Drawing) : Type 0 where
  pub root : Draws rows d.keys.items d.root (value_of 0)
  pub drawn : AreDrawn rows d.keys.items d.nodes.items
  pub apart : AreApart rows d.keys.items
  pub few : length d.nodes.items < 2 ^ 32

abbrev pub graph_in : Drawing → Graph
graph_in d = record { root = d.root; nodes = d.nodes.items }

-- numbers from i on, with what their keys stand for
abbrev pub numbered_from : List PlacedRow → ℕ → List NodeKey → List (ℕ × Identity)
numbered_from rows i [] = []
numbered_from rows i (key ∷ keys) = (i, identity_of rows key) ∷ numbered_from rows (suc i) keys

-- the key of a number; past the keys, which no slot names, some key
abbrev pub key_of : List NodeKey → ℕ → NodeKey
key_of keys n = unwrap_or (slice_get keys n) (Promise 0)

-- the id of the row that holds the node of a number
abbrev pub origin_in : List PlacedRow → List NodeKey → ℕ → ℕ
origin_in rows keys n = origin_of (identity_of rows (key_of keys n))
