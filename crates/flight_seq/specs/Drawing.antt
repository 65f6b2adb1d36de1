-- A graph on its way, under keys of nodes.
use Rattle.std.specs.Prelude.{ℕ, suc, ◌≡◌, ◌<◌, ◌≤◌, ◌^◌, Bool, List, [], ◌∷◌, length, Some, slice_get}
use Rattle.std.specs.List.{AllZip}
use Rattle.flight_value.specs.Graph.{slots_of}
use Rattle.flight_value.specs.declared.graph.Node.{Node}
use Rattle.flight_value.specs.declared.key.Key.{Key}
use Rattle.flight_value.specs.Store.{Shape, label_of}
use Rattle.flight_render.specs.declared.root.Ground.{Ground}
use Rattle.flight_render.specs.Jobs.{Value}
use Rattle.flight_render.specs.Plain.{NodeIs}
use Rattle.flight_value.specs.declared.graph.Slot.{Slot}
use Rattle.flight_seq.specs.declared.held.Shape as held
use Rattle.flight_seq.specs.declared.walk.Walk.{Walk}
use Rattle.flight_seq.specs.Held.{shape_for}
use Rattle.flight_seq.specs.Walk.{Entry, IsWalk, GoesOn}
use Rattle.flight_seq.specs.Chain.{Draws}

-- ---- nodes

-- a node draws what stands at a key
pub record DrawsNode (g : Ground) (settled : List Bool) (entries : List Entry) (keys : List Key) (k : Key) (node : Node) : Type 0 where
  pub shape : Shape Value
  pub is_shape : NodeIs g settled k shape
  pub label : label_of node ≡ shape.label
  pub slots : AllZip (Draws g settled entries keys) (slots_of node) shape.slots
  pub few : length (slots_of node) < 2 ^ 32

-- each node draws what stands at its key
abbrev pub DrawEach : Ground → List Bool → List Entry → List Key → List Node → Type 0
DrawEach g settled entries keys nodes = (n : ℕ) (node : Node) → slice_get nodes n ≡ Some node → (k : Key) × (slice_get keys n ≡ Some k) × DrawsNode g settled entries keys k node

-- numbers from i on, with their keys
abbrev pub numbered_from : ℕ → List Key → List (ℕ × Key)
numbered_from i [] = []
numbered_from i (k ∷ keys) = (i, k) ∷ numbered_from (suc i) keys

-- ---- the walk over the nodes

-- the shape is what stands at the key of the number
abbrev pub IsKept : Ground → List Bool → Walk → ℕ → held.Shape → Type 0
IsKept g settled w n s = (k : Key) × (slice_get w.keys.keys n ≡ Some k) × NodeIs g settled k (shape_for s)

-- slots have those for which the values stand
pub record AreFollowed (g : Ground) (settled : List Bool) (fuel : ℕ) (slots : List Slot) (vs : List Value) (old new : Walk) : Type 0 where
  pub walk : IsWalk g settled fuel new
  pub goes_on : GoesOn old new
  pub draws : AllZip (Draws g settled new.bodies.entries new.keys.keys) slots vs

-- a node draws a shape
pub record IsNodeDrawn (g : Ground) (settled : List Bool) (fuel : ℕ) (shape : Shape Value) (node : Node) (old new : Walk) : Type 0 where
  pub walk : IsWalk g settled fuel new
  pub goes_on : GoesOn old new
  pub label : label_of node ≡ shape.label
  pub slots : AllZip (Draws g settled new.bodies.entries new.keys.keys) (slots_of node) shape.slots
  pub few : length (slots_of node) < 2 ^ 32

-- each key has its node
pub record AreDrawn (g : Ground) (settled : List Bool) (fuel : ℕ) (nodes : List Node) (old new : Walk) : Type 0 where
  pub walk : IsWalk g settled fuel new
  pub goes_on : GoesOn old new
  pub each : DrawEach g settled new.bodies.entries new.keys.keys nodes
  pub all : length new.keys.keys ≤ length nodes
