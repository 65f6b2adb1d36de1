-- Stores of nodes: nodes under keys of any kind, and when two stores draw one graph.
use Rattle.std.specs.Prelude.{ℕ, ◌≡◌, List, map, Some, option_map, slice_get, Contains}
use Rattle.std.specs.List.{AllZip}
use Rattle.flight_value.specs.Graph.{slots_of}
use Rattle.flight_value.specs.declared.graph.Atom.{Atom}
use Rattle.flight_value.specs.declared.graph.Flow.{Flow}
use Rattle.flight_value.specs.declared.graph.Slot.{Slot}
use Rattle.flight_value.specs.declared.graph.Slot.TheVariants as slot
use Rattle.flight_value.specs.declared.graph.End.{End}
use Rattle.flight_value.specs.declared.graph.End.TheVariants as end
use Rattle.flight_value.specs.declared.graph.Node.{Node}
use Rattle.flight_value.specs.declared.graph.Node.TheVariants as node
use Rattle.flight_value.specs.declared.graph.Graph.{Graph}

-- ---- stores

-- whether more may come of a stream
pub data FlowState : Type 0 where
  flowing : FlowState
  closed : FlowState
  broken : (digest : List ℕ) → FlowState

-- what a node is, beside its slots
pub data Label : Type 0 where
  array : Label
  object : (names : List (List ℕ)) → Label
  map_of : Label
  set_of : Label
  element : Label
  promise : Label
  stream : (flow : Flow) (state : FlowState) → Label
  action : (id : List ℕ) → Label

-- a node: what it is, and its slots in order
pub record Shape (V : Type 0) : Type 0 where
  pub label : Label
  pub slots : List V

-- where a slot leads: to an atom, or to the node at a key
pub data Target (K : Type 0) : Type 0 where
  atom : (value : Atom) → Target K
  node_at : (key : K) → Target K

-- Nodes under keys of any kind. What stands at a key, and where a slot leads, are relations.
pub record Store (K V : Type 0) : Type 1 where
  pub root : V
  pub at : K → Shape V → Type 0
  pub leads : V → Target K → Type 0

-- ---- two stores that draw one graph

-- under pairs of nodes: equal atoms, or the two nodes of a pair
abbrev pub TargetsFit : {K L : Type 0} → (K → L → Type 0) → Target K → Target L → Type 0
TargetsFit R (atom a) (atom b) = a ≡ b
TargetsFit R (atom a) (node_at l) = ⊥
TargetsFit R (node_at k) (atom b) = ⊥
TargetsFit R (node_at k) (node_at l) = R k l

-- two slots lead to what fits
pub record SlotsFit {K V L W : Type 0} (R : K → L → Type 0) (g : Store K V) (h : Store L W) (v : V) (w : W) : Type 0 where
  pub here : Target K
  pub there : Target L
  pub leads_here : g.leads v here
  pub leads_there : h.leads w there
  pub targets_fit : TargetsFit R here there

-- two nodes are of one kind, with the same names, flow, id and end, and slots that fit in order
pub record NodesFit {K V L W : Type 0} (R : K → L → Type 0) (g : Store K V) (h : Store L W) (k : K) (l : L) : Type 0 where
  pub here : Shape V
  pub there : Shape W
  pub is_here : g.at k here
  pub is_there : h.at l there
  pub labels : here.label ≡ there.label
  pub slots_fit : AllZip (SlotsFit R g h) here.slots there.slots

-- the pairs are one to one, the roots fit, and so do the nodes of each pair
pub record Fits {K V L W : Type 0} (R : K → L → Type 0) (g : Store K V) (h : Store L W) : Type 0 where
  pub one_there : (k : K) (l m : L) → R k l → R k m → l ≡ m
  pub one_here : (k j : K) (l : L) → R k l → R j l → k ≡ j
  pub roots : SlotsFit R g h g.root h.root
  pub each : (k : K) (l : L) → R k l → NodesFit R g h k l

abbrev pub Paired : {K L : Type 0} → List (K × L) → K → L → Type 0
Paired pairs k l = Contains pairs (k, l)

-- two stores draw one graph: some list of pairs fits
abbrev pub DrawOneGraph : {K V L W : Type 0} → Store K V → Store L W → Type 0
DrawOneGraph {K} {V} {L} {W} g h = (pairs : List (K × L)) × Fits (Paired pairs) g h

-- ---- a graph as a store, its nodes under their numbers

abbrev pub state_of : End → FlowState
state_of end.Going = flowing
state_of (end.Closed final) = closed
state_of (end.Broken digest) = broken digest

abbrev pub label_of : Node → Label
label_of (node.Array items) = array
label_of (node.Object props) = object (map (λ p. p.name) props)
label_of (node.Map pairs) = map_of
label_of (node.Set items) = set_of
label_of (node.Element tag key props) = element
label_of (node.Promise outcome) = promise
label_of (node.Stream flow items end) = stream flow (state_of end)
label_of (node.Action id bound) = action id

abbrev pub shape_of : Node → Shape Slot
shape_of n = record { label = label_of n; slots = slots_of n }

abbrev pub target_of : Slot → Target ℕ
target_of (slot.Atom a) = atom a
target_of (slot.Node n) = node_at n

abbrev pub IsShapeAt : List Node → ℕ → Shape Slot → Type 0
IsShapeAt nodes n shape = option_map shape_of (slice_get nodes n) ≡ Some shape

abbrev pub LeadsTo : Slot → Target ℕ → Type 0
LeadsTo s target = target_of s ≡ target

abbrev pub of_graph : Graph → Store ℕ Slot
of_graph g = record { root = g.root; at = IsShapeAt g.nodes; leads = LeadsTo }
