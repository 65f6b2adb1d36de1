-- Sequential rendering as a store of nodes: no walk, no order, no tasks and no rows.
use Rattle.std.specs.Prelude.{ℕ, ◌≡◌, Bool, List, [], ◌∷◌, ◌++◌, map, Option, Some, None, slice_get, option_map, option_and_then}
use Rattle.flight_value.specs.Graph.{slots_of}
use Rattle.flight_value.specs.Store as store
use Rattle.flight_value.specs.Store.{Store, Shape, Label, FlowState, label_of}
use Rattle.flight_value.specs.declared.graph.Atom.TheVariants as atom
use Rattle.flight_value.specs.declared.graph.Node.{Node}
use Rattle.flight_value.specs.declared.graph.Node.TheVariants as node
use Rattle.flight_value.specs.declared.key.Key.{Key}
use Rattle.flight_value.specs.declared.key.Key.TheVariants as key
use Rattle.flight_value.specs.declared.made.MadeKind.{MadeKind}
use Rattle.flight_value.specs.declared.made.MadeKind.TheVariants as kind
use Rattle.flight_value.specs.declared.made.Made.{Made}
use Rattle.flight_value.specs.declared.made.Tree.TheVariants as tree
use Rattle.flight_syntax.specs.declared.program.Declared.{Declared}
use Rattle.flight_syntax.specs.declared.program.Declared.TheVariants as declared
use Rattle.flight_syntax.specs.declared.script.Outcome.{Outcome}
use Rattle.flight_syntax.specs.declared.script.Flowing.{Flowing}
use Rattle.flight_render.specs.declared.root.Ground.{Ground}
use Rattle.flight_render.specs.Run.{gave, threw, End}
use Rattle.flight_render.specs.Values.{outcomes, tree_of, node_in}
use Rattle.flight_render.specs.Bodies.{node_at}
use Rattle.flight_render.specs.Jobs.{Job, the_root, outcome, known, blank, Value, shown, of_job, comes, Stands}

-- ---- streams

-- how a stream ends, as far as it is known, with its final value
pub data FlowEnd (V : Type 0) : Type 0 where
  going : FlowEnd V
  closed : (final : V) → FlowEnd V
  broken : (digest : List ℕ) → FlowEnd V

pub record Flowed (V : Type 0) : Type 0 where
  pub items : List V
  pub end : FlowEnd V

abbrev pub state_of : {V : Type 0} → FlowEnd V → FlowState
state_of going = store.flowing
state_of (closed final) = store.closed
state_of (broken digest) = store.broken digest

abbrev pub final_slots : {V : Type 0} → FlowEnd V → List V
final_slots (closed final) = final ∷ []
final_slots _ = []

abbrev pub flow_slots : {V : Type 0} → Flowed V → List V
flow_slots f = f.items ++ final_slots f.end

-- the job of a stream's final value, and of what comes next of it
abbrev pub last_job : Option ℕ → Job
last_job None = blank
last_job (Some source) = outcome source

abbrev pub next_job : List ℕ → Option ℕ → Job
next_job [] last = last_job last
next_job (source ∷ others) last = outcome source

abbrev pub flow_last : Job → Option End → Flowed Value
flow_last j (Some (gave t)) = record { items = []; end = closed (of_job j) }
flow_last j (Some (threw digest)) = record { items = []; end = broken digest }
flow_last j _ = record { items = []; end = going }

abbrev pub flow_item : Job → Option End → Flowed Value → Flowed Value
flow_item j (Some (gave t)) rest = record { items = of_job j ∷ rest.items; end = rest.end }
flow_item j (Some (threw digest)) rest = record { items = []; end = broken digest }
flow_item j _ rest = record { items = []; end = going }

-- the items up to the first that is not settled or is rejected, and how the stream ends there
abbrev pub flow : Ground → List Bool → List ℕ → Option ℕ → Flowed Value
flow g settled [] last = flow_last (last_job last) (comes g settled (last_job last))
flow g settled (source ∷ others) last = flow_item (outcome source) (comes g settled (outcome source)) (flow g settled others last)

-- ---- nodes

abbrev pub name_of : Option Declared → List ℕ
name_of (Some (declared.Action name params expression)) = name
name_of _ = []

-- what a server reference is called
abbrev pub action_name : Ground → ℕ → List ℕ
action_name g action = name_of (slice_get g.program.declared action)

-- a server element is no node
abbrev pub label_of_kind : Ground → MadeKind → Option Label
label_of_kind g kind.Array = Some store.array
label_of_kind g (kind.Object names) = Some (store.object names)
label_of_kind g kind.Map = Some store.map_of
label_of_kind g kind.Set = Some store.set_of
label_of_kind g kind.Element = Some store.element
label_of_kind g (kind.Server component) = None
label_of_kind g kind.Promise = Some store.promise
label_of_kind g (kind.Bound action) = Some (store.action (action_name g action))

abbrev pub made_shape : Ground → Made → Option (Shape Value)
made_shape g m = option_map (λ label. record { label = label; slots = map shown m.slots }) (label_of_kind g m.kind)

-- a promise in a source's value holds its own slot
abbrev pub source_slots : Outcome → ℕ → Node → List Value
source_slots o source (node.Promise held) = of_job (known held) ∷ []
source_slots o source n = map (λ slot. shown (tree_of o source slot)) (slots_of n)

abbrev pub source_shape : Outcome → ℕ → Node → Shape Value
source_shape o source n = record { label = label_of n; slots = source_slots o source n }

abbrev pub flow_shape : Ground → List Bool → Flowing → Shape Value
flow_shape g settled f =
    record {
      label = store.stream f.flow (state_of (flow g settled f.items f.last).end);
      slots = flow_slots (flow g settled f.items f.last);
    }

abbrev pub shape_at : Ground → List Bool → Key → Option (Shape Value)
shape_at g settled (key.Made n) = option_and_then (made_shape g) (node_at g settled n)
shape_at g settled (key.Source source n) = option_and_then (λ o. option_map (source_shape o source) (node_in o n)) (slice_get (outcomes g) source)
shape_at g settled (key.Settled source) = Some (record { label = store.promise; slots = of_job (outcome source) ∷ [] })
shape_at g settled (key.Stream stream) = option_map (flow_shape g settled) (slice_get g.script.streams stream)
shape_at g settled (key.Action action) = Some (record { label = store.action (action_name g action); slots = shown (tree.Atom atom.Null) ∷ [] })
shape_at g settled _ = None

-- the node at a key
abbrev pub NodeIs : Ground → List Bool → Key → Shape Value → Type 0
NodeIs g settled k shape = shape_at g settled k ≡ Some shape

-- the graph of sequential rendering with these sources settled
abbrev pub plain : Ground → List Bool → Store Key Value
plain g settled = record { root = of_job the_root; at = NodeIs g settled; leads = Stands g settled }
