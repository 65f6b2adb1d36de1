-- What sources come to, and how far a stream has arrived.
use Rattle.std.specs.Prelude.{ℕ, ◌≡◌, Bool, List, Option, Some, None, [], ◌∷◌, ◌++◌, map}
use Rattle.flight_value.specs.declared.graph.Slot.{Slot}
use Rattle.flight_value.specs.declared.graph.Slot.TheVariants as slot
use Rattle.flight_value.specs.declared.graph.Node.{Node}
use Rattle.flight_value.specs.declared.graph.Node.TheVariants as node
use Rattle.flight_value.specs.declared.made.Tree.{Tree}
use Rattle.flight_value.specs.declared.made.Tree.TheVariants as tree
use Rattle.flight_value.specs.Graph.{slots_of}
use Rattle.flight_render.specs.declared.root.Ground.{Ground}
use Rattle.flight_render.specs.Run.{gave, threw, waits}
use Rattle.flight_render.specs.Values.{source_end}
use Rattle.flight_render.specs.Jobs.{Value, shown, of_job, known}
use Rattle.flight_render.specs.Plain.{Flowed, state_of, flow_slots}
use Rattle.flight_value.specs.declared.graph.Flow.{Flow}
use Rattle.flight_value.specs.Store.{Shape, stream}
use Rattle.flight_seq.specs.declared.held.FlowState.{FlowState}
use Rattle.flight_seq.specs.declared.held.FlowState.TheVariants as state
use Rattle.flight_seq.specs.declared.source.Arrived.{Arrived}
use Rattle.flight_seq.specs.declared.source.Arrived.TheVariants as arrived

-- a slot of a source's value
abbrev pub from_source : ℕ → Slot → Tree
from_source source (slot.Atom a) = tree.Atom a
from_source source (slot.Node n) = tree.FromSource source n

-- a promise in a source's value holds its own slot
abbrev pub source_values : ℕ → Node → List Value
source_values source (node.Promise held) = of_job (known held) ∷ []
source_values source n = map (λ slot. shown (from_source source slot)) (slots_of n)

abbrev pub IsArrived : Ground → List Bool → ℕ → Arrived → Type 0
IsArrived g settled source (arrived.Value slot) = source_end g settled source ≡ gave (from_source source slot.now)
IsArrived g settled source (arrived.Rejected digest) = source_end g settled source ≡ threw digest.now
IsArrived g settled source arrived.Waits = source_end g settled source ≡ waits source

-- items before those of a stream
abbrev pub behind : List Value → Flowed Value → Flowed Value
behind front f = record { items = front ++ f.items; end = f.end }

-- a stream that has come so far
abbrev pub stream_shape : Flow → Flowed Value → Shape Value
stream_shape flow f = record { label = stream flow (state_of f.end); slots = flow_slots f }

-- at a source without a value a stream stops: it stays open where that is not settled, and fails where it is rejected
abbrev pub StopsAt : Ground → List Bool → ℕ → Option FlowState → Type 0
StopsAt g settled source None = (t : Tree) × (source_end g settled source ≡ gave t)
StopsAt g settled source (Some state.Flowing) = source_end g settled source ≡ waits source
StopsAt g settled source (Some (state.Broken digest)) = source_end g settled source ≡ threw digest
StopsAt g settled source (Some state.Closed) = ⊥
