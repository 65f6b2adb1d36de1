-- What a path of slot numbers shows, from the root.
use Rattle.std.specs.Prelude.{ℕ, ◌≡◌, List, [], ◌∷◌, Option, Some, None, option_and_then, slice_get}
use Rattle.flight_value.specs.Store as store
use Rattle.flight_value.specs.Store.{label_of}
use Rattle.flight_value.specs.declared.graph.Slot.{Slot}
use Rattle.flight_value.specs.declared.graph.Slot.TheVariants as slot
use Rattle.flight_value.specs.declared.graph.Node.{Node}
use Rattle.flight_value.specs.declared.graph.Graph.{Graph}
use Rattle.flight_graph.specs.Canon.{node_at, slots_at}
use Rattle.flight_graph.specs.declared.label.Kind.{Kind}
use Rattle.flight_graph.specs.declared.label.Kind.TheVariants as kind
use Rattle.flight_graph.specs.declared.label.Label.{Label}
use Rattle.flight_graph.specs.declared.label.Label.TheVariants as label

-- what kind of node has this label
abbrev pub kind_of : store.Label → Kind
kind_of store.array = kind.Array
kind_of (store.object names) = kind.Object
kind_of store.map_of = kind.Map
kind_of store.set_of = kind.Set
kind_of store.element = kind.Element
kind_of store.promise = kind.Promise
kind_of (store.stream flow state) = kind.Stream
kind_of (store.action id) = kind.Action

-- the slot of a number in what stands in a slot: an atom has none
abbrev pub slot_in : List Node → Slot → ℕ → Option Slot
slot_in nodes (slot.Atom a) n = None
slot_in nodes (slot.Node m) n = slice_get (slots_at nodes m) n

-- the slot to which a path leads from a slot
abbrev pub slot_along : List Node → Slot → List ℕ → Option Slot
slot_along nodes s [] = Some s
slot_along nodes s (n ∷ path) = option_and_then (λ t. slot_along nodes t path) (slot_in nodes s n)

-- what stands in a slot; a node's mark is its number
abbrev pub IsLabel : List Node → Slot → Label → Type 0
IsLabel nodes (slot.Atom a) (label.Atom value) = value.now ≡ a
IsLabel nodes (slot.Node n) (label.Node kind mark) = (kind ≡ kind_of (label_of (node_at nodes n))) × (mark ≡ n)
IsLabel nodes s l = ⊥

-- a slot and what stands there, or neither
abbrev pub IsSight : List Node → Option Slot → Option Label → Type 0
IsSight nodes (Some s) (Some l) = IsLabel nodes s l
IsSight nodes None None = Unit {0}
IsSight nodes s l = ⊥

-- what a path from the root shows
abbrev pub Shows : Graph → List ℕ → Option Label → Type 0
Shows g path sight = IsSight g.nodes (slot_along g.nodes g.root path) sight
