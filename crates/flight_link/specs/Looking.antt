-- What a path from the root shows.
use Rattle.std.specs.Prelude.{ℕ, ◌≡◌, ◌≢◌, ◌⊎◌, List, [], ◌∷◌, slice_get, Option, Some, None}
use Rattle.flight_value.specs.declared.graph.Atom.{Atom}
use Rattle.flight_value.specs.declared.graph.Atom.TheVariants as atom
use Rattle.flight_value.specs.Store as store
use Rattle.flight_value.specs.Store.{Label, Shape, Target}
use Rattle.flight_meaning.specs.declared.place.Place.{Place}
use Rattle.flight_meaning.specs.declared.place.Place.TheVariants as place
use Rattle.flight_meaning.specs.declared.place.PlacedRow.{PlacedRow}
use Rattle.flight_meaning.specs.Linked.{rows_of, Spot, place_at}
use Rattle.flight_meaning.specs.Resolve.{Path, to, found, not_yet, Ends}
use Rattle.flight_meaning.specs.Meaning.{Written, value_of, Identity, made_at, promise_of, stream_of, action_of, pending, stand_of, Leads, HasShape}
use Rattle.flight_graph.specs.declared.label.Label.TheVariants as look
pub use Rattle.flight_graph.specs.Look.{kind_of}
use Rattle.flight_link.specs.declared.found.Seen.{Seen}
use Rattle.flight_link.specs.declared.found.Seen.TheVariants as seen
use Rattle.flight_link.specs.Spots.{IsNumber, IsFirst}

-- ---- what is not yet there

-- at the end of a walk stands a token or a server reference whose own id has no row yet, or leads to one that has none
abbrev pub AwaitsHere : List PlacedRow → Spot → Place → ℕ → Type 0
AwaitsHere rows s (place.Map reference) id = (path : Path) × Ends rows (to reference.id reference.path) (not_yet id path)
AwaitsHere rows s (place.Set reference) id = (path : Path) × Ends rows (to reference.id reference.path) (not_yet id path)
AwaitsHere rows s (place.Action named) id = (named ≡ id) × (rows_of id rows ≡ [])
AwaitsHere rows s at id = ⊥

-- the slot meets an id that has no row so far
abbrev pub Awaits : List PlacedRow → Written → ℕ → Type 0
Awaits rows w id =
    ((path : Path) × Ends rows (stand_of w) (not_yet id path))
    ⊎ ((s : Spot) × (at : Place) × Ends rows (stand_of w) (found s) × (place_at rows s ≡ Some at) × AwaitsHere rows s at id)

-- ---- what is seen

pub data Sight : Type 0 where
  sees_atom : (value : Atom) → Sight
  sees_node : (label : Label) (node : Identity) → Sight
  awaits : (id : ℕ) → Sight
  no_place : Sight

-- at a slot
abbrev pub SeesHere : List PlacedRow → Written → Sight → Type 0
SeesHere rows w (sees_atom value) = Leads rows w (store.atom value) × (value ≢ atom.Pending)
SeesHere rows w (sees_node label node) = Leads rows w (store.node_at node) × ((shape : Shape Written) × HasShape rows node shape × (label ≡ shape.label))
SeesHere rows w (awaits id) = Awaits rows w id
SeesHere rows w no_place = Leads rows w pending × ((id : ℕ) → ¬ Awaits rows w id)

-- behind the slots of a node: past the items of a stream that goes on more may come
abbrev pub SeesPast : Label → Identity → Sight → Type 0
SeesPast (store.stream flow store.flowing) (stream_of id) sight = sight ≡ awaits id
SeesPast label node sight = sight ≡ no_place

-- in a slot of a node, or behind its slots
abbrev pub InSlot : (Written → Type 0) → Label → Identity → Option Written → Sight → Type 0
InSlot Goes label node (Some w) sight = Goes w
InSlot Goes label node None sight = SeesPast label node sight

-- from a slot into the slot of a number: of a node; an atom has none; what is not there yet has to come
abbrev pub SeesBelow : List PlacedRow → (Written → Type 0) → Written → ℕ → Sight → Type 0
SeesBelow rows Goes w n sight =
    ((node : Identity) × (shape : Shape Written) × Leads rows w (store.node_at node) × HasShape rows node shape × InSlot Goes shape.label node (slice_get shape.slots n) sight)
    ⊎ (((value : Atom) × Leads rows w (store.atom value) × (value ≢ atom.Pending) × (sight ≡ no_place))
    ⊎ (((id : ℕ) × Awaits rows w id × (sight ≡ awaits id))
    ⊎ (Leads rows w pending × ((id : ℕ) → ¬ Awaits rows w id) × (sight ≡ no_place))))

-- along numbers of slots
abbrev pub Sees : List PlacedRow → Written → List ℕ → Sight → Type 0
Sees rows w [] sight = SeesHere rows w sight
Sees rows w (n ∷ path) sight = SeesBelow rows (λ v. Sees rows v path sight) w n sight

-- what a path from the root shows
abbrev pub Shows : List PlacedRow → List ℕ → Sight → Type 0
Shows rows path sight = Sees rows (value_of 0) path sight

-- ---- marks: one for each node, whatever comes later

abbrev pub IsMark : List PlacedRow → Identity → ℕ → Type 0
IsMark rows (made_at s) mark = IsNumber rows s mark
IsMark rows (promise_of id) mark = IsFirst rows (place.Promise id) mark
IsMark rows (action_of id) mark = IsFirst rows (place.Action id) mark
IsMark rows (stream_of id) mark = ⊥

-- ---- the answer of a look

abbrev pub IsSeen : List PlacedRow → List ℕ → Seen → Type 0
IsSeen rows path (seen.Label (look.Atom value)) = Shows rows path (sees_atom value.now)
IsSeen rows path (seen.Label (look.Node kind mark)) = (label : Label) × (node : Identity) × Shows rows path (sees_node label node) × (kind ≡ kind_of label) × IsMark rows node mark
IsSeen rows path (seen.NotYet id) = Shows rows path (awaits id)
IsSeen rows path seen.NoPlace = Shows rows path no_place
