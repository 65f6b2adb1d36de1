-- What a client shows while a stream arrives.
use Rattle.std.specs.Prelude.{ℕ, ◌≡◌, List, ◌++◌, Option, Some}
use Rattle.flight_value.specs.Store.{Label, Shape, label_of}
use Rattle.flight_value.specs.declared.graph.Slot.{Slot}
use Rattle.flight_value.specs.declared.graph.Slot.TheVariants as slot
use Rattle.flight_value.specs.declared.graph.Node.{Node}
use Rattle.flight_value.specs.declared.graph.Graph.{Graph}
use Rattle.flight_graph.specs.Canon.{node_at}
use Rattle.flight_graph.specs.Look.{kind_of, slot_along}
use Rattle.flight_meaning.specs.declared.place.PlacedRow.{PlacedRow}
use Rattle.flight_meaning.specs.Meaning.{Written, Identity, HasShape}
use Rattle.flight_link.specs.Looking.{Sight, sees_atom, sees_node, Sees, Shows, IsMark, IsSeen}
use Rattle.flight_link.specs.declared.found.Seen.{Seen}
use Rattle.flight_link.specs.declared.found.Seen.TheVariants as seen
use Rattle.flight_graph.specs.declared.label.Label.TheVariants as look_label
use Rattle.flight_graph.specs.declared.label.Label as look

-- the slot of a graph holds what is seen: the atom, or a node of the same kind, with the same names, id and end; of what
-- is not there yet, or never, nothing is said
abbrev pub Holds : List Node → Sight → Option Slot → Type 0
Holds nodes (sees_atom value) o = o ≡ Some (slot.Atom value)
Holds nodes (sees_node label node) o = (n : ℕ) × (o ≡ Some (slot.Node n)) × (label_of (node_at nodes n) ≡ label)
Holds nodes sight o = Unit {0}

-- a graph of the rows has at each path what a look shows there
abbrev pub ShowsAlike : List PlacedRow → Graph → Type 0
ShowsAlike rows g = (path : List ℕ) (sight : Sight) → Shows rows path sight → Holds g.nodes sight (slot_along g.nodes g.root path)

-- what was seen is seen still: an atom, and a node, which is of the same kind; of what was not there yet, or never,
-- nothing is said
abbrev pub Lasts : List PlacedRow → Written → List ℕ → Sight → Type 0
Lasts rows w path (sees_atom value) = Sees rows w path (sees_atom value)
Lasts rows w path (sees_node label node) = (later : Label) × (kind_of later ≡ kind_of label) × Sees rows w path (sees_node later node)
Lasts rows w path sight = Unit {0}

-- each label that a look gave, it gives after more rows too, with the same mark
abbrev pub LabelsStay : List PlacedRow → List PlacedRow → Type 0
LabelsStay rows more = (path : List ℕ) (l : look.Label) → IsSeen rows path (seen.Label l) → IsSeen (rows ++ more) path (seen.Label l)

-- a path that leads to no place leads to none after more rows too
abbrev pub NoPlaceStays : List PlacedRow → List PlacedRow → Type 0
NoPlaceStays rows more = (path : List ℕ) → IsSeen rows path seen.NoPlace → IsSeen (rows ++ more) path seen.NoPlace

-- a node has one mark, and two nodes never have the same
pub record HasOneMark (rows : List PlacedRow) : Type 0 where
  pub one_mark : (k : Identity) (m n : ℕ) → IsMark rows k m → IsMark rows k n → m ≡ n
  pub one_node : (k l : Identity) (x y : Shape Written) (m : ℕ) → HasShape rows k x → HasShape rows l y → IsMark rows k m → IsMark rows l m → k ≡ l

-- two answers of a look say the same: an atom, a kind of node with its mark, an id that is awaited, or no place
abbrev pub IsSame : Seen → Seen → Type 0
IsSame (seen.Label (look_label.Atom a)) (seen.Label (look_label.Atom b)) = a.now ≡ b.now
IsSame (seen.Label (look_label.Node kind mark)) (seen.Label (look_label.Node other number)) = (kind ≡ other) × (mark ≡ number)
IsSame (seen.NotYet id) (seen.NotYet other) = id ≡ other
IsSame seen.NoPlace seen.NoPlace = Unit {0}
IsSame a b = ⊥

-- an answer that more rows do not change
abbrev pub IsFinal : Seen → Type 0
IsFinal (seen.NotYet id) = ⊥
IsFinal a = Unit {0}
