-- How the table grows.
use Rattle.std.specs.Prelude.{ℕ, false, ◌+◌, ◌≤◌, ◌≡◌, List, [], ◌++◌, length, slice_get, Option, Some, None, option_and_then}
use Rattle.flight_meaning.specs.declared.place.Place.{Place}
use Rattle.flight_meaning.specs.Resolve.{Path}
use Rattle.flight_link.specs.declared.found.Spot.{Spot}
use Rattle.flight_link.specs.declared.node.Start.{Start}
use Rattle.flight_link.specs.declared.node.Start.TheVariants.{Id, Place as AtPlace}
use Rattle.flight_link.specs.declared.node.State.{State}
use Rattle.flight_link.specs.declared.node.State.TheVariants.{Behind, Ended}
use Rattle.flight_meaning.specs.declared.place.PlacedRow.{PlacedRow}
use Rattle.flight_meaning.specs.Linked.{rows_of}
use Rattle.flight_link.specs.Adding.{is_of_stream}
use Rattle.flight_link.specs.declared.table.Table.{Table}
use Rattle.flight_link.specs.declared.fresh.Fresh.{Fresh}
use Rattle.flight_link.specs.Nodes.{IsNodeAt, IsFine, followed}

-- rows stay, and nodes come behind the old ones
pub record Keeps (old new : Table) : Type 0 where
  pub rows : new.rows.items ≡ old.rows.items
  pub index : new.index.items ≡ old.index.items
  pub more : List Start
  pub starts : new.starts.items ≡ old.starts.items ++ more

-- ---- the nodes of a row that is still to come

-- a place that is followed has a node behind the old ones, and no other has
abbrev pub IsFreshAt : List Start → List Start → Spot → Option (ℕ × Path) → Option ℕ → Type 0
IsFreshAt starts fresh s (Some way) (Some n) = (j : ℕ) × (n ≡ length starts + j) × IsNodeAt fresh j (AtPlace s)
IsFreshAt starts fresh s None None = Unit {0}
IsFreshAt starts fresh s way n = ⊥

-- a node of a place that is followed stands behind that of its id, with all names left
pub record IsFreshNode (starts : List Start) (row : ℕ) (places : List Place) (start : Start) (state : State) : Type 0 where
  pub number : ℕ
  pub is_start : start ≡ AtPlace (record { row = row; place = number })
  pub at : Place
  pub is_place : slice_get places number ≡ Some at
  pub way : ℕ × Path
  pub is_way : followed at ≡ Some way
  pub node : ℕ
  pub is_node : IsNodeAt starts node (Id way.0)
  pub is_state : state ≡ Behind node (length way.1)

-- the number of a place's node
abbrev pub number_in : List (Option ℕ) → ℕ → Option ℕ
number_in index n = option_and_then (λ o. o) (slice_get index n)

pub record AreFresh (starts : List Start) (row : ℕ) (places : List Place) (f : Fresh) : Type 0 where
  pub few : length f.index.items ≤ length places
  pub same_count : length f.states.items ≡ length f.starts.items
  pub placed : (n : ℕ) (at : Place) → slice_get places n ≡ Some at → IsFreshAt starts f.starts.items (record { row = row; place = n }) (followed at) (number_in f.index.items n)
  pub nodes : (j : ℕ) (start : Start) (state : State) → slice_get f.starts.items j ≡ Some start → slice_get f.states.items j ≡ Some state → IsFreshNode starts row places start state

-- the state of an id's node once its row is there: at the root, or behind the root's node
abbrev pub root_by : ℕ → Option ℕ → State
root_by row (Some node) = Behind node 0
root_by row None = Ended (record { row = row; place = 0 })

abbrev pub root_of : List (Option ℕ) → ℕ → State
root_of index row = root_by row (number_in index 0)

-- a row that may come, with its nodes and that of its id
pub record MayCome (t : Table) (r : PlacedRow) (f : Fresh) (node : ℕ) : Type 0 where
  pub none : rows_of r.id t.rows.items ≡ []
  pub kind : is_of_stream r.tree.kind ≡ false
  pub fine : IsFine r
  pub fresh : AreFresh t.starts.items (length t.rows.items) r.tree.places f
  pub is_node : IsNodeAt t.starts.items node (Id r.id)
