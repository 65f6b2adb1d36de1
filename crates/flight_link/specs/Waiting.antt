-- Walks that have not ended.
use Rattle.std.specs.Prelude.{ℕ, ◌≡◌, false, List, [], Option, Some, None}
use Rattle.flight_meaning.specs.declared.place.PlacedRow.{PlacedRow}
use Rattle.flight_meaning.specs.Linked.{rows_of}
use Rattle.flight_meaning.specs.Resolve.{Path, Stand, to, Found, found, not_yet, nowhere, Ends, Endless}
use Rattle.flight_link.specs.declared.node.Start.{Start}
use Rattle.flight_link.specs.declared.node.Start.TheVariants.{Id, Place as AtPlace}
use Rattle.flight_link.specs.declared.node.State.{State}
use Rattle.flight_link.specs.declared.node.State.TheVariants.{Absent, Ended, Lost, Behind}
use Rattle.flight_link.specs.declared.table.Table.{Table}
use Rattle.flight_link.specs.Nodes.{IsNodeAt, IsStop, ComesBehind, with_path, stand, spot_of, has_ended}

-- a walk that ends for want of a row
abbrev pub IsNotYet : Found → Type 0
IsNotYet (not_yet id path) = Unit {0}
IsNotYet f = ⊥

-- a walk that ends for want of a row or not at all
abbrev pub Waits : List PlacedRow → Stand → Type 0
Waits rows s = (f : Found) → Ends rows s f → IsNotYet f

-- where names lead from the value of an id
abbrev pub IsResolved : Table → List State → ℕ → Path → State → Type 0
IsResolved t states id names (Ended e) = Ends t.rows.items (to id names) (found (spot_of t.rows.items e)) × IsStop t.rows.items e
IsResolved t states id names Lost = Ends t.rows.items (to id names) nowhere
IsResolved t states id names Absent = rows_of id t.rows.items ≡ []
IsResolved t states id names (Behind node left) = ComesBehind t.rows.items t.starts.items names (to id names) node left × (has_ended states node ≡ false)

-- behind the node of every walk of names the id has no row
abbrev pub WaitsFor : Table → ℕ → ℕ → Type 0
WaitsFor t node id = (start : Start) → IsNodeAt t.starts.items node start → (names : Path) → (path : Path) × Ends t.rows.items (with_path (stand t.rows.items start) names) (not_yet id path)

-- behind the node no walk of names ends
abbrev pub WaitsForever : Table → ℕ → Type 0
WaitsForever t node = (start : Start) → IsNodeAt t.starts.items node start → (names : Path) → Endless t.rows.items (with_path (stand t.rows.items start) names)

-- the id of a node that is that of an id
abbrev pub id_of_start : Start → Option ℕ
id_of_start (Id id) = Some id
id_of_start (AtPlace spot) = None
