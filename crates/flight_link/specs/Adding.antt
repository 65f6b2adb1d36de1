-- When a row may be added.
use Rattle.std.specs.Prelude.{ℕ, ◌≡◌, List, Bool, true, false, Some}
use Rattle.flight_row.specs.declared.row.Row.{Row}
use Rattle.flight_row.specs.declared.row.RowKind.{RowKind}
use Rattle.flight_row.specs.declared.row.RowKind.TheVariants as row
use Rattle.flight_place.specs.declared.manner.Manner.{Manner}
use Rattle.flight_meaning.specs.declared.place.PlaceTree.{PlaceTree}
use Rattle.flight_meaning.specs.declared.place.PlacedRow.{PlacedRow}
use Rattle.flight_place.specs.Rows.{IsTree}
use Rattle.flight_meaning.specs.Linked.{Standing, Verdict, goes, refused, twice, not_open, after_end, next, standing_of}
use Rattle.flight_link.specs.declared.fault.LinkKind.{LinkKind}
use Rattle.flight_link.specs.declared.fault.LinkKind.TheVariants as kind

-- the tree is that of some row of the id
abbrev pub IsPlaced : ℕ → PlaceTree → Type 0
IsPlaced id tree = (manner : Manner) × ((r : Row) × (r.id ≡ id) × IsTree manner r tree)

-- rows that open or close a stream
abbrev pub is_of_stream : RowKind → Bool
is_of_stream (row.Open flow) = true
is_of_stream row.Close = true
is_of_stream kind = false

-- what a row of this kind and id does after the rows
abbrev pub HasVerdict : List PlacedRow → ℕ → RowKind → Verdict → Type 0
HasVerdict rows id of_kind verdict = (s : Standing) × (standing_of id rows ≡ Some s) × (next s of_kind ≡ verdict)

-- the row may be added
abbrev pub MayFollow : List PlacedRow → ℕ → RowKind → Type 0
MayFollow rows id of_kind = (is_of_stream of_kind ≡ false) × ((s : Standing) × HasVerdict rows id of_kind (goes s))

-- the row is refused, for this reason; that it is of a stream comes before the others
abbrev pub IsRefused : List PlacedRow → ℕ → RowKind → LinkKind → Type 0
IsRefused rows id of_kind (kind.NotBuilt i) = (i ≡ id) × (is_of_stream of_kind ≡ true)
IsRefused rows id of_kind (kind.Twice i) = (i ≡ id) × (is_of_stream of_kind ≡ false) × HasVerdict rows id of_kind (refused twice)
IsRefused rows id of_kind (kind.NotOpen i) = (i ≡ id) × (is_of_stream of_kind ≡ false) × HasVerdict rows id of_kind (refused not_open)
IsRefused rows id of_kind (kind.Closed i) = (i ≡ id) × (is_of_stream of_kind ≡ false) × HasVerdict rows id of_kind (refused after_end)
