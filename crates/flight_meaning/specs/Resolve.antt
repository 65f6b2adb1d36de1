-- Following a reference, by small turns.
use Rattle.std.specs.Prelude.{ℕ, zero, suc, ◌≡◌, ◌⊎◌, List, [], ◌∷◌, ◌++◌, if◌then◌else◌, codes, Option, Some, None}
use Rattle.std.specs.Fmt.{decimal}
use Rattle.std.specs.Str.{bytes_eq}
use Rattle.flight_value.specs.declared.graph.Atom.TheVariants as atom
use Rattle.flight_row.specs.declared.row.RowKind.{RowKind}
use Rattle.flight_row.specs.declared.row.RowKind.TheVariants as row
use Rattle.flight_meaning.specs.declared.place.Place.{Place}
use Rattle.flight_meaning.specs.declared.place.Place.TheVariants as place
use Rattle.flight_meaning.specs.declared.place.Named.{Named}
use Rattle.flight_meaning.specs.declared.place.PlaceTree.{PlaceTree}
use Rattle.flight_meaning.specs.declared.place.PlacedRow.{PlacedRow}
use Rattle.flight_meaning.specs.Linked.{rows_of, Spot, place_at, first_place, beside, HasRowOf}

-- the names of steps
abbrev pub Path : Type 0
Path = List (List ℕ)

-- ---- one step down

-- the property of a name
abbrev pub property : List Named → List ℕ → Option ℕ
property [] name = None
property (p ∷ ps) name = if bytes_eq p.name name then Some p.place else property ps name

-- the item whose index is spelled in decimal, without leading zeros; the first item here has the index n
abbrev pub item_from : ℕ → List ℕ → List ℕ → Option ℕ
item_from n [] name = None
item_from n (q ∷ qs) name = if bytes_eq (decimal n) name then Some q else item_from (suc n) qs name

-- a part of an element
abbrev pub part : ℕ → ℕ → ℕ → List ℕ → Option ℕ
part tag key props name =
    if bytes_eq name (codes "type") then Some tag
    else if bytes_eq name (codes "key") then Some key
    else if bytes_eq name (codes "props") then Some props
    else None

-- the number of the place to which a name leads from a place
abbrev pub step : Place → List ℕ → Option ℕ
step (place.Array numbers) name = item_from 0 numbers name
step (place.Object props) name = property props name
step (place.Element tag key props) name = part tag key props name
step at name = None

-- ---- where a walk stands, and where it ends

-- on the way to the value of an id, or at a place; with the steps that are left
pub data Stand : Type 0 where
  to : (id : ℕ) (path : Path) → Stand
  here : (spot : Spot) (path : Path) → Stand

-- at a place; at a stream; at an id that has no row yet, with the steps that are left; or nowhere
pub data Found : Type 0 where
  found : (spot : Spot) → Found
  stream : (id : ℕ) → Found
  not_yet : (id : ℕ) (path : Path) → Found
  nowhere : Found

-- a walk goes on, or ends
pub data Turn : Type 0 where
  on : Stand → Turn
  ends : Found → Turn

-- a stream has no steps
abbrev pub end_at_stream : ℕ → Path → Found
end_at_stream id [] = stream id
end_at_stream id (name ∷ path) = nowhere

-- into a row: an open row is the stream itself, of any other row the root place is the value
abbrev pub enter : ℕ → RowKind → Path → Turn
enter id (row.Open flow) path = ends (end_at_stream id path)
enter id kind path = on (here (first_place id) path)

-- into the value of an id, by the first of its rows
abbrev pub go_to : ℕ → List PlaceTree → Path → Turn
go_to id [] path = ends (not_yet id path)
go_to id (t ∷ ts) path = enter id t.kind path

-- a step down leads to another place of the row, or nowhere
abbrev pub go_down : Spot → Option ℕ → Path → Turn
go_down s None path = ends nowhere
go_down s (Some at) path = on (here (beside s at) path)

-- a failure ends the walk where it is met; any other place without a step left is its end
abbrev pub go_on : Spot → Place → Path → Turn
go_on s at [] = ends (found s)
go_on s (place.Atom (atom.Failed digest)) (name ∷ path) = ends (found s)
go_on s at (name ∷ path) = go_down s (step at name) path

-- lazies and value references are followed before each step and at the end
abbrev pub go_from : Spot → Option Place → Path → Turn
go_from s None path = ends nowhere
go_from s (Some (place.Lazy id)) path = on (to id path)
go_from s (Some (place.Value at)) path = on (to at.id (at.path ++ path))
go_from s (Some at) path = go_on s at path

abbrev pub turn : List PlacedRow → Stand → Turn
turn rows (to id path) = go_to id (rows_of id rows) path
turn rows (here s path) = go_from s (place_at rows s) path

-- ---- the walk

abbrev pub after_turn : (Stand → Option Found) → Turn → Option Found
after_turn walk (on s) = walk s
after_turn walk (ends f) = Some f

-- where the walk ends within so many turns
abbrev pub walk_by : ℕ → List PlacedRow → Stand → Option Found
walk_by zero rows s = None
walk_by (suc n) rows s = after_turn (walk_by n rows) (turn rows s)

-- some number of turns is enough
abbrev pub Ends : List PlacedRow → Stand → Found → Type 0
Ends rows s f = (n : ℕ) × (walk_by n rows s ≡ Some f)

-- no number of turns is enough
abbrev pub Endless : List PlacedRow → Stand → Type 0
Endless rows s = (n : ℕ) → walk_by n rows s ≡ None

-- the walk leads nowhere: it ends so, or never
abbrev pub LeadsNowhere : List PlacedRow → Stand → Type 0
LeadsNowhere rows s = Ends rows s nowhere ⊎ Endless rows s

-- a walk that ends at a place or at a stream
abbrev pub IsEnd : Found → Type 0
IsEnd (found s) = Unit {0}
IsEnd (stream id) = Unit {0}
IsEnd (not_yet id path) = ⊥
IsEnd nowhere = ⊥

abbrev pub ComesToAnEnd : List PlacedRow → Stand → Type 0
ComesToAnEnd rows s = (f : Found) × Ends rows s f × IsEnd f

-- no lazy and no value reference: no walk goes on from there with no step left
abbrev pub IsStop : Place → Type 0
IsStop (place.Lazy id) = ⊥
IsStop (place.Value at) = ⊥
IsStop at = Unit {0}

abbrev pub StopsAt : List PlacedRow → Spot → Type 0
StopsAt rows s = (at : Place) × (place_at rows s ≡ Some at) × IsStop at

-- the row in which the walk stands is there
abbrev pub IsThere : List PlacedRow → Stand → Type 0
IsThere rows (to id path) = Unit {0}
IsThere rows (here s path) = HasRowOf rows s

-- the walk waits for no row: it ends otherwise, or never
abbrev pub WaitsForNone : List PlacedRow → Stand → Type 0
WaitsForNone rows s = (id : ℕ) (path : Path) → ¬ (Ends rows s (not_yet id path))
