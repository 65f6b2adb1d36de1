-- The rows of one id, how an id stands, and the places of rows.
use Rattle.std.specs.Prelude.{ℕ, ◌==◌, ◌≡◌, Bool, List, [], ◌∷◌, map, Option, Some, None, option_and_then, slice_get}
use Rattle.std.specs.List.{filter}
use Rattle.flight_row.specs.declared.row.RowKind.{RowKind}
use Rattle.flight_row.specs.declared.row.RowKind.TheVariants as row
use Rattle.flight_meaning.specs.declared.place.Place.{Place}
use Rattle.flight_meaning.specs.declared.place.PlaceTree.{PlaceTree}
use Rattle.flight_meaning.specs.declared.place.PlacedRow.{PlacedRow}

-- ---- the rows of an id

abbrev pub is_of : ℕ → PlacedRow → Bool
is_of id r = r.id == id

-- the trees of the rows of an id, in the order in which the rows came
abbrev pub rows_of : ℕ → List PlacedRow → List PlaceTree
rows_of id rows = map (λ r. r.tree) (filter (is_of id) rows)

-- ---- how an id stands

-- no row came; a row defined it; a row opened a stream; the stream has ended
pub data Standing : Type 0 where
  absent : Standing
  defined : Standing
  streaming : Standing
  ended : Standing

-- why a row may not follow those of its id
pub data Refusal : Type 0 where
  twice : Refusal
  not_open : Refusal
  after_end : Refusal

-- a row changes how its id stands, or is refused
pub data Verdict : Type 0 where
  goes : Standing → Verdict
  refused : Refusal → Verdict

-- what a row of this kind does to its id
abbrev pub next : Standing → RowKind → Verdict
next absent row.Close = refused not_open
next absent (row.Open flow) = goes streaming
next absent kind = goes defined
next defined row.Close = refused not_open
next defined kind = refused twice
next streaming row.Model = goes streaming
next streaming row.Text = goes streaming
next streaming row.Error = goes ended
next streaming row.Close = goes ended
next streaming row.Import = refused twice
next streaming (row.Open flow) = refused twice
next ended kind = refused after_end

-- how an id stands after rows of these kinds, one after another; None where one of them is refused
abbrev pub after : Verdict → List PlaceTree → Option Standing
after (refused why) trees = None
after (goes s) [] = Some s
after (goes s) (t ∷ ts) = after (next s t.kind) ts

-- how an id stands after the rows
abbrev pub standing_of : ℕ → List PlacedRow → Option Standing
standing_of id rows = after (goes absent) (rows_of id rows)

-- no row of any id is refused
abbrev pub FollowOn : List PlacedRow → Type 0
FollowOn rows = (id : ℕ) → (s : Standing) × (standing_of id rows ≡ Some s)

-- ---- places

-- A place of the rows: the id of its row, how many rows of that id came before, and its number in its row. No row that
-- comes later renames it.
pub record Spot : Type 0 where
  pub id : ℕ
  pub nth : ℕ
  pub at : ℕ

abbrev pub place_at : List PlacedRow → Spot → Option Place
place_at rows s = option_and_then (λ t. slice_get t.places s.at) (slice_get (rows_of s.id rows) s.nth)

-- the root place of the row that defined an id
abbrev pub first_place : ℕ → Spot
first_place id = record { id = id; nth = 0; at = 0 }

-- another place of the same row
abbrev pub beside : Spot → ℕ → Spot
beside s at = record { id = s.id; nth = s.nth; at = at }

-- the row of the place is there
abbrev pub HasRowOf : List PlacedRow → Spot → Type 0
HasRowOf rows s = (t : PlaceTree) × (slice_get (rows_of s.id rows) s.nth ≡ Some t)
