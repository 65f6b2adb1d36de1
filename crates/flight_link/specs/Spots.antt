-- The places of the added rows by their numbers.
use Rattle.std.specs.Prelude.{ℕ, ◌+◌, ◌≤◌, ◌≡◌, List, length, take, slice_get, Some, sum_by}
use Rattle.flight_meaning.specs.declared.place.Place.{Place}
use Rattle.flight_meaning.specs.declared.place.PlacedRow.{PlacedRow}
use Rattle.flight_meaning.specs.Linked as linked
use Rattle.flight_meaning.specs.Linked.{rows_of, place_at}
use Rattle.flight_link.specs.declared.found.Spot.{Spot}

-- a place by the number of its row among all rows, and by its id and how many rows of that id came before
pub record IsSpot (rows : List PlacedRow) (numbered : Spot) (s : linked.Spot) : Type 0 where
  pub row : PlacedRow
  pub is_row : slice_get rows numbered.row ≡ Some row
  pub id : s.id ≡ row.id
  pub nth : s.nth ≡ length (rows_of row.id (take numbered.row rows))
  pub at : s.at ≡ numbered.place

-- how many places the rows have in all
abbrev pub places_in : List PlacedRow → ℕ
places_in rows = sum_by (λ r. length r.tree.places) rows

-- the number of a place among all places, in the order in which they came
pub record IsNumber (rows : List PlacedRow) (s : linked.Spot) (number : ℕ) : Type 0 where
  pub spot : Spot
  pub is_spot : IsSpot rows spot s
  pub is_number : number ≡ places_in (take spot.row rows) + s.at

-- the first place at which this stands has this number
pub record IsFirst (rows : List PlacedRow) (stands : Place) (number : ℕ) : Type 0 where
  pub spot : linked.Spot
  pub here : place_at rows spot ≡ Some stands
  pub is_number : IsNumber rows spot number
  pub first : (other : linked.Spot) (m : ℕ) → place_at rows other ≡ Some stands → IsNumber rows other m → number ≤ m
