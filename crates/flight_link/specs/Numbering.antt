-- Keys of nodes under numbers.
use Rattle.std.specs.Prelude.{ℕ, nat_eq, ◌+◌, ◌≤◌, ◌≡◌, ◌≢◌, List, ◌++◌, length, take, slice_get, Option, Some, None}
use Rattle.std.specs.HashMap.{get}
use Rattle.flight_meaning.specs.declared.place.Place.{Place}
use Rattle.flight_meaning.specs.declared.place.PlacedRow.{PlacedRow}
use Rattle.flight_link.specs.declared.found.Spot.{Spot}
use Rattle.flight_link.specs.declared.key.NodeKey.{NodeKey}
use Rattle.flight_link.specs.declared.key.NodeKey.TheVariants.{Made, Promise, Action}
use Rattle.flight_link.specs.declared.numbers.Numbers.{Numbers}
use Rattle.flight_link.specs.Backlogs.{cell}
use Rattle.flight_link.specs.Nodes.{place_in}
use Rattle.flight_link.specs.Spots.{places_in}

-- the number of a place among all places
abbrev pub number_among : List PlacedRow → Spot → ℕ
number_among rows s = places_in (take s.row rows) + s.place

-- the place is there
abbrev pub IsKey : List PlacedRow → NodeKey → Type 0
IsKey rows (Made s) = (at : Place) × (place_in rows s ≡ Some at)
IsKey rows key = Unit {0}

-- the number of a key, in the table for keys of its kind
abbrev pub number_of : List PlacedRow → Numbers → NodeKey → Option ℕ
number_of rows n (Made s) = cell n.places.items (number_among rows s)
number_of rows n (Promise id) = get nat_eq n.promises id
number_of rows n (Action id) = get nat_eq n.actions id

-- the key has this number, or none
abbrev pub HasNumber : List NodeKey → NodeKey → Option ℕ → Type 0
HasNumber keys key (Some n) = slice_get keys n ≡ Some key
HasNumber keys key None = (n : ℕ) → slice_get keys n ≢ Some key

-- each key stands once, under its number
pub record AreNumbered (rows : List PlacedRow) (n : Numbers) : Type 0 where
  pub each : (key : NodeKey) → IsKey rows key → HasNumber n.keys.items key (number_of rows n key)
  pub back : (i : ℕ) (key : NodeKey) → slice_get n.keys.items i ≡ Some key → IsKey rows key × (number_of rows n key ≡ Some i)
  pub room : places_in rows ≤ length n.places.items

-- a key gets a number, and no other changes its own
pub record IsPut (rows : List PlacedRow) (old new : Numbers) (key : NodeKey) (number : ℕ) : Type 0 where
  pub keys : new.keys.items ≡ old.keys.items
  pub here : number_of rows new key ≡ Some number
  pub others : (other : NodeKey) → IsKey rows other → key ≢ other → number_of rows new other ≡ number_of rows old other
  pub room : length new.places.items ≡ length old.places.items

-- more keys may stand behind the old ones
abbrev pub Grows : List NodeKey → List NodeKey → Type 0
Grows old new = (more : List NodeKey) × (new ≡ old ++ more)
