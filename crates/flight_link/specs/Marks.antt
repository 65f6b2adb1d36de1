-- Marks: the numbers of places among all places, and of first mentions.
use Rattle.std.specs.Prelude.{ℕ, ◌^◌, ◌<◌, ◌≤◌, ◌≡◌, ◌≢◌, List, length, take, slice_get, Option, Some, None}
use Rattle.flight_meaning.specs.declared.place.Place.{Place}
use Rattle.flight_meaning.specs.declared.place.Place.TheVariants as place
use Rattle.flight_meaning.specs.declared.place.PlacedRow.{PlacedRow}
use Rattle.flight_link.specs.declared.mention.Mention.{Mention}
use Rattle.flight_link.specs.declared.mention.Mention.TheVariants as mention
use Rattle.flight_link.specs.declared.node.State.{State}
use Rattle.flight_link.specs.declared.table.Table.{Table}
use Rattle.flight_link.specs.Nodes.{AreLinked}
use Rattle.flight_link.specs.Spots.{places_in}

-- how many places stand before each row, and no more than 2^32 stand in all
pub record AreBases (rows : List PlacedRow) (bases : List ℕ) (total : ℕ) : Type 0 where
  pub one_each : length bases ≡ length rows
  pub before : (i b : ℕ) → slice_get bases i ≡ Some b → b ≡ places_in (take i rows)
  pub is_total : total ≡ places_in rows
  pub few : total ≤ 2 ^ 32

-- what mentions the promise or the server reference of an id
abbrev pub mentioned : Mention → Place
mentioned (mention.Promise id) = place.Promise id
mentioned (mention.Action id) = place.Action id

-- the first of places that is this one
abbrev pub IsFirstIn : List Place → Place → Option ℕ → Type 0
IsFirstIn places at (Some n) = (slice_get places n ≡ Some at) × ((m : ℕ) → m < n → slice_get places m ≢ Some at)
IsFirstIn places at None = (m : ℕ) → slice_get places m ≢ Some at

-- the table, with the numbers of its places
pub record IsWhole (t : Table) (states : List State) (before : List ℕ) (total : ℕ) : Type 0 where
  pub linked : AreLinked t states
  pub bases : AreBases t.rows.items before total
