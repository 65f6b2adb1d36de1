-- Which references are defined, and which rows are good.
use Rattle.std.specs.Prelude.{ℕ, ◌≡◌, ◌≢◌, ◌⊎◌, ◌≤◌, List, [], Option, Some, None}
use Rattle.flight_text.specs.declared.mark.Ref.{Ref}
use Rattle.flight_meaning.specs.declared.place.Place.{Place}
use Rattle.flight_meaning.specs.declared.place.Place.TheVariants as place
use Rattle.flight_meaning.specs.declared.place.PlacedRow.{PlacedRow}
use Rattle.flight_meaning.specs.Linked.{rows_of, Spot, place_at, FollowOn}
use Rattle.flight_meaning.specs.Resolve.{to, ComesToAnEnd}
use Rattle.flight_meaning.specs.Meaning.{Written, Token, map_token, set_token, HasSlots, FailsWith, Reference, reference_of}

-- the id that a reference names
abbrev pub id_of : Place → Option ℕ
id_of (place.Lazy id) = Some id
id_of (place.Promise id) = Some id
id_of (place.Value at) = Some at.id
id_of (place.Map at) = Some at.id
id_of (place.Set at) = Some at.id
id_of (place.Action id) = Some id
id_of at = None

-- a Map or a Set finds its slots, or a failure
abbrev pub IsTokenDefined : List PlacedRow → Token → Ref → Type 0
IsTokenDefined rows token reference = ((slots : List Written) × HasSlots rows token reference slots) ⊎ ((digest : List ℕ) × FailsWith rows reference digest)

-- what a place needs to be defined, by its kind; what is no reference needs nothing
abbrev pub IsDefined : List PlacedRow → Place → Type 0
IsDefined rows (place.Lazy id) = ComesToAnEnd rows (to id [])
IsDefined rows (place.Promise id) = ComesToAnEnd rows (to id [])
IsDefined rows (place.Value at) = ComesToAnEnd rows (to at.id at.path)
IsDefined rows (place.Map at) = IsTokenDefined rows map_token at
IsDefined rows (place.Set at) = IsTokenDefined rows set_token at
IsDefined rows (place.Action id) = (r : Reference) × (reference_of rows id ≡ Some r)
IsDefined rows at = Unit {0}

-- the place stands somewhere in the rows
abbrev pub IsHeld : List PlacedRow → Place → Type 0
IsHeld rows at = (s : Spot) × (place_at rows s ≡ Some at)

-- some reference of this id is held and not defined
abbrev pub IsUndefined : List PlacedRow → ℕ → Type 0
IsUndefined rows id = (at : Place) × IsHeld rows at × (id_of at ≡ Some id) × ¬ (IsDefined rows at)

-- the least id of such a reference; None where every one is defined
abbrev pub IsLeastUndefined : List PlacedRow → Option ℕ → Type 0
IsLeastUndefined rows (Some id) = IsUndefined rows id × ((other : ℕ) → IsUndefined rows other → id ≤ other)
IsLeastUndefined rows None = (at : Place) → IsHeld rows at → IsDefined rows at

-- no row is refused, row 0 is there, and every reference that the rows hold is defined
pub record IsGood (rows : List PlacedRow) : Type 0 where
  pub follow_on : FollowOn rows
  pub root : rows_of 0 rows ≢ []
  pub defined : (at : Place) → IsHeld rows at → IsDefined rows at
