-- The least id of a reference that is not defined.
use Rattle.std.specs.Prelude.{ℕ, ◌≤◌, ◌≡◌, ◌||◌, ◌&&◌, codes, Bool, true, false, List, [], ◌∷◌, min, is_some, slice_get, Option, Some, None}
use Rattle.flight_value.specs.declared.graph.Atom.TheVariants as atom
use Rattle.flight_meaning.specs.declared.place.Place.{Place}
use Rattle.flight_meaning.specs.declared.place.Place.TheVariants as place
use Rattle.flight_meaning.specs.declared.place.PlacedRow.{PlacedRow}
use Rattle.flight_meaning.specs.Meaning.{Token, slots_in, text_at}
use Rattle.flight_meaning.specs.Resolve.{property}
use Rattle.flight_row.specs.declared.row.RowKind.{RowKind}
use Rattle.flight_row.specs.declared.row.RowKind.TheVariants as kind
use Rattle.flight_meaning.specs.Good.{id_of, IsDefined}
use Rattle.flight_link.specs.declared.found.Spot.{Spot}
use Rattle.flight_link.specs.Nodes.{place_in, spot_of, fails}

-- some place among these is a reference of this id that is not defined
abbrev pub IsUndefinedIn : List PlacedRow → (Place → Type 0) → ℕ → Type 0
IsUndefinedIn rows P id = (at : Place) × P at × (id_of at ≡ Some id) × ¬ (IsDefined rows at)

-- the least such id, or None where all among these are defined
abbrev pub IsLeastIn : List PlacedRow → (Place → Type 0) → Option ℕ → Type 0
IsLeastIn rows P (Some id) = IsUndefinedIn rows P id × ((other : ℕ) → IsUndefinedIn rows P other → id ≤ other)
IsLeastIn rows P None = (at : Place) → P at → IsDefined rows at

-- the place stands in a list
abbrev pub IsIn : List Place → Place → Type 0
IsIn places at = (n : ℕ) × (slice_get places n ≡ Some at)

-- the place stands in one of the rows
abbrev pub IsInRows : List PlacedRow → Place → Type 0
IsInRows rows at = (n : ℕ) × ((r : PlacedRow) × (slice_get rows n ≡ Some r) × IsIn r.tree.places at)

-- the lesser of two, where they are there
abbrev pub lesser : Option ℕ → Option ℕ → Option ℕ
lesser (Some m) (Some n) = Some (min m n)
lesser (Some m) None = Some m
lesser None o = o

-- ---- tokens

-- an array of two
abbrev pub is_pair : Option Place → Bool
is_pair (Some (place.Array (key ∷ value ∷ []))) = true
is_pair at = false

abbrev pub fails_in : Option Place → Bool
fails_in (Some at) = fails at
fails_in None = false

-- at the place stand the slots of a Map or a Set, or a failure
abbrev pub token_at : Token → List PlacedRow → Spot → Bool
token_at token rows s = is_some (slots_in token rows (spot_of rows s) (place_in rows s)) || fails_in (place_in rows s)

-- ---- server references

abbrev pub text_in : List PlacedRow → ℕ → Option ℕ → Bool
text_in rows row (Some n) = is_some (text_at (place_in rows (record { row = row; place = n })))
text_in rows row None = false

-- null, or a promise
abbrev pub may_bind : Option Place → Bool
may_bind (Some (place.Atom atom.Null)) = true
may_bind (Some (place.Promise id)) = true
may_bind at = false

abbrev pub bound_in : List PlacedRow → ℕ → Option ℕ → Bool
bound_in rows row (Some n) = may_bind (place_in rows (record { row = row; place = n }))
bound_in rows row None = false

-- a model row whose object has a text and what is bound
abbrev pub refers_in : List PlacedRow → ℕ → RowKind → Option Place → Bool
refers_in rows row kind.Model (Some (place.Object props)) = text_in rows row (property props (codes "id")) && bound_in rows row (property props (codes "bound"))
refers_in rows row of_kind at = false
