-- The parts of a place.
use Rattle.std.specs.Prelude.{ℕ, ◌<◌, ◌≢◌, map, All}
use Rattle.flight_value.specs.declared.graph.Atom.TheVariants as atom
use Rattle.flight_value.specs.Graph.{Ascend, IsValidAtom}
use Rattle.flight_meaning.specs.declared.place.Place.{Place}
use Rattle.flight_meaning.specs.declared.place.Place.TheVariants as place

-- each number in the place is that of one of so many places
abbrev pub IsWithin : ℕ → Place → Type 0
IsWithin total (place.Array numbers) = All (λ n. n < total) numbers
IsWithin total (place.Object props) = All (λ p. p.place < total) props
IsWithin total (place.Element tag key props) = (tag < total) × (key < total) × (props < total)
IsWithin total at = Unit {0}

-- the names of an object ascend by their bytes, so that none stands twice
abbrev pub HasOrder : Place → Type 0
HasOrder (place.Object props) = Ascend (map (λ p. p.name) props)
HasOrder at = Unit {0}

-- of an atom something is known
abbrev pub IsTold : Place → Type 0
IsTold (place.Atom a) = a ≢ atom.Pending
IsTold at = Unit {0}

-- the atom may stand in a valid graph
abbrev pub HasValidAtom : Place → Type 0
HasValidAtom (place.Atom a) = IsValidAtom a
HasValidAtom at = Unit {0}
