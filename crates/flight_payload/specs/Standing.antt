-- Where the places of a value and of what is in it stand.
use Rattle.std.specs.Prelude.{ℕ, ◌+◌, ◌≡◌, List, Some, slice_get}
use Rattle.flight_meaning.specs.declared.place.Place.{Place}
use Rattle.flight_meaning.specs.declared.place.Place.TheVariants as place
use Rattle.flight_payload.specs.Tree.{Tree, single, array, object, element, Trees, no_trees, tree_and, Props, no_props, prop_and, count, tree_numbers, prop_numbers, element_place}

-- the place has this number
abbrev pub IsAt : List Place → ℕ → Place → Type 0
IsAt places n p = slice_get places n ≡ Some p

-- the value has this number, and what is in it has those that its place names
abbrev mutual
  pub Stands : List Place → ℕ → Tree → Type 0
  Stands places n (single p) = IsAt places n p
  Stands places n (array ts) = IsAt places n (place.Array (tree_numbers (n + 1) ts)) × AllStand places (n + 1) ts
  Stands places n (object ps) = IsAt places n (place.Object (prop_numbers (n + 1) ps)) × EachStands places (n + 1) ps
  Stands places n (element tag key props) =
      IsAt places n (element_place n tag key) × Stands places (n + 2) tag × Stands places (n + 2 + count tag) key × Stands places (n + 2 + count tag + count key) props

  pub AllStand : List Place → ℕ → Trees → Type 0
  AllStand places n no_trees = Unit {0}
  AllStand places n (tree_and t ts) = Stands places n t × AllStand places (n + count t) ts

  pub EachStands : List Place → ℕ → Props → Type 0
  EachStands places n no_props = Unit {0}
  EachStands places n (prop_and name t ps) = Stands places n t × EachStands places (n + count t) ps
