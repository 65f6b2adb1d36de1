-- A value as it stands in a row, and its places.
use Rattle.std.specs.Prelude.{ℕ, ◌+◌, max, List, [], ◌∷◌, ◌++◌, codes}
use Rattle.flight_value.specs.declared.graph.Atom.TheVariants as atom
use Rattle.flight_meaning.specs.declared.place.Place.{Place}
use Rattle.flight_meaning.specs.declared.place.Place.TheVariants as place
use Rattle.flight_meaning.specs.declared.place.Named.{Named}

-- an atom or a reference, or a composite with the values in it
mutual
  pub data Tree : Type 0 where
    single : Place → Tree
    array : Trees → Tree
    object : Props → Tree
    element : (tag key props : Tree) → Tree

  pub data Trees : Type 0 where
    no_trees : Trees
    tree_and : (first : Tree) (rest : Trees) → Trees

  pub data Props : Type 0 where
    no_props : Props
    prop_and : (name : List ℕ) (value : Tree) (rest : Props) → Props

abbrev pub names : Props → List (List ℕ)
names no_props = []
names (prop_and name value rest) = name ∷ names rest

-- ---- lists of values

abbrev pub trees_of : List Tree → Trees
trees_of [] = no_trees
trees_of (t ∷ ts) = tree_and t (trees_of ts)

abbrev pub props_of : List (List ℕ × Tree) → Props
props_of [] = no_props
props_of (p ∷ ps) = prop_and p.0 p.1 (props_of ps)

-- ---- numbers

-- how many places a value has: its own, those of what is in it, and that of an element's mark
abbrev mutual
  pub count : Tree → ℕ
  count (single p) = 1
  count (array ts) = 1 + tree_count ts
  count (object ps) = 1 + prop_count ps
  count (element tag key props) = 2 + (count tag + (count key + count props))

  pub tree_count : Trees → ℕ
  tree_count no_trees = 0
  tree_count (tree_and t ts) = count t + tree_count ts

  pub prop_count : Props → ℕ
  prop_count no_props = 0
  prop_count (prop_and name t ps) = count t + prop_count ps

-- the numbers of values, one after another, from n on
abbrev pub tree_numbers : ℕ → Trees → List ℕ
tree_numbers n no_trees = []
tree_numbers n (tree_and t ts) = n ∷ tree_numbers (n + count t) ts

abbrev pub prop_numbers : ℕ → Props → List Named
prop_numbers n no_props = []
prop_numbers n (prop_and name t ps) = record { name = name; place = n } ∷ prop_numbers (n + count t) ps

-- ---- places

-- an element's slots stand behind its mark, whose place is the text `$`
abbrev pub element_place : ℕ → Tree → Tree → Place
element_place n tag key = place.Element (n + 2) (n + 2 + count tag) (n + 2 + count tag + count key)

abbrev pub mark_place : Place
mark_place = place.Atom (atom.Text (codes "$"))

-- the places from number n on: a composite's own, and then those of what is in it
abbrev mutual
  pub places_from : ℕ → Tree → List Place
  places_from n (single p) = p ∷ []
  places_from n (array ts) = place.Array (tree_numbers (n + 1) ts) ∷ tree_places (n + 1) ts
  places_from n (object ps) = place.Object (prop_numbers (n + 1) ps) ∷ prop_places (n + 1) ps
  places_from n (element tag key props) =
      element_place n tag key ∷ mark_place
      ∷ (places_from (n + 2) tag ++ (places_from (n + 2 + count tag) key ++ places_from (n + 2 + count tag + count key) props))

  pub tree_places : ℕ → Trees → List Place
  tree_places n no_trees = []
  tree_places n (tree_and t ts) = places_from n t ++ tree_places (n + count t) ts

  pub prop_places : ℕ → Props → List Place
  prop_places n no_props = []
  prop_places n (prop_and name t ps) = places_from n t ++ prop_places (n + count t) ps

-- ---- depth

-- how many arrays and objects stand around the innermost value
abbrev mutual
  pub depth : Tree → ℕ
  depth (single p) = 0
  depth (array ts) = 1 + tree_depth ts
  depth (object ps) = 1 + prop_depth ps
  depth (element tag key props) = 1 + max (depth tag) (max (depth key) (depth props))

  pub tree_depth : Trees → ℕ
  tree_depth no_trees = 0
  tree_depth (tree_and t ts) = max (depth t) (tree_depth ts)

  pub prop_depth : Props → ℕ
  prop_depth no_props = 0
  prop_depth (prop_and name t ps) = max (depth t) (prop_depth ps)
