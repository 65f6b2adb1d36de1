-- Nodes of the tables, where the own body made none.
use Rattle.std.proofs.Common.{ℕ, suc, zero, ◌≡◌, refl, ap, List, [], ◌∷◌, ◌++◌, length, Option, Some, None, slice_get}
use Rattle.std.specs.Prelude.{option_and_then}
use Rattle.flight_value.specs.declared.name.Name.{Name}
use Rattle.flight_value.specs.declared.made.Made.{Made}
use Rattle.flight_value.specs.declared.made.Tree.{Tree}
use Rattle.flight_value.specs.declared.made.Tree.TheVariants as tree
use Rattle.flight_render.specs.declared.root.Ground.{Ground}
use Rattle.flight_render.specs.Values.{made_in, made_items, made_property, items_in, property_in}

row_below : (tables : List (List Made)) (level serial : ℕ) → option_and_then (λ made. slice_get made serial) (slice_get (tables ++ [] ∷ []) level) ≡ option_and_then (λ made. slice_get made serial) (slice_get tables level)
row_below [] zero serial = refl
row_below [] (suc level) serial = refl
row_below (made ∷ tables) zero serial = refl
row_below (made ∷ tables) (suc level) serial = row_below tables level serial

pub made_below : (tables : List (List Made)) (n : Name) → made_in (tables ++ [] ∷ []) n ≡ made_in tables n
made_below tables n = row_below tables (length n.render) n.serial

pub property_below : (g : Ground) (tables : List (List Made)) (name : List ℕ) (t : Tree) → property_in g (tables ++ [] ∷ []) name t ≡ property_in g tables name t
property_below g tables name (tree.Atom a) = refl
property_below g tables name (tree.Made n) = ap (option_and_then (made_property name)) (made_below tables n)
property_below g tables name (tree.FromSource source n) = refl
property_below g tables name (tree.Promise source) = refl
property_below g tables name (tree.Stream stream) = refl
property_below g tables name (tree.Action action) = refl

pub items_below : (g : Ground) (tables : List (List Made)) (t : Tree) → items_in g (tables ++ [] ∷ []) t ≡ items_in g tables t
items_below g tables (tree.Atom a) = refl
items_below g tables (tree.Made n) = ap (option_and_then made_items) (made_below tables n)
items_below g tables (tree.FromSource source n) = refl
items_below g tables (tree.Promise source) = refl
items_below g tables (tree.Stream stream) = refl
items_below g tables (tree.Action action) = refl
