-- The data that parsed JSON stands for, and members in order.
use Rattle.std.specs.Prelude.{ℕ, zero, suc, List, [], ◌∷◌, map, ◌≡◌}
use Rattle.std.specs.Borrow.{Bor}
use Rattle.std.specs.declared.cmp.Ordering.TheVariants.{Less, Equal, Greater}
use Rattle.std.specs.Ordering.{nat_cmp}
use Rattle.std.specs.Cmp.Lexicographic.{slice_cmp}
use Rattle.std.specs.List.{AllByRecursion}
use Rattle.serde_json.specs.Data.{Data, null, boolean, number, string, array, object, Items, Members, no_members, member}
use Rattle.serde_json.specs.View.{number_view, items_of}
use Rattle.flight_text.specs.Ordered.{names}
use Rattle.flight_place.specs.declared.parsed.Parsed.{Parsed, fold-Parsed}
use Rattle.flight_place.specs.declared.parsed.Parsed.TheOpen.{Parsed-F}
use Rattle.flight_place.specs.declared.gathered.Gathered.{Gathered}
use Rattle.flight_place.specs.declared.gathered.Gathered.TheVariants as gathered

-- ---- parsed JSON

abbrev pub members_of : List (Bor (List ℕ) × Data) → Members
members_of [] = no_members
members_of (m ∷ ms) = member m.0.now m.1 (members_of ms)

-- one level, with each value inside already seen as its data
abbrev pub data_step : Parsed-F Data → Data
data_step Parsed-F.Null = null
data_step (Parsed-F.Bool b) = boolean b
data_step (Parsed-F.Number x) = number (number_view x)
data_step (Parsed-F.String s) = string s.now
data_step (Parsed-F.Array v) = array (items_of v.items)
data_step (Parsed-F.Object v) = object (members_of v.items)

abbrev pub data_of : Parsed → Data
data_of = fold-Parsed Data data_step

abbrev pub items_data : List Parsed → Items
items_data ps = items_of (map data_of ps)

abbrev pub members_data : List (Bor (List ℕ) × Parsed) → Members
members_data ms = members_of (map (λ m. (m.0, data_of m.1)) ms)

-- ---- members so far

abbrev pub gathered_data : Gathered → Members
gathered_data (gathered.Listed v) = members_data v.items
gathered_data (gathered.Mapped m) = members_data m.entries

-- ---- order

-- each of these names is below k
abbrev pub EachBelow : Members → List ℕ → Type 0
EachBelow ms k = AllByRecursion (λ y. slice_cmp nat_cmp y k ≡ Less) (names ms)

-- k is above each of these names
abbrev pub AreBelow : List ℕ → Members → Type 0
AreBelow k ms = AllByRecursion (λ y. slice_cmp nat_cmp k y ≡ Greater) (names ms)

-- k is the first name
abbrev pub IsFirst : List ℕ → Members → Type 0
IsFirst k no_members = ⊥
IsFirst k (member name d ms) = slice_cmp nat_cmp k name ≡ Equal

-- k is below the first name, if there is one
abbrev pub IsBelowFirst : List ℕ → Members → Type 0
IsBelowFirst k no_members = Unit {0}
IsBelowFirst k (member name d ms) = slice_cmp nat_cmp k name ≡ Less

-- the members with another value at an index
abbrev pub with_value : ℕ → Data → Members → Members
with_value n d no_members = no_members
with_value zero d (member name e ms) = member name d ms
with_value (suc n) d (member name e ms) = member name e (with_value n d ms)
