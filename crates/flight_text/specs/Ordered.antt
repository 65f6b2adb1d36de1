-- Members that ascend by their names.
use Rattle.std.specs.Prelude.{ℕ, List, [], ◌∷◌, ◌≡◌}
use Rattle.std.specs.declared.cmp.Ordering.TheVariants.{Less}
use Rattle.std.specs.Ordering.{nat_cmp}
use Rattle.std.specs.Cmp.Lexicographic.{slice_cmp}
use Rattle.std.specs.List.{AllByRecursion}
use Rattle.serde_json.specs.Data.{Members, no_members, member}

abbrev pub names : Members → List (List ℕ)
names no_members = []
names (member name d ms) = name ∷ names ms

-- the name is below each of these, by their bytes
abbrev pub Below : List ℕ → List (List ℕ) → Type 0
Below k ks = AllByRecursion (λ y. slice_cmp nat_cmp k y ≡ Less) ks

-- the names ascend by their bytes
abbrev pub OrderedMembers : Members → Type 0
OrderedMembers no_members = Unit {0}
OrderedMembers (member name d ms) = Below name (names ms) × OrderedMembers ms
