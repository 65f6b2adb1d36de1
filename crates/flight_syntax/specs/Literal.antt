-- Where a literal between quotes ends.
use Rattle.std.specs.Prelude.{ℕ, ◌==◌, Bool, true, false, if◌then◌else◌, List, [], ◌∷◌, suc, Option, Some, None, option_map}

-- how many bytes there are up to the first quote that no backslash escapes, with it
abbrev pub closing : Bool → List ℕ → Option ℕ
closing escaped [] = None
closing true (b ∷ bs) = option_map suc (closing false bs)
closing false (b ∷ bs) = if b == 34 then Some 1 else option_map suc (closing (b == 92) bs)
