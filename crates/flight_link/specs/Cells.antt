-- Numbers in four bytes, or none.
use Rattle.std.specs.Prelude.{ℕ, zero, suc, ◌≡◌, refl, Option, Some, None}

-- a cell holds its number plus one, and 0 for none
abbrev pub number_held : ℕ → Option ℕ
number_held zero = None
number_held (suc n) = Some n

-- what a cell holds for a number
abbrev pub held_for : Option ℕ → ℕ
held_for None = 0
held_for (Some n) = suc n

pub held_again : (n : ℕ) → held_for (number_held n) ≡ n
held_again zero = refl
held_again (suc n) = refl
