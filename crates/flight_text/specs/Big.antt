-- Decimal numbers with a sign.
use Rattle.std.specs.Prelude.{ℕ, ◌≡◌, ◌⊎◌, ℤ, pos, neg_ℤ, List, ◌++◌, codes, FitsSigned}
use Rattle.std.specs.Int.{w128}
use Rattle.std.specs.Str.Parse.{IsNumeral, digits_value}

-- one digit or more, perhaps behind a minus, that spell a number of 128 bits
pub record IsBig (text : List ℕ) (number : ℤ) : Type 0 where
  pub digits : List ℕ
  pub are_digits : IsNumeral 10 digits
  pub signed : ((text ≡ digits) × (number ≡ pos (digits_value 10 digits)))
      ⊎ ((text ≡ codes "-" ++ digits) × (number ≡ neg_ℤ (pos (digits_value 10 digits))))
  pub fits : FitsSigned w128 number
