-- Words of a command that has one option with a number.
use Rattle.std.specs.Prelude.{ℕ, ◌≤◌, ◌≡◌, List, [], ◌∷◌, ◌++◌, length, codes}
use Rattle.std.specs.Str.Parse.{IsNumeral, digits_value}

-- one to ten decimal digits, leading zeros among them, that spell a number from 1 to the most
pub record IsNumber (most : ℕ) (text : List ℕ) (n : ℕ) : Type 0 where
  pub digits : IsNumeral 10 text
  pub short : length text ≤ 10
  pub value : digits_value 10 text ≡ n
  pub least : 1 ≤ n
  pub within : n ≤ most

-- the command, with the number in a word of its own or in one with the option; by itself it is the most
pub data AreNumbered (command option : List ℕ) (most : ℕ) : List (List ℕ) → ℕ → Type 0 where
  alone : AreNumbered command option most (command ∷ []) most
  apart : (text : List ℕ) (n : ℕ) → IsNumber most text n → AreNumbered command option most (command ∷ option ∷ text ∷ []) n
  joined : (text : List ℕ) (n : ℕ) → IsNumber most text n → AreNumbered command option most (command ∷ (option ++ codes "=" ++ text) ∷ []) n

abbrev pub AreOf : List ℕ → List ℕ → ℕ → List (List ℕ) → Type 0
AreOf command option most words = (n : ℕ) × AreNumbered command option most words n
