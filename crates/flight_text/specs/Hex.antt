-- Hexadecimal numbers, and ids.
use Rattle.std.specs.Prelude.{ℕ, ◌^◌, ◌<◌, ◌≤◌, ◌≡◌, ◌&&◌, ◌||◌, Bool, true, false, nat_le, List, length}
use Rattle.std.specs.List.{list_all}
use Rattle.std.specs.Str.Parse.{digits_value}
use Rattle.std.specs.Fmt.{digits as digits_of_number}

-- a digit: 0 to 9, or a to f
abbrev pub is_hex_digit : ℕ → Bool
is_hex_digit byte = (nat_le 48 byte && nat_le byte 57) || (nat_le 97 byte && nat_le byte 102)

-- one to eight lower-case digits, the highest first
pub record IsHex (digits : List ℕ) (number : ℕ) : Type 0 where
  pub lower : list_all is_hex_digit digits ≡ true
  pub some : 0 < length digits
  pub short : length digits ≤ 8
  pub value : digits_value 16 digits ≡ number

-- an id is below 2^31
pub record IsId (digits : List ℕ) (id : ℕ) : Type 0 where
  pub hex : IsHex digits id
  pub small : id < 2 ^ 31

-- the digits that are written: without leading zeros
abbrev pub hex_of : ℕ → List ℕ
hex_of number = digits_of_number 16 false number
