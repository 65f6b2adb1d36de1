-- Whole numbers in JSON.
use Rattle.std.specs.Prelude.{◌-◌, ◌^◌, ◌&&◌, nat_lt, if◌then◌else◌, is_some, Bool, true, ℤ, pos, negsuc, Option, Some, None}
use Rattle.serde_json.specs.Data.{Num, unsigned, negative, float, Data, null, boolean, number, string, array, object, Items, no_items, item, Members, no_members, member}

-- a whole number within 53 bits, written without fraction or exponent and not as -0
abbrev pub whole_of : Num → Option ℤ
whole_of (unsigned n) = if nat_lt n (2 ^ 53) then Some (pos n) else None
whole_of (negative (pos n)) = None
whole_of (negative (negsuc n)) = if nat_lt n (2 ^ 53 - 1) then Some (negsuc n) else None
whole_of (float x) = None

-- each number in a value is whole
abbrev mutual
  pub has_whole_numbers : Data → Bool
  has_whole_numbers null = true
  has_whole_numbers (boolean b) = true
  has_whole_numbers (number x) = is_some (whole_of x)
  has_whole_numbers (string s) = true
  has_whole_numbers (array ds) = items_have_whole_numbers ds
  has_whole_numbers (object ms) = members_have_whole_numbers ms

  pub items_have_whole_numbers : Items → Bool
  items_have_whole_numbers no_items = true
  items_have_whole_numbers (item d ds) = has_whole_numbers d && items_have_whole_numbers ds

  pub members_have_whole_numbers : Members → Bool
  members_have_whole_numbers no_members = true
  members_have_whole_numbers (member name d ms) = has_whole_numbers d && members_have_whole_numbers ms
