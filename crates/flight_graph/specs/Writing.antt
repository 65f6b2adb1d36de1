-- Words for the functions that write the parts of a text.
use Rattle.std.specs.Prelude.{ℕ, Bool, ◌||◌, nat_eq, nat_lt, List, [], if◌then◌else◌, codes}

-- whether a byte is escaped at all
abbrev pub is_escaped : ℕ → Bool
is_escaped byte = nat_lt byte 32 || (nat_eq byte 34 || nat_eq byte 92)

-- what stands before an item of a row with commas: nothing before the first
abbrev pub comma_before : ℕ → List ℕ
comma_before at = if nat_eq at 0 then [] else codes ","
