-- The form of a date.
use Rattle.std.specs.Prelude.{ℕ, List, ◌≡◌, ◌==◌, ◌⊎◌, codes, MatchBool}
use Rattle.std.specs.List.{AllZip}
use Rattle.std.specs.Char.{IsAsciiDigit}

-- a byte of a form: `d` stands for any digit, every other byte for itself
abbrev pub IsByteOf : ℕ → ℕ → Type 0
IsByteOf form byte = MatchBool (form == 100) (IsAsciiDigit byte) (form ≡ byte)

-- byte by byte, with none left
abbrev pub HasForm : List ℕ → List ℕ → Type 0
HasForm form text = AllZip IsByteOf form text

-- a year of four digits, or of six behind a sign, and then month, day, time and milliseconds in UTC
abbrev pub IsDate : List ℕ → Type 0
IsDate text =
    HasForm (codes "dddd-dd-ddTdd:dd:dd.dddZ") text
    ⊎ (HasForm (codes "+dddddd-dd-ddTdd:dd:dd.dddZ") text
    ⊎ HasForm (codes "-dddddd-dd-ddTdd:dd:dd.dddZ") text)
