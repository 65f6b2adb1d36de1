-- The lines of a bundle, and the first of them that is a mark.
use Rattle.std.specs.Prelude.{ℕ, ◌≡◌, ◌≢◌, ◌⊎◌, List, [], ◌∷◌, ◌++◌, Contains, Option, Some, None}
use Rattle.std.specs.List.{AllByRecursion}

abbrev pub newline : ℕ
newline = 10

-- bytes of one line, without the newline that ends it
abbrev pub IsLine : List ℕ → Type 0
IsLine line = Contains line newline → ⊥

-- a line that is not the mark
abbrev pub IsOther : List ℕ → List ℕ → Type 0
IsOther mark line = IsLine line × (line ≢ mark)

-- lines, each with the newline that ends it
abbrev pub ended : List (List ℕ) → List ℕ
ended [] = []
ended (line ∷ lines) = line ++ newline ∷ ended lines

-- a line, and what stands behind the newline that ends it, if one does
abbrev pub from_line : List ℕ → Option (List ℕ) → List ℕ
from_line line None = line
from_line line (Some behind) = line ++ newline ∷ behind

-- the mark's line ends the text, or other lines follow it
abbrev pub IsAround : List ℕ → List ℕ → List ℕ → List ℕ → Type 0
IsAround mark text before after = ((text ≡ before ++ mark) × (after ≡ [])) ⊎ (text ≡ before ++ (mark ++ newline ∷ after))

-- the first line that is exactly the mark, with what stands before it and behind it
pub record FirstLine (mark text before after : List ℕ) : Type 0 where
  pub lines : List (List ℕ)
  pub others : AllByRecursion (IsOther mark) lines
  pub front : before ≡ ended lines
  pub around : IsAround mark text before after

-- no line of the text is the mark
pub record NoLine (mark text : List ℕ) : Type 0 where
  pub lines : List (List ℕ)
  pub last : List ℕ
  pub others : AllByRecursion (IsOther mark) lines
  pub last_other : IsOther mark last
  pub whole : text ≡ ended lines ++ last
