-- What a whole list of words is: the one program that it spells, or the first word that no program continues with.
use Rattle.std.specs.Prelude.{ℕ, ◌≡◌, true, false, List, [], ◌∷◌, ◌++◌, length, Result, Ok, Err}
use Rattle.flight_syntax.specs.Lexicon.{Word, mark, deep, beyond, AreReal}
use Rattle.flight_syntax.specs.Tree.{Declaration}
use Rattle.flight_syntax.specs.Grammar.{DeclaresAllTo, DeclaresAll}
use Rattle.flight_grammar.specs.Reading.{Fault}

-- the same next word, or the end in both
abbrev pub Alike : List Word → List Word → Type 0
Alike [] [] = Unit {0}
Alike (word ∷ words) (other ∷ others) = word ≡ other
Alike [] (other ∷ others) = ⊥
Alike (word ∷ words) [] = ⊥

-- in place of the next word comes what would be too deep there
abbrev pub IsDeeper : List Word → List Word → Type 0
IsDeeper words (deep ∷ others) = Unit {0}
IsDeeper (mark sign ∷ words) (beyond other ∷ others) = sign ≡ other
IsDeeper _ _ = ⊥

-- The first word that no program continues with, or the end of the text where it is no program.
pub record StopsAt (words : List Word) (f : Fault) : Type 0 where
  pub before : List Word
  pub bad : List Word
  pub whole : words ≡ before ++ bad
  pub is_left : f.left ≡ length bad
  -- the words before it begin a program; where it is too deep, one that goes on there with what is too deep
  pub rest : List Word
  pub all : List Declaration
  pub begins : DeclaresAll all (before ++ rest)
  pub deeper : f.too_deep ≡ true → IsDeeper bad rest
  -- with the word that is there, or the end, they begin none
  pub dead : (others : List Word) → Alike bad others → (all : List Declaration) → DeclaresAll all (before ++ others) → ⊥
  -- where it is not too deep, they begin none that goes on there with what is too deep
  pub tie : f.too_deep ≡ false → (others : List Word) → IsDeeper bad others → (all : List Declaration) → DeclaresAll all (before ++ others) → ⊥

-- what a whole text comes to
abbrev pub Verdict : List Word → Result (List Declaration) Fault → Type 0
Verdict words (Ok all) = DeclaresAll all words × ((other : List Declaration) → DeclaresAll other words → other ≡ all)
Verdict words (Err f) = StopsAt words f

-- Nor does any program of any number of levels go on with the word that is there.
abbrev pub IsDeadAtAnyDepth : (words : List Word) (f : Fault) → StopsAt words f → Type 0
IsDeadAtAnyDepth words f stop = (levels : ℕ) (others : List Word) → AreReal others → Alike stop.bad others → (all : List Declaration) → DeclaresAllTo levels all (stop.before ++ others) → ⊥

-- where a text stops and not because it is too deep
abbrev pub StopsAtAnyDepth : List Word → Type 0
StopsAtAnyDepth words = (f : Fault) (stop : StopsAt words f) → f.too_deep ≡ false → IsDeadAtAnyDepth words f stop
