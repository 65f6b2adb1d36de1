-- An input that is one model row.
use Rattle.std.specs.Prelude.{ℕ, ◌≤◌, ◌≡◌, ◌==◌, ◌||◌, List, [], ◌∷◌, ◌++◌, length, Bool, true, false, Contains, codes, IsUtf8}
use Rattle.std.specs.Char.{is_ascii_digit}
use Rattle.flight_value.specs.declared.graph.Graph.{Graph}
use Rattle.flight_top.specs.Model.{MeansGraph}

-- a byte with which a model row's payload begins here: `{`, `[`, `"`, `-`, a digit, or the first of a word
abbrev pub begins_model : List ℕ → Bool
begins_model [] = false
begins_model (b ∷ bs) = b == 123 || b == 91 || b == 34 || b == 45 || b == 110 || b == 116 || b == 102 || is_ascii_digit b

-- the input is `0:`, this payload and a newline, in UTF-8 and with no other newline, and not too long for a row
pub record IsRowOf (input payload : List ℕ) : Type 0 where
  pub row : input ≡ codes "0:" ++ payload ++ codes "\n"
  pub short : length input ≤ 67108864
  pub utf8 : IsUtf8 input
  pub one_line : ¬ (Contains payload 10)
  pub model : begins_model payload ≡ true

-- the input is one row whose payload means this graph
abbrev pub IsOneRow : List ℕ → Graph → Type 0
IsOneRow input graph = (payload : List ℕ) × IsRowOf input payload × MeansGraph payload graph
