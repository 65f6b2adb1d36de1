-- Printed tokens: what each is, and that none runs into the next.
use Rattle.std.specs.Prelude.{ℕ, ◌+◌, ◌≡◌, true, false, List, [], ◌∷◌, ◌++◌, length}
use Rattle.flight_syntax.specs.declared.token.Token.{Token}
use Rattle.flight_syntax.specs.declared.token.TokenKind.{TokenKind}
use Rattle.flight_syntax.specs.declared.token.TokenKind.TheVariants.{Name, Number, Big, Text, Mark}
use Rattle.flight_syntax.specs.Pieces.{SpellsToken, is_space, is_name_byte, begins_pair}
use Rattle.flight_syntax.specs.Lexicon.{Word, word_as}

-- a token, and the space behind it, if any
pub record Piece : Type 0 where
  pub kind : TokenKind
  pub bytes : List ℕ
  pub gap : List ℕ

-- the token does not go on with the next byte
abbrev pub IsApart : TokenKind → List ℕ → List ℕ → Type 0
IsApart kind bytes [] = ⊥
IsApart Name bytes (b ∷ rest) = is_name_byte b ≡ false
IsApart Number bytes (b ∷ rest) = is_name_byte b ≡ false
IsApart Big bytes (b ∷ rest) = is_name_byte b ≡ false
IsApart Text bytes (b ∷ rest) = Unit {0}
IsApart Mark (a ∷ []) (b ∷ rest) = begins_pair (a ∷ b ∷ []) ≡ false
IsApart Mark bytes (b ∷ rest) = Unit {0}

-- a space behind the token, or another token that it does not run into
abbrev pub EndsBy : List ℕ → TokenKind → List ℕ → List Piece → Type 0
EndsBy (b ∷ []) kind bytes rest = is_space b ≡ true
EndsBy [] kind bytes (next ∷ rest) = IsApart kind bytes next.bytes
EndsBy _ kind bytes rest = ⊥

-- each is a token, and ends where it does
abbrev pub AreApart : List Piece → Type 0
AreApart [] = Unit {0}
AreApart (p ∷ rest) = SpellsToken p.kind p.bytes × EndsBy p.gap p.kind p.bytes rest × AreApart rest

-- how they are written
abbrev pub text_of : List Piece → List ℕ
text_of [] = []
text_of (p ∷ rest) = p.bytes ++ (p.gap ++ text_of rest)

-- how many bytes a token and its space are
abbrev pub size : Piece → ℕ
size p = length p.bytes + length p.gap

-- the tokens and the words, where the first stands at this place
abbrev pub tokens_at : ℕ → List Piece → List Token
tokens_at at [] = []
tokens_at at (p ∷ rest) = record { kind = p.kind; from = at; to = at + length p.bytes } ∷ tokens_at (at + size p) rest

abbrev pub words_at : ℕ → List Piece → List Word
words_at at [] = []
words_at at (p ∷ rest) = word_as p.kind (record { bytes = p.bytes; at = at }) ∷ words_at (at + size p) rest

abbrev pub total : List Piece → ℕ
total [] = 0
total (p ∷ rest) = size p + total rest
