-- The pieces of a text, which are spaces, comments and tokens: how each is spelled, and which stands at the front.
use Rattle.std.specs.Prelude.{ℕ, ◌+◌, ◌-◌, ◌*◌, ◌^◌, ◌<◌, ◌≤◌, ◌≡◌, ◌≢◌, ◌==◌, ◌&&◌, ◌||◌, Bool, true, false, not, List, [], ◌∷◌, ◌++◌, length, take, slice_index, codes, Option, Some, None}
use Rattle.std.specs.List.{list_all, list_any, fold}
use Rattle.std.specs.Char.{is_ascii_alphabetic, is_ascii_digit}
use Rattle.serde_json.specs.Data.{string}
use Rattle.serde_json.specs.Read.{read}
use Rattle.flight_syntax.specs.declared.token.TokenKind.{TokenKind}
use Rattle.flight_syntax.specs.declared.token.TokenKind.TheVariants.{Name, Number, Big, Text, Mark}
use Rattle.flight_syntax.specs.declared.piece.Piece.{Piece}
use Rattle.flight_syntax.specs.declared.piece.Found.{Found}
use Rattle.flight_syntax.specs.declared.piece.Piece.TheVariants.{Space, Comment, Token}

-- whether a byte is one of these
abbrev pub is_among : List ℕ → ℕ → Bool
is_among bytes b = list_any (λ x. x == b) bytes

-- a space, a tab, a carriage return or a newline
abbrev pub is_space : ℕ → Bool
is_space b = is_among (32 ∷ 9 ∷ 13 ∷ 10 ∷ []) b

-- a space is one byte
abbrev pub is_space_piece : List ℕ → Bool
is_space_piece (b ∷ []) = is_space b
is_space_piece _ = false

-- a byte of a line
abbrev pub is_line_byte : ℕ → Bool
is_line_byte b = not (b == 10)

-- a comment is `//` and the bytes of a line
abbrev pub is_comment : List ℕ → Bool
is_comment (a ∷ b ∷ line) = (a == 47) && ((b == 47) && list_all is_line_byte line)
is_comment _ = false

-- a letter or `_`
abbrev pub begins_name : ℕ → Bool
begins_name b = is_ascii_alphabetic b || (b == 95)

-- a letter, a digit or `_`
abbrev pub is_name_byte : ℕ → Bool
is_name_byte b = begins_name b || is_ascii_digit b

-- a name is a letter or `_`, and then letters, digits and `_`
abbrev pub is_name : List ℕ → Bool
is_name [] = false
is_name (b ∷ bs) = begins_name b && list_all is_name_byte bs

-- the number that decimal digits spell
abbrev pub decimal : List ℕ → ℕ
decimal digits = fold (λ n d. 10 * n + (d - 48)) 0 digits

-- a decimal numeral: digits, of which the first is `0` only where it stands alone
pub record IsNumeral (digits : List ℕ) (number : ℕ) : Type 0 where
  pub all_digits : list_all is_ascii_digit digits ≡ true
  pub some : 0 < length digits
  pub no_zero_before : 1 < length digits → slice_index digits 0 ≢ 48
  pub spelled : decimal digits ≡ number

-- a number is a numeral of at most 2^53 - 1
pub record IsNumber (bytes : List ℕ) (number : ℕ) : Type 0 where
  pub is_numeral : IsNumeral bytes number
  pub within : number < 2 ^ 53

-- a big number is a numeral of at most 2^127 - 1, and `n`
pub record IsBig (bytes : List ℕ) (number : ℕ) : Type 0 where
  pub digits : List ℕ
  pub is_numeral : IsNumeral digits number
  pub within : number < 2 ^ 127
  pub spelled : bytes ≡ digits ++ 110 ∷ []

-- a text is between quotes, and JSON reads it as a string
pub record IsText (bytes value : List ℕ) : Type 0 where
  pub inner : List ℕ
  pub quoted : bytes ≡ 34 ∷ (inner ++ 34 ∷ [])
  pub is_string : read bytes ≡ Some (string value)

-- a mark of one byte
abbrev pub is_single_mark : ℕ → Bool
is_single_mark b = is_among (codes "()[]{},;:.=+-*<>") b

-- a mark of two bytes: `==`, `&&`, `||`, `</` or `/>`
abbrev pub is_double_mark : ℕ → ℕ → Bool
is_double_mark a b = ((a == 61) && (b == 61)) || (((a == 38) && (b == 38)) || (((a == 124) && (b == 124)) || (((a == 60) && (b == 47)) || ((a == 47) && (b == 62)))))

abbrev pub is_mark : List ℕ → Bool
is_mark (a ∷ []) = is_single_mark a
is_mark (a ∷ b ∷ []) = is_double_mark a b
is_mark _ = false

-- a comment or a mark of two bytes is at the front
abbrev pub begins_pair : List ℕ → Bool
begins_pair (a ∷ b ∷ rest) = is_double_mark a b || ((a == 47) && (b == 47))
begins_pair _ = false

-- the bytes spell a token of the kind
abbrev pub SpellsToken : TokenKind → List ℕ → Type 0
SpellsToken Name bytes = is_name bytes ≡ true
SpellsToken Number bytes = (number : ℕ) × IsNumber bytes number
SpellsToken Big bytes = (number : ℕ) × IsBig bytes number
SpellsToken Text bytes = (value : List ℕ) × IsText bytes value
SpellsToken Mark bytes = is_mark bytes ≡ true

-- the bytes spell the piece
abbrev pub Spells : Piece → List ℕ → Type 0
Spells Space bytes = is_space_piece bytes ≡ true
Spells Comment bytes = is_comment bytes ≡ true
Spells (Token kind) bytes = SpellsToken kind bytes

-- behind so many bytes of a text stands no name byte
abbrev pub EndsApart : List ℕ → ℕ → Type 0
EndsApart text count = count < length text → is_name_byte (slice_index text count) ≡ false

-- no name byte follows a number directly
abbrev pub IsApart : Piece → List ℕ → ℕ → Type 0
IsApart (Token Number) text count = EndsApart text count
IsApart (Token Big) text count = EndsApart text count
IsApart _ text count = Unit {0}

-- the first bytes of the text, so many, are the piece: no longer front spells any piece
pub record Stands (piece : Piece) (text : List ℕ) (count : ℕ) : Type 0 where
  pub within : count ≤ length text
  pub spelled : Spells piece (take count text)
  pub longest : (other : Piece) (longer : ℕ) → longer ≤ length text → Spells other (take longer text) → longer ≤ count
  pub is_apart : IsApart piece text count

-- no piece is at the front of the text
abbrev pub NothingStands : List ℕ → Type 0
NothingStands text = (piece : Piece) (count : ℕ) → Stands piece text count → ⊥

-- what was found at the front of the text, if anything stands there
abbrev pub IsFound : List ℕ → Option Found → Type 0
IsFound text None = NothingStands text
IsFound text (Some found) = Stands found.piece text found.len
