-- The tokens of a text, and its first fault.
use Rattle.std.specs.Prelude.{ℕ, ◌+◌, ◌<◌, ◌≤◌, ◌≡◌, ◌==◌, if◌then◌else◌, List, [], ◌∷◌, length, drop, slice_index, slice_range}
use Rattle.std.specs.Char.{is_ascii_digit}
use Rattle.flight_syntax.specs.declared.token.TokenKind.{TokenKind}
use Rattle.flight_syntax.specs.declared.token.Token.{Token}
use Rattle.flight_syntax.specs.declared.token.LexKind.{LexKind}
use Rattle.flight_syntax.specs.declared.token.LexKind.TheVariants.{BadByte, BadText, BadNumber}
use Rattle.flight_syntax.specs.declared.token.LexFault.{LexFault}
use Rattle.flight_syntax.specs.declared.token.Lexed.{Lexed}
use Rattle.flight_syntax.specs.declared.token.Lexed.TheVariants.{Fault, Memory}
use Rattle.flight_syntax.specs.declared.piece.Piece.TheVariants as piece
use Rattle.flight_syntax.specs.Pieces.{SpellsToken, Stands, NothingStands}

-- from one place of the text to another these tokens stand, with spaces and comments between
pub data Reads (text : List ℕ) : ℕ → List Token → ℕ → Type 0 where
  nothing : {at : ℕ} → Reads text at [] at
  space : {at end count : ℕ} {tokens : List Token} → Stands piece.Space (drop at text) count → Reads text (at + count) tokens end → Reads text at tokens end
  comment : {at end count : ℕ} {tokens : List Token} → Stands piece.Comment (drop at text) count → Reads text (at + count) tokens end → Reads text at tokens end
  token : {kind : TokenKind} {at end count : ℕ} {tokens : List Token} → Stands (piece.Token kind) (drop at text) count → Reads text (at + count) tokens end → Reads text at (record { kind = kind; from = at; to = at + count } ∷ tokens) end

-- the whole text is these tokens
abbrev pub AreTokens : List ℕ → List Token → Type 0
AreTokens text tokens = Reads text 0 tokens (length text)

-- what is wrong where nothing stands: a number at a digit, a text at a quote, the byte itself at any other
abbrev pub kind_at : ℕ → LexKind
kind_at b = if is_ascii_digit b then BadNumber else (if b == 34 then BadText else BadByte)

-- some bytes are left, and no piece stands at their front
pub record IsRefused (kind : LexKind) (text : List ℕ) : Type 0 where
  pub some : 0 < length text
  pub nothing : NothingStands text
  pub is_kind : kind ≡ kind_at (slice_index text 0)

-- behind tokens the text has this fault
pub record HasFault (text : List ℕ) (fault : LexFault) : Type 0 where
  pub tokens : List Token
  pub before : Reads text 0 tokens fault.at
  pub is_refused : IsRefused fault.kind (drop fault.at text)

-- the fault is the text's; want of memory says nothing of it
abbrev pub IsFaultOf : List ℕ → Lexed → Type 0
IsFaultOf text (Fault fault) = HasFault text fault
IsFaultOf text Memory = Unit {0}

-- a text has one list of tokens or one fault, and not both
pub record HasOneReading (text : List ℕ) : Type 0 where
  pub one_list : (tokens others : List Token) → AreTokens text tokens → AreTokens text others → tokens ≡ others
  pub not_both : (tokens : List Token) (fault : LexFault) → AreTokens text tokens → HasFault text fault → ⊥
  pub one_fault : (fault other : LexFault) → HasFault text fault → HasFault text other → fault ≡ other

-- the bytes of a token
abbrev pub spelling : List ℕ → Token → List ℕ
spelling text t = slice_range text t.from t.to

-- the token is within the text, and its bytes there spell it
pub record IsTokenOf (text : List ℕ) (t : Token) : Type 0 where
  pub ordered : t.from < t.to
  pub within : t.to ≤ length text
  pub spelled : SpellsToken t.kind (spelling text t)
