-- The tokens of a text as words: what each says, and what one word is.
use Rattle.std.specs.Prelude.{ℕ, zero, suc, ◌≡◌, ◌==◌, ◌-◌, ◌||◌, Bool, true, false, if◌then◌else◌, List, [], ◌∷◌, ◌++◌, length, map, take, slice_index, codes, pos, negsuc, Option, Some, None}
use Rattle.std.specs.Char.{is_ascii_uppercase, is_ascii_digit}
use Rattle.std.specs.Str.{bytes_eq}
use Rattle.serde_json.specs.Data.{Data, string}
use Rattle.serde_json.specs.Read.{read}
use Rattle.json.specs.Json as json
use Rattle.json.specs.Json.{Json}
use Rattle.flight_value.specs.declared.graph.Atom.{Atom}
use Rattle.flight_value.specs.declared.graph.Atom.TheVariants as atom
use Rattle.flight_value.specs.declared.graph.Constant.TheVariants as constant
use Rattle.flight_syntax.specs.declared.expr.Op.{Op}
use Rattle.flight_syntax.specs.declared.expr.Op.TheVariants as op
use Rattle.flight_syntax.specs.declared.token.Token.{Token}
use Rattle.flight_syntax.specs.declared.token.TokenKind.{TokenKind}
use Rattle.flight_syntax.specs.declared.token.TokenKind.TheVariants as kind
use Rattle.flight_syntax.specs.declared.word.Keyword.{Keyword}
use Rattle.flight_syntax.specs.declared.word.Keyword.TheVariants as keys
use Rattle.flight_syntax.specs.declared.word.Punctuator.{Punctuator}
use Rattle.flight_syntax.specs.declared.word.Punctuator.TheVariants as signs
use Rattle.flight_syntax.specs.Pieces.{decimal}
use Rattle.flight_syntax.specs.Tokens.{spelling}

-- bytes, and where in the text they stand
pub record Placed : Type 0 where
  pub bytes : List ℕ
  pub at : ℕ

-- what a token says
pub data Word : Type 0 where
  key : (word : Keyword) (at : ℕ) → Word
  -- a name that is no keyword
  lower : (name : Placed) → Word
  upper : (name : Placed) → Word
  number : (digits : List ℕ) → Word
  -- a big number, without its `n`
  big : (digits : List ℕ) → Word
  -- a text, by the text that the literal stands for
  literal : (value : Placed) → Word
  mark : (sign : Punctuator) → Word
  -- an expression or a JSON value for which no level of nesting is left, as one word. No text has it.
  deep : Word
  -- a mark that would begin a postfix or an element beyond the limit. No text has it.
  beyond : (sign : Punctuator) → Word

-- a word that some text has
abbrev pub IsReal : Word → Type 0
IsReal deep = ⊥
IsReal (beyond sign) = ⊥
IsReal _ = Unit {0}

abbrev pub AreReal : List Word → Type 0
AreReal [] = Unit {0}
AreReal (word ∷ words) = IsReal word × AreReal words

-- ---- what a token says

-- how a keyword is spelled
abbrev pub spelled : Keyword → List ℕ
spelled keys.Null = codes "null"
spelled keys.Undefined = codes "undefined"
spelled keys.True = codes "true"
spelled keys.False = codes "false"
spelled keys.Map = codes "map"
spelled keys.Set = codes "set"
spelled keys.Date = codes "date"
spelled keys.Symbol = codes "symbol"
spelled keys.Use = codes "use"
spelled keys.Promise = codes "promise"
spelled keys.Stream = codes "stream"
spelled keys.Action = codes "action"
spelled keys.With = codes "with"
spelled keys.Throw = codes "throw"
spelled keys.Let = codes "let"
spelled keys.In = codes "in"
spelled keys.If = codes "if"
spelled keys.Then = codes "then"
spelled keys.Else = codes "else"
spelled keys.For = codes "for"
spelled keys.Give = codes "give"
spelled keys.Server = codes "server"
spelled keys.Client = codes "client"
spelled keys.NotANumber = codes "NaN"
spelled keys.Infinity = codes "Infinity"

abbrev pub all_keywords : List Keyword
all_keywords =
    keys.Null ∷ keys.Undefined ∷ keys.True ∷ keys.False ∷ keys.Map ∷ keys.Set ∷ keys.Date ∷ keys.Symbol ∷
    keys.Use ∷ keys.Promise ∷ keys.Stream ∷ keys.Action ∷ keys.With ∷ keys.Throw ∷ keys.Let ∷ keys.In ∷
    keys.If ∷ keys.Then ∷ keys.Else ∷ keys.For ∷ keys.Give ∷ keys.Server ∷ keys.Client ∷ keys.NotANumber ∷
    keys.Infinity ∷ []

-- how a mark is spelled
abbrev pub sign_spelled : Punctuator → List ℕ
sign_spelled signs.OpenParen = codes "("
sign_spelled signs.CloseParen = codes ")"
sign_spelled signs.OpenBracket = codes "["
sign_spelled signs.CloseBracket = codes "]"
sign_spelled signs.OpenBrace = codes "{"
sign_spelled signs.CloseBrace = codes "}"
sign_spelled signs.Comma = codes ","
sign_spelled signs.Semicolon = codes ";"
sign_spelled signs.Colon = codes ":"
sign_spelled signs.Dot = codes "."
sign_spelled signs.Assign = codes "="
sign_spelled signs.Equal = codes "=="
sign_spelled signs.And = codes "&&"
sign_spelled signs.Or = codes "||"
sign_spelled signs.Plus = codes "+"
sign_spelled signs.Minus = codes "-"
sign_spelled signs.Times = codes "*"
sign_spelled signs.Less = codes "<"
sign_spelled signs.Greater = codes ">"
sign_spelled signs.LessSlash = codes "</"
sign_spelled signs.SlashGreater = codes "/>"

abbrev pub all_signs : List Punctuator
all_signs =
    signs.OpenParen ∷ signs.CloseParen ∷ signs.OpenBracket ∷ signs.CloseBracket ∷ signs.OpenBrace ∷
    signs.CloseBrace ∷ signs.Comma ∷ signs.Semicolon ∷ signs.Colon ∷ signs.Dot ∷ signs.Assign ∷ signs.Equal ∷
    signs.And ∷ signs.Or ∷ signs.Plus ∷ signs.Minus ∷ signs.Times ∷ signs.Less ∷ signs.Greater ∷
    signs.LessSlash ∷ signs.SlashGreater ∷ []

-- the one of these that is so spelled
abbrev pub so_spelled : {A : Type 0} → (A → List ℕ) → List ℕ → List A → Option A
so_spelled spell bytes [] = None
so_spelled spell bytes (a ∷ rest) = if bytes_eq (spell a) bytes then Some a else so_spelled spell bytes rest

abbrev pub keyword_of : List ℕ → Option Keyword
keyword_of bytes = so_spelled spelled bytes all_keywords

abbrev pub sign_of : List ℕ → Option Punctuator
sign_of bytes = so_spelled sign_spelled bytes all_signs

-- a keyword, or by its first byte an Upper or a lower name
abbrev pub name_word : Option Keyword → Placed → Word
name_word (Some word) name = key word name.at
name_word None name = if is_ascii_uppercase (slice_index name.bytes 0) then upper name else lower name

-- bytes that spell no mark are no token
abbrev pub mark_word : Option Punctuator → Word
mark_word (Some sign) = mark sign
mark_word None = mark signs.Semicolon

-- the text that a JSON string stands for
abbrev pub string_in : Option Data → List ℕ
string_in (Some (string value)) = value
string_in _ = []

abbrev pub word_as : TokenKind → Placed → Word
word_as kind.Name name = name_word (keyword_of name.bytes) name
word_as kind.Number name = number name.bytes
word_as kind.Big name = big (take (length name.bytes - 1) name.bytes)
word_as kind.Text name = literal (record { bytes = string_in (read name.bytes); at = name.at })
word_as kind.Mark name = mark_word (sign_of name.bytes)

abbrev pub word_of : List ℕ → Token → Word
word_of text t = word_as t.kind (record { bytes = spelling text t; at = t.from })

-- the words of a text, by its tokens
abbrev pub words_of : List ℕ → List Token → List Word
words_of text tokens = map (word_of text) tokens

-- ---- what a word is taken for

abbrev pub U : Type 0
U = Unit {0}

abbrev pub taken_where : {A : Type 0} → Bool → A → Option A
taken_where true a = Some a
taken_where false a = None

abbrev pub key_number : Keyword → ℕ
key_number keys.Null = 0
key_number keys.Undefined = 1
key_number keys.True = 2
key_number keys.False = 3
key_number keys.Map = 4
key_number keys.Set = 5
key_number keys.Date = 6
key_number keys.Symbol = 7
key_number keys.Use = 8
key_number keys.Promise = 9
key_number keys.Stream = 10
key_number keys.Action = 11
key_number keys.With = 12
key_number keys.Throw = 13
key_number keys.Let = 14
key_number keys.In = 15
key_number keys.If = 16
key_number keys.Then = 17
key_number keys.Else = 18
key_number keys.For = 19
key_number keys.Give = 20
key_number keys.Server = 21
key_number keys.Client = 22
key_number keys.NotANumber = 23
key_number keys.Infinity = 24

abbrev pub sign_number : Punctuator → ℕ
sign_number signs.OpenParen = 0
sign_number signs.CloseParen = 1
sign_number signs.OpenBracket = 2
sign_number signs.CloseBracket = 3
sign_number signs.OpenBrace = 4
sign_number signs.CloseBrace = 5
sign_number signs.Comma = 6
sign_number signs.Semicolon = 7
sign_number signs.Colon = 8
sign_number signs.Dot = 9
sign_number signs.Assign = 10
sign_number signs.Equal = 11
sign_number signs.And = 12
sign_number signs.Or = 13
sign_number signs.Plus = 14
sign_number signs.Minus = 15
sign_number signs.Times = 16
sign_number signs.Less = 17
sign_number signs.Greater = 18
sign_number signs.LessSlash = 19
sign_number signs.SlashGreater = 20

-- this keyword
abbrev pub is_key : Keyword → Word → Option U
is_key word (key other at) = taken_where (key_number other == key_number word) tt
is_key word _ = None

-- this mark
abbrev pub is_mark : Punctuator → Word → Option U
is_mark sign (mark other) = taken_where (sign_number other == sign_number sign) tt
is_mark sign _ = None

-- what is nested too deep
abbrev pub is_deep : Word → Option U
is_deep deep = Some tt
is_deep _ = None

-- any name, keywords included
abbrev pub name_of : Word → Option Placed
name_of (key word at) = Some (record { bytes = spelled word; at = at })
name_of (lower name) = Some name
name_of (upper name) = Some name
name_of _ = None

abbrev pub lower_of : Word → Option Placed
lower_of (lower name) = Some name
lower_of _ = None

abbrev pub upper_of : Word → Option Placed
upper_of (upper name) = Some name
upper_of _ = None

-- a name that is no keyword
abbrev pub plain_of : Word → Option Placed
plain_of (lower name) = Some name
plain_of (upper name) = Some name
plain_of _ = None

-- a name that is no keyword, with these bytes
abbrev pub is_plain : List ℕ → Word → Option U
is_plain bytes (lower name) = taken_where (bytes_eq name.bytes bytes) tt
is_plain bytes (upper name) = taken_where (bytes_eq name.bytes bytes) tt
is_plain bytes _ = None

-- an Upper name that a component may have
abbrev pub component_of : Word → Option Placed
component_of (upper name) = if bytes_eq name.bytes (codes "Suspense") then None else Some name
component_of _ = None

-- a text
abbrev pub text_of : Word → Option Placed
text_of (literal value) = Some value
text_of _ = None

-- the name of a property: any name, or a text
abbrev pub property_of : Word → Option Placed
property_of (key word at) = Some (record { bytes = spelled word; at = at })
property_of (lower name) = Some name
property_of (upper name) = Some name
property_of (literal value) = Some value
property_of _ = None

-- the literals of one word
abbrev pub constant_of : Word → Option Atom
constant_of (key keys.Null at) = Some atom.Null
constant_of (key keys.Undefined at) = Some atom.Undefined
constant_of (key keys.True at) = Some (atom.Bool true)
constant_of (key keys.False at) = Some (atom.Bool false)
constant_of (key keys.NotANumber at) = Some (atom.Constant constant.NotANumber)
constant_of (key keys.Infinity at) = Some (atom.Constant constant.Infinity)
constant_of (number digits) = Some (atom.Whole (pos (decimal digits)))
constant_of (big digits) = Some (atom.Big (pos (decimal digits)))
constant_of (literal value) = Some (atom.Text value.bytes)
constant_of _ = None

-- a number below zero, by how far; 0 with a minus is the constant of its own, and as a big number 0
abbrev pub minus : ℕ → Atom
minus zero = atom.Constant constant.MinusZero
minus (suc n) = atom.Whole (negsuc n)

abbrev pub big_minus : ℕ → Atom
big_minus zero = atom.Big (pos 0)
big_minus (suc n) = atom.Big (negsuc n)

-- the literal that the word is behind a minus
abbrev pub negative_of : Word → Option Atom
negative_of (key keys.Infinity at) = Some (atom.Constant constant.MinusInfinity)
negative_of (number digits) = Some (minus (decimal digits))
negative_of (big digits) = Some (big_minus (decimal digits))
negative_of _ = None

-- a byte of a form: `d` stands for any digit, every other byte for itself
abbrev pub fits : List ℕ → List ℕ → Bool
fits [] [] = true
fits (form ∷ forms) (byte ∷ bytes) = if (if form == 100 then is_ascii_digit byte else form == byte) then fits forms bytes else false
fits _ _ = false

-- whether a text has the form of a date
abbrev pub is_date : List ℕ → Bool
is_date text = fits (codes "dddd-dd-ddTdd:dd:dd.dddZ") text || (fits (codes "+dddddd-dd-ddTdd:dd:dd.dddZ") text || fits (codes "-dddddd-dd-ddTdd:dd:dd.dddZ") text)

-- the date that the word is behind `date`
abbrev pub date_of : Word → Option Atom
date_of (literal value) = taken_where (is_date value.bytes) (atom.Date value.bytes)
date_of _ = None

-- the symbol that the word is behind `symbol`
abbrev pub symbol_of : Word → Option Atom
symbol_of (literal value) = Some (atom.Symbol value.bytes)
symbol_of _ = None

-- the operators
abbrev pub operator_of : Word → Option Op
operator_of (mark signs.Plus) = Some op.Plus
operator_of (mark signs.Minus) = Some op.Minus
operator_of (mark signs.Times) = Some op.Times
operator_of (mark signs.Equal) = Some op.Equal
operator_of (mark signs.Less) = Some op.Less
operator_of (mark signs.And) = Some op.And
operator_of (mark signs.Or) = Some op.Or
operator_of _ = None

-- the JSON values of one word
abbrev pub json_of : Word → Option Json
json_of (key keys.Null at) = Some json.null
json_of (key keys.True at) = Some (json.boolean true)
json_of (key keys.False at) = Some (json.boolean false)
json_of (number digits) = Some (json.number digits)
json_of (literal value) = Some (json.string value.bytes)
json_of _ = None

-- the JSON number that the word is behind a minus, which 0 is not
abbrev pub negative_json_of : Word → Option Json
negative_json_of (number digits) = if bytes_eq digits (codes "0") then None else Some (json.number (45 ∷ digits))
negative_json_of _ = None

-- ---- lists of words

-- a set of lists of words
abbrev pub Phrase : Type 1
Phrase = List Word → Type 0

-- one phrase and then another
infixr 20 ◌▸◌
abbrev pub ◌▸◌ : Phrase → Phrase → Phrase
(P ▸ Q) words = (front rest : List Word) × (words ≡ front ++ rest) × P front × Q rest

-- no words
abbrev pub nothing : Phrase
nothing words = words ≡ []

-- one word that is taken for this
abbrev pub one : {A : Type 0} → (Word → Option A) → A → Phrase
one take a words = (word : Word) × (take word ≡ Some a) × (words ≡ word ∷ [])

-- a keyword
abbrev pub keyword : Keyword → Phrase
keyword word = one (is_key word) tt

-- a mark
abbrev pub sign : Punctuator → Phrase
sign s = one (is_mark s) tt
