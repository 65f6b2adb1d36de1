-- The tokens of a text as words, and what one word or a few are.
use Rattle.std.specs.Prelude.{ℕ, suc, ◌≡◌, ◌≢◌, ◌⊎◌, true, false, List, [], ◌∷◌, ◌++◌, map, codes, ℤ, pos, negsuc}
use Rattle.flight_value.specs.Date.{IsDate}
use Rattle.flight_value.specs.declared.graph.Atom.{Atom}
use Rattle.flight_value.specs.declared.graph.Atom.TheVariants as atom
use Rattle.flight_value.specs.declared.graph.Constant.TheVariants.{NotANumber, Infinity, MinusInfinity, MinusZero}
use Rattle.flight_syntax.specs.declared.expr.Op.{Op}
use Rattle.flight_syntax.specs.declared.expr.Op.TheVariants.{Plus, Minus, Times, Equal, Less, And, Or}
use Rattle.flight_syntax.specs.declared.token.Token.{Token}
use Rattle.flight_syntax.specs.declared.token.TokenKind.{TokenKind}
use Rattle.flight_syntax.specs.declared.token.TokenKind.TheVariants.{Name, Number, Big, Text, Mark}
use Rattle.flight_syntax.specs.Pieces.{IsNumber, IsBig, IsText}
use Rattle.flight_syntax.specs.Names.{is_keyword, is_upper, is_lower}
use Rattle.flight_syntax.specs.Tokens.{spelling}

-- a token without its place
pub record Word : Type 0 where
  pub kind : TokenKind
  pub bytes : List ℕ

abbrev pub word_of : List ℕ → Token → Word
word_of text t = record { kind = t.kind; bytes = spelling text t }

-- the words of a text, by its tokens
abbrev pub words_of : List ℕ → List Token → List Word
words_of text tokens = map (word_of text) tokens

-- a set of lists of words
abbrev pub Phrase : Type 1
Phrase = List Word → Type 0

-- one phrase and then another
infixr 20 ◌▸◌
abbrev pub ◌▸◌ : Phrase → Phrase → Phrase
(P ▸ Q) words = (front rest : List Word) × (words ≡ front ++ rest) × P front × Q rest

-- no words
abbrev pub nothing : Phrase
nothing words = words ≡ []

-- one word
abbrev pub one : TokenKind → List ℕ → Phrase
one kind bytes words = words ≡ record { kind = kind; bytes = bytes } ∷ []

-- a mark
abbrev pub mark : List ℕ → Phrase
mark = one Mark

-- a keyword, or any other name
abbrev pub name : List ℕ → Phrase
name = one Name

-- a name that is no keyword
abbrev pub plain_name : List ℕ → Phrase
plain_name bytes words = (is_keyword bytes ≢ true) × name bytes words

-- a lower name
abbrev pub lower : List ℕ → Phrase
lower bytes words = (is_lower bytes ≡ true) × name bytes words

-- an Upper name
abbrev pub upper : List ℕ → Phrase
upper bytes words = (is_upper bytes ≡ true) × name bytes words

-- a number
abbrev pub number : ℕ → Phrase
number n words = (bytes : List ℕ) × IsNumber bytes n × one Number bytes words

-- a big number
abbrev pub big : ℕ → Phrase
big n words = (bytes : List ℕ) × IsBig bytes n × one Big bytes words

-- a literal that stands for the text
abbrev pub literal : List ℕ → Phrase
literal value words = (bytes : List ℕ) × IsText bytes value × one Text bytes words

-- a whole number with its sign, where 0 has none
abbrev pub whole : ℤ → Phrase
whole (pos n) words = number n words
whole (negsuc n) words = (mark (codes "-") ▸ number (suc n)) words

-- a big number with its sign, which 0 may have
abbrev pub signed_big : ℤ → Phrase
signed_big (pos n) words = big n words ⊎ ((n ≡ 0) × (mark (codes "-") ▸ big 0) words)
signed_big (negsuc n) words = (mark (codes "-") ▸ big (suc n)) words

-- the literals
abbrev pub constant : Atom → Phrase
constant atom.Null words = name (codes "null") words
constant atom.Undefined words = name (codes "undefined") words
constant (atom.Bool true) words = name (codes "true") words
constant (atom.Bool false) words = name (codes "false") words
constant (atom.Whole z) words = whole z words
constant (atom.Big z) words = signed_big z words
constant (atom.Text value) words = literal value words
constant (atom.Date value) words = IsDate value × (name (codes "date") ▸ literal value) words
constant (atom.Symbol value) words = (name (codes "symbol") ▸ literal value) words
constant (atom.Constant NotANumber) words = name (codes "NaN") words
constant (atom.Constant Infinity) words = name (codes "Infinity") words
constant (atom.Constant MinusInfinity) words = (mark (codes "-") ▸ name (codes "Infinity")) words
constant (atom.Constant MinusZero) words = (mark (codes "-") ▸ number 0) words
constant _ words = ⊥

-- the marks of the operators
abbrev pub operator : Op → Phrase
operator Plus = mark (codes "+")
operator Minus = mark (codes "-")
operator Times = mark (codes "*")
operator Equal = mark (codes "==")
operator Less = mark (codes "<")
operator And = mark (codes "&&")
operator Or = mark (codes "||")
