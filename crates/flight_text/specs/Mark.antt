-- How a string spells a mark.
use Rattle.std.specs.Prelude.{ℕ, ◌^◌, ◌<◌, ◌≡◌, ◌≢◌, ◌⊎◌, List, ◌++◌, All, codes, nat_eq, if◌then◌else◌, FitsSigned}
use Rattle.std.specs.Int.{w128}
use Rattle.std.specs.List.{starts_with}
use Rattle.std.specs.Fmt.{signed_decimal}
use Rattle.flight_value.specs.Date.{IsDate}
use Rattle.flight_value.specs.declared.graph.Constant.{Constant}
use Rattle.flight_value.specs.declared.graph.Constant.TheVariants.{NotANumber, Infinity, MinusInfinity, MinusZero}
use Rattle.flight_text.specs.declared.mark.Ref.{Ref}
use Rattle.flight_text.specs.declared.mark.Mark.{Mark}
use Rattle.flight_text.specs.declared.mark.Mark.TheVariants as mark
use Rattle.flight_text.specs.Hex.{IsId, hex_of}
use Rattle.flight_text.specs.Big.{IsBig}
use Rattle.flight_text.specs.Reference.{IsName, path_text, IsReference}

-- ---- reading

-- the text is this sign, and behind it something of this kind
pub record Follows (sign text : List ℕ) (Kind : List ℕ → Type 0) : Type 0 where
  pub rest : List ℕ
  pub spelled : text ≡ sign ++ rest
  pub is_kind : Kind rest

-- a text that begins with `$` is written with one `$` more, every other as it is
abbrev pub plain : List ℕ → List ℕ
plain text = if starts_with nat_eq text (codes "$") then codes "$" ++ text else text

-- the numbers that JSON cannot spell
abbrev pub word_of : Constant → List ℕ
word_of NotANumber = codes "$NaN"
word_of Infinity = codes "$Infinity"
word_of MinusInfinity = codes "$-Infinity"
word_of MinusZero = codes "$-0"

-- the text spells the mark
abbrev pub IsSpelling : List ℕ → Mark → Type 0
IsSpelling text (mark.Plain t) = text ≡ plain t
IsSpelling text mark.Element = text ≡ codes "$"
IsSpelling text (mark.Lazy id) = Follows (codes "$L") text (λ digits. IsId digits id)
IsSpelling text (mark.Promise id) = Follows (codes "$@") text (λ digits. IsId digits id)
IsSpelling text (mark.Value place) = Follows (codes "$") text (λ rest. IsReference rest place)
IsSpelling text (mark.Map place) = Follows (codes "$Q") text (λ rest. IsReference rest place)
IsSpelling text (mark.Set place) = Follows (codes "$W") text (λ rest. IsReference rest place)
IsSpelling text (mark.Action id) = Follows (codes "$F") text (λ digits. IsId digits id) ⊎ Follows (codes "$h") text (λ digits. IsId digits id)
IsSpelling text (mark.Date date) = (text ≡ codes "$D" ++ date) × IsDate date
IsSpelling text (mark.Big number) = Follows (codes "$n") text (λ rest. IsBig rest number)
IsSpelling text (mark.Symbol name) = text ≡ codes "$S" ++ name
IsSpelling text mark.Undefined = text ≡ codes "$undefined"
IsSpelling text (mark.Constant constant) = text ≡ word_of constant

-- the text is none of the words
pub record IsNoWord (text : List ℕ) : Type 0 where
  pub no_undefined : text ≢ codes "$undefined"
  pub no_constant : (constant : Constant) → text ≢ word_of constant

-- ---- writing

-- an id below 2^31, and names without `:`
pub record IsPlace (place : Ref) : Type 0 where
  pub small : place.id < 2 ^ 31
  pub names : All IsName place.path

-- what has a spelling
abbrev pub IsSpellable : Mark → Type 0
IsSpellable (mark.Lazy id) = id < 2 ^ 31
IsSpellable (mark.Promise id) = id < 2 ^ 31
IsSpellable (mark.Action id) = id < 2 ^ 31
IsSpellable (mark.Value place) = IsPlace place
IsSpellable (mark.Map place) = IsPlace place
IsSpellable (mark.Set place) = IsPlace place
IsSpellable (mark.Date date) = IsDate date
IsSpellable (mark.Big number) = FitsSigned w128 number
IsSpellable m = Unit {0}

-- an id without leading zeros, and the path
abbrev pub reference_of : Ref → List ℕ
reference_of place = hex_of place.id ++ path_text place.path

-- the one spelling that is written
abbrev pub spelling_of : Mark → List ℕ
spelling_of (mark.Plain text) = plain text
spelling_of mark.Element = codes "$"
spelling_of (mark.Lazy id) = codes "$L" ++ hex_of id
spelling_of (mark.Promise id) = codes "$@" ++ hex_of id
spelling_of (mark.Value place) = codes "$" ++ reference_of place
spelling_of (mark.Map place) = codes "$Q" ++ reference_of place
spelling_of (mark.Set place) = codes "$W" ++ reference_of place
spelling_of (mark.Action id) = codes "$F" ++ hex_of id
spelling_of (mark.Date date) = codes "$D" ++ date
spelling_of (mark.Big number) = codes "$n" ++ signed_decimal number
spelling_of (mark.Symbol name) = codes "$S" ++ name
spelling_of mark.Undefined = codes "$undefined"
spelling_of (mark.Constant constant) = word_of constant
