-- The test of a date says whether the text has the form of one.
use Rattle.std.proofs.Common.{◌≡◌, ℕ, ◌==◌, Bool, true, false, ◌⊎◌, inl, inr, List, [], ◌∷◌, refl, arith, if◌then◌else◌}
use Rattle.std.specs.Prelude.{codes, ◌||◌, MatchBool}
use Rattle.std.specs.Char.{IsAsciiDigit, is_ascii_digit}
use Rattle.std.proofs.lemmas.Bool.{eqb-true}
use Rattle.std.proofs.lemmas.Bool.Decides.{nat_tests}
use Rattle.flight_value.specs.Date.{IsDate, IsByteOf, HasForm}
use Rattle.flight_syntax.specs.Lexicon.{fits, is_date}

digit_is : (b : ℕ) → is_ascii_digit b ≡ true → IsAsciiDigit b
digit_is b e = grind (arith, nat_tests)

is_digit : (b : ℕ) → IsAsciiDigit b → is_ascii_digit b ≡ true
is_digit b h = grind (arith, nat_tests)

same_byte : (a b : ℕ) → a ≡ b → (a == b) ≡ true
same_byte a b e = grind (arith, nat_tests)

abbrev byte_fits : ℕ → ℕ → Bool
byte_fits form byte = if form == 100 then is_ascii_digit byte else form == byte

byte_is : (form byte : ℕ) → byte_fits form byte ≡ true → IsByteOf form byte
byte_is form byte e = by (form == 100) e
  where
    by : (t : Bool) → (if t then is_ascii_digit byte else form == byte) ≡ true → MatchBool t (IsAsciiDigit byte) (form ≡ byte)
    by true e = digit_is byte e
    by false e = eqb-true form byte e

is_byte : (form byte : ℕ) → IsByteOf form byte → byte_fits form byte ≡ true
is_byte form byte h = by (form == 100) h
  where
    by : (t : Bool) → MatchBool t (IsAsciiDigit byte) (form ≡ byte) → (if t then is_ascii_digit byte else form == byte) ≡ true
    by true h = is_digit byte h
    by false h = same_byte form byte h

and_parts : (a b : Bool) → (if a then b else false) ≡ true → (a ≡ true) × (b ≡ true)
and_parts true b e = (refl, e)
and_parts false b e = absurd cc

form_is : (form text : List ℕ) → fits form text ≡ true → HasForm form text
form_is [] [] e = tt
form_is [] (b ∷ bs) e = absurd cc
form_is (f ∷ fs) [] e = absurd cc
form_is (f ∷ fs) (b ∷ bs) e = let p = and_parts (byte_fits f b) (fits fs bs) e in (byte_is f b p.0, form_is fs bs p.1)

is_form : (form text : List ℕ) → HasForm form text → fits form text ≡ true
is_form [] [] h = refl
is_form [] (b ∷ bs) h = absurd h
is_form (f ∷ fs) [] h = absurd h
is_form (f ∷ fs) (b ∷ bs) h = rw (is_byte f b h.0) (is_form fs bs h.1)

or_parts : (a b : Bool) → (a || b) ≡ true → (a ≡ true) ⊎ (b ≡ true)
or_parts true b e = inl refl
or_parts false b e = inr e

or_left : (a b : Bool) → a ≡ true → (a || b) ≡ true
or_left true b e = refl
or_left false b e = absurd cc

or_right : (a b : Bool) → b ≡ true → (a || b) ≡ true
or_right true b e = refl
or_right false b e = e

abbrev plain_form : List ℕ
plain_form = codes "dddd-dd-ddTdd:dd:dd.dddZ"

abbrev plus_form : List ℕ
plus_form = codes "+dddddd-dd-ddTdd:dd:dd.dddZ"

abbrev minus_form : List ℕ
minus_form = codes "-dddddd-dd-ddTdd:dd:dd.dddZ"

pub date_is : (text : List ℕ) → is_date text ≡ true → IsDate text
date_is text e = elim (or_parts (fits plain_form text) (fits plus_form text || fits minus_form text) e) [
  | inl h ↦ inl (form_is plain_form text h)
  | inr h ↦ elim (or_parts (fits plus_form text) (fits minus_form text) h) [
    | inl k ↦ inr (inl (form_is plus_form text k))
    | inr k ↦ inr (inr (form_is minus_form text k))
  ]
]

pub is_date-true : (text : List ℕ) → IsDate text → is_date text ≡ true
is_date-true text (inl h) = or_left (fits plain_form text) (fits plus_form text || fits minus_form text) (is_form plain_form text h)
is_date-true text (inr (inl h)) = or_right (fits plain_form text) (fits plus_form text || fits minus_form text) (or_left (fits plus_form text) (fits minus_form text) (is_form plus_form text h))
is_date-true text (inr (inr h)) = or_right (fits plain_form text) (fits plus_form text || fits minus_form text) (or_right (fits plus_form text) (fits minus_form text) (is_form minus_form text h))
