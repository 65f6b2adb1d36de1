-- Printed literals spell the same literals.
use Rattle.std.proofs.Common.{◌≡◌, ℕ, zero, suc, ◌<◌, ◌^◌, Bool, true, false, inl, inr, List, [], ◌∷◌, ◌++◌, Option, Some, pos, negsuc, decimal, refl, ap, subst, ◌∙◌, arith}
use Rattle.std.specs.Prelude.{codes}
use Rattle.std.specs.Fmt.{digits}
use Rattle.json.specs.Print.{quoted}
use Rattle.flight_value.specs.declared.graph.Atom.{Atom}
use Rattle.flight_value.specs.declared.graph.Atom.TheVariants as value
use Rattle.flight_value.specs.declared.graph.Constant.TheVariants as constant
use Rattle.flight_syntax.specs.declared.token.TokenKind.TheVariants.{Name, Number, Big, Text}
use Rattle.flight_syntax.specs.declared.word.Keyword.{Keyword}
use Rattle.flight_syntax.specs.declared.word.Keyword.TheVariants as keys
use Rattle.flight_syntax.specs.declared.word.Punctuator.TheVariants.{Minus}
use Rattle.flight_syntax.specs.Pieces as pieces
use Rattle.flight_syntax.specs.Pieces.{IsNumber, IsNumeral}
use Rattle.flight_syntax.specs.Lexicon.{Word, Phrase, one, key, number, big, literal, spelled, word_as, string_in, taken_where, is_date, constant_of, negative_of, date_of, symbol_of, minus, big_minus}
use Rattle.flight_syntax.specs.Grammar.{Constant}
use Rattle.flight_print.specs.Text as printed
use Rattle.flight_print.specs.Text.{word, atom_text}
use Rattle.flight_print.proofs.Numerals.{decimal_numeral, decimal_number, decimal_big, read_quoted, quoted_text}
use Rattle.flight_print.proofs.Said.{IsSaid, AreSaid, right, key_named, key_word, number_said, big_said, but_last}
use Rattle.flight_print.proofs.Again.{Again, U, token_again, made_again, so_again, key_before, sign_before}

-- a phrase that says one thing
abbrev pub Alone : Phrase → List ℕ → Type 0
Alone P text = Again {A = U} (λ a. P) (λ a. U) text

-- ---- words again

pub text_word : (v : List ℕ) (at : ℕ) → word_as Text (record { bytes = quoted v; at = at }) ≡ literal (record { bytes = v; at = at })
text_word v at = ap (λ o. literal (record { bytes = string_in o; at = at })) (read_quoted v)

big_word : (n : ℕ) (at : ℕ) → word_as Big (record { bytes = decimal n ++ 110 ∷ []; at = at }) ≡ big (decimal n)
big_word n at = ap big (but_last (decimal n) 110)

pub alone : (P : Phrase) (kind : _) (bytes : List ℕ) → pieces.SpellsToken kind bytes → ((at : ℕ) → P (word_as kind (record { bytes = bytes; at = at }) ∷ [])) → Alone P (word bytes)
alone P kind bytes h f = token_again (λ a. P) (λ a. U) kind bytes h (λ at. (tt, tt, f at))

key_alone : {A : Type 0} (f : Word → Option A) (a : A) (k : Keyword) → ((at : ℕ) → f (key k at) ≡ Some a) → Alone (one f a) (word (spelled k))
key_alone f a k h = alone (one f a) Name (spelled k) (key_named k) (λ at. (_, ap f (key_word k at) ∙ h at, refl))

number_alone : {A : Type 0} (f : Word → Option A) (a : A) (n : ℕ) → n < 2 ^ 53 → f (number (decimal n)) ≡ Some a → Alone (one f a) (word (decimal n))
number_alone f a n h e = alone (one f a) Number (decimal n) (n, decimal_number n h) (λ at. (_, e, refl))

big_alone : {A : Type 0} (f : Word → Option A) (a : A) (n : ℕ) → n < 2 ^ 127 → f (big (decimal n)) ≡ Some a → Alone (one f a) (word (decimal n ++ codes "n"))
big_alone f a n h e = alone (one f a) Big (decimal n ++ 110 ∷ []) (n, decimal_big n h) (λ at. (_, ap f (big_word n at) ∙ e, refl))

text_alone : {A : Type 0} (f : Word → Option A) (a : A) (v : List ℕ) → ((at : ℕ) → f (literal (record { bytes = v; at = at })) ≡ Some a) → Alone (one f a) (printed.literal v)
text_alone f a v h = alone (one f a) Text (quoted v) (v, quoted_text v) (λ at. (_, ap f (text_word v at) ∙ h at, refl))

-- ---- literals

by_one : (a : Atom) (text : List ℕ) → Alone (one constant_of a) text → Alone (Constant a) text
by_one a text x = made_again (λ b. Constant a) (λ b. U) x (λ b. tt) (λ b s. tt) (λ b w s m. inl m)

by_minus : (a : Atom) (text : List ℕ) → Alone (one negative_of a) text → Alone (Constant a) (word (codes "-") ++ text)
by_minus a text x = made_again (λ b. Constant a) (λ b. U) (sign_before Minus x) (λ b. tt) (λ b s. tt) (λ b w s m. inr (inl m))

by_date : (a : Atom) (text : List ℕ) → Alone (one date_of a) text → Alone (Constant a) (word (codes "date") ++ text)
by_date a text x = made_again (λ b. Constant a) (λ b. U) (key_before keys.Date x) (λ b. tt) (λ b s. tt) (λ b w s m. inr (inr (inl m)))

by_symbol : (a : Atom) (text : List ℕ) → Alone (one symbol_of a) text → Alone (Constant a) (word (codes "symbol") ++ text)
by_symbol a text x = made_again (λ b. Constant a) (λ b. U) (key_before keys.Symbol x) (λ b. tt) (λ b s. tt) (λ b w s m. inr (inr (inr m)))

abbrev AtomAgain : Atom → Type 0
AtomAgain a = Alone (Constant a) (atom_text a)

so_atom : (a b : Atom) → Some a ≡ Some b → AtomAgain a → AtomAgain b
so_atom a b e x = let f : a ≡ b = cc in subst AtomAgain f x

decimal_said : (n : ℕ) → n < 2 ^ 53 → pieces.decimal (decimal n) ≡ n
decimal_said n h = (decimal_number n h).is_numeral.spelled

big_decimal_said : (n : ℕ) → n < 2 ^ 127 → pieces.decimal (decimal n) ≡ n
big_decimal_said n h = (decimal_numeral n (omega (arith, h))).spelled

whole_again : (n : ℕ) → n < 2 ^ 53 → AtomAgain (value.Whole (pos n))
whole_again n h = by_one (value.Whole (pos n)) (word (decimal n)) (number_alone constant_of (value.Whole (pos n)) n h (ap (λ m. Some (value.Whole (pos m))) (decimal_said n h)))

pub zero_text : decimal 0 ≡ codes "0"
unfolding digits
zero_text = refl

minus_again : (n : ℕ) → n < 2 ^ 53 → AtomAgain (minus n)
minus_again zero h = by_minus (value.Constant constant.MinusZero) (word (codes "0")) (so_again (ap word zero_text) (number_alone negative_of (value.Constant constant.MinusZero) 0 h (ap (λ m. Some (minus m)) (decimal_said 0 h))))
minus_again (suc n) h = by_minus (value.Whole (negsuc n)) (word (decimal (suc n))) (number_alone negative_of (value.Whole (negsuc n)) (suc n) h (ap (λ m. Some (minus m)) (decimal_said (suc n) h)))

big_again : (n : ℕ) → n < 2 ^ 127 → AtomAgain (value.Big (pos n))
big_again n h = by_one (value.Big (pos n)) (word (decimal n ++ codes "n")) (big_alone constant_of (value.Big (pos n)) n h (ap (λ m. Some (value.Big (pos m))) (big_decimal_said n h)))

big_minus_again : (n : ℕ) → n < 2 ^ 127 → AtomAgain (big_minus n)
big_minus_again zero h = big_again 0 h
big_minus_again (suc n) h = by_minus (value.Big (negsuc n)) (word (decimal (suc n) ++ codes "n")) (big_alone negative_of (value.Big (negsuc n)) (suc n) h (ap (λ m. Some (big_minus m)) (big_decimal_said (suc n) h)))

date_again : (v : List ℕ) (a : Atom) → taken_where (is_date v) (value.Date v) ≡ Some a → AtomAgain a
date_again v a e = by (is_date v) refl e
  where
    by : (b : Bool) → is_date v ≡ b → taken_where b (value.Date v) ≡ Some a → AtomAgain a
    by true q e = so_atom (value.Date v) a e (by_date (value.Date v) (printed.literal v) (text_alone date_of (value.Date v) v (λ at. ap (λ b. taken_where b (value.Date v)) q)))
    by false q e = absurd cc

constant_word : (w : Word) (a : Atom) → IsSaid w → constant_of w ≡ Some a → AtomAgain a
constant_word (key keys.Null at) a s e = so_atom _ a e (by_one value.Null _ (key_alone constant_of value.Null keys.Null (λ at. refl)))
constant_word (key keys.Undefined at) a s e = so_atom _ a e (by_one value.Undefined _ (key_alone constant_of value.Undefined keys.Undefined (λ at. refl)))
constant_word (key keys.True at) a s e = so_atom _ a e (by_one (value.Bool true) _ (key_alone constant_of (value.Bool true) keys.True (λ at. refl)))
constant_word (key keys.False at) a s e = so_atom _ a e (by_one (value.Bool false) _ (key_alone constant_of (value.Bool false) keys.False (λ at. refl)))
constant_word (key keys.NotANumber at) a s e = so_atom _ a e (by_one (value.Constant constant.NotANumber) _ (key_alone constant_of (value.Constant constant.NotANumber) keys.NotANumber (λ at. refl)))
constant_word (key keys.Infinity at) a s e = so_atom _ a e (by_one (value.Constant constant.Infinity) _ (key_alone constant_of (value.Constant constant.Infinity) keys.Infinity (λ at. refl)))
constant_word (number digits) a s e =
    let is = number_said digits s in
    so_atom _ a e (rw is.1.is_numeral.spelled (whole_again is.0 is.1.within))
constant_word (big digits) a s e =
    let is = big_said digits s in
    so_atom _ a e (rw is.1.spelled (big_again is.0 is.2))
constant_word (literal v) a s e = so_atom _ a e (by_one (value.Text v.bytes) _ (text_alone constant_of (value.Text v.bytes) v.bytes (λ at. refl)))
constant_word _ a s e = absurd cc

negative_word : (w : Word) (a : Atom) → IsSaid w → negative_of w ≡ Some a → AtomAgain a
negative_word (key keys.Infinity at) a s e = so_atom _ a e (by_minus (value.Constant constant.MinusInfinity) _ (key_alone negative_of (value.Constant constant.MinusInfinity) keys.Infinity (λ at. refl)))
negative_word (number digits) a s e =
    let is = number_said digits s in
    so_atom _ a e (rw is.1.is_numeral.spelled (minus_again is.0 is.1.within))
negative_word (big digits) a s e =
    let is = big_said digits s in
    so_atom _ a e (rw is.1.spelled (big_minus_again is.0 is.2))
negative_word _ a s e = absurd cc

date_word : (w : Word) (a : Atom) → date_of w ≡ Some a → AtomAgain a
date_word (literal v) a e = date_again v.bytes a e
date_word _ a e = absurd cc

symbol_word : (w : Word) (a : Atom) → symbol_of w ≡ Some a → AtomAgain a
symbol_word (literal v) a e = so_atom _ a e (by_symbol (value.Symbol v.bytes) _ (text_alone symbol_of (value.Symbol v.bytes) v.bytes (λ at. refl)))
symbol_word _ a e = absurd cc

said_one : {x : List Word} (w : Word) → x ≡ w ∷ [] → AreSaid x → IsSaid w
said_one w e r = (subst AreSaid e r).0

pub atom_again : (a : Atom) (x : List Word) → AreSaid x → Constant a x → AtomAgain a
atom_again a x r (inl m) = constant_word m.0 a (said_one m.0 m.2 r) m.1
atom_again a x r (inr (inl m)) = let w = m.4 in negative_word w.0 a (said_one w.0 w.2 (right m.0 m.1 m.2 r)) w.1
atom_again a x r (inr (inr (inl m))) = let w = m.4 in date_word w.0 a w.1
atom_again a x r (inr (inr (inr m))) = let w = m.4 in symbol_word w.0 a w.1
