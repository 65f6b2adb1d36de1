-- The class of a piece's first byte, by which pieces are told apart.
use Rattle.std.proofs.Common.{inl, inr, ◌≡◌, ℕ, ◌++◌, Bool, true, false, List, [], ◌∷◌, refl, ◌∙◌, ap, subst, arith}
use Rattle.std.specs.Prelude.{◌&&◌, not, ◌==◌, codes}
use Rattle.std.specs.List.{list_all}
use Rattle.std.specs.Char.{is_ascii_digit}
use Rattle.std.proofs.lemmas.Bool.{and_parts, false≢true, eqb-true, not-true, or_cases, both_ways, false_from_ne_true}
use Rattle.std.proofs.lemmas.Bool.Decides.{nat_tests}
use Rattle.flight_syntax.specs.declared.token.TokenKind.TheVariants.{Name, Number, Big, Text, Mark}
use Rattle.flight_syntax.specs.declared.piece.Piece.{Piece}
use Rattle.flight_syntax.specs.declared.piece.Piece.TheVariants.{Space, Comment, Token}
use Rattle.flight_syntax.specs.Pieces.{is_among, is_space, begins_name, is_name_byte, is_single_mark, is_double_mark, is_line_byte, Spells, IsNumeral}

-- what is true of each of some bytes is true of one among them
pub is_among-all : (p : ℕ → Bool) (xs : List ℕ) (b : ℕ) → is_among xs b ≡ true → list_all p xs ≡ true → p b ≡ true
is_among-all p [] b h e = absurd (false≢true h)
is_among-all p (x ∷ xs) b h e =
    let parts = and_parts (p x) (list_all p xs) e in
    elim (or_cases (x == b) (is_among xs b) h) [
      | inl same ↦ let eq = eqb-true x b same in subst (λ y. p y ≡ true) eq parts.0
      | inr there ↦ is_among-all p xs b there parts.1
    ]

pub data Class : Type 0 where
  space : Class
  letter : Class
  digit : Class
  quote : Class
  other : Class

abbrev pub class_with : Bool → Bool → Bool → Bool → Class
class_with true l d q = space
class_with false true d q = letter
class_with false false true q = digit
class_with false false false true = quote
class_with false false false false = other

abbrev pub class : ℕ → Class
class b = class_with (is_space b) (begins_name b) (is_ascii_digit b) (b == 34)

abbrev pub class_of : Piece → Class
class_of Space = space
class_of Comment = other
class_of (Token Name) = letter
class_of (Token Number) = digit
class_of (Token Big) = digit
class_of (Token Text) = quote
class_of (Token Mark) = other

-- where each first byte of a kind is in the class, a byte among them is
abbrev is_class : Class → Class → Bool
is_class space space = true
is_class letter letter = true
is_class digit digit = true
is_class quote quote = true
is_class other other = true
is_class _ _ = false

is_class-same : (c d : Class) → is_class c d ≡ true → c ≡ d
is_class-same space space h = refl
is_class-same letter letter h = refl
is_class-same digit digit h = refl
is_class-same quote quote h = refl
is_class-same other other h = refl
is_class-same _ _ h = absurd (false≢true h)

class-among : (c : Class) (xs : List ℕ) (b : ℕ) → is_among xs b ≡ true → list_all (λ x. is_class (class x) c) xs ≡ true → class b ≡ c
class-among c xs b h e = is_class-same (class b) c (is_among-all (λ x. is_class (class x) c) xs b h e)

class-three : (b : ℕ) (s l d : Bool) → is_space b ≡ s → begins_name b ≡ l → is_ascii_digit b ≡ d → class b ≡ class_with s l d (b == 34)
class-three b s l d p q r =
    ap (λ x. class_with x (begins_name b) (is_ascii_digit b) (b == 34)) p
    ∙ (ap (λ x. class_with s x (is_ascii_digit b) (b == 34)) q ∙ ap (λ x. class_with s l x (b == 34)) r)

-- a byte of a test that no space passes is no space
not_space : (p : ℕ → Bool) (b : ℕ) → p b ≡ true → list_all (λ x. not (p x)) (32 ∷ 9 ∷ 13 ∷ 10 ∷ []) ≡ true → is_space b ≡ false
not_space p b h e =
    false_from_ne_true (is_space b) (λ there.
    both_ways (p b) (not-true (p b) (is_among-all (λ x. not (p x)) (32 ∷ 9 ∷ 13 ∷ 10 ∷ []) b there e)) h)

pub class-space : (b : ℕ) → is_space b ≡ true → class b ≡ space
class-space b h = ap (λ x. class_with x (begins_name b) (is_ascii_digit b) (b == 34)) h

pub class-other : (b : ℕ) → is_space b ≡ false → begins_name b ≡ false → is_ascii_digit b ≡ false → (b == 34) ≡ false → class b ≡ other
class-other b s l d q = class-three b false false false s l d ∙ ap (λ x. class_with false false false x) q

pub class-letter : (b : ℕ) → begins_name b ≡ true → class b ≡ letter
class-letter b h = class-three b false true (is_ascii_digit b) (not_space begins_name b h refl) h refl

digit-no_letter : (b : ℕ) → is_ascii_digit b ≡ true → begins_name b ≡ false
digit-no_letter b h = grind (arith, nat_tests)

pub class-digit : (b : ℕ) → is_ascii_digit b ≡ true → class b ≡ digit
class-digit b h = class-three b false false true (not_space is_ascii_digit b h refl) (digit-no_letter b h) h

pub class-mark : (b : ℕ) → is_single_mark b ≡ true → class b ≡ other
class-mark b h = class-among other (codes "()[]{},;:.=+-*<>") b h refl

double-first : (a b : ℕ) → is_double_mark a b ≡ true → is_among (61 ∷ 38 ∷ 124 ∷ 60 ∷ 47 ∷ []) a ≡ true
double-first a b h = grind (arith, nat_tests)

pub class-double : (a b : ℕ) → is_double_mark a b ≡ true → class a ≡ other
class-double a b h = class-among other (61 ∷ 38 ∷ 124 ∷ 60 ∷ 47 ∷ []) a (double-first a b h) refl

-- the first byte of a numeral is a digit
numeral-first : (b : ℕ) (bs : List ℕ) (n : ℕ) → IsNumeral (b ∷ bs) n → class b ≡ digit
numeral-first b bs n h = class-digit b (and_parts (is_ascii_digit b) (list_all is_ascii_digit bs) h.all_digits).0

big-first : (b : ℕ) (bs ds : List ℕ) (n : ℕ) → IsNumeral ds n → b ∷ bs ≡ ds ++ 110 ∷ [] → class b ≡ digit
big-first b bs [] n h e = absurd (omega (arith, h.some))
big-first b bs (d ∷ ds) n h e = let same : b ≡ d = cc in rw same (numeral-first d ds n h)

-- the first byte of a piece is of the piece's class
pub class-first : (piece : Piece) (b : ℕ) (bs : List ℕ) → Spells piece (b ∷ bs) → class b ≡ class_of piece
class-first Space b [] h = class-space b h
class-first Space b (c ∷ bs) h = absurd (false≢true h)
class-first Comment b [] h = absurd (false≢true h)
class-first Comment b (c ∷ bs) h =
    let parts = and_parts (b == 47) ((c == 47) && list_all is_line_byte bs) h in
    ap class (eqb-true b 47 parts.0)
class-first (Token Name) b bs h = class-letter b (and_parts (begins_name b) (list_all is_name_byte bs) h).0
class-first (Token Number) b bs (n, h) = numeral-first b bs n h.is_numeral
class-first (Token Big) b bs (n, h) = big-first b bs h.digits n h.is_numeral h.spelled
class-first (Token Text) b bs (value, h) = let same : b ≡ 34 = let q = h.quoted in cc in ap class same
class-first (Token Mark) b [] h = class-mark b h
class-first (Token Mark) b (c ∷ []) h = class-double b c h
class-first (Token Mark) b (c ∷ d ∷ bs) h = absurd (false≢true h)
