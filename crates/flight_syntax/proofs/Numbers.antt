-- Numbers at the front of a text.
use Rattle.std.proofs.Common.{inl, inr, ◌≡◌, ◌≢◌, ℕ, zero, suc, ◌+◌, ◌<◌, ◌≤◌, ◌++◌, true, List, [], ◌∷◌, length, take, get_or, refl, sym, ◌∙◌, ap, subst, arith, length-take}
use Rattle.std.specs.Prelude.{◌^◌}
use Rattle.std.specs.List.{list_all, prefix_len}
use Rattle.std.specs.Char.{is_ascii_digit}
use Rattle.std.proofs.lemmas.Bool.{false≢true, both_ways, or_right, cases_eq, cases_lt}
use Rattle.std.proofs.lemmas.List.{take_more}
use Rattle.std.proofs.lemmas.List.Sums.{prefix_len_passes, prefix_len-le-length}
use Rattle.flight_syntax.specs.declared.token.TokenKind.TheVariants.{Name, Number, Big, Text, Mark}
use Rattle.flight_syntax.specs.declared.piece.Piece.{Piece}
use Rattle.flight_syntax.specs.declared.piece.Piece.TheVariants.{Space, Comment, Token}
use Rattle.flight_syntax.specs.Pieces.{begins_name, is_name_byte, Spells, IsNumeral, IsNumber, IsBig, EndsApart, Stands, NothingStands}
use Rattle.flight_syntax.proofs.Classes.{digit, class_of, class-first, class-digit}
use Rattle.flight_syntax.proofs.Fronts.{longest-by, all-le, prefix_len-first, no_empty}

-- a front that ends with a byte: what stands before it, and where it stands
pub front-last : (text ds : List ℕ) (x n : ℕ) → n ≤ length text → take n text ≡ ds ++ x ∷ [] → (n ≡ length ds + 1) × ((take (length ds) text ≡ ds) × (get_or text (length ds) 0 ≡ x))
front-last text [] x zero l e = absurd (cc)
front-last text (d ∷ ds) x zero l e = absurd (cc)
front-last [] ds x (suc n) l e = absurd (omega arith)
front-last (t ∷ ts) [] x (suc n) l e =
    let nothing : take n ts ≡ [] = cc in
    let len : length (take n ts) ≡ 0 = ap length nothing in
    let known = length-take n ts in
    let same : t ≡ x = cc in
    (omega (arith, len, known), (refl, same))
front-last (t ∷ ts) (d ∷ ds) x (suc n) l e =
    let rest : take n ts ≡ ds ++ x ∷ [] = cc in
    let more = front-last ts ds x n (omega arith) rest in
    let same : t ≡ d = cc in
    let cut : t ∷ take (length ds) ts ≡ d ∷ ds = let m = more.1.0 in cc in
    (let m = more.0 in omega (arith, m), (cut, more.1.1))

-- a place among the digits has no `n`
big-no_digit : (text : List ℕ) (k : ℕ) → get_or text k 0 ≡ 110 → k < prefix_len is_ascii_digit text → ⊥
big-no_digit text k e h =
    let passes = prefix_len_passes is_ascii_digit text k 0 h in
    false≢true (ap is_ascii_digit (sym e) ∙ passes)

-- the digits at the front
abbrev pub digits : List ℕ → ℕ
digits text = prefix_len is_ascii_digit text

numeral-le : (text : List ℕ) (n number : ℕ) → n ≤ length text → IsNumeral (take n text) number → n ≤ digits text
numeral-le text n number l h = all-le is_ascii_digit text n l h.all_digits

pub record BigFront (text : List ℕ) (n number : ℕ) : Type 0 where
  pub count : n ≡ digits text + 1
  pub mark : get_or text (digits text) 0 ≡ 110
  pub is_numeral : IsNumeral (take (digits text) text) number
  pub within : number < 2 ^ 127

big-front_at : (text ds : List ℕ) (n number : ℕ) → n ≤ length text → take n text ≡ ds ++ 110 ∷ [] → IsNumeral ds number → number < 2 ^ 127 → BigFront text n number
big-front_at text ds n number l e is w =
    let parts = front-last text ds 110 n l e in
    let all : list_all is_ascii_digit (take (length ds) text) ≡ true = rw parts.1.0 is.all_digits in
    let short : length ds ≤ digits text = all-le is_ascii_digit text (length ds) (let p = parts.0 in omega (arith, p)) all in
    let same : length ds ≡ digits text = elim (cases_eq (length ds) (digits text)) [
      | inl yes_same ↦ yes_same
      | inr differ ↦ absurd (big-no_digit text (length ds) parts.1.1 (omega (arith, short, differ)))
    ] in
    record {
      count = let p = parts.0 in omega (arith, p, same);
      mark = subst (λ k. get_or text k 0 ≡ 110) same parts.1.1;
      is_numeral = subst (λ k. IsNumeral (take k text) number) same (rw parts.1.0 is);
      within = w;
    }

pub big-front : (text : List ℕ) (n number : ℕ) → n ≤ length text → IsBig (take n text) number → BigFront text n number
big-front text n number l h = big-front_at text h.digits n number l h.spelled h.is_numeral h.within

longest-number_at : (b : ℕ) (bs : List ℕ) → get_or (b ∷ bs) (digits (b ∷ bs)) 0 ≢ 110 → (piece : Piece) (n : ℕ) → class_of piece ≡ digit → n ≤ length bs → Spells piece (b ∷ take n bs) → n < digits (b ∷ bs)
longest-number_at b bs differ Space n e l s = cc
longest-number_at b bs differ Comment n e l s = cc
longest-number_at b bs differ (Token Name) n e l s = cc
longest-number_at b bs differ (Token Number) n e l (number, s) = let m = numeral-le (b ∷ bs) (suc n) number (omega arith) s.is_numeral in omega (arith, m)
longest-number_at b bs differ (Token Big) n e l (number, s) = absurd (differ (big-front (b ∷ bs) (suc n) number (omega arith) s).mark)
longest-number_at b bs differ (Token Text) n e l s = cc
longest-number_at b bs differ (Token Mark) n e l s = cc

longest-big_at : (b : ℕ) (bs : List ℕ) (piece : Piece) (n : ℕ) → class_of piece ≡ digit → n ≤ length bs → Spells piece (b ∷ take n bs) → n < digits (b ∷ bs) + 1
longest-big_at b bs Space n e l s = cc
longest-big_at b bs Comment n e l s = cc
longest-big_at b bs (Token Name) n e l s = cc
longest-big_at b bs (Token Number) n e l (number, s) = let m = numeral-le (b ∷ bs) (suc n) number (omega arith) s.is_numeral in omega (arith, m)
longest-big_at b bs (Token Big) n e l (number, s) = let m = (big-front (b ∷ bs) (suc n) number (omega arith) s).count in omega (arith, m)
longest-big_at b bs (Token Text) n e l s = cc
longest-big_at b bs (Token Mark) n e l s = cc

pub Stands-number : (text : List ℕ) (number : ℕ) → 0 < length text → is_ascii_digit (get_or text 0 0) ≡ true → get_or text (digits text) 0 ≢ 110 → IsNumeral (take (digits text) text) number → number < 2 ^ 53 → EndsApart text (digits text) → Stands (Token Number) text (digits text)
Stands-number [] number l d differ h w apart = absurd (omega arith)
Stands-number (b ∷ bs) number l d differ h w apart = record {
  within = prefix_len-le-length is_ascii_digit (b ∷ bs);
  spelled = (number, record { is_numeral = h; within = w });
  longest = longest-by b bs (digits (b ∷ bs)) (λ piece n e. longest-number_at b bs differ piece n (e ∙ class-digit b d));
  is_apart = apart;
}

big-spelled : (text : List ℕ) (i : ℕ) → i < length text → get_or text i 0 ≡ 110 → take (i + 1) text ≡ take i text ++ 110 ∷ []
big-spelled text i l e = rw (take_more text i 0 l, e) refl

pub Stands-big : (text : List ℕ) (number : ℕ) → 0 < length text → is_ascii_digit (get_or text 0 0) ≡ true → digits text < length text → get_or text (digits text) 0 ≡ 110 → IsNumeral (take (digits text) text) number → number < 2 ^ 127 → EndsApart text (digits text + 1) → Stands (Token Big) text (digits text + 1)
Stands-big [] number l d more mark h w apart = absurd (omega arith)
Stands-big (b ∷ bs) number l d more mark h w apart = record {
  within = omega (arith, more);
  spelled = (number, record { digits = take (digits (b ∷ bs)) (b ∷ bs); is_numeral = h; within = w; spelled = big-spelled (b ∷ bs) (digits (b ∷ bs)) more mark });
  longest = longest-by b bs (digits (b ∷ bs) + 1) (λ piece n e. longest-big_at b bs piece n (e ∙ class-digit b d));
  is_apart = apart;
}

-- ---- where nothing stands at a digit

only-number : (text : List ℕ) (b : ℕ) (bs : List ℕ) → text ≡ b ∷ bs → is_ascii_digit b ≡ true → (piece : Piece) (n : ℕ) → Stands piece text (suc n) → class_of piece ≡ digit
only-number text b bs e d piece n s =
    let front : Spells piece (b ∷ take n bs) = subst (λ xs. Spells piece (take (suc n) xs)) e s.spelled in
    sym (class-first piece b (take n bs) front) ∙ class-digit b d

-- a number that stands is all the digits, with no name byte behind them
number-all : (text : List ℕ) (n number : ℕ) → IsNumber (take n text) number → n ≤ length text → EndsApart text n → n ≡ digits text
number-all text n number h l apart =
    let fits = numeral-le text n number l h.is_numeral in
    elim (cases_lt n (digits text)) [
      | inl short ↦
          let passes = prefix_len_passes is_ascii_digit text n 0 short in
          let inside : n < length text = let w = prefix_len-le-length is_ascii_digit text in omega (arith, w, short) in
          absurd (both_ways (is_name_byte (get_or text n 0)) (apart inside) (or_right (begins_name (get_or text n 0)) (is_ascii_digit (get_or text n 0)) passes))
      | inr past ↦ omega (arith, fits, past)
    ]

-- what a number that stands at a digit is
pub data AtDigit (text : List ℕ) : Type 0 where
  plain : (number : ℕ) → IsNumeral (take (digits text) text) number → number < 2 ^ 53 → EndsApart text (digits text) → AtDigit text
  big : (number : ℕ) → get_or text (digits text) 0 ≡ 110 → IsNumeral (take (digits text) text) number → number < 2 ^ 127 → EndsApart text (digits text + 1) → AtDigit text

at-digit_by : (text : List ℕ) (piece : Piece) (n : ℕ) → class_of piece ≡ digit → Stands piece text n → AtDigit text
at-digit_by text Space n e s = cc
at-digit_by text Comment n e s = cc
at-digit_by text (Token Name) n e s = cc
at-digit_by text (Token Number) n e s =
    let is = s.spelled.1 in
    let all = number-all text n s.spelled.0 is s.within s.is_apart in
    plain s.spelled.0 (subst (λ k. IsNumeral (take k text) s.spelled.0) all is.is_numeral) is.within (subst (λ k. EndsApart text k) all s.is_apart)
at-digit_by text (Token Big) n e s =
    let front = big-front text n s.spelled.0 s.within s.spelled.1 in
    big s.spelled.0 front.mark front.is_numeral front.within (subst (λ k. EndsApart text k) front.count s.is_apart)
at-digit_by text (Token Text) n e s = cc
at-digit_by text (Token Mark) n e s = cc

pub at-digit : (text : List ℕ) → 0 < length text → is_ascii_digit (get_or text 0 0) ≡ true → (piece : Piece) (n : ℕ) → Stands piece text n → AtDigit text
at-digit [] l d piece n s = absurd (omega arith)
at-digit (b ∷ bs) l d piece zero s = absurd (no_empty piece s.spelled)
at-digit (b ∷ bs) l d piece (suc n) s = at-digit_by (b ∷ bs) piece (suc n) (only-number (b ∷ bs) b bs refl d piece n s) s

-- where the big number of the digits is refused, nothing stands
pub none-big : (text : List ℕ) → 0 < length text → is_ascii_digit (get_or text 0 0) ≡ true → digits text < length text → get_or text (digits text) 0 ≡ 110 → ((number : ℕ) → IsNumeral (take (digits text) text) number → number < 2 ^ 127 → EndsApart text (digits text + 1) → ⊥) → NothingStands text
none-big text l d more mark f piece n s = refused (at-digit text l d piece n s) where
  refused : AtDigit text → ⊥
  refused (plain number is within apart) = false≢true (sym (apart more) ∙ ap is_name_byte mark)
  refused (big number m is within apart) = f number is within apart

-- where the number of the digits is refused, nothing stands
pub none-plain : (text : List ℕ) → 0 < length text → is_ascii_digit (get_or text 0 0) ≡ true → get_or text (digits text) 0 ≢ 110 → ((number : ℕ) → IsNumeral (take (digits text) text) number → number < 2 ^ 53 → EndsApart text (digits text) → ⊥) → NothingStands text
none-plain text l d differ f piece n s = refused (at-digit text l d piece n s) where
  refused : AtDigit text → ⊥
  refused (plain number is within apart) = f number is within apart
  refused (big number m is within apart) = differ m

-- where the first byte is a digit there is one at least
pub digits-some : (text : List ℕ) → 0 < length text → is_ascii_digit (get_or text 0 0) ≡ true → 0 < digits text
digits-some [] l d = absurd (omega arith)
digits-some (b ∷ bs) l d = let first = prefix_len-first is_ascii_digit b bs d in omega (arith, first)
