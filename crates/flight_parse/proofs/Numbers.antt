-- A numeral is what is written of its number.
use Rattle.std.proofs.Common.{◌≡◌, ◌≢◌, ℕ, suc, ◌+◌, ◌-◌, ◌*◌, ◌^◌, ◌<◌, ℤ, pos, negsuc, Bool, true, false, List, [], ◌∷◌, length, get_or, Some, None, refl, sym, ap, subst, ◌∙◌, arith, decimal, codes, ◌&&◌, bytes_eq}
use Rattle.std.specs.Prelude.{slice_index}
use Rattle.std.specs.List.{list_all, fold}
use Rattle.std.specs.Char.{is_ascii_digit}
use Rattle.std.specs.Fmt.{signed_decimal, digits}
use Rattle.std.specs.Str.{all_ascii_digits}
use Rattle.std.proofs.lemmas.Str.Parse.{FoldsDigits, numerals_by_fold, tells_all_ascii_digits}
use Rattle.std.proofs.lemmas.Fmt.{decimal-digits_value}
use Rattle.json.specs.Json as json
use Rattle.flight_syntax.specs.Pieces as pieces
use Rattle.flight_syntax.specs.Pieces.{IsNumeral, IsNumber}
use Rattle.flight_syntax.specs.Lexicon as lexicon
use Rattle.flight_syntax.proofs.Meanings.{bytes_is}

abbrev step : ℕ → ℕ → ℕ
step n d = 10 * n + (d - 48)

all_same : (ds : List ℕ) → all_ascii_digits ds ≡ list_all is_ascii_digit ds
all_same [] = refl
all_same (c ∷ cs) = ap (λ x. is_ascii_digit c && x) (all_same cs)

folds : FoldsDigits (λ n ds. fold step n ds)
folds = record { empty = λ n. refl; more = λ n c cs k. let e : 10 * n + (c - 48) ≡ n * 10 + (c - 48) = omega arith in ap (λ m. fold step m cs) e }

alone : (ds : List ℕ) → 0 < length ds → (1 < length ds → slice_index ds 0 ≢ 48) → get_or ds 0 0 ≡ 48 → length ds ≡ 1
alone [] some lead e = absurd (omega (arith, some))
alone (c ∷ []) some lead e = refl
alone (c ∷ (d ∷ ds)) some lead e = absurd (lead (omega arith) e)

pub written : (ds : List ℕ) (n : ℕ) → IsNumeral ds n → n < 2 ^ 64 → ds ≡ decimal n
written ds n h small =
    let own = numerals_by_fold (λ ds. all_ascii_digits ds ≡ true) tells_all_ascii_digits (λ n ds. fold step n ds) folds in
    sym (decimal-digits_value own ds (all_same ds ∙ h.all_digits) h.some (alone ds h.some h.no_zero_before) (subst (λ m. m < 2 ^ 64) (sym h.spelled) small)) ∙ ap decimal h.spelled

-- the digits of a token are what is written of its number
pub token_written : (bytes ds : List ℕ) (value : ℤ) → ((n : ℕ) × (IsNumber bytes n × (value ≡ pos n))) → ds ≡ bytes → ds ≡ signed_decimal value
token_written bytes ds value h e =
    let small : h.0 < 2 ^ 64 = omega (arith, h.1.0.within) in
    e ∙ (written bytes h.0 h.1.0.is_numeral small ∙ ap signed_decimal (sym h.1.1))

-- a number that is not 0 behind a minus
zero_is : (ds : List ℕ) → ds ≡ signed_decimal (pos 0) → bytes_eq ds (codes "0") ≡ true
unfolding digits
zero_is ds e = rw e refl

other_is : (ds : List ℕ) (k : ℕ) → pos (suc k) ≡ pos (pieces.decimal ds) → bytes_eq ds (codes "0") ≡ false
other_is ds k e = by (bytes_eq ds (codes "0")) refl
  where
    by : (b : Bool) → bytes_eq ds (codes "0") ≡ b → b ≡ false
    by false q = refl
    by true q = absurd (let d : pos (suc k) ≡ pos 0 = e ∙ ap (λ x. pos (pieces.decimal x)) (bytes_is ds (codes "0") q) in cc)

pub no_minus_zero : (ds : List ℕ) (value : ℤ) → ds ≡ signed_decimal value → value ≡ pos 0 → None ≡ lexicon.negative_json_of (lexicon.number ds)
no_minus_zero ds value e z = rw (zero_is ds (e ∙ ap signed_decimal z)) refl

pub minus_number : (ds : List ℕ) (value other : ℤ) → ds ≡ signed_decimal value → value ≡ pos (pieces.decimal ds) → value ≢ pos 0 → (k : ℕ) → value ≡ pos (suc k) → other ≡ negsuc k
    → lexicon.negative_json_of (lexicon.number ds) ≡ Some (json.number (signed_decimal other))
minus_number ds value other w e some k is o =
    rw (other_is ds k (sym is ∙ e)) (rw o (ap (λ x. Some (json.number (45 ∷ x))) (w ∙ ap signed_decimal is)))
