-- Digits alone are the numeral whose whole part they are.
use Rattle.std.proofs.Common.{◌≡◌, ℕ, suc, ◌^◌, ◌<◌, ◌≤◌, ◌&&◌, true, false, List, [], length, Option, Some, pos, neg_ℤ, refl, sym, ap, subst, ◌∙◌, arith, zero, append-nil, lt-ltb, le-leb, nat_lt, nat_le, if◌then◌else◌}
use Rattle.std.specs.Str.Parse.{AllDigits, digits_value}
use Rattle.fast_float.specs.Text.{Parts, scan, digits_of, with_sign}
use Rattle.fast_float.proofs.Writing.{scan-text_of}
use Rattle.serde_json.specs.Data.{Num, unsigned, negative}
use Rattle.serde_json.specs.Read.{is_integer, float_of, number_from}
use Rattle.serde_json.specs.Find.{of_integer}

abbrev parts_of : List ℕ → Parts
parts_of s = record { whole = s; point = false; fraction = []; exponent_negative = false; exponent = []; len = length s }

scan-digits : (s : List ℕ) → AllDigits 10 s → scan s ≡ parts_of s
scan-digits s h =
    subst (λ t. scan t ≡ parts_of s) (append-nil s) (scan-text_of (parts_of s) (record { whole_digits = h; fraction_digits = tt; exponent_digits = tt; no_point = λ e. refl; no_exponent = λ e. refl; len_is = ap length (sym (append-nil s)) }))

module _ (s : List ℕ) (n : ℕ) (some : 0 < length s) (h : AllDigits 10 s) (is : n ≡ digits_value 10 s) where
  value : digits_of (parts_of s) ≡ n
  value = ap (digits_value 10) (append-nil s) ∙ sym is

  integer : is_integer (parts_of s) ≡ true
  integer = ap (λ b. b && true && true) (lt-ltb 0 (length s) some)

  below : (most : ℕ) (given : ℕ → Option Num) (other : Option Num) → n < most → (if is_integer (parts_of s) && nat_lt (digits_of (parts_of s)) most then given (digits_of (parts_of s)) else other) ≡ given n
  below most given other fits =
      ap (λ k. if is_integer (parts_of s) && nat_lt k most then given k else other) value
      ∙ (ap (λ b. if b && nat_lt n most then given n else other) integer
      ∙ ap (λ b. if b then given n else other) (lt-ltb n most fits))

  within : (most : ℕ) (given : ℕ → Option Num) (other : Option Num) → 0 < n → n ≤ most
      → (if is_integer (parts_of s) && nat_lt 0 (digits_of (parts_of s)) && nat_le (digits_of (parts_of s)) most then given (digits_of (parts_of s)) else other) ≡ given n
  within most given other more fits =
      ap (λ k. if is_integer (parts_of s) && nat_lt 0 k && nat_le k most then given k else other) value
      ∙ (ap (λ b. if b && nat_lt 0 n && nat_le n most then given n else other) integer
      ∙ (ap (λ b. if b && nat_le n most then given n else other) (lt-ltb 0 n more)
      ∙ ap (λ b. if b then given n else other) (le-leb n most fits)))

  pub unsigned-digits : n < 2 ^ 64 → number_from false (scan s) ≡ Some (unsigned n)
  unsigned-digits fits = ap (number_from false) (scan-digits s h) ∙ below (2 ^ 64) (λ d. Some (unsigned d)) (float_of false (parts_of s)) fits

  pub negative-digits : 0 < n → n ≤ 2 ^ 63 → number_from true (scan s) ≡ Some (negative (with_sign true n))
  negative-digits more fits = ap (number_from true) (scan-digits s h) ∙ within (2 ^ 63) (λ d. Some (negative (with_sign true d))) (float_of true (parts_of s)) more fits

pub below-zero : (n : ℕ) → 0 < n → of_integer (neg_ℤ (pos n)) ≡ negative (neg_ℤ (pos n))
below-zero zero more = absurd (omega (arith, more))
below-zero (suc n) more = refl
