-- Decimal texts are numerals, and quoted ones are texts.
use Rattle.std.proofs.Common.{◌≡◌, ◌≢◌, ℕ, zero, suc, ◌+◌, ◌-◌, ◌*◌, ◌^◌, ◌%◌, ◌<◌, ◌≤◌, true, List, [], ◌∷◌, ◌++◌, length, get_or, Some, decimal, refl, sym, ap, ◌∙◌, arith, append-nil, length-append}
use Rattle.std.specs.Prelude.{option_and_then}
use Rattle.std.proofs.Math.ListN.{get_or-append}
use Rattle.std.specs.List.{list_all, fold}
use Rattle.std.specs.Char.{is_ascii_digit, digit_value}
use Rattle.std.specs.Str.Parse.{AllDigits, digits_value_after}
use Rattle.std.proofs.lemmas.Bool.{and_from, and_parts}
use Rattle.std.proofs.lemmas.Bool.Decides.{nat_tests}
use Rattle.std.proofs.lemmas.Str.{digit_value_digit}
use Rattle.std.proofs.lemmas.Str.Parse.{IsNumeralModel, digit_from_value}
use Rattle.std.proofs.lemmas.Fmt.{decimal_is_IsNumeral_wide, decimal_by_steps_wide, decimal-digits_value}
use Rattle.json.specs.Token as tok
use Rattle.json.specs.Lex.{tokens}
use Rattle.json.specs.Json as json
use Rattle.json.specs.Print.{print_from, ArePrintable, quoted, escape}
use Rattle.json.proofs.Printed.Tokens.{tokens-print}
use Rattle.serde_json.specs.Data.{string}
use Rattle.serde_json.specs.Read.{read, of_json, max_depth}
use Rattle.flight_syntax.specs.Pieces as pieces
use Rattle.flight_syntax.specs.Pieces.{IsNumeral, IsNumber, IsBig, IsText}

ascii_digit : (c : ℕ) → digit_value c < 10 → is_ascii_digit c ≡ true
ascii_digit c h = let k = digit_from_value c h in grind (arith, nat_tests)

all_ascii : (ds : List ℕ) → AllDigits 10 ds → list_all is_ascii_digit ds ≡ true
all_ascii [] h = refl
all_ascii (c ∷ ds) h = and_from (is_ascii_digit c) (list_all is_ascii_digit ds) (ascii_digit c h.0) (all_ascii ds h.1)

value_is : (ds : List ℕ) (n : ℕ) → AllDigits 10 ds → fold (λ n d. 10 * n + (d - 48)) n ds ≡ digits_value_after 10 n ds
value_is [] n h = refl
value_is (c ∷ ds) n h =
    let k = digit_value_digit c (digit_from_value c h.0) in
    let e : 10 * n + (c - 48) ≡ n * 10 + digit_value c = omega (arith, k) in
    ap (λ m. fold (λ n d. 10 * n + (d - 48)) m ds) e ∙ value_is ds (n * 10 + digit_value c) h.1

first_is : (n : ℕ) → n < 10 ^ 64 → (0 < length (decimal n)) × (1 < length (decimal n) → get_or (decimal n) 0 0 ≢ 48)
first_is n small =
    let p = decimal_by_steps_wide (λ m ds. (0 < length ds) × (0 < m → 48 < get_or ds 0 0) × (1 < length ds → 0 < m)) (λ m l. (omega arith, λ a. omega arith, λ a. omega arith))
    (λ m ds l h. (omega (arith, length-append ds ((48 + m % 10) ∷ [])), (λ a. omega (arith, get_or-append ds ((48 + m % 10) ∷ []) 0 0 h.0, h.1 (omega arith))), λ a. omega (arith, l))) n small in
    (p.0, λ l e. let f = p.1 (p.2 l) in omega (arith, f, e))

pub decimal_numeral : (n : ℕ) → n < 10 ^ 64 → IsNumeral (decimal n) n
decimal_numeral n h =
    let is = decimal_is_IsNumeral_wide n h in
    let first = first_is n h in
    record {
      all_digits = all_ascii (decimal n) is.0.1;
      some = first.0;
      no_zero_before = first.1;
      spelled = value_is (decimal n) 0 is.0.1 ∙ is.1;
    }

pub decimal_number : (n : ℕ) → n < 2 ^ 53 → IsNumber (decimal n) n
decimal_number n h = record { is_numeral = decimal_numeral n (omega (arith, h)); within = h }

pub decimal_big : (n : ℕ) → n < 2 ^ 127 → IsBig (decimal n ++ 110 ∷ []) n
decimal_big n h = record { digits = decimal n; is_numeral = decimal_numeral n (omega (arith, h)); within = h; spelled = refl }

digit_within : (c : ℕ) → is_ascii_digit c ≡ true → (48 ≤ c) × (c ≤ 57)
digit_within c h = grind (arith, nat_tests)

to_digits : (ds : List ℕ) → list_all is_ascii_digit ds ≡ true → AllDigits 10 ds
to_digits [] h = tt
to_digits (c ∷ ds) h =
    let p = and_parts (is_ascii_digit c) (list_all is_ascii_digit ds) h in
    let w = digit_within c p.0 in
    let k = digit_value_digit c w in
    (omega (arith, k, w), to_digits ds p.1)

numerals : IsNumeralModel (λ ds. list_all is_ascii_digit ds ≡ true) pieces.decimal
numerals = record { to = to_digits; from = all_ascii; same = λ ds h. value_is ds 0 h }

-- a numeral is the decimal text of its number
pub decimal_of : (digits : List ℕ) (n : ℕ) → IsNumber digits n → decimal n ≡ digits
decimal_of digits n is =
    let a = is.is_numeral in
    let small = is.within in
    let same = a.spelled in
    ap decimal (sym same) ∙ decimal-digits_value numerals digits a.all_digits a.some (λ e. let b = a.some in by (length digits) refl (a.no_zero_before) e b) (omega (arith, same, small))
  where
    by : (k : ℕ) → length digits ≡ k → (1 < length digits → get_or digits 0 0 ≢ 48) → get_or digits 0 0 ≡ 48 → 0 < length digits → length digits ≡ 1
    by zero p f e b = omega (arith, p, b)
    by (suc zero) p f e b = p
    by (suc (suc k)) p f e b = absurd (f (omega (arith, p)) e)

-- ---- texts

one_string : (v : List ℕ) → tokens (quoted v) ≡ tok.string v ∷ []
unfolding print_from ArePrintable
one_string v = ap tokens (sym (append-nil (quoted v))) ∙ tokens-print (tok.string v ∷ []) (tt, tt)

-- a quoted text is read as that text
pub read_quoted : (v : List ℕ) → read (quoted v) ≡ Some (string v)
unfolding json.value
read_quoted v = ap (λ ts. option_and_then of_json (option_and_then (λ p. json.if_last p.0 p.1) (json.value max_depth ts))) (one_string v)

pub quoted_text : (v : List ℕ) → IsText (quoted v) v
quoted_text v = record { inner = escape v; quoted = refl; is_string = read_quoted v }
