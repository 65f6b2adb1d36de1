-- Lower-case hexadecimal digits: how they are read, and how a number is written in them.
use Rattle.std.proofs.Common.{ℕ, ◌^◌, ◌<◌, ◌≡◌, ◌≢◌, ◌&&◌, Bool, true, false, List, [], ◌∷◌, length, get_or, Result, Ok, Err, refl, sym, ◌∙◌, arith}
use Rattle.std.specs.List.{list_all}
use Rattle.std.specs.Result.{OkIff}
use Rattle.std.specs.Char.{digit_value}
use Rattle.std.specs.Str.Parse.{AllDigits, digits_value, ParsesUnsigned}
use Rattle.std.proofs.lemmas.Bool.Decides.{nat_tests}
use Rattle.std.proofs.lemmas.Str.Parse.{without_leading_plus_none}
use Rattle.flight_text.specs.Hex.{is_hex_digit, IsId}

pub both_true : (a b : Bool) → (a && b) ≡ true → (a ≡ true) × (b ≡ true)
both_true true b h = (refl, h)
both_true false b h = cc

pub digit_value-hex : (c : ℕ) → is_hex_digit c ≡ true → digit_value c < 16
digit_value-hex c h = grind (arith, nat_tests)

pub all_hex_are_digits : (ds : List ℕ) → list_all is_hex_digit ds ≡ true → AllDigits 16 ds
all_hex_are_digits [] h = tt
all_hex_are_digits (c ∷ cs) h =
    let p = both_true (is_hex_digit c) (list_all is_hex_digit cs) h in
    (digit_value-hex c p.0, all_hex_are_digits cs p.1)

no_plus_digit : (c : ℕ) → is_hex_digit c ≡ true → c ≢ 43
no_plus_digit c h = grind (arith, nat_tests)

no_plus : (ds : List ℕ) → list_all is_hex_digit ds ≡ true → get_or ds 0 0 ≢ 43
no_plus [] h = omega arith
no_plus (c ∷ cs) h = no_plus_digit c (both_true (is_hex_digit c) (list_all is_hex_digit cs) h).0

-- what `from_str_radix` answers at lower-case digits
pub from_hex : {E : Type 0} (ds : List ℕ) (r : Result ℕ E) → list_all is_hex_digit ds ≡ true → ParsesUnsigned 32 16 ds r → OkIff r ((0 < length ds) × (digits_value 16 ds < 2 ^ 32)) (digits_value 16 ds)
from_hex ds (Ok n) lower h =
    let e = without_leading_plus_none ds (no_plus ds lower) in
    let k = rw e at h in
    ((k.0.0.0, k.0.1), k.1)
from_hex ds (Err _) lower h =
    let e = without_leading_plus_none ds (no_plus ds lower) in
    let k = rw e at h in
    λ p. k ((p.0, all_hex_are_digits ds lower), p.1)

-- digits spell one id at most
pub same_id : (ds : List ℕ) (m n : ℕ) → IsId ds m → IsId ds n → m ≡ n
same_id ds m n a b = sym a.hex.value ∙ b.hex.value
