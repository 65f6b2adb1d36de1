-- References without a path.
use Rattle.std.proofs.Common.{◌≡◌, ◌<◌, ◌≤◌, ◌++◌, ◌∙◌, ◌+◌, ◌*◌, ◌^◌, ℕ, true, false, List, [], ◌∷◌, length, take, get_or, refl, sym, ap, subst, arith, append-nil, nat_eq}
use Rattle.std.specs.Char.{digit_value}
use Rattle.std.specs.List.{list_all}
use Rattle.std.specs.Str.Parse.{digits_value}
use Rattle.std.proofs.lemmas.Bool.Decides.{nat_tests}
use Rattle.std.proofs.lemmas.Int.Digits.{digits_value-lt, digits_value_more}
use Rattle.std.proofs.lemmas.List.{length-take-le, take_all}
use Rattle.std.proofs.lemmas.List.Folds.{list_all_more}
use Rattle.std.proofs.Math.Nat.{pow-le-pow_right}
use Rattle.flight_text.specs.Hex.{is_hex_digit, IsId}
use Rattle.flight_text.specs.Mark.{IsSpelling}
use Rattle.flight_text.specs.declared.mark.Mark.TheVariants as mark
use Rattle.flight_text.proofs.Digits.{both_true, all_hex_are_digits}
use Rattle.flight_meaning.specs.declared.place.Place.{Place}
use Rattle.flight_meaning.specs.declared.place.Place.TheVariants as place
use Rattle.flight_place.specs.declared.manner.Manner.{Manner}
use Rattle.flight_place.specs.declared.manner.Manner.TheVariants.{Wire, Reply}
use Rattle.flight_place.specs.Tokens.{is_of_wire, is_barred}
use Rattle.flight_place.specs.Places.{token}
use Rattle.flight_place.specs.Faults.{Adds}

-- ---- digits

-- digits up to an index spell a number below this power of sixteen
below_power : (digits : List ℕ) (index number most : ℕ) → index ≤ length digits → index ≤ most → list_all is_hex_digit (take index digits) ≡ true → digits_value 16 (take index digits) ≡ number → number < 16 ^ most
below_power digits index number most within few lower value =
    let small : digits_value 16 (take index digits) < 16 ^ length (take index digits) = digits_value-lt 16 (take index digits) (all_hex_are_digits (take index digits) lower) in
    let len : length (take index digits) ≡ index = length-take-le index digits within in
    let power : 16 ^ length (take index digits) ≤ 16 ^ most = pow-le-pow_right (omega arith) (omega (arith, len, few)) in
    omega (arith, small, power, value)

-- behind six digits at most there is room for one more
pub digit_room : (digits : List ℕ) (index number : ℕ) → index < length digits → length digits ≤ 7 → list_all is_hex_digit (take index digits) ≡ true → digits_value 16 (take index digits) ≡ number → number < 16777216
digit_room digits index number within short lower value = below_power digits index number 6 (omega arith) (omega arith) lower value

pub lower_more : (digits : List ℕ) (index : ℕ) → index < length digits → list_all is_hex_digit (take index digits) ≡ true → is_hex_digit (get_or digits index 0) ≡ true → list_all is_hex_digit (take (index + 1) digits) ≡ true
lower_more digits index within lower digit = list_all_more is_hex_digit digits index 0 within ∙ rw (lower, digit) refl

pub value_more : (digits : List ℕ) (index number value : ℕ) → index < length digits → digits_value 16 (take index digits) ≡ number → value ≡ digit_value (get_or digits index 0) → digits_value 16 (take (index + 1) digits) ≡ 16 * number + value
value_more digits index number value within is same =
    let more : digits_value 16 (take (index + 1) digits) ≡ digits_value 16 (take index digits) * 16 + digit_value (get_or digits index 0) = digits_value_more 16 digits index within in
    omega (arith, more, same, is)

pub is_short_id : (digits : List ℕ) (index id : ℕ) → length digits ≤ index → 0 < length digits → length digits ≤ 7 → list_all is_hex_digit (take index digits) ≡ true → digits_value 16 (take index digits) ≡ id → IsId digits id
is_short_id digits index id all some short lower value =
    let same : take index digits ≡ digits = take_all index digits all in
    let is_lower = subst (λ ds. list_all is_hex_digit ds ≡ true) same lower in
    let is_value = subst (λ ds. digits_value 16 ds ≡ id) same value in
    let whole : take (length digits) digits ≡ digits = take_all (length digits) digits (omega arith) in
    let small : id < 16 ^ 7 = below_power digits (length digits) id 7 (omega arith) short (rw whole is_lower) (rw whole is_value) in
    record {
      hex = record { lower = is_lower; some = some; short = omega (arith, short); value = is_value };
      small = omega (arith, small);
    }

-- ---- references

pub is_reference : (digits : List ℕ) (id : ℕ) → IsId digits id → IsSpelling (36 ∷ digits) (mark.Value (record { id = id; path = [] }))
is_reference digits id is = record {
  rest = digits;
  spelled = refl;
  is_kind = record { digits = digits; is_id = is; names = λ k name within. absurd (omega (arith, within)); spelled = sym (append-nil digits) };
}

other : (byte sign : ℕ) → is_hex_digit byte ≡ true → is_hex_digit sign ≡ false → nat_eq sign byte ≡ false
other byte sign digit none = grind (arith, nat_tests, digit, none)

not-of_wire : (byte : ℕ) (digits : List ℕ) → is_hex_digit byte ≡ true → is_of_wire (36 ∷ byte ∷ digits) ≡ false
not-of_wire byte digits digit = rw (other byte 76 digit refl, other byte 104 digit refl, other byte 83 digit refl) refl

-- a digit stands behind the `$`, so it begins as no token that is barred
pub not-barred : (digits : List ℕ) (id : ℕ) → IsId digits id → (manner : Manner) → is_barred manner (36 ∷ digits) ≡ false
not-barred [] id is manner = absurd (omega (arith, is.hex.some))
not-barred (byte ∷ digits) id is Wire = refl
not-barred (byte ∷ digits) id is Reply = not-of_wire byte digits (both_true (is_hex_digit byte) (list_all is_hex_digit digits) is.hex.lower).0

pub reference-adds : (manner : Manner) (old new : List Place) (text : List ℕ) (id : ℕ) (path : List (List ℕ)) → IsSpelling text (mark.Value (record { id = id; path = [] })) → is_barred manner text ≡ false → path ≡ [] → new ≡ old ++ place.Value (record { id = id; path = path }) ∷ [] → Adds manner old new (token (length old) text ∷ [])
reference-adds manner old new text id path spells allowed none added = record {
  more = place.Value (record { id = id; path = path }) ∷ [];
  added = added;
  have = (record { allowed = allowed; spelled = mark.Value (record { id = id; path = [] }); spells = spells; is_place = ap (λ p. place.Value (record { id = id; path = p })) none }, tt);
}
