-- What is written is read.
use Rattle.std.proofs.Common.{ℕ, zero, suc, pow-suc, ◌+◌, ◌*◌, ◌^◌, ◌/◌, ◌%◌, ◌<◌, ◌≤◌, ◌≡◌, ◌&&◌, Bool, true, false, ℤ, pos, negsuc, neg_ℤ, List, [], ◌∷◌, length, inl, inr, refl, sym, ap, arith}
use Rattle.std.specs.List.{list_all}
use Rattle.std.specs.Prelude.{FitsSigned}
use Rattle.std.specs.Int.{w128}
use Rattle.std.specs.Fmt.{digits, digits_onto, digit_glyph, decimal, signed_decimal}
use Rattle.std.proofs.lemmas.Bool.Decides.{nat_tests, eqb_tells}
use Rattle.std.proofs.lemmas.Fmt.{digits_is_IsNumeral, decimal_is_IsNumeral_wide}
use Rattle.flight_text.specs.declared.mark.Ref.{Ref}
use Rattle.flight_text.specs.declared.mark.Mark.{Mark}
use Rattle.flight_text.specs.declared.mark.Mark.TheVariants as mark
use Rattle.flight_text.specs.Hex.{is_hex_digit, hex_of, IsId}
use Rattle.flight_text.specs.Big.{IsBig}
use Rattle.flight_text.specs.Reference.{IsReference}
use Rattle.flight_text.specs.Mark.{IsSpelling, IsPlace, IsSpellable, reference_of, spelling_of}

-- ---- hexadecimal

glyph_lower : (d : ℕ) → d < 16 → is_hex_digit (digit_glyph false d) ≡ true
glyph_lower d h = grind (arith, nat_tests)

both : (a b : Bool) → a ≡ true → b ≡ true → (a && b) ≡ true
both a b d e = rw (d, e) refl

onto_lower : (k n : ℕ) (acc : List ℕ) → list_all is_hex_digit acc ≡ true → list_all is_hex_digit (digits_onto k 16 false n acc) ≡ true
onto_lower zero n acc h = h
onto_lower (suc k) n acc h =
    let glyph : is_hex_digit (digit_glyph false (n % 16)) ≡ true = glyph_lower (n % 16) (omega arith) in
    let more : list_all is_hex_digit (digit_glyph false (n % 16) ∷ acc) ≡ true = both _ _ glyph h in
    elim (eqb_tells (n / 16) 0) [
      | inl p ↦ rw p.0 more
      | inr p ↦ rw p.0 (onto_lower k (n / 16) (digit_glyph false (n % 16) ∷ acc) more)
    ]

onto_short : (k j n : ℕ) (acc : List ℕ) → n < 16 ^ suc j → length (digits_onto k 16 false n acc) ≤ suc j + length acc
onto_short zero j n acc h = omega arith
onto_short (suc k) zero n acc h =
    let power : 16 ^ 1 ≡ 16 = refl in
    elim (eqb_tells (n / 16) 0) [
      | inl p ↦ rw p.0 (omega arith)
      | inr p ↦ absurd (p.1 (omega arith))
    ]
onto_short (suc k) (suc j) n acc h =
    let power : 16 ^ suc (suc j) ≡ 16 ^ suc j * 16 = pow-suc 16 (suc j) in
    elim (eqb_tells (n / 16) 0) [
      | inl p ↦ rw p.0 (omega arith)
      | inr p ↦
          let rest : n / 16 < 16 ^ suc j = omega arith in
          let short = onto_short k j (n / 16) (digit_glyph false (n % 16) ∷ acc) rest in
          rw p.0 (omega arith)
    ]

pub IsId-hex_of : (id : ℕ) → id < 2 ^ 31 → IsId (hex_of id) id
unfolding digits
IsId-hex_of id small =
    let is = digits_is_IsNumeral 16 false (omega arith) (omega arith) id (omega arith) in
    record {
      hex = record {
        lower = onto_lower 64 id [] refl;
        some = is.0.0;
        short = let h = onto_short 64 7 id [] (omega arith) in omega arith;
        value = is.1;
      };
      small = small;
    }

-- ---- BigInts

pub IsBig-signed_decimal : (n : ℤ) → FitsSigned w128 n → IsBig (signed_decimal n) n
IsBig-signed_decimal (pos n) fits =
    let small : n < 10 ^ 64 = omega arith in
    let is = decimal_is_IsNumeral_wide n small in
    record { digits = decimal n; are_digits = is.0; signed = inl (refl, ap pos (sym is.1)); fits = fits }
IsBig-signed_decimal (negsuc n) fits =
    let small : suc n < 10 ^ 64 = omega arith in
    let is = decimal_is_IsNumeral_wide (suc n) small in
    record { digits = decimal (suc n); are_digits = is.0; signed = inr (refl, ap (λ d. neg_ℤ (pos d)) (sym is.1)); fits = fits }

-- ---- marks

pub IsReference-reference_of : (place : Ref) → IsPlace place → IsReference (reference_of place) place
IsReference-reference_of place is = record { digits = hex_of place.id; is_id = IsId-hex_of place.id is.small; names = is.names; spelled = refl }

pub is_spelling : (m : Mark) → IsSpellable m → IsSpelling (spelling_of m) m
is_spelling (mark.Plain text) is = refl
is_spelling mark.Element is = refl
is_spelling (mark.Lazy id) is = record { rest = hex_of id; spelled = refl; is_kind = IsId-hex_of id is }
is_spelling (mark.Promise id) is = record { rest = hex_of id; spelled = refl; is_kind = IsId-hex_of id is }
is_spelling (mark.Value place) is = record { rest = reference_of place; spelled = refl; is_kind = IsReference-reference_of place is }
is_spelling (mark.Map place) is = record { rest = reference_of place; spelled = refl; is_kind = IsReference-reference_of place is }
is_spelling (mark.Set place) is = record { rest = reference_of place; spelled = refl; is_kind = IsReference-reference_of place is }
is_spelling (mark.Action id) is = inl (record { rest = hex_of id; spelled = refl; is_kind = IsId-hex_of id is })
is_spelling (mark.Date date) is = (refl, is)
is_spelling (mark.Big n) is = record { rest = signed_decimal n; spelled = refl; is_kind = IsBig-signed_decimal n is }
is_spelling (mark.Symbol name) is = refl
is_spelling mark.Undefined is = refl
is_spelling (mark.Constant k) is = refl
