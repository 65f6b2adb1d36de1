-- Numbers in hexadecimal and what their digits spell.
use Rattle.std.proofs.Common.{◌≡◌, ◌≢◌, ℕ, suc, zero, ◌+◌, ◌-◌, ◌*◌, ◌/◌, ◌%◌, ◌^◌, ◌<◌, ◌≤◌, Bool, true, false, nat_eq, List, [], ◌∷◌, ◌++◌, length, drop, slice_set, refl, sym, ◌∙◌, ap, arith, append_assoc, length-append, eq-eqb, append-nil, inl, inr, ◌⊎◌}
use Rattle.std.specs.Prelude.{if◌then◌else◌}
use Rattle.std.specs.Bool.{◌==◌}
use Rattle.std.specs.List.{list_all}
use Rattle.std.specs.Fmt.{digits, digits_onto, digit_glyph}
use Rattle.std.proofs.lemmas.Bool.Decides.{nat_tests}
use Rattle.std.proofs.lemmas.List.Folds.{list_all-append}
use Rattle.std.proofs.lemmas.Grind.{fold-append}
use Rattle.std.proofs.lemmas.Nat.{pow-add}
use Rattle.std.proofs.lemmas.Grind.{drop-set_at}
use Rattle.std.specs.Cmp.Derive.{both_true}
use Rattle.flight_row.specs.Rows.{is_hex, hex_value, number, IsNumber}
use Rattle.flight_row.specs.Written.{hexadecimal}

chosen_true : (b : Bool) (x y : List ℕ) → b ≡ true → (if b then x else y) ≡ x
chosen_true true x y e = refl
chosen_true false x y e = cc

chosen_false : (b : Bool) (x y : List ℕ) → b ≡ false → (if b then x else y) ≡ y
chosen_false true x y e = cc
chosen_false false x y e = refl

pub digits_onto-start : (n : ℕ) (acc : List ℕ) → acc ≡ [] → digits_onto 64 16 false n acc ≡ hexadecimal n
unfolding digits
digits_onto-start n acc e = ap (digits_onto 64 16 false n) e

pub digits_onto-last : (k n : ℕ) (acc : List ℕ) → n / 16 ≡ 0 → digits_onto (suc k) 16 false n acc ≡ digit_glyph false (n % 16) ∷ acc
digits_onto-last k n acc e = chosen_true (n / 16 == 0) (digit_glyph false (n % 16) ∷ acc) (digits_onto k 16 false (n / 16) (digit_glyph false (n % 16) ∷ acc)) (eq-eqb (n / 16) 0 e)

pub digits_onto-more : (k n : ℕ) (acc : List ℕ) → n / 16 ≢ 0 → digits_onto (suc k) 16 false n acc ≡ digits_onto k 16 false (n / 16) (digit_glyph false (n % 16) ∷ acc)
digits_onto-more k n acc e = chosen_false (n / 16 == 0) (digit_glyph false (n % 16) ∷ acc) (digits_onto k 16 false (n / 16) (digit_glyph false (n % 16) ∷ acc)) (let w : nat_eq (n / 16) 0 ≡ false = grind (arith, nat_tests) in w)

-- one more digit in front
pub put_last : (at rest : ℕ) (xs all : List ℕ) (g : ℕ) → 0 < at → at ≤ length xs → rest / 16 ≡ 0 → digits_onto (at + 56) 16 false rest (drop at xs) ≡ all → g ≡ digit_glyph false (rest % 16) → drop (at - 1) (slice_set xs (at - 1) g) ≡ all
put_last zero rest xs all g some fits none e is = absurd (omega arith)
put_last (suc a) rest xs all g some fits none e is =
    let fuel : suc a + 56 ≡ suc (a + 56) = omega arith in
    let place : suc a - 1 ≡ a = omega arith in
    let next : a + 1 ≡ suc a = omega arith in
    rw place (drop-set_at xs a a g refl (omega arith) ∙ (rw next (ap (λ x. x ∷ drop (suc a) xs) is)
    ∙ (sym (digits_onto-last (a + 56) rest (drop (suc a) xs) none) ∙ (ap (λ k. digits_onto k 16 false rest (drop (suc a) xs)) (sym fuel) ∙ e))))

pub put_more : (at rest : ℕ) (xs all : List ℕ) (g : ℕ) → 0 < at → at ≤ length xs → rest / 16 ≢ 0 → digits_onto (at + 56) 16 false rest (drop at xs) ≡ all → g ≡ digit_glyph false (rest % 16) → digits_onto (at - 1 + 56) 16 false (rest / 16) (drop (at - 1) (slice_set xs (at - 1) g)) ≡ all
put_more zero rest xs all g some fits more e is = absurd (omega arith)
put_more (suc a) rest xs all g some fits more e is =
    let fuel : suc a + 56 ≡ suc (a + 56) = omega arith in
    let place : suc a - 1 ≡ a = omega arith in
    let next : a + 1 ≡ suc a = omega arith in
    let put : drop a (slice_set xs a g) ≡ digit_glyph false (rest % 16) ∷ drop (suc a) xs = drop-set_at xs a a g refl (omega arith) ∙ rw next (ap (λ x. x ∷ drop (suc a) xs) is) in
    rw place (ap (digits_onto (a + 56) 16 false (rest / 16)) put
    ∙ (sym (digits_onto-more (a + 56) rest (drop (suc a) xs) more) ∙ (ap (λ k. digits_onto k 16 false rest (drop (suc a) xs)) (sym fuel) ∙ e)))

-- while digits are left, so are places
pub places_left : (at rest : ℕ) → rest < 16 ^ at → rest / 16 ≢ 0 → (0 < at - 1) × (rest / 16 < 16 ^ (at - 1))
places_left zero rest small more = let e : rest / 16 ≡ 0 = omega (arith, small) in absurd (more e)
places_left (suc zero) rest small more = let e : rest / 16 ≡ 0 = omega (arith, small) in absurd (more e)
places_left (suc (suc a)) rest small more =
    let power : 16 ^ (suc a + 1) ≡ 16 ^ suc a * 16 = pow-add 16 (suc a) 1 in
    let same : suc (suc a) - 1 ≡ suc a = omega arith in
    (omega arith, rw same (omega (arith, power, small)))

glyph_hex : (d : ℕ) → d < 16 → (is_hex (digit_glyph false d) ≡ true) × (hex_value (digit_glyph false d) ≡ d)
glyph_hex d h = (grind (arith, nat_tests), grind (arith, nat_tests))

-- what the digits of a number are like
pub record Digits (onto acc : List ℕ) (n most : ℕ) : Type 0 where
  pub ds : List ℕ
  pub in_front : onto ≡ ds ++ acc
  pub are_hex : list_all is_hex ds ≡ true
  pub some : 0 < length ds
  pub few : length ds ≤ most
  pub value : number ds ≡ n

pub digits_onto-digits : (j k n : ℕ) (acc : List ℕ) → n < 16 ^ suc j → j < k → Digits (digits_onto k 16 false n acc) acc n (suc j)
digits_onto-digits j zero n acc small less = absurd (omega arith)
digits_onto-digits zero (suc k) n acc small less =
    let below : n % 16 < 16 = omega arith in
    let glyph = glyph_hex (n % 16) below in
    let zero_left : n / 16 ≡ 0 = omega arith in
    record {
      ds = digit_glyph false (n % 16) ∷ [];
      in_front = digits_onto-last k n acc zero_left;
      are_hex = both_true glyph.0 refl;
      some = omega arith;
      few = omega arith;
      value = let v = glyph.1 in omega (arith, v, zero_left);
    }
digits_onto-digits (suc j) (suc k) n acc small less =
    let below : n % 16 < 16 = omega arith in
    let glyph = glyph_hex (n % 16) below in
    elim (nat_cases (n / 16)) [
      | inl zero_left ↦
          record {
            ds = digit_glyph false (n % 16) ∷ [];
            in_front = digits_onto-last k n acc zero_left;
            are_hex = both_true glyph.0 refl;
            some = omega arith;
            few = omega arith;
            value = let v = glyph.1 in omega (arith, v, zero_left);
          }
      | inr more ↦
          let power : 16 ^ (suc j + 1) ≡ 16 ^ suc j * 16 = pow-add 16 (suc j) 1 in
          let fewer : n / 16 < 16 ^ suc j = omega (arith, power) in
          let d = digits_onto-digits j k (n / 16) (digit_glyph false (n % 16) ∷ acc) fewer (omega arith) in
          record {
            ds = d.ds ++ digit_glyph false (n % 16) ∷ [];
            in_front = digits_onto-more k n acc more ∙ (d.in_front ∙ sym (append_assoc d.ds (digit_glyph false (n % 16) ∷ []) acc));
            are_hex = rw list_all-append (both_true d.are_hex (both_true glyph.0 refl));
            some = simp length-append (omega arith);
            few = let few = d.few in simp length-append (omega (arith, few));
            value =
                let v = glyph.1 in
                let w = d.value in
                fold-append (λ n d. 16 * n + hex_value d) 0 d.ds (digit_glyph false (n % 16) ∷ []) ∙ omega (arith, v, w);
          }
    ]
  where
    nat_cases : (m : ℕ) → (m ≡ 0) ⊎ (m ≢ 0)
    nat_cases zero = inl refl
    nat_cases (suc m) = inr (λ e. let w : suc m ≡ 0 = e in absurd (omega (arith, w)))

-- the digits of a number are at most eight, and spell it
pub hexadecimal-IsNumber : (n : ℕ) → n < 2 ^ 32 → IsNumber (hexadecimal n) n
hexadecimal-IsNumber n small =
    let d : Digits (digits_onto 64 16 false n []) [] n 8 = digits_onto-digits 7 64 n [] (omega (arith, small)) (omega arith) in
    let same : hexadecimal n ≡ d.ds = sym (digits_onto-start n [] refl) ∙ (d.in_front ∙ append-nil d.ds) in
    rw same (record { are_digits = record { digits = d.are_hex; short = d.few; value = d.value }; some = d.some })
