-- Numbers that digits spell.
use Rattle.std.proofs.Common.{◌≡◌, ℕ, ◌+◌, ◌*◌, ◌^◌, ◌<◌, ◌≤◌, ◌&&◌, Bool, true, false, List, [], ◌∷◌, length, refl, arith, suc, add-zero, zero-add}
use Rattle.std.specs.List.{list_all, fold}
use Rattle.std.proofs.lemmas.Bool.Decides.{nat_tests}
use Rattle.std.proofs.lemmas.Nat.{pow-add}
use Rattle.std.proofs.Math.Nat.{pow-le-pow_right}
use Rattle.flight_row.specs.Rows.{is_hex, hex_value, number, AreDigits}

pub both_parts : (a b : Bool) → (a && b) ≡ true → (a ≡ true) × (b ≡ true)
both_parts true b h = (refl, h)
both_parts false b h = cc

pub hex_value-small : (b : ℕ) → is_hex b ≡ true → hex_value b < 16
hex_value-small b h = grind (arith, nat_tests)

fold-small : (a k : ℕ) (ds : List ℕ) → a < 16 ^ k → list_all is_hex ds ≡ true → fold (λ n d. 16 * n + hex_value d) a ds < 16 ^ (k + length ds)
fold-small a k [] h e = rw add-zero h
fold-small a k (d ∷ ds) h e =
    let p = both_parts (is_hex d) (list_all is_hex ds) e in
    let small : hex_value d < 16 = hex_value-small d p.0 in
    let power : 16 ^ (k + 1) ≡ 16 ^ k * 16 = pow-add 16 k 1 in
    let next : 16 * a + hex_value d < 16 ^ (k + 1) = omega (arith, small, power) in
    let count : (k + 1) + length ds ≡ k + suc (length ds) = omega arith in
    rw (← count) (fold-small (16 * a + hex_value d) (k + 1) ds next p.1)

number-small : (ds : List ℕ) → list_all is_hex ds ≡ true → number ds < 16 ^ length ds
number-small ds e = rw (← zero-add (length ds)) (fold-small 0 0 ds (omega arith) e)

-- fewer than eight digits leave room for one more
pub value_room : (ds : List ℕ) (value : ℕ) → AreDigits ds value → length ds < 8 → value < 268435456
value_room ds value are short =
    let below : number ds < 16 ^ length ds = number-small ds are.digits in
    let len : length ds ≤ 7 = omega arith in
    let power : 16 ^ length ds ≤ 16 ^ 7 = pow-le-pow_right (omega arith) len in
    let same : number ds ≡ value = are.value in
    omega (arith, below, power, same)
