-- Steps down: items by the decimal spelling of their index, and properties by name.
use Rattle.std.proofs.Common.{◌≡◌, ◌≢◌, ℕ, zero, suc, ◌+◌, ◌<◌, ◌≤◌, ◌^◌, Bool, true, false, List, [], ◌∷◌, length, Some, None, refl, sym, ◌∙◌, ap, arith, add-zero}
use Rattle.std.specs.Prelude.{if◌then◌else◌, slice_get}
use Rattle.std.specs.Fmt.{decimal}
use Rattle.std.specs.Str.{bytes_eq}
use Rattle.std.proofs.lemmas.Slice.Eq.{bytes_eq-Decides}
use Rattle.std.proofs.lemmas.Fmt.{decimal_injective}
use Rattle.flight_meaning.specs.Resolve.{item_from}

-- two texts are one or are not
pub apart : (xs ys : List ℕ) → xs ≢ ys → bytes_eq xs ys ≡ false
apart xs ys ne = go (bytes_eq xs ys) (bytes_eq-Decides xs ys).0
  where
    go : (b : Bool) → (b ≡ true → xs ≡ ys) → b ≡ false
    go true h = absurd (ne (h refl))
    go false h = refl

pub alike : (xs ys : List ℕ) → xs ≡ ys → bytes_eq xs ys ≡ true
alike xs ys e = (bytes_eq-Decides xs ys).1 e

-- ---- items

pub item_spelled : (n : ℕ) (qs : List ℕ) (k : ℕ) (name : List ℕ) → n + length qs ≤ 2 ^ 64 → n + k < 2 ^ 64 → name ≡ decimal (n + k) → item_from n qs name ≡ slice_get qs k
item_spelled n [] k name few small e = refl
item_spelled n (q ∷ qs) zero name few small e =
    ap (λ b. if b then Some q else item_from (suc n) qs name) (alike (decimal n) name (ap decimal (sym (add-zero n)) ∙ sym e))
item_spelled n (q ∷ qs) (suc k) name few small e =
    let less : n < 2 ^ 64 = omega arith in
    let sum : n + suc k ≡ suc n + k = omega arith in
    let ne : decimal n ≢ name = λ same. let d = decimal_injective n (n + suc k) less small (same ∙ e) in omega (arith, d) in
    let few' : suc n + length qs ≤ 2 ^ 64 = omega arith in
    let small' : suc n + k < 2 ^ 64 = omega arith in
    ap (λ b. if b then Some q else item_from (suc n) qs name) (apart (decimal n) name ne)
    ∙ item_spelled (suc n) qs k name few' small' (e ∙ ap decimal sum)

pub item_unspelled : (n : ℕ) (qs : List ℕ) (name : List ℕ) → n + length qs ≤ 2 ^ 64 → ((k : ℕ) → k < 2 ^ 64 → name ≢ decimal k) → item_from n qs name ≡ None
item_unspelled n [] name few no_number = refl
item_unspelled n (q ∷ qs) name few no_number =
    let less : n < 2 ^ 64 = omega arith in
    let few' : suc n + length qs ≤ 2 ^ 64 = omega arith in
    ap (λ b. if b then Some q else item_from (suc n) qs name) (apart (decimal n) name (λ same. no_number n less (sym same)))
    ∙ item_unspelled (suc n) qs name few' no_number
