-- A mark before the digits of a number: the places before the digits stay as they were, and each held the mark.
use Rattle.std.proofs.Common.{◌≡◌, ◌<◌, ◌≤◌, ℕ, ◌+◌, ◌-◌, ◌^◌, List, ◌∷◌, ◌++◌, length, take, drop, get_or, replicate, decimal, sym, ◌∙◌, ap, ap₂, arith, append-nil}
use Rattle.std.proofs.lemmas.List.{drop_more, take_all, length-drop, get_or-take, get_or-replicate, take-replicate}
use Rattle.std.proofs.lemmas.Fmt.{length-decimal-le}

pub number_fits : (n : ℕ) → n < 2 ^ 64 → length (decimal n) ≤ 20
number_fits n small = length-decimal-le 20 n (omega arith) (omega (arith, small)) small

pub mark_before : (bytes digits : List ℕ) (mark at room : ℕ) → 0 < at → at ≤ room → length bytes ≡ room → take at bytes ≡ take at (replicate room mark) → drop at bytes ≡ digits → drop (at - 1) bytes ≡ mark ∷ digits
mark_before bytes digits mark at room some within long before after =
    let below : at - 1 < at = omega (arith, some) in
    let inside : at - 1 < length bytes = omega (arith, some, within, long) in
    let back : at - 1 + 1 ≡ at = omega (arith, some) in
    let kept : get_or bytes (at - 1) mark ≡ mark =
    sym (get_or-take at bytes (at - 1) mark below)
    ∙ (ap (λ xs. get_or xs (at - 1) mark) (before ∙ take-replicate at room mark within)
    ∙ get_or-replicate at (at - 1) mark mark below) in
    drop_more bytes (at - 1) mark inside ∙ ap₂ (λ x xs. x ∷ xs) kept (ap (λ k. drop k bytes) back ∙ after)

pub mark_has_place : (n at : ℕ) → n < 2 ^ 64 → at + length (decimal n) ≡ 21 → 1 ≤ at
mark_has_place n at small whole = let fits = number_fits n small in omega (arith, fits, whole)

pub digits_behind : (bytes digits : List ℕ) (at : ℕ) → drop at bytes ≡ digits ++ drop 21 (replicate 21 35) → drop at bytes ≡ digits
digits_behind bytes digits at behind = behind ∙ append-nil digits

pub whole_piece : (bytes : List ℕ) (at : ℕ) → length bytes ≡ 21 → take (21 - at) (drop at bytes) ≡ drop at bytes
whole_piece bytes at long = take_all (21 - at) (drop at bytes) (omega (arith, length-drop at bytes, long))
