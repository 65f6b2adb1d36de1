-- The numbers that digits spell.
use Rattle.std.proofs.Common.{◌≡◌, ℕ, ◌+◌, ◌-◌, ◌*◌, ◌<◌, ◌≤◌, ◌++◌, List, [], ◌∷◌, length, take, drop, get_or, suc, sym, ◌∙◌, ap, arith}
use Rattle.std.specs.List.{fold}
use Rattle.std.proofs.lemmas.List.Sums.{fold-append}
use Rattle.std.proofs.lemmas.List.{take-append-drop}
use Rattle.std.proofs.Math.Seq.{drop-cons}
use Rattle.flight_syntax.specs.Pieces.{decimal}

-- more digits spell no less
pub decimal_from-le : (n : ℕ) (ds : List ℕ) → n ≤ fold (λ n d. 10 * n + (d - 48)) n ds
decimal_from-le n [] = omega arith
decimal_from-le n (d ∷ ds) =
    let more = decimal_from-le (10 * n + (d - 48)) ds in omega (arith, more)

-- where the digits so far and the next one are past a bound, all of them are
pub decimal-past : (ds : List ℕ) (i most : ℕ) → i < length ds → most < 10 * decimal (take i ds) + (get_or ds i 0 - 48) → most < decimal ds
decimal-past ds i most l h =
    let whole : decimal ds ≡ decimal (take i ds ++ drop i ds) = ap decimal (sym (take-append-drop i ds)) in
    let cut : decimal (take i ds ++ drop i ds) ≡ fold (λ n d. 10 * n + (d - 48)) (decimal (take i ds)) (drop i ds) = fold-append (λ n d. 10 * n + (d - 48)) 0 (take i ds) (drop i ds) in
    let next : fold (λ n d. 10 * n + (d - 48)) (decimal (take i ds)) (drop i ds) ≡ fold (λ n d. 10 * n + (d - 48)) (10 * decimal (take i ds) + (get_or ds i 0 - 48)) (drop (suc i) ds) = ap (λ xs. fold (λ n d. 10 * n + (d - 48)) (decimal (take i ds)) xs) (drop-cons ds i 0 l) in
    let more = decimal_from-le (10 * decimal (take i ds) + (get_or ds i 0 - 48)) (drop (suc i) ds) in
    omega (arith, whole ∙ (cut ∙ next), more, h)
