-- The first quote that no backslash escapes.
use Rattle.std.proofs.Common.{◌≡◌, ℕ, ◌+◌, ◌<◌, Bool, true, false, List, length, drop, get_or, add-one, refl, sym, ◌∙◌, ap, arith}
use Rattle.std.specs.Prelude.{option_map, if◌then◌else◌, Option, Some, None, ◌==◌, suc}
use Rattle.std.proofs.Math.Seq.{drop-cons}
use Rattle.flight_syntax.specs.Literal.{closing}

abbrev pub further : ℕ → Option ℕ → Option ℕ
further i o = option_map (λ n. i + n) o

pub further-suc : (i : ℕ) (o : Option ℕ) → further i (option_map suc o) ≡ further (i + 1) o
further-suc i None = refl
further-suc i (Some n) = ap Some (omega arith)

-- one byte on behind a backslash
pub closing-escaped : (xs : List ℕ) (i : ℕ) → i < length xs → further i (closing true (drop i xs)) ≡ further (i + 1) (closing false (drop (i + 1) xs))
closing-escaped xs i l =
    ap (λ ys. further i (closing true ys)) (drop-cons xs i 0 l)
    ∙ (further-suc i (closing false (drop (suc i) xs))
    ∙ ap (λ j. further (i + 1) (closing false (drop j xs))) (sym (add-one i)))

-- one byte on that is no quote
pub closing-plain : (xs : List ℕ) (i : ℕ) → i < length xs → (get_or xs i 0 == 34) ≡ false → further i (closing false (drop i xs)) ≡ further (i + 1) (closing (get_or xs i 0 == 92) (drop (i + 1) xs))
closing-plain xs i l h =
    ap (λ ys. further i (closing false ys)) (drop-cons xs i 0 l)
    ∙ (ap (λ q. further i (if q then Some 1 else option_map suc (closing (get_or xs i 0 == 92) (drop (suc i) xs)))) h
    ∙ (further-suc i (closing (get_or xs i 0 == 92) (drop (suc i) xs))
    ∙ ap (λ j. further (i + 1) (closing (get_or xs i 0 == 92) (drop j xs))) (sym (add-one i))))

-- a loop's step over an escaped byte
pub closing-step_escaped : (xs : List ℕ) (i : ℕ) (e e' : Bool) → i < length xs → closing false xs ≡ further i (closing e (drop i xs)) → e ≡ true → e' ≡ false → closing false xs ≡ further (i + 1) (closing e' (drop (i + 1) xs))
closing-step_escaped xs i e e' l h p q =
    h ∙ (ap (λ x. further i (closing x (drop i xs))) p
    ∙ (closing-escaped xs i l ∙ ap (λ x. further (i + 1) (closing x (drop (i + 1) xs))) (sym q)))

-- a loop's step over any other byte that is no quote
pub closing-step_plain : (xs : List ℕ) (i : ℕ) (e e' : Bool) → i < length xs → closing false xs ≡ further i (closing e (drop i xs)) → e ≡ false → (get_or xs i 0 == 34) ≡ false → e' ≡ (get_or xs i 0 == 92) → closing false xs ≡ further (i + 1) (closing e' (drop (i + 1) xs))
closing-step_plain xs i e e' l h p k q =
    h ∙ (ap (λ x. further i (closing x (drop i xs))) p
    ∙ (closing-plain xs i l k ∙ ap (λ x. further (i + 1) (closing x (drop (i + 1) xs))) (sym q)))
