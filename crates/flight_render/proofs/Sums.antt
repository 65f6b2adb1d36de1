-- Sums over lists of distinct addresses.
use Rattle.std.proofs.Common.{◌≡◌, ℕ, ◌+◌, ◌≤◌, ◌<◌, Bool, inl, inr, List, [], ◌∷◌, map, refl, sym, ap, ◌∙◌, subst, arith}
use Rattle.flight_render.specs.declared.root.Ground.{Ground}
use Rattle.flight_value.specs.Listed.{In, Distinct}
use Rattle.flight_render.specs.Costs.{Rendered, total_of, Total, TotalOver}
use Rattle.flight_render.specs.Laws.{Grows}
use Rattle.flight_render.proofs.Larger.{rendered-keeps}

abbrev Pair : Type 0
Pair = List ℕ × ℕ

abbrev Within : List Pair → List Pair → Type 0
Within xs ys = (p : Pair) → In p xs → In p ys

abbrev addresses : List Pair → List (List ℕ)
addresses xs = map (λ p. p.0) xs

in_addresses : (p : Pair) (xs : List Pair) → In p xs → In p.0 (addresses xs)
in_addresses p [] i = elim i [ ]
in_addresses p (x ∷ xs) (inl e) = inl (ap (λ z. z.0) e)
in_addresses p (x ∷ xs) (inr i) = inr (in_addresses p xs i)

-- a list without a pair of its own
without : (p : Pair) (ys : List Pair) → In p ys → List Pair
without p [] i = elim i [ ]
without p (y ∷ ys) (inl e) = ys
without p (y ∷ ys) (inr i) = y ∷ without p ys i

without-total : (p : Pair) (ys : List Pair) (i : In p ys) → total_of ys ≡ p.1 + total_of (without p ys i)
unfolding without
without-total p [] i = elim i [ ]
without-total p (y ∷ ys) (inl e) = ap (λ z. z.1 + total_of ys) (sym e)
without-total p (y ∷ ys) (inr i) = let h = without-total p ys i in omega (arith, h)

without-in : (p q : Pair) (ys : List Pair) (i : In p ys) → (q ≡ p → ⊥) → In q ys → In q (without p ys i)
unfolding without
without-in p q [] i other j = elim i [ ]
without-in p q (y ∷ ys) (inl e) other (inl f) = absurd (other (f ∙ sym e))
without-in p q (y ∷ ys) (inl e) other (inr j) = j
without-in p q (y ∷ ys) (inr i) other (inl f) = inl f
without-in p q (y ∷ ys) (inr i) other (inr j) = inr (without-in p q ys i other j)

-- distinct addresses that stand in another list sum to no more
pub within-total : (xs ys : List Pair) → Distinct (addresses xs) → Within xs ys → total_of xs ≤ total_of ys
within-total [] ys d w = omega arith
within-total (x ∷ xs) ys d w =
    let i : In x ys = w x (inl refl) in
    let rest = within-total xs (without x ys i) d.1 (λ q j. without-in x q ys i (λ e. d.0 (in_addresses x xs (subst (λ z. In z xs) e j))) (w q (inr j))) in
    let whole = without-total x ys i in
    omega (arith, rest, whole)

-- a total only grows with more sources settled
pub total-grows : (g : Ground) (few many : List Bool) → Grows few many → (n m : ℕ) → Total g few n → Total g many m → n ≤ m
total-grows g few many gr n m x y =
    let h = within-total x.counted y.counted x.once (λ p i. y.each p.0 p.1 (rendered-keeps g few many gr p.0 p.1 (x.only p.0 p.1 i))) in
    let a = x.is_total in
    let b = y.is_total in
    omega (arith, h, a, b)

-- and is one number
pub one_total : (g : Ground) (s : List Bool) (n m : ℕ) → Total g s n → Total g s m → n ≡ m
one_total g s n m x y =
    let h = total-grows g s s (λ i e. e) n m x y in
    let k = total-grows g s s (λ i e. e) m n y x in
    omega (arith, h, k)

-- bodies whose costs exceed the fuel together are in no total that is within it
pub total-within : (g : Ground) (s : List Bool) (n fuel : ℕ) → Total g s n → TotalOver g s fuel → fuel < n
total-within g s n fuel x y =
    let h = within-total y.counted x.counted y.once (λ p i. x.each p.0 p.1 (y.only p.0 p.1 i)) in
    let a = x.is_total in
    let b = y.more in
    omega (arith, h, a, b)

-- no body that is rendered and finishes costs more than the total
within_total : (p : Pair) (xs : List Pair) → In p xs → p.1 ≤ total_of xs
within_total p [] i = elim i [ ]
within_total p (x ∷ xs) (inl e) = let h = ap (λ z. z.1) e in omega (arith, h)
within_total p (x ∷ xs) (inr i) = let h = within_total p xs i in omega (arith, h)

pub one_within : (g : Ground) (s : List Bool) (n : ℕ) (a : List ℕ) (c : ℕ) → Total g s n → Rendered g s a c → c ≤ n
one_within g s n a c x r =
    let h = within_total (a, c) x.counted (x.each a c r) in
    let e = x.is_total in
    omega (arith, h, e)
