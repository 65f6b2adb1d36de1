-- Numbers in the queue.
use Rattle.std.proofs.Common.{◌⊎◌, inl, inr, ◌≡◌, ℕ, ◌≤◌, List, [], ◌∷◌, length, Some, refl, sym, ap, subst, ◌∙◌, arith, rules, All, ◌<◌, take, get_or, zero, suc, map, drop, ◌≢◌}
use Rattle.std.specs.Prelude.{slice_get, slice_set, unwrap_or}
use Rattle.std.specs.Ordering.{nat_cmp, match_ordering}
use Rattle.std.specs.declared.cmp.Ordering.{Ordering}
use Rattle.std.specs.declared.cmp.Ordering.TheVariants.{Less, Equal, Greater}
use Rattle.std.specs.BTreeSet.{insert_key}
use Rattle.std.proofs.lemmas.List.Elements.{All-head, All-tail}
use Rattle.flight_value.specs.Listed.{In}

pub kept : (keys : List ℕ) (k n : ℕ) → In n keys → In n (insert_key nat_cmp keys k)
kept [] k n h = elim h [ ]
kept (x ∷ xs) k n h = go (nat_cmp k x) h (kept xs k n)
  where
    go : (o : Ordering) → In n (x ∷ xs) → (In n xs → In n (insert_key nat_cmp xs k)) → In n (match_ordering o (k ∷ x ∷ xs) (x ∷ xs) (x ∷ insert_key nat_cmp xs k))
    go Less h rest = inr h
    go Equal h rest = h
    go Greater (inl e) rest = inl e
    go Greater (inr h) rest = inr (rest h)

pub put : (keys : List ℕ) (k : ℕ) → In k (insert_key nat_cmp keys k)
put [] k = inl refl
put (x ∷ xs) k = go (nat_cmp k x) refl (put xs k)
  where
    go : (o : Ordering) → nat_cmp k x ≡ o → In k (insert_key nat_cmp xs k) → In k (match_ordering o (k ∷ x ∷ xs) (x ∷ xs) (x ∷ insert_key nat_cmp xs k))
    go Less e rest = inl refl
    go Equal e rest = inl (search (rules, arith, e))
    go Greater e rest = inr rest

-- the first number, where the others are above
pub least : (k : ℕ) (keys : List ℕ) (n : ℕ) → All (λ m. nat_cmp k m ≡ Less) keys → In n (k ∷ keys) → k ≤ n
least k keys n above (inl e) = omega (arith, e)
least k [] n above (inr h) = elim h [ ]
least k (x ∷ xs) n above (inr (inl e)) = search (rules, arith, e, All-head (λ m. nat_cmp k m ≡ Less) x xs above)
least k (x ∷ xs) n above (inr (inr h)) = least k xs n (All-tail (λ m. nat_cmp k m ≡ Less) x xs above) (inr h)

pub queued_first : (k n : ℕ) (queue rest : List ℕ) → queue ≡ k ∷ rest → In n queue → (n ≡ k) ⊎ In n rest
queued_first k n queue rest e h = subst (In n) e h

pub some_in : (n : ℕ) (xs : List ℕ) → In n xs → 0 < length xs
some_in n [] h = elim h [ ]
some_in n (x ∷ xs) h = omega arith

-- one item more
pub in_take : (xs : List ℕ) (i n d : ℕ) → i < length xs → In n (take (suc i) xs) → In n (take i xs) ⊎ (n ≡ get_or xs i d)
in_take [] i n d h at = absurd (omega (arith, h))
in_take (x ∷ xs) zero n d h (inl e) = inr e
in_take (x ∷ xs) zero n d h (inr at) = elim at [ ]
in_take (x ∷ xs) (suc i) n d h (inl e) = inl (inl e)
in_take (x ∷ xs) (suc i) n d h (inr at) = go (in_take xs i n d (omega (arith, h)) at)
  where
    go : In n (take i xs) ⊎ (n ≡ get_or xs i d) → (In n (x ∷ take i xs)) ⊎ (n ≡ get_or xs i d)
    go (inl held) = inl (inr held)
    go (inr e) = inr e

pub take_all : (xs : List ℕ) (i : ℕ) → length xs ≤ i → take i xs ≡ xs
take_all [] zero h = refl
take_all [] (suc i) h = refl
take_all (x ∷ xs) zero h = absurd (omega (arith, h))
take_all (x ∷ xs) (suc i) h = ap (λ z. x ∷ z) (take_all xs i (omega (arith, h)))

pub map_set : {A B : Type 0} (f : A → B) (xs : List A) (n : ℕ) (v w : A) → slice_get xs n ≡ Some v → f w ≡ f v → map f (slice_set xs n w) ≡ map f xs
map_set f [] n v w at e = refl
map_set f (x ∷ xs) zero v w at e = ap (λ z. z ∷ map f xs) (e ∙ ap f (sym (ap (λ o. unwrap_or o x) at)))
map_set f (x ∷ xs) (suc n) v w at e = ap (λ z. f x ∷ z) (map_set f xs n v w at e)

-- one item less
pub in_drop : (xs : List ℕ) (i n d : ℕ) → i < length xs → n ≢ get_or xs i d → In n (drop i xs) → In n (drop (suc i) xs)
in_drop [] i n d h other at = absurd (omega (arith, h))
in_drop (x ∷ xs) zero n d h other (inl e) = absurd (other e)
in_drop (x ∷ xs) zero n d h other (inr at) = at
in_drop (x ∷ xs) (suc i) n d h other at = in_drop xs i n d (omega (arith, h)) other at

pub none_left : (xs : List ℕ) (i n : ℕ) → length xs ≤ i → In n (drop i xs) → ⊥
none_left [] zero n h at = at
none_left [] (suc i) n h at = at
none_left (x ∷ xs) zero n h at = omega (arith, h)
none_left (x ∷ xs) (suc i) n h at = none_left xs i n (omega (arith, h)) at
