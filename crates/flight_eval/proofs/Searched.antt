-- Where a search by halves finds a name among names that ascend.
use Rattle.std.proofs.Common.{ℕ, zero, suc, ◌≤◌, ◌<◌, ◌+◌, ◌≡◌, refl, ap, sym, subst, ◌∙◌, Bool, true, false, cond, ltb, List, [], ◌∷◌, map, length, get_or, Option, Some, None, Result, Ok, Err, MatchResult, arith}
use Rattle.std.proofs.lemmas.Bool.{false≢true}
use Rattle.std.proofs.lemmas.Bool.Decides.{nat_tests}
use Rattle.std.proofs.lemmas.List.Sums.{position_or_len_is}
use Rattle.std.proofs.lemmas.List.Sorted.{searchable_from_sorted}
use Rattle.std.specs.Prelude.{position, bytes_eq}
use Rattle.std.specs.List.{AllByRecursion, position_or_len}
use Rattle.std.specs.List.Sorted.{IsStrictlySortedBy, IsSortedBy, IsBinarySearchResult, IsSearchInRange}
use Rattle.std.specs.declared.cmp.Ordering.{Ordering}
use Rattle.std.specs.declared.cmp.Ordering.TheVariants.{Less, Equal, Greater}
use Rattle.std.specs.Ordering.{nat_cmp, is_lt, is_eq, ordering_reverse}
use Rattle.std.specs.Cmp.Lexicographic.{slice_cmp, nat_list_cmp_total, texts_ties, bytes_decides}
use Rattle.flight_value.specs.Graph.{Ascend}

unequal : (a b : List ℕ) (o : Ordering) → slice_cmp nat_cmp a b ≡ o → is_eq o ≡ false → bytes_eq b a ≡ false
unequal a b o e no_tie = go (bytes_eq b a) refl
  where
    go : (t : Bool) → bytes_eq b a ≡ t → bytes_eq b a ≡ false
    go false f = f
    go true f = absurd (false≢true (sym no_tie ∙ sym (ap is_eq e) ∙ sym (texts_ties a b) ∙ (bytes_decides a b).1 (sym ((bytes_decides b a).0 f))))

module _ {X : Type 0} (key : X → List ℕ) (name : List ℕ) where
  abbrev Is : X → Bool
  Is y = bytes_eq name (key y)

  at_all : (Q : List ℕ → Type 0) (ys : List X) (j : ℕ) (d : X) → AllByRecursion Q (map key ys) → j < length ys → Q (key (get_or ys j d))
  at_all Q [] j d h l = absurd (omega arith)
  at_all Q (y ∷ ys) zero d h l = h.0
  at_all Q (y ∷ ys) (suc j) d h l = at_all Q ys j d h.1 (omega arith)

  below : (xs : List X) (i j : ℕ) (d : X) → Ascend (map key xs) → i < j → j < length xs → slice_cmp nat_cmp (key (get_or xs i d)) (key (get_or xs j d)) ≡ Less
  unfolding IsStrictlySortedBy
  below [] i j d up l m = absurd (omega arith)
  below (x ∷ xs) i zero d up l m = absurd (omega arith)
  below (x ∷ xs) zero (suc j) d up l m = at_all (λ w. slice_cmp nat_cmp (key x) w ≡ Less) xs j d up.0 (omega arith)
  below (x ∷ xs) (suc i) (suc j) d up l m = below xs i j d up.1 (omega arith) (omega arith)

  sorted : (xs : List X) → Ascend (map key xs) → IsSortedBy (λ a b. is_lt (slice_cmp nat_cmp (key a) (key b))) xs
  sorted xs up k d l m = ap is_lt (nat_list_cmp_total.antisymm (key (get_or xs (k + 1) d)) (key (get_or xs k d)) ∙ ap ordering_reverse (below xs k (k + 1) d up (omega arith) m))

  place_at : (xs : List X) (i : ℕ) → i < length xs → position_or_len Is xs ≡ i → position Is xs ≡ Some i
  place_at xs i l e = subst (λ z. cond (ltb z (length xs)) (Some z) None ≡ Some i) (sym e) (grind (arith, nat_tests))

  no_place : (xs : List X) → position_or_len Is xs ≡ length xs → position Is xs ≡ None
  no_place xs e = subst (λ z. cond (ltb z (length xs)) (Some z) None ≡ None) (sym e) (grind (arith, nat_tests))

  found : (xs : List X) (x : X) (i : ℕ) → Ascend (map key xs) → i < length xs → ((d : X) → slice_cmp nat_cmp (key (get_or xs i d)) name ≡ Equal) → position Is xs ≡ Some i
  found xs x i up l e =
      let is : key (get_or xs i x) ≡ name = (bytes_decides (key (get_or xs i x)) name).0 (texts_ties (key (get_or xs i x)) name ∙ ap is_eq (e x)) in
      place_at xs i l (position_or_len_is Is xs i x (omega arith)
      (λ k m. unequal (key (get_or xs k x)) name Less (subst (λ z. slice_cmp nat_cmp (key (get_or xs k x)) z ≡ Less) is (below xs k i x up m l)) refl)
      (λ m. (bytes_decides name (key (get_or xs i x))).1 (sym is)))

  missed : (xs : List X) (x : X) (i : ℕ) → ((k : ℕ) (d : X) → 0 ≤ k → k < i → slice_cmp nat_cmp (key (get_or xs k d)) name ≡ Less) → ((k : ℕ) (d : X) → i ≤ k → k < length xs → slice_cmp nat_cmp (key (get_or xs k d)) name ≡ Greater) → position Is xs ≡ None
  missed xs x i low high =
      no_place xs (position_or_len_is Is xs (length xs) x (omega arith) (λ k m. go k m (ltb k i) refl) (λ m. absurd (omega arith)))
    where
      go : (k : ℕ) → k < length xs → (b : Bool) → ltb k i ≡ b → Is (get_or xs k x) ≡ false
      go k m true e = unequal (key (get_or xs k x)) name Less (low k x (omega arith) (grind (arith, nat_tests))) refl
      go k m false e = unequal (key (get_or xs k x)) name Greater (high k x (grind (arith, nat_tests)) m) refl

  pub searched_name : (xs : List X) (r : Result ℕ ℕ) → Ascend (map key xs) → IsSearchInRange r (length xs) → IsBinarySearchResult (λ y. slice_cmp nat_cmp (key y) name) xs r → MatchResult r (λ i. position Is xs ≡ Some i) (λ i. position Is xs ≡ None)
  searched_name [] (Ok i) up l h = absurd (omega (arith, l))
  searched_name [] (Err i) up l h = refl
  searched_name (x ∷ xs) (Ok i) up l h = found (x ∷ xs) x i up l h
  searched_name (x ∷ xs) (Err i) up l h =
      let parts = h (searchable_from_sorted nat_list_cmp_total key (x ∷ xs) name (sorted (x ∷ xs) up)) in
      missed (x ∷ xs) x i parts.0 parts.1
