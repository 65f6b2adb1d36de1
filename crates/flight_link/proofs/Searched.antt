-- Where a search by halves finds a property, among those that ascend by their names.
use Rattle.std.proofs.Common.{ℕ, zero, suc, ◌≤◌, ◌<◌, ◌+◌, ◌≡◌, refl, ap, sym, subst, ◌∙◌, Bool, true, false, ltb, List, [], ◌∷◌, map, length, get_or, Some, None, Result, Ok, Err, MatchResult, arith}
use Rattle.std.proofs.lemmas.Bool.{false≢true}
use Rattle.std.proofs.lemmas.Bool.Decides.{nat_tests}
use Rattle.std.proofs.lemmas.List.Sorted.{searchable_from_sorted}
use Rattle.std.specs.Prelude.{if◌then◌else◌}
use Rattle.std.specs.Str.{bytes_eq}
use Rattle.std.specs.List.{AllByRecursion}
use Rattle.std.specs.List.Sorted.{IsStrictlySortedBy, IsSortedBy, IsBinarySearchResult, IsSearchInRange}
use Rattle.std.specs.declared.cmp.Ordering.{Ordering}
use Rattle.std.specs.declared.cmp.Ordering.TheVariants.{Less, Equal, Greater}
use Rattle.std.specs.Ordering.{nat_cmp, is_lt, is_eq, ordering_reverse}
use Rattle.std.specs.Cmp.Lexicographic.{slice_cmp, nat_list_cmp_total, texts_ties, bytes_decides}
use Rattle.flight_value.specs.Graph.{Ascend}
use Rattle.flight_meaning.specs.declared.place.Named.{Named}
use Rattle.flight_meaning.specs.Resolve.{property}

abbrev names : List Named → List (List ℕ)
names ps = map (λ (p : Named). p.name) ps

unequal : (a b : List ℕ) (o : Ordering) → slice_cmp nat_cmp a b ≡ o → is_eq o ≡ false → bytes_eq a b ≡ false
unequal a b o e no_tie = go (bytes_eq a b) refl
  where
    go : (t : Bool) → bytes_eq a b ≡ t → bytes_eq a b ≡ false
    go false f = f
    go true f = absurd (false≢true (sym no_tie ∙ sym (ap is_eq e) ∙ sym (texts_ties a b) ∙ f))

-- ---- the order

at_all : (Q : List ℕ → Type 0) (ps : List Named) (j : ℕ) (d : Named) → AllByRecursion Q (names ps) → j < length ps → Q (get_or ps j d).name
at_all Q [] j d h l = absurd (omega arith)
at_all Q (p ∷ ps) zero d h l = h.0
at_all Q (p ∷ ps) (suc j) d h l = at_all Q ps j d h.1 (omega arith)

below : (ps : List Named) (i j : ℕ) (d : Named) → Ascend (names ps) → i < j → j < length ps → slice_cmp nat_cmp (get_or ps i d).name (get_or ps j d).name ≡ Less
unfolding IsStrictlySortedBy
below [] i j d up l m = absurd (omega arith)
below (p ∷ ps) i zero d up l m = absurd (omega arith)
below (p ∷ ps) zero (suc j) d up l m = at_all (λ w. slice_cmp nat_cmp p.name w ≡ Less) ps j d up.0 (omega arith)
below (p ∷ ps) (suc i) (suc j) d up l m = below ps i j d up.1 (omega arith) (omega arith)

sorted : (ps : List Named) → Ascend (names ps) → IsSortedBy (λ (a : Named) (b : Named). is_lt (slice_cmp nat_cmp a.name b.name)) ps
sorted ps up k d l m =
    ap is_lt (nat_list_cmp_total.antisymm (get_or ps (k + 1) d).name (get_or ps k d).name ∙ ap ordering_reverse (below ps k (k + 1) d up (omega arith) m))

-- ---- the property of a name

first : (ps : List Named) (name : List ℕ) (i : ℕ) (d : Named) → i < length ps → ((k : ℕ) → k < i → bytes_eq (get_or ps k d).name name ≡ false) → bytes_eq (get_or ps i d).name name ≡ true → property ps name ≡ Some (get_or ps i d).place
first [] name i d l before here = absurd (omega arith)
first (p ∷ ps) name zero d l before here = ap (λ b. if b then Some p.place else property ps name) here
first (p ∷ ps) name (suc i) d l before here =
    ap (λ b. if b then Some p.place else property ps name) (before 0 (omega arith)) ∙ first ps name i d (omega arith) (λ k m. before (suc k) (omega arith)) here

no_property : (ps : List Named) (name : List ℕ) (d : Named) → ((k : ℕ) → k < length ps → bytes_eq (get_or ps k d).name name ≡ false) → property ps name ≡ None
no_property [] name d each = refl
no_property (p ∷ ps) name d each =
    ap (λ b. if b then Some p.place else property ps name) (each 0 (omega arith)) ∙ no_property ps name d (λ k m. each (suc k) (omega arith))

found : (ps : List Named) (name : List ℕ) (i : ℕ) (d : Named) → Ascend (names ps) → i < length ps → slice_cmp nat_cmp (get_or ps i d).name name ≡ Equal → property ps name ≡ Some (get_or ps i d).place
found ps name i d up l e =
    let tie : bytes_eq (get_or ps i d).name name ≡ true = texts_ties (get_or ps i d).name name ∙ ap is_eq e in
    let is : (get_or ps i d).name ≡ name = (bytes_decides (get_or ps i d).name name).0 tie in
    first ps name i d l
    (λ k m. unequal (get_or ps k d).name name Less (subst (λ z. slice_cmp nat_cmp (get_or ps k d).name z ≡ Less) is (below ps k i d up m l)) refl)
    tie

missed : (ps : List Named) (name : List ℕ) (i : ℕ) (d : Named) → ((k : ℕ) (d : Named) → 0 ≤ k → k < i → slice_cmp nat_cmp (get_or ps k d).name name ≡ Less) → ((k : ℕ) (d : Named) → i ≤ k → k < length ps → slice_cmp nat_cmp (get_or ps k d).name name ≡ Greater) → property ps name ≡ None
missed ps name i d low high = no_property ps name d (λ k m. go k m (ltb k i) refl)
  where
    go : (k : ℕ) → k < length ps → (b : Bool) → ltb k i ≡ b → bytes_eq (get_or ps k d).name name ≡ false
    go k m true e = unequal (get_or ps k d).name name Less (low k d (omega arith) (grind (arith, nat_tests))) refl
    go k m false e = unequal (get_or ps k d).name name Greater (high k d (grind (arith, nat_tests)) m) refl

pub searched_property : (ps : List Named) (name : List ℕ) (r : Result ℕ ℕ) → Ascend (names ps) → IsSearchInRange r (length ps) → IsBinarySearchResult (λ (p : Named). slice_cmp nat_cmp p.name name) ps r → MatchResult r (λ i. (d : Named) → property ps name ≡ Some (get_or ps i d).place) (λ i. property ps name ≡ None)
searched_property [] name (Ok i) up l h = absurd (omega (arith, l))
searched_property [] name (Err i) up l h = refl
searched_property (p ∷ ps) name (Ok i) up l h = λ d. found (p ∷ ps) name i d up l (h d)
searched_property (p ∷ ps) name (Err i) up l h =
    let parts = h (searchable_from_sorted nat_list_cmp_total (λ (q : Named). q.name) (p ∷ ps) name (sorted (p ∷ ps) up)) in
    missed (p ∷ ps) name i p parts.0 parts.1
