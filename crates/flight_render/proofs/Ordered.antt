-- Properties by the bytes of their names: distinct names ascend, and none is lost.
use Rattle.std.proofs.Common.{◌≡◌, ◌≢◌, ℕ, Bool, true, false, cond, List, [], ◌∷◌, ◌++◌, map, refl, sym, ap, ◌∙◌}
use Rattle.std.proofs.lemmas.Bool.{false≢true}
use Rattle.std.specs.List.{AllByRecursion}
use Rattle.std.specs.List.Sorted.{IsStrictlySortedBy}
use Rattle.std.specs.declared.cmp.Ordering.{Ordering}
use Rattle.std.specs.declared.cmp.Ordering.TheVariants.{Less, Equal, Greater}
use Rattle.std.specs.Ordering.{nat_cmp, is_lt, is_eq, ordering_reverse}
use Rattle.std.specs.Cmp.Lexicographic.{slice_cmp, nat_list_cmp_total, texts_ties, bytes_decides}
use Rattle.flight_value.specs.Graph.{Ascend}
use Rattle.flight_value.specs.declared.made.Tree.{Tree}
use Rattle.flight_render.specs.Eval.{insert_named, by_name}
use Rattle.flight_render.specs.Valid.{Differs, NoneTwice}

abbrev Named : Type 0
Named = List ℕ × Tree

abbrev pub names_in : List Named → List (List ℕ)
names_in ps = map (λ p. p.0) ps

abbrev Below : List ℕ → List (List ℕ) → Type 0
Below name names = AllByRecursion (λ other. slice_cmp nat_cmp name other ≡ Less) names

below_trans : (a b : List ℕ) (ns : List (List ℕ)) → slice_cmp nat_cmp a b ≡ Less → Below b ns → Below a ns
below_trans a b [] l h = tt
below_trans a b (n ∷ ns) l h = (nat_list_cmp_total.trans a b n l h.0, below_trans a b ns l h.1)

-- of two different names that is less which the other is not
other_less : (a b : List ℕ) → (a ≢ b) → (o : Ordering) → slice_cmp nat_cmp b a ≡ o → is_lt o ≡ false → slice_cmp nat_cmp a b ≡ Less
other_less a b ne Less e h = absurd (false≢true (sym h))
other_less a b ne Equal e h = absurd (ne (sym ((bytes_decides b a).0 (texts_ties b a ∙ ap is_eq e))))
other_less a b ne Greater e h = nat_list_cmp_total.antisymm a b ∙ ap ordering_reverse e

lesser : (o : Ordering) → is_lt o ≡ true → o ≡ Less
lesser Less h = refl
lesser Equal h = absurd (false≢true h)
lesser Greater h = absurd (false≢true h)

below_insert : (a : List ℕ) (q : Named) (ps : List Named) → slice_cmp nat_cmp a q.0 ≡ Less → Below a (names_in ps) → Below a (names_in (insert_named q ps))
below_insert a q [] l h = (l, tt)
below_insert a q (p ∷ ps) l h = go (is_lt (slice_cmp nat_cmp p.0 q.0)) (below_insert a q ps l h.1)
  where
    go : (b : Bool) → Below a (names_in (insert_named q ps)) → Below a (names_in (cond b (p ∷ insert_named q ps) (q ∷ p ∷ ps)))
    go true rest = (h.0, rest)
    go false rest = (l, (h.0, h.1))

insert_ascends : (q : Named) (ps : List Named) → Differs q.0 (names_in ps) → Ascend (names_in ps) → Ascend (names_in (insert_named q ps))
unfolding IsStrictlySortedBy
insert_ascends q [] ne h = (tt, tt)
insert_ascends q (p ∷ ps) ne h = go (is_lt (slice_cmp nat_cmp p.0 q.0)) refl (insert_ascends q ps ne.1 h.1)
  where
    go : (b : Bool) → is_lt (slice_cmp nat_cmp p.0 q.0) ≡ b → Ascend (names_in (insert_named q ps)) → Ascend (names_in (cond b (p ∷ insert_named q ps) (q ∷ p ∷ ps)))
    go true e rest = (below_insert p.0 q ps (lesser (slice_cmp nat_cmp p.0 q.0) e) h.0, rest)
    go false e rest =
        let less = other_less q.0 p.0 ne.0 (slice_cmp nat_cmp p.0 q.0) refl e in
        ((less, below_trans q.0 p.0 (names_in ps) less h.0), h)

differs_insert : (a : List ℕ) (q : Named) (ps : List Named) → (a ≢ q.0) → Differs a (names_in ps) → Differs a (names_in (insert_named q ps))
differs_insert a q [] ne h = (ne, tt)
differs_insert a q (p ∷ ps) ne h = go (is_lt (slice_cmp nat_cmp p.0 q.0)) (differs_insert a q ps ne h.1)
  where
    go : (b : Bool) → Differs a (names_in (insert_named q ps)) → Differs a (names_in (cond b (p ∷ insert_named q ps) (q ∷ p ∷ ps)))
    go true rest = (h.0, rest)
    go false rest = (ne, (h.0, h.1))

differs_sorted : (a : List ℕ) (ps : List Named) → Differs a (names_in ps) → Differs a (names_in (by_name ps))
differs_sorted a [] h = tt
differs_sorted a (p ∷ ps) h = differs_insert a p (by_name ps) h.0 (differs_sorted a ps h.1)

-- distinct names ascend
pub sorted_ascends : (ps : List Named) → NoneTwice (names_in ps) → Ascend (names_in (by_name ps))
unfolding IsStrictlySortedBy
sorted_ascends [] h = tt
sorted_ascends (p ∷ ps) h = insert_ascends p (by_name ps) (differs_sorted p.0 ps h.0) (sorted_ascends ps h.1)

-- what holds of each property holds of each in their order
pub each_insert : (P : Named → Type 0) (q : Named) (ps : List Named) → P q → AllByRecursion P ps → AllByRecursion P (insert_named q ps)
each_insert P q [] w h = (w, tt)
each_insert P q (p ∷ ps) w h = go (is_lt (slice_cmp nat_cmp p.0 q.0)) (each_insert P q ps w h.1)
  where
    go : (b : Bool) → AllByRecursion P (insert_named q ps) → AllByRecursion P (cond b (p ∷ insert_named q ps) (q ∷ p ∷ ps))
    go true rest = (h.0, rest)
    go false rest = (w, (h.0, h.1))

pub each_sorted : (P : Named → Type 0) (ps : List Named) → AllByRecursion P ps → AllByRecursion P (by_name ps)
each_sorted P [] h = tt
each_sorted P (p ∷ ps) h = each_insert P p (by_name ps) h.0 (each_sorted P ps h.1)

-- ---- names of which none stands twice

differs_drop : (a : List ℕ) (xs ys : List (List ℕ)) (n : List ℕ) → Differs a (xs ++ n ∷ ys) → Differs a (xs ++ ys)
differs_drop a [] ys n h = h.1
differs_drop a (x ∷ xs) ys n h = (h.0, differs_drop a xs ys n h.1)

-- one of them left out
pub twice_drop : (xs ys : List (List ℕ)) (n : List ℕ) → NoneTwice (xs ++ n ∷ ys) → NoneTwice (xs ++ ys)
twice_drop [] ys n h = h.1
twice_drop (x ∷ xs) ys n h = (differs_drop x xs ys n h.0, twice_drop xs ys n h.1)

differs_last : (a n : List ℕ) (xs : List (List ℕ)) → Differs a xs → (a ≢ n) → Differs a (xs ++ n ∷ [])
differs_last a n [] h ne = (ne, tt)
differs_last a n (x ∷ xs) h ne = (h.0, differs_last a n xs h.1 ne)

-- another one behind them
pub twice_last : (n : List ℕ) (xs : List (List ℕ)) → NoneTwice xs → Differs n xs → NoneTwice (xs ++ n ∷ [])
twice_last n [] h d = (tt, tt)
twice_last n (x ∷ xs) h d = (differs_last x n xs h.0 (λ e. d.0 (sym e)), twice_last n xs h.1 d.1)
