-- A list that is sorted, and in which what ties stands as it stood, is the list put in order one by one.
use Rattle.std.proofs.Common.{ℕ, zero, suc, ◌≤◌, ◌<◌, ◌≡◌, refl, ap, sym, subst, ◌∙◌, Bool, true, false, cond, not, ◌&&◌, List, [], ◌∷◌, map, length, get_or, arith}
use Rattle.std.proofs.lemmas.Bool.{false≢true}
use Rattle.std.specs.List.{AllByRecursion, filter}
use Rattle.std.specs.List.Sorted.{ties, IsSortedBy, IsStableBy}
use Rattle.std.proofs.lemmas.List.Sorted.{sorted_far, ranks_by}
use Rattle.std.specs.Cmp.{IsStrictWeakOrder}
use Rattle.std.specs.Cmp.Lexicographic.{slice_cmp, nat_list_cmp_total}
use Rattle.std.specs.Ordering.{nat_cmp, is_lt}
use Rattle.flight_render.specs.Eval.{insert_named, by_name}
use Rattle.flight_eval.specs.declared.object.Property.{Property}
use Rattle.flight_eval.specs.Object.{pair_of}

module _ {X : Type 0} (lt : X → X → Bool) (o : IsStrictWeakOrder lt) where
  abbrev AllAbove : X → List X → Type 0
  AllAbove x ys = AllByRecursion (λ y. lt y x ≡ false) ys

  abbrev InOrder : List X → Type 0
  InOrder [] = Unit {0}
  InOrder (y ∷ ys) = AllAbove y ys × InOrder ys

  not_itself : (x : X) → lt x x ≡ false
  not_itself x = go (lt x x) refl
    where
      go : (b : Bool) → lt x x ≡ b → lt x x ≡ false
      go true e = o.one_way x x e
      go false e = e

  tied : (x y : X) → lt x y ≡ false → lt y x ≡ false → ties lt x y ≡ true
  tied x y e f = rw (e, f) refl

  ties_itself : (x : X) → ties lt x x ≡ true
  ties_itself x = tied x x (not_itself x) (not_itself x)

  -- what ties is not less
  untied : (x y : X) → ties lt x y ≡ true → (lt x y ≡ false) × (lt y x ≡ false)
  untied x y e = go (lt x y) (lt y x) refl refl e
    where
      go : (b c : Bool) → lt x y ≡ b → lt y x ≡ c → ties lt x y ≡ true → (lt x y ≡ false) × (lt y x ≡ false)
      go false false p q h = (p, q)
      go true c p q h = absurd (false≢true (sym (ap (λ b. not b && not (lt y x)) p) ∙ h))
      go false true p q h = absurd (false≢true (sym (ap (λ b. not b && not (lt y x)) p ∙ ap not q) ∙ h))

  from_filter : (Q : X → Type 0) (p : X → Bool) (zs : List X) (y : X) (rest : List X) → AllByRecursion Q zs → filter p zs ≡ y ∷ rest → Q y
  from_filter Q p [] y rest all e = absurd cc
  from_filter Q p (z ∷ zs) y rest all e = go (from_filter Q p zs y rest all.1) (p z) e
    where
      go : (filter p zs ≡ y ∷ rest → Q y) → (b : Bool) → cond b (z ∷ filter p zs) (filter p zs) ≡ y ∷ rest → Q y
      go more true f = let h : z ≡ y = cc in subst Q h all.0
      go more false f = more f

  kept : (x : X) (ys : List X) → filter (ties lt x) (x ∷ ys) ≡ x ∷ filter (ties lt x) ys
  kept x ys = ap (λ b. cond b (x ∷ filter (ties lt x) ys) (filter (ties lt x) ys)) (ties_itself x)

  same_tail : (y : X) (fs gs : List X) (b : Bool) → cond b (y ∷ fs) fs ≡ cond b (y ∷ gs) gs → fs ≡ gs
  same_tail y fs gs true e = cc
  same_tail y fs gs false e = e

  -- two lists in order with the same of each tie
  one_order : (ys zs : List X) → InOrder ys → InOrder zs → ((x : X) → filter (ties lt x) ys ≡ filter (ties lt x) zs) → ys ≡ zs
  one_order [] [] a b h = refl
  one_order [] (z ∷ zs) a b h = let e : [] ≡ z ∷ filter (ties lt z) zs = h z ∙ kept z zs in absurd cc
  one_order (y ∷ ys) [] a b h = let e : [] ≡ y ∷ filter (ties lt y) ys = sym (h y) ∙ kept y ys in absurd cc
  one_order (y ∷ ys) (z ∷ zs) a b h =
      let hy : filter (ties lt y) (z ∷ zs) ≡ y ∷ filter (ties lt y) ys = sym (h y) ∙ kept y ys in
      let hz : filter (ties lt z) (y ∷ ys) ≡ z ∷ filter (ties lt z) zs = h z ∙ kept z zs in
      let yz : lt y z ≡ false = from_filter (λ w. lt w z ≡ false) (ties lt y) (z ∷ zs) y (filter (ties lt y) ys) (not_itself z, b.0) hy in
      let zy : lt z y ≡ false = from_filter (λ w. lt w y ≡ false) (ties lt z) (y ∷ ys) z (filter (ties lt z) zs) (not_itself y, a.0) hz in
      let first : z ∷ filter (ties lt y) zs ≡ y ∷ filter (ties lt y) ys = sym (ap (λ b. cond b (z ∷ filter (ties lt y) zs) (filter (ties lt y) zs)) (tied y z yz zy)) ∙ hy in
      let e : y ≡ z = cc in
      let tails : (x : X) → filter (ties lt x) ys ≡ filter (ties lt x) zs = λ x. same_tail y (filter (ties lt x) ys) (filter (ties lt x) zs) (ties lt x y) (h x ∙ ap (λ w. cond (ties lt x w) (w ∷ filter (ties lt x) zs) (filter (ties lt x) zs)) (sym e)) in
      ap (λ w. w ∷ ys) e ∙ ap (λ ws. z ∷ ws) (one_order ys zs a.1 b.1 tails)

  -- ---- one by one

  abbrev put : X → List X → List X
  put q [] = q ∷ []
  put q (p ∷ ps) = cond (lt p q) (p ∷ put q ps) (q ∷ p ∷ ps)

  abbrev put_all : List X → List X
  put_all [] = []
  put_all (p ∷ ps) = put p (put_all ps)

  each_put : (Q : X → Type 0) (q : X) (ps : List X) → Q q → AllByRecursion Q ps → AllByRecursion Q (put q ps)
  each_put Q q [] w h = (w, tt)
  each_put Q q (p ∷ ps) w h = go (lt p q) (each_put Q q ps w h.1)
    where
      go : (b : Bool) → AllByRecursion Q (put q ps) → AllByRecursion Q (cond b (p ∷ put q ps) (q ∷ p ∷ ps))
      go true more = (h.0, more)
      go false more = (w, h)

  above_more : (q p : X) (ps : List X) → lt p q ≡ false → AllAbove p ps → AllAbove q ps
  above_more q p [] e h = tt
  above_more q p (w ∷ ws) e h = (o.chain w p q h.0 e, above_more q p ws e h.1)

  put_order : (q : X) (ps : List X) → InOrder ps → InOrder (put q ps)
  put_order q [] h = (tt, tt)
  put_order q (p ∷ ps) h = go (lt p q) refl (put_order q ps h.1)
    where
      go : (b : Bool) → lt p q ≡ b → InOrder (put q ps) → InOrder (cond b (p ∷ put q ps) (q ∷ p ∷ ps))
      go true e more = (each_put (λ y. lt y p ≡ false) q ps (o.one_way p q e) h.0, more)
      go false e more = ((e, above_more q p ps e h.0), h)

  all_order : (ps : List X) → InOrder (put_all ps)
  all_order [] = tt
  all_order (p ∷ ps) = put_order p (put_all ps) (all_order ps)

  -- of two that are not alike at most one ties with a third
  apart : (x p q : X) (fs : List X) → lt p q ≡ true → cond (ties lt x p) (p ∷ cond (ties lt x q) (q ∷ fs) fs) (cond (ties lt x q) (q ∷ fs) fs) ≡ cond (ties lt x q) (q ∷ cond (ties lt x p) (p ∷ fs) fs) (cond (ties lt x p) (p ∷ fs) fs)
  apart x p q fs less = go (ties lt x p) (ties lt x q) refl refl
    where
      go : (b c : Bool) → ties lt x p ≡ b → ties lt x q ≡ c → cond b (p ∷ cond c (q ∷ fs) fs) (cond c (q ∷ fs) fs) ≡ cond c (q ∷ cond b (p ∷ fs) fs) (cond b (p ∷ fs) fs)
      go true true e f = absurd (false≢true (sym (o.chain p x q (untied x p e).1 (untied x q f).0) ∙ less))
      go true false e f = refl
      go false true e f = refl
      go false false e f = refl

  put_filter : (x q : X) (ps : List X) → filter (ties lt x) (put q ps) ≡ filter (ties lt x) (q ∷ ps)
  put_filter x q [] = refl
  put_filter x q (p ∷ ps) = go (lt p q) refl (put_filter x q ps)
    where
      go : (b : Bool) → lt p q ≡ b → filter (ties lt x) (put q ps) ≡ filter (ties lt x) (q ∷ ps) → filter (ties lt x) (cond b (p ∷ put q ps) (q ∷ p ∷ ps)) ≡ filter (ties lt x) (q ∷ p ∷ ps)
      go true e more = ap (λ fs. cond (ties lt x p) (p ∷ fs) fs) more ∙ apart x p q (filter (ties lt x) ps) e
      go false e more = refl

  all_filter : (x : X) (ps : List X) → filter (ties lt x) (put_all ps) ≡ filter (ties lt x) ps
  all_filter x [] = refl
  all_filter x (p ∷ ps) = put_filter x p (put_all ps) ∙ ap (λ fs. cond (ties lt x p) (p ∷ fs) fs) (all_filter x ps)

  -- ---- what is sorted is in order

  abbrev Rises : List X → Type 0
  Rises xs = (i j : ℕ) (d : X) → i ≤ j → j < length xs → lt (get_or xs j d) (get_or xs i d) ≡ false

  all_from : (Q : X → Type 0) (ys : List X) → ((j : ℕ) (d : X) → j < length ys → Q (get_or ys j d)) → AllByRecursion Q ys
  all_from Q [] h = tt
  all_from Q (y ∷ ys) h = (h zero y (omega arith), all_from Q ys (λ j d l. h (suc j) d (omega arith)))

  rises_order : (xs : List X) → Rises xs → InOrder xs
  rises_order [] up = tt
  rises_order (y ∷ ys) up = (all_from (λ w. lt w y ≡ false) ys (λ j d l. up zero (suc j) d (omega arith) (omega arith)), rises_order ys (λ i j d l m. up (suc i) (suc j) d (omega arith) (omega arith)))

  sorted_one_by_one : (xs ys : List X) → IsSortedBy lt ys → IsStableBy lt xs ys → ys ≡ put_all xs
  sorted_one_by_one xs ys up stable =
      one_order ys (put_all xs) (rises_order ys (sorted_far lt o ys up)) (all_order xs) (λ x. stable x ∙ sym (all_filter x xs))

-- ---- properties by their names

abbrev pub before : Property → Property → Bool
before p q = is_lt (slice_cmp nat_cmp p.name q.name)

pub before_orders : IsStrictWeakOrder before
before_orders = ranks_by nat_list_cmp_total (λ (p : Property). p.name)

map_put : (q : Property) (ps : List Property) → map pair_of (put before before_orders q ps) ≡ insert_named (pair_of q) (map pair_of ps)
map_put q [] = refl
map_put q (p ∷ ps) = go (before p q) (map_put q ps)
  where
    go : (b : Bool) → map pair_of (put before before_orders q ps) ≡ insert_named (pair_of q) (map pair_of ps) → map pair_of (cond b (p ∷ put before before_orders q ps) (q ∷ p ∷ ps)) ≡ cond b (pair_of p ∷ insert_named (pair_of q) (map pair_of ps)) (pair_of q ∷ pair_of p ∷ map pair_of ps)
    go true more = ap (λ xs. pair_of p ∷ xs) more
    go false more = refl

map_all : (ps : List Property) → map pair_of (put_all before before_orders ps) ≡ by_name (map pair_of ps)
map_all [] = refl
map_all (p ∷ ps) = map_put p (put_all before before_orders ps) ∙ ap (insert_named (pair_of p)) (map_all ps)

pub sorted_by_name : (xs ys : List Property) → IsSortedBy before ys → IsStableBy before xs ys → map pair_of ys ≡ by_name (map pair_of xs)
sorted_by_name xs ys up stable = ap (map pair_of) (sorted_one_by_one before before_orders xs ys up stable) ∙ map_all xs
