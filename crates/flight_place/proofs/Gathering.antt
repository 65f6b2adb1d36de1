-- Members in a list or a map, beside the members that they stand for.
use Rattle.std.proofs.Common.{◌≡◌, ℕ, zero, suc, ◌+◌, ◌<◌, ◌≤◌, List, [], ◌∷◌, ◌++◌, length, take, drop, slice_index_or, slice_set, Bor, refl, sym, ap, subst, ◌∙◌, arith, append_assoc, append-nil, Ordering, Less, Equal, Greater, nat_cmp}
use Rattle.std.specs.List.{insert}
use Rattle.std.proofs.lemmas.Cmp.{nat_list_cmp_total}
use Rattle.std.specs.Cmp.Lexicographic.{slice_cmp}
use Rattle.std.specs.Ordering.{match_ordering, ordering_reverse}
use Rattle.std.specs.BTreeMap.{insert_entry}
use Rattle.serde_json.specs.Data.{Data, Members, no_members, member, put}
use Rattle.flight_place.specs.declared.parsed.Parsed.{Parsed}
use Rattle.flight_text.specs.Ordered.{names, Below, OrderedMembers}
use Rattle.flight_place.specs.Parsed.{data_of, members_data, EachBelow, AreBelow, IsFirst, IsBelowFirst, with_value}

abbrev pub Entry : Type 0
Entry = Bor (List ℕ) × Parsed

-- ---- a name behind all others

pub put-behind : (xs : List Entry) (k : Bor (List ℕ)) (p : Parsed) → EachBelow (members_data xs) k.now → put k.now (data_of p) (members_data xs) ≡ members_data (xs ++ (k, p) ∷ [])
put-behind [] k p h = refl
put-behind (x ∷ xs) k p h =
    let above : slice_cmp nat_cmp k.now x.0.now ≡ Greater = nat_list_cmp_total.antisymm k.now x.0.now ∙ ap ordering_reverse h.0 in
    rw above (ap (member x.0.now (data_of x.1)) (put-behind xs k p h.1))

pub put-last : (k : Bor (List ℕ)) (p : Parsed) (xs : List Entry) → AreBelow k.now (members_data xs) → members_data (xs ++ (k, p) ∷ []) ≡ put k.now (data_of p) (members_data xs)
put-last k p [] above = refl
put-last k p (x ∷ xs) above = rw above.0 (ap (member x.0.now (data_of x.1)) (put-last k p xs above.1))

-- ---- in a list

-- a name is below one that stands behind it
below-at : (y : List ℕ) (xs : List Entry) (i : ℕ) (x : Entry) → i < length xs → x ≡ slice_index_or xs i x → Below y (names (members_data xs)) → slice_cmp nat_cmp y x.0.now ≡ Less
below-at y [] i x within is h = absurd (omega arith)
below-at y (z ∷ xs) zero x within is h = subst (λ e. slice_cmp nat_cmp y e.0.now ≡ Less) (sym is) h.0
below-at y (z ∷ xs) (suc i) x within is h = below-at y xs i x (omega (arith, within)) is h.1

above-below : (k y z : List ℕ) → slice_cmp nat_cmp y z ≡ Less → slice_cmp nat_cmp k z ≡ Greater → slice_cmp nat_cmp k y ≡ Greater
above-below k y z less greater =
    let below : slice_cmp nat_cmp z k ≡ Less = nat_list_cmp_total.antisymm z k ∙ ap ordering_reverse greater in
    nat_list_cmp_total.antisymm k y ∙ ap ordering_reverse (nat_list_cmp_total.trans y z k less below)

above-more : (k : List ℕ) (xs : List Entry) (i : ℕ) (x : Entry) → i < length xs → x ≡ slice_index_or xs i x → OrderedMembers (members_data xs) → slice_cmp nat_cmp k x.0.now ≡ Greater → AreBelow k (members_data (take (suc i) xs))
above-more k [] i x within is h greater = absurd (omega arith)
above-more k (y ∷ xs) zero x within is h greater = (subst (λ e. slice_cmp nat_cmp k e.0.now ≡ Greater) is greater, tt)
above-more k (y ∷ xs) (suc i) x within is h greater =
    (above-below k y.0.now x.0.now (below-at y.0.now xs i x (omega (arith, within)) is h.0) greater, above-more k xs i x (omega (arith, within)) is h.1 greater)

-- a name that is above one in order is above all before it
pub above-one_more : (k : List ℕ) (xs : List Entry) (i : ℕ) (x : Entry) → i < length xs → x ≡ slice_index_or xs i x → OrderedMembers (members_data xs) → slice_cmp nat_cmp k x.0.now ≡ Greater → AreBelow k (members_data (take (i + 1) xs))
above-one_more k xs i x within is h greater = let next : suc i ≡ i + 1 = omega arith in subst (λ n. AreBelow k (members_data (take n xs))) next (above-more k xs i x within is h greater)

-- and so is one that is the same
pub above-before : (k : List ℕ) (xs : List Entry) (i : ℕ) (x : Entry) → i < length xs → x ≡ slice_index_or xs i x → OrderedMembers (members_data xs) → slice_cmp nat_cmp k x.0.now ≡ Equal → AreBelow k (members_data (take i xs))
above-before k [] i x within is h equal = absurd (omega arith)
above-before k (y ∷ xs) zero x within is h equal = tt
above-before k (y ∷ xs) (suc i) x within is h equal =
    let less = below-at y.0.now xs i x (omega (arith, within)) is h.0 in
    let greater : slice_cmp nat_cmp x.0.now y.0.now ≡ Greater = nat_list_cmp_total.antisymm x.0.now y.0.now ∙ ap ordering_reverse less in
    (nat_list_cmp_total.congr k x.0.now y.0.now equal ∙ greater, above-before k xs i x (omega (arith, within)) is h.1 equal)

pub is-first : (k : List ℕ) (xs : List Entry) (i : ℕ) (x : Entry) → i < length xs → x ≡ slice_index_or xs i x → slice_cmp nat_cmp k x.0.now ≡ Equal → IsFirst k (members_data (drop i xs))
is-first k [] i x within is equal = absurd (omega arith)
is-first k (y ∷ xs) zero x within is equal = subst (λ e. slice_cmp nat_cmp k e.0.now ≡ Equal) is equal
is-first k (y ∷ xs) (suc i) x within is equal = is-first k xs i x (omega (arith, within)) is equal

pub is-below_first : (k : List ℕ) (xs : List Entry) (i : ℕ) (x : Entry) → i < length xs → x ≡ slice_index_or xs i x → slice_cmp nat_cmp k x.0.now ≡ Less → IsBelowFirst k (members_data (drop i xs))
is-below_first k [] i x within is less = absurd (omega arith)
is-below_first k (y ∷ xs) zero x within is less = subst (λ e. slice_cmp nat_cmp k e.0.now ≡ Less) is less
is-below_first k (y ∷ xs) (suc i) x within is less = is-below_first k xs i x (omega (arith, within)) is less

put-before : (k : Bor (List ℕ)) (p : Parsed) (xs : List Entry) → IsBelowFirst k.now (members_data xs) → members_data ((k, p) ∷ xs) ≡ put k.now (data_of p) (members_data xs)
put-before k p [] h = refl
put-before k p (x ∷ xs) h = rw h

pub put-inserted : (k : Bor (List ℕ)) (p : Parsed) (xs : List Entry) (i : ℕ) → i ≤ length xs → AreBelow k.now (members_data (take i xs)) → IsBelowFirst k.now (members_data (drop i xs)) → members_data (insert xs i (k, p)) ≡ put k.now (data_of p) (members_data xs)
put-inserted k p xs zero within above below = put-before k p xs below
put-inserted k p [] (suc i) within above below = absurd (omega arith)
put-inserted k p (x ∷ xs) (suc i) within above below =
    rw above.0 (ap (member x.0.now (data_of x.1)) (put-inserted k p xs i (omega (arith, within)) above.1 below))

pub put-replaced : (k : List ℕ) (d : Data) (xs : List Entry) (i : ℕ) → i < length xs → AreBelow k (members_data (take i xs)) → IsFirst k (members_data (drop i xs)) → with_value i d (members_data xs) ≡ put k d (members_data xs)
put-replaced k d [] i within above first = absurd (omega arith)
put-replaced k d (x ∷ xs) zero within above first = rw first
put-replaced k d (x ∷ xs) (suc i) within above first =
    rw above.0 (ap (member x.0.now (data_of x.1)) (put-replaced k d xs i (omega (arith, within)) above.1 first))

pub set-with_value : (xs : List Entry) (i : ℕ) (x : Entry) (p : Parsed) → i < length xs → x ≡ slice_index_or xs i x → members_data (slice_set xs i (x.0, p)) ≡ with_value i (data_of p) (members_data xs)
set-with_value [] i x p within is = absurd (omega arith)
set-with_value (y ∷ xs) zero x p within is = ap (λ (e : Entry). member e.0.now (data_of p) (members_data xs)) is
set-with_value (y ∷ xs) (suc i) x p within is = ap (member y.0.now (data_of y.1)) (set-with_value xs i x p (omega (arith, within)) is)

-- ---- in a map

inserted_at : (o : Ordering) (a b c : List Entry) → members_data (match_ordering o a b c) ≡ match_ordering o (members_data a) (members_data b) (members_data c)
inserted_at Less a b c = refl
inserted_at Equal a b c = refl
inserted_at Greater a b c = refl

pub put-inserted_entry : (es : List Entry) (k : Bor (List ℕ)) (p : Parsed) → members_data (insert_entry (λ a b. slice_cmp nat_cmp a.now b.now) es k p) ≡ put k.now (data_of p) (members_data es)
put-inserted_entry [] k p = refl
put-inserted_entry (e ∷ es) k p = inserted_at (slice_cmp nat_cmp k.now e.0.now) _ _ _ ∙ rw (put-inserted_entry es k p)

-- the members, with each of these put in
abbrev pub put_each : List Entry → Members → Members
put_each [] found = found
put_each (x ∷ xs) found = put_each xs (put x.0.now (data_of x.1) found)

middle : (k : List ℕ) (done : List Entry) (x : Entry) (xs : List Entry) → Below k (names (members_data (done ++ x ∷ xs))) → slice_cmp nat_cmp k x.0.now ≡ Less
middle k [] x xs h = h.0
middle k (y ∷ done) x xs h = middle k done x xs h.1

below-of : (done : List Entry) (x : Entry) (xs : List Entry) → OrderedMembers (members_data (done ++ x ∷ xs)) → EachBelow (members_data done) x.0.now
below-of [] x xs h = tt
below-of (y ∷ done) x xs h = (middle y.0.now done x xs h.0, below-of done x xs h.1)

put_each-behind : (xs done : List Entry) → OrderedMembers (members_data (done ++ xs)) → put_each xs (members_data done) ≡ members_data (done ++ xs)
put_each-behind [] done h = ap members_data (sym (append-nil done))
put_each-behind (x ∷ xs) done h =
    let same : (done ++ x ∷ []) ++ xs ≡ done ++ x ∷ xs = append_assoc done (x ∷ []) xs in
    ap (put_each xs) (put-behind done x.0 x.1 (below-of done x xs h))
    ∙ (put_each-behind xs (done ++ x ∷ []) (subst (λ ys. OrderedMembers (members_data ys)) (sym same) h) ∙ ap members_data same)

pub put_each-ordered : (xs : List Entry) → OrderedMembers (members_data xs) → put_each xs no_members ≡ members_data xs
put_each-ordered xs h = put_each-behind xs [] h

pub no_entries : (xs : List Entry) → length xs ≡ 0 → xs ≡ []
no_entries [] none = refl
no_entries (x ∷ xs) none = absurd (omega (arith, none))
