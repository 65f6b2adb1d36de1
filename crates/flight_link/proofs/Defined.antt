-- Which references are not defined.
use Rattle.std.proofs.Common.{◌≡◌, ◌≢◌, ℕ, zero, suc, ◌≤◌, ◌⊎◌, Bool, true, false, List, [], ◌∷◌, ◌++◌, length, Option, Some, None, option_and_then, slice_get, refl, sym, ◌∙◌, ap, subst, arith, inl, inr, min}
use Rattle.std.proofs.lemmas.Bool.{false≢true}
use Rattle.std.proofs.lemmas.Option.{none-some}
use Rattle.flight_meaning.specs.declared.place.Place.{Place}
use Rattle.flight_meaning.specs.declared.place.Place.TheVariants as place
use Rattle.flight_meaning.specs.declared.place.PlaceTree.{PlaceTree}
use Rattle.flight_meaning.specs.declared.place.PlacedRow.{PlacedRow}
use Rattle.flight_value.specs.declared.graph.Atom.TheVariants as atom
use Rattle.flight_text.specs.declared.mark.Ref.{Ref}
use Rattle.flight_row.specs.declared.row.RowKind.{RowKind}
use Rattle.flight_row.specs.declared.row.RowKind.TheVariants as kind
use Rattle.std.specs.Prelude.{is_some, ◌&&◌, ◌||◌, codes}
use Rattle.flight_meaning.specs.Linked as linked
use Rattle.flight_meaning.specs.Linked.{rows_of, place_at, first_place, beside}
use Rattle.flight_meaning.specs.Meaning.{Written, Token, entry, both, entries, slots_in, slots_found, Reference, text_at, bound_at, reference_with, reference_in, reference_by, reference_of, there}
use Rattle.flight_meaning.specs.Resolve.{Path, property, to, Found, found, stream, not_yet, nowhere, IsEnd, ComesToAnEnd}
use Rattle.flight_meaning.specs.Good.{IsDefined, IsTokenDefined, IsHeld, IsLeastUndefined}
use Rattle.flight_meaning.proofs.Walking.{one_end, turn_ends}
use Rattle.flight_meaning.proofs.Paths.{absent_turn}
use Rattle.flight_link.specs.declared.found.Spot.{Spot}
use Rattle.flight_link.specs.declared.node.State.{State}
use Rattle.flight_link.specs.declared.node.State.TheVariants.{Absent, Ended, Lost, Behind}
use Rattle.flight_link.specs.declared.table.Table.{Table}
use Rattle.flight_link.specs.Nodes.{IsPlain, IsTable, IsRowOf, AreLinked, place_in, spot_of, last_names}
use Rattle.flight_link.specs.Waiting.{IsNotYet, IsResolved}
use Rattle.flight_link.specs.Least.{IsUndefinedIn, IsLeastIn, IsIn, IsInRows, lesser, is_pair, fails_in, token_at, may_bind, text_in, bound_in, refers_in}
use Rattle.flight_link.proofs.PlainRows.{row_there, place_there, place_back, spot_in_row, one_row}
use Rattle.flight_link.proofs.Waits.{waits_behind}
use Rattle.flight_link.proofs.Growing.{push_get, push_at}
use Rattle.flight_meaning.proofs.MoreRows.{slice_get-front}

-- ---- whether a walk comes to an end

pub ended_comes : (t : Table) (states : List State) (id : ℕ) (names : Path) (s : Spot) → IsResolved t states id names (Ended s) → ComesToAnEnd t.rows.items (to id names)
ended_comes t states id names s h = (found (spot_of t.rows.items s), h.0, tt)

pub other_never : (t : Table) (states : List State) (id : ℕ) (names : Path) (state : State) → AreLinked t states → IsResolved t states id names state → ((s : Spot) → state ≢ Ended s) → ComesToAnEnd t.rows.items (to id names) → ⊥
other_never t states id names (Ended s) linked h other c = other s refl
other_never t states id names Lost linked h other c = subst IsEnd (one_end t.rows.items (to id names) c.0 nowhere c.1 h) c.2
other_never t states id names Absent linked h other c =
    subst IsEnd (one_end t.rows.items (to id names) c.0 (not_yet id names) c.1 (turn_ends t.rows.items (to id names) (not_yet id names) (absent_turn t.rows.items id names h))) c.2
other_never t states id names (Behind node left) linked h other c =
    no_end c.0 (waits_behind t states node h.0.other (to id names) (last_names left names) linked h.0.is_other h.1 h.0.come c.0 c.1) c.2
  where
    no_end : (f : Found) → IsNotYet f → IsEnd f → ⊥
    no_end (not_yet i p) w e = e
    no_end (found s) w e = w
    no_end (stream i) w e = w
    no_end nowhere w e = w

le_or : (m n : ℕ) → (m ≤ n) ⊎ (n ≤ m)
le_or zero n = inl (omega arith)
le_or (suc m) zero = inr (omega arith)
le_or (suc m) (suc n) = elim (le_or m n) [ inl h ↦ inl (omega (arith, h)) | inr h ↦ inr (omega (arith, h)) ]

-- ---- the least of two

abbrev pub Either : (Place → Type 0) → (Place → Type 0) → Place → Type 0
Either P Q at = P at ⊎ Q at

undefined_left : (rows : List PlacedRow) (P Q : Place → Type 0) (id : ℕ) → IsUndefinedIn rows P id → IsUndefinedIn rows (Either P Q) id
undefined_left rows P Q id u = (u.0, inl u.1, u.2, u.3)

undefined_right : (rows : List PlacedRow) (P Q : Place → Type 0) (id : ℕ) → IsUndefinedIn rows Q id → IsUndefinedIn rows (Either P Q) id
undefined_right rows P Q id u = (u.0, inr u.1, u.2, u.3)

undefined_either : {A : Type 0} (rows : List PlacedRow) (P Q : Place → Type 0) (id : ℕ) → IsUndefinedIn rows (Either P Q) id → (IsUndefinedIn rows P id → A) → (IsUndefinedIn rows Q id → A) → A
undefined_either {A = A} rows P Q id u f g = go u.1
  where
    go : P u.0 ⊎ Q u.0 → A
    go (inl h) = f (u.0, h, u.2, u.3)
    go (inr h) = g (u.0, h, u.2, u.3)

pub least_both : (rows : List PlacedRow) (P Q : Place → Type 0) (a b : Option ℕ) → IsLeastIn rows P a → IsLeastIn rows Q b → IsLeastIn rows (Either P Q) (lesser a b)
least_both rows P Q (Some m) (Some n) h k = (go (m_or_n m n), λ other u. undefined_either rows P Q other u (λ w. let x = h.1 other w in omega (arith, x)) (λ w. let y = k.1 other w in omega (arith, y)))
  where
    m_or_n : (m n : ℕ) → (min m n ≡ m) ⊎ (min m n ≡ n)
    m_or_n m n = elim (le_or m n) [ inl h ↦ inl (omega arith) | inr h ↦ inr (omega arith) ]

    go : (min m n ≡ m) ⊎ (min m n ≡ n) → IsUndefinedIn rows (Either P Q) (min m n)
    go (inl e) = undefined_left rows P Q (min m n) (subst (IsUndefinedIn rows P) (sym e) h.0)
    go (inr e) = undefined_right rows P Q (min m n) (subst (IsUndefinedIn rows Q) (sym e) k.0)
least_both rows P Q (Some m) None h k = (undefined_left rows P Q m h.0, λ other u. undefined_either rows P Q other u (h.1 other) (λ w. absurd (w.3 (k w.0 w.1))))
least_both rows P Q None (Some n) h k = (undefined_right rows P Q n k.0, λ other u. undefined_either rows P Q other u (λ w. absurd (w.3 (h w.0 w.1))) (k.1 other))
least_both rows P Q None None h k = λ at p. go at p
  where
    go : (at : Place) → P at ⊎ Q at → IsDefined rows at
    go at (inl p) = h at p
    go at (inr q) = k at q

-- of places that are the same places
pub least_same : (rows : List PlacedRow) (P Q : Place → Type 0) (o : Option ℕ) → ((at : Place) → P at → Q at) → ((at : Place) → Q at → P at) → IsLeastIn rows P o → IsLeastIn rows Q o
least_same rows P Q (Some id) f g h = ((h.0.0, f h.0.0 h.0.1, h.0.2, h.0.3), λ other u. h.1 other (u.0, g u.0 u.1, u.2, u.3))
least_same rows P Q None f g h = λ at q. h at (g at q)

-- ---- places of lists and of rows

pub in_more : (xs : List Place) (x at : Place) → IsIn (xs ++ x ∷ []) at → Either (IsIn xs) (λ p. p ≡ x) at
in_more xs x at h = go (push_get xs x h.0 at h.1)
  where
    go : (slice_get xs h.0 ≡ Some at) ⊎ ((h.0 ≡ length xs) × (x ≡ at)) → Either (IsIn xs) (λ p. p ≡ x) at
    go (inl e) = inl (h.0, e)
    go (inr p) = inr (sym p.1)

pub more_in : (xs : List Place) (x at : Place) → Either (IsIn xs) (λ p. p ≡ x) at → IsIn (xs ++ x ∷ []) at
more_in xs x at (inl h) = (h.0, slice_get-front xs (x ∷ []) h.0 at h.1)
more_in xs x at (inr e) = (length xs, push_at xs x ∙ ap Some (sym e))

pub row_in_more : (xs : List PlacedRow) (x : PlacedRow) (at : Place) → IsInRows (xs ++ x ∷ []) at → Either (IsInRows xs) (IsIn x.tree.places) at
row_in_more xs x at h = go (push_get xs x h.0 h.1.0 h.1.1)
  where
    go : (slice_get xs h.0 ≡ Some h.1.0) ⊎ ((h.0 ≡ length xs) × (x ≡ h.1.0)) → Either (IsInRows xs) (IsIn x.tree.places) at
    go (inl e) = inl (h.0, (h.1.0, e, h.1.2))
    go (inr p) = inr (subst (λ (r : PlacedRow). IsIn r.tree.places at) (sym p.1) h.1.2)

pub more_row_in : (xs : List PlacedRow) (x : PlacedRow) (at : Place) → Either (IsInRows xs) (IsIn x.tree.places) at → IsInRows (xs ++ x ∷ []) at
more_row_in xs x at (inl h) = (h.0, (h.1.0, slice_get-front xs (x ∷ []) h.0 h.1.0 h.1.1, h.1.2))
more_row_in xs x at (inr h) = (length xs, (x, push_at xs x, h))

pub least_place : (rows : List PlacedRow) (xs : List Place) (x : Place) (a b : Option ℕ) → IsLeastIn rows (IsIn xs) a → IsLeastIn rows (λ p. p ≡ x) b → IsLeastIn rows (IsIn (xs ++ x ∷ [])) (lesser a b)
least_place rows xs x a b h k = least_same rows (Either (IsIn xs) (λ p. p ≡ x)) (IsIn (xs ++ x ∷ [])) (lesser a b) (more_in xs x) (in_more xs x) (least_both rows (IsIn xs) (λ p. p ≡ x) a b h k)

pub least_row : (rows xs : List PlacedRow) (x : PlacedRow) (a b : Option ℕ) → IsLeastIn rows (IsInRows xs) a → IsLeastIn rows (IsIn x.tree.places) b → IsLeastIn rows (IsInRows (xs ++ x ∷ [])) (lesser a b)
least_row rows xs x a b h k = least_same rows (Either (IsInRows xs) (IsIn x.tree.places)) (IsInRows (xs ++ x ∷ [])) (lesser a b) (more_row_in xs x) (row_in_more xs x) (least_both rows (IsInRows xs) (IsIn x.tree.places) a b h k)

-- the places that stand in the rows are those that the rows hold
held_in : (rows : List PlacedRow) (at : Place) → IsPlain rows → IsHeld rows at → IsInRows rows at
held_in rows at plain h =
    let b = place_back rows h.0 at plain h.1 in
    let r = row_there rows b.0 at b.1 in
    (b.0.row, (r.0, r.1, (b.0.place, r.2)))

in_held : (rows : List PlacedRow) (at : Place) → IsPlain rows → IsInRows rows at → IsHeld rows at
in_held rows at plain h =
    let s : Spot = record { row = h.0; place = h.1.2.0 } in
    (spot_of rows s, place_there rows s at plain (ap (option_and_then (λ (r : PlacedRow). slice_get r.tree.places h.1.2.0)) h.1.1 ∙ h.1.2.1))

pub least_of_all : (rows : List PlacedRow) (o : Option ℕ) → IsPlain rows → IsLeastIn rows (IsInRows rows) o → IsLeastUndefined rows o
least_of_all rows (Some id) plain h =
    ((h.0.0, in_held rows h.0.0 plain h.0.1, h.0.2, h.0.3), λ other u. h.1 other (u.0, held_in rows u.0 plain u.1, u.2, u.3))
least_of_all rows None plain h = λ at held. h at (held_in rows at plain held)

-- ---- places of a row

pub place_of_row : (rows : List PlacedRow) (s : Spot) (r : PlacedRow) (n : ℕ) → IsPlain rows → slice_get rows s.row ≡ Some r → place_at rows (beside (spot_of rows s) n) ≡ place_in rows (record { row = s.row; place = n })
place_of_row rows s r n plain e =
    ap (λ i. place_at rows (record { id = i; nth = 0; at = n })) (ap (λ (x : linked.Spot). x.id) (spot_in_row rows s r e))
    ∙ (ap (λ ts. option_and_then (λ (t : PlaceTree). slice_get t.places n) (slice_get ts 0)) (one_row rows s.row r plain e)
    ∙ sym (ap (option_and_then (λ (r : PlacedRow). slice_get r.tree.places n)) e))

-- ---- entries

pair_entry : (s : linked.Spot) (o : Option Place) → is_some (entry s o) ≡ is_pair o
pair_entry s None = refl
pair_entry s (Some (place.Array [])) = refl
pair_entry s (Some (place.Array (k ∷ []))) = refl
pair_entry s (Some (place.Array (k ∷ v ∷ []))) = refl
pair_entry s (Some (place.Array (k ∷ v ∷ w ∷ ns))) = refl
pair_entry s (Some (place.Atom a)) = refl
pair_entry s (Some (place.Object ps)) = refl
pair_entry s (Some (place.Element tag key props)) = refl
pair_entry s (Some (place.Lazy id)) = refl
pair_entry s (Some (place.Promise id)) = refl
pair_entry s (Some (place.Value at)) = refl
pair_entry s (Some (place.Map at)) = refl
pair_entry s (Some (place.Set at)) = refl
pair_entry s (Some (place.Action id)) = refl

both_some : (a b : Option (List Written)) → is_some (both a b) ≡ (is_some a && is_some b)
both_some (Some x) (Some y) = refl
both_some (Some x) None = refl
both_some None b = refl

pub entries_step : (rows : List PlacedRow) (s : Spot) (at : Place) (n : ℕ) (ns : List ℕ) → IsPlain rows → place_in rows s ≡ Some at → is_some (entries rows (spot_of rows s) (n ∷ ns)) ≡ (is_pair (place_in rows (record { row = s.row; place = n })) && is_some (entries rows (spot_of rows s) ns))
entries_step rows s at n ns plain e =
    let r = row_there rows s at e in
    both_some (entry (spot_of rows s) (place_at rows (beside (spot_of rows s) n))) (entries rows (spot_of rows s) ns)
    ∙ ap (λ b. b && is_some (entries rows (spot_of rows s) ns)) (pair_entry (spot_of rows s) (place_at rows (beside (spot_of rows s) n)) ∙ ap is_pair (place_of_row rows s r.0 n plain r.1))

pub entries_go : (rows : List PlacedRow) (s : Spot) (at : Place) (n : ℕ) (ns : List ℕ) (b : Bool) → IsPlain rows → place_in rows s ≡ Some at → b ≡ is_pair (place_in rows (record { row = s.row; place = n })) → b ≡ true → is_some (entries rows (spot_of rows s) (n ∷ ns)) ≡ is_some (entries rows (spot_of rows s) ns)
entries_go rows s at n ns b plain e is is_true = entries_step rows s at n ns plain e ∙ ap (λ b. b && is_some (entries rows (spot_of rows s) ns)) (sym is ∙ is_true)

pub entries_stop : (rows : List PlacedRow) (s : Spot) (at : Place) (n : ℕ) (ns : List ℕ) (b : Bool) → IsPlain rows → place_in rows s ≡ Some at → b ≡ is_pair (place_in rows (record { row = s.row; place = n })) → b ≡ false → is_some (entries rows (spot_of rows s) (n ∷ ns)) ≡ false
entries_stop rows s at n ns b plain e is not_pair = entries_step rows s at n ns plain e ∙ ap (λ b. b && is_some (entries rows (spot_of rows s) ns)) (sym is ∙ not_pair)

-- ---- tokens

some_true : {A : Type 0} (o : Option A) → is_some o ≡ true → (x : A) × (o ≡ Some x)
some_true {A = A} None e = absurd (false≢true e)
some_true {A = A} (Some x) e = (x, refl)

some_is : {A : Type 0} (o : Option A) (x : A) → o ≡ Some x → is_some o ≡ true
some_is o x e = ap is_some e

failed_in : (o : Option Place) → fails_in o ≡ true → (digest : List ℕ) × (o ≡ Some (place.Atom (atom.Failed digest)))
failed_in (Some (place.Atom (atom.Failed digest))) e = (digest, refl)
failed_in (Some at) e = absurd (false≢true e)
failed_in None e = absurd (false≢true e)

or_true : (a b : Bool) → (a || b) ≡ true → (a ≡ true) ⊎ (b ≡ true)
or_true true b e = inl refl
or_true false b e = inr e

or_left : (a b : Bool) → a ≡ true → (a || b) ≡ true
or_left a b e = ap (λ x. x || b) e

or_right : (a b : Bool) → b ≡ true → (a || b) ≡ true
or_right true b e = refl
or_right false b e = e

pub token_ended : (t : Table) (states : List State) (token : Token) (r : Ref) (s : Spot) → IsTable t → IsResolved t states r.id r.path (Ended s) → (token_at token t.rows.items s ≡ true → IsTokenDefined t.rows.items token r) × (IsTokenDefined t.rows.items token r → token_at token t.rows.items s ≡ true)
token_ended t states token r s table h = (λ e. forth (or_true (is_some (slots_in token t.rows.items (spot_of t.rows.items s) (place_in t.rows.items s))) (fails_in (place_in t.rows.items s)) e), back)
  where
    stands : place_at t.rows.items (spot_of t.rows.items s) ≡ place_in t.rows.items s
    stands = place_there t.rows.items s h.1.0 table.plain h.1.1 ∙ sym h.1.1

    forth : (is_some (slots_in token t.rows.items (spot_of t.rows.items s) (place_in t.rows.items s)) ≡ true) ⊎ (fails_in (place_in t.rows.items s) ≡ true) → IsTokenDefined t.rows.items token r
    forth (inl e) =
        let x = some_true (slots_in token t.rows.items (spot_of t.rows.items s) (place_in t.rows.items s)) e in
        inl (x.0, (found (spot_of t.rows.items s), h.0, ap (slots_in token t.rows.items (spot_of t.rows.items s)) stands ∙ x.1))
    forth (inr e) =
        let x = failed_in (place_in t.rows.items s) e in
        inr (x.0, (spot_of t.rows.items s, h.0, stands ∙ x.1))

    back : IsTokenDefined t.rows.items token r → token_at token t.rows.items s ≡ true
    back (inl d) =
        let same = one_end t.rows.items (to r.id r.path) d.1.0 (found (spot_of t.rows.items s)) d.1.1 h.0 in
        or_left (is_some (slots_in token t.rows.items (spot_of t.rows.items s) (place_in t.rows.items s))) (fails_in (place_in t.rows.items s))
        (some_is (slots_in token t.rows.items (spot_of t.rows.items s) (place_in t.rows.items s)) d.0
        (sym (ap (slots_in token t.rows.items (spot_of t.rows.items s)) stands) ∙ (ap (slots_found token t.rows.items) (sym same) ∙ d.1.2)))
    back (inr d) =
        let same = one_end t.rows.items (to r.id r.path) (found d.1.0) (found (spot_of t.rows.items s)) d.1.1 h.0 in
        let spot : d.1.0 ≡ spot_of t.rows.items s = cc in
        or_right (is_some (slots_in token t.rows.items (spot_of t.rows.items s) (place_in t.rows.items s))) (fails_in (place_in t.rows.items s))
        (ap fails_in (sym stands ∙ (ap (place_at t.rows.items) (sym spot) ∙ d.1.2)))

pub token_never : (t : Table) (states : List State) (token : Token) (r : Ref) (state : State) → AreLinked t states → IsResolved t states r.id r.path state → ((s : Spot) → state ≢ Ended s) → IsTokenDefined t.rows.items token r → ⊥
token_never t states token r state linked h other (inl d) = other_never t states r.id r.path state linked h other (d.1.0, d.1.1, is_end d.1.0 d.1.2)
  where
    is_end : (f : Found) → slots_found token t.rows.items f ≡ Some d.0 → IsEnd f
    is_end (found s) e = tt
    is_end (stream i) e = tt
    is_end (not_yet i p) e = absurd (none-some d.0 e)
    is_end nowhere e = absurd (none-some d.0 e)
token_never t states token r state linked h other (inr d) = other_never t states r.id r.path state linked h other (found d.1.0, d.1.1, tt)

-- ---- server references

both_true : (a : Option (List ℕ)) (b : Option linked.Spot) → is_some (reference_with a b) ≡ (is_some a && is_some b)
both_true (Some x) (Some y) = refl
both_true (Some x) None = refl
both_true None b = refl

bind_some : (s : linked.Spot) (o : Option Place) → is_some (bound_at s o) ≡ may_bind o
bind_some s None = refl
bind_some s (Some (place.Atom atom.Null)) = refl
bind_some s (Some (place.Promise id)) = refl
bind_some s (Some at) = refl

pub refers : (t : Table) (row : ℕ) (r : PlacedRow) → IsTable t → slice_get t.rows.items row ≡ Some r → is_some (reference_of t.rows.items r.id) ≡ refers_in t.rows.items row r.tree.kind (place_in t.rows.items (record { row = row; place = 0 }))
refers t row r table e = ap (λ ts. is_some (option_and_then (λ (x : PlaceTree). reference_by t.rows.items r.id x.kind) (slice_get ts 0))) (one_row t.rows.items row r table.plain e) ∙ by_kind r.tree.kind
  where
    there_is : (n : ℕ) → place_at t.rows.items (beside (first_place r.id) n) ≡ place_in t.rows.items (record { row = row; place = n })
    there_is n = ap (λ (x : linked.Spot). place_at t.rows.items (beside x n)) (sym (spot_in_row t.rows.items (record { row = row; place = 0 }) r e)) ∙ place_of_row t.rows.items (record { row = row; place = 0 }) r n table.plain e

    texts : (o : Option ℕ) → is_some (option_and_then (λ n. text_at (there t.rows.items (first_place r.id) n)) o) ≡ text_in t.rows.items row o
    texts None = refl
    texts (Some n) = ap (λ x. is_some (text_at x)) (there_is n)

    bounds : (o : Option ℕ) → is_some (option_and_then (λ n. bound_at (beside (first_place r.id) n) (there t.rows.items (first_place r.id) n)) o) ≡ bound_in t.rows.items row o
    bounds None = refl
    bounds (Some n) = bind_some (beside (first_place r.id) n) (there t.rows.items (first_place r.id) n) ∙ ap may_bind (there_is n)

    by_place : (o : Option Place) → is_some (reference_in t.rows.items (first_place r.id) o) ≡ refers_in t.rows.items row kind.Model o
    by_place (Some (place.Object props)) =
        both_true (option_and_then (λ n. text_at (there t.rows.items (first_place r.id) n)) (property props (codes "id"))) (option_and_then (λ n. bound_at (beside (first_place r.id) n) (there t.rows.items (first_place r.id) n)) (property props (codes "bound")))
        ∙ (ap (λ b. b && is_some (option_and_then (λ n. bound_at (beside (first_place r.id) n) (there t.rows.items (first_place r.id) n)) (property props (codes "bound")))) (texts (property props (codes "id")))
        ∙ ap (λ b. text_in t.rows.items row (property props (codes "id")) && b) (bounds (property props (codes "bound"))))
    by_place (Some at) = refl
    by_place None = refl

    by_kind : (k : RowKind) → is_some (reference_by t.rows.items r.id k) ≡ refers_in t.rows.items row k (place_in t.rows.items (record { row = row; place = 0 }))
    by_kind kind.Model = ap (λ o. is_some (reference_in t.rows.items (first_place r.id) o)) (there_is 0) ∙ by_place (place_in t.rows.items (record { row = row; place = 0 }))
    by_kind k = refl

pub has_one : (t : Table) (id row : ℕ) (b : Bool) → IsTable t → IsRowOf t.rows.items id (Some row) → ((r : PlacedRow) → slice_get t.rows.items row ≡ Some r → b ≡ refers_in t.rows.items row r.tree.kind (place_in t.rows.items (record { row = row; place = 0 }))) → (b ≡ true → (x : Reference) × (reference_of t.rows.items id ≡ Some x)) × (((x : Reference) × (reference_of t.rows.items id ≡ Some x)) → b ≡ true)
has_one t id row b table h is =
    let same : b ≡ is_some (reference_of t.rows.items id) = is h.0 h.1 ∙ (sym (refers t row h.0 table h.1) ∙ ap (λ i. is_some (reference_of t.rows.items i)) h.2) in
    (λ e. some_true (reference_of t.rows.items id) (sym same ∙ e), λ x. same ∙ some_is (reference_of t.rows.items id) x.0 x.1)

pub has_none : (t : Table) (id : ℕ) → rows_of id t.rows.items ≡ [] → ((x : Reference) × (reference_of t.rows.items id ≡ Some x)) → ⊥
has_none t id none x = none-some x.0 (sym (ap (λ ts. option_and_then (λ (y : PlaceTree). reference_by t.rows.items id y.kind) (slice_get ts 0)) none) ∙ x.1)
