-- Rows and nodes come behind the old ones.
use Rattle.std.proofs.Common.{◌≡◌, ◌≢◌, ℕ, zero, suc, ◌+◌, ◌<◌, ◌≤◌, nat_eq, cond, true, false, List, [], ◌∷◌, ◌++◌, length, Option, Some, None, option_and_then, slice_get, refl, sym, ◌∙◌, ap, subst, arith, inl, inr, ◌⊎◌, length-append, append_assoc, append-nil}
use Rattle.std.specs.Prelude.{All}
use Rattle.flight_link.specs.Known.{known_of}
use Rattle.std.proofs.lemmas.Bool.Decides.{eqb_tells}
use Rattle.std.proofs.lemmas.Option.{none-some, same_Some, slice_get_within}
use Rattle.flight_meaning.specs.declared.place.Place.{Place}
use Rattle.flight_meaning.specs.declared.place.PlaceTree.{PlaceTree}
use Rattle.flight_meaning.specs.declared.place.PlacedRow.{PlacedRow}
use Rattle.flight_meaning.specs.Linked.{rows_of, place_at}
use Rattle.flight_meaning.specs.Resolve.{Path, Stand, to, here, found, nowhere, Turn, on, ends, enter, go_to, go_from, turn}
use Rattle.flight_meaning.proofs.MoreRows.{rows_of-append, rows_of-other, slice_get-front, place-more}
use Rattle.flight_link.specs.declared.found.Spot.{Spot}
use Rattle.flight_link.specs.declared.node.Start.{Start}
use Rattle.flight_link.specs.declared.node.Start.TheVariants.{Id, Place as AtPlace}
use Rattle.flight_link.specs.declared.node.State.{State}
use Rattle.flight_link.specs.declared.node.State.TheVariants.{Absent, Ended, Lost, Behind}
use Rattle.flight_link.specs.declared.ids.Known.{Known}
use Rattle.flight_link.specs.declared.table.Table.{Table}
use Rattle.flight_link.specs.Nodes.{IsPlain, IsFine, place_in, spot_of, followed, ComeBy, Come, IsThere, Reaches, with_path, last_names, stand, names_in, names_of, Gets, HasBegun, HasNoRow, IsSound, AreSound, IsNodeAt, IsIndexed, IsStart, AreStarts, IsItsNode, IsRowOf, IsKnown, IsTable, AreStates, has_ended, IsQuiet, AreQuiet, node_in}
use Rattle.flight_link.specs.declared.fresh.Fresh.{Fresh}
use Rattle.flight_link.specs.Growth.{Keeps, IsFreshAt, IsFreshNode, number_in, AreFresh}
use Rattle.flight_link.proofs.PlainRows.{place_stays, spot_stays}

-- ---- lists that grow

pub append_at : {A : Type 0} (xs ys : List A) (j : ℕ) → slice_get (xs ++ ys) (length xs + j) ≡ slice_get ys j
append_at [] ys j = ap (slice_get ys) (omega arith)
append_at (x ∷ xs) ys j =
    let e : suc (length xs) + j ≡ suc (length xs + j) = omega arith in
    ap (slice_get (x ∷ (xs ++ ys))) e ∙ append_at xs ys j

pub append_get : {A : Type 0} (xs ys : List A) (k : ℕ) (y : A) → slice_get (xs ++ ys) k ≡ Some y → (slice_get xs k ≡ Some y) ⊎ ((j : ℕ) × (k ≡ length xs + j) × (slice_get ys j ≡ Some y))
append_get [] ys k y e = inr (k, omega arith, e)
append_get (x ∷ xs) ys zero y e = inl e
append_get (x ∷ xs) ys (suc k) y e = elim (append_get xs ys k y e) [ inl h ↦ inl h | inr p ↦ inr (p.0, omega (arith, p.1), p.2) ]

pub push_get : {A : Type 0} (xs : List A) (x : A) (k : ℕ) (y : A) → slice_get (xs ++ x ∷ []) k ≡ Some y → (slice_get xs k ≡ Some y) ⊎ ((k ≡ length xs) × (x ≡ y))
push_get [] x zero y e = inr (refl, same_Some x y e)
push_get [] x (suc k) y e = absurd (none-some y e)
push_get (z ∷ xs) x zero y e = inl e
push_get (z ∷ xs) x (suc k) y e = elim (push_get xs x k y e) [ inl h ↦ inl h | inr p ↦ inr (ap suc p.0, p.1) ]

pub push_at : {A : Type 0} (xs : List A) (x : A) → slice_get (xs ++ x ∷ []) (length xs) ≡ Some x
push_at [] x = refl
push_at (z ∷ xs) x = push_at xs x

-- ---- more nodes

gets_starts : (rows : List PlacedRow) (starts more : List Start) (names : Path) (s : Stand) (state : State) → Gets rows starts names s state → Gets rows (starts ++ more) names s state
gets_starts rows starts more names s Absent g = g
gets_starts rows starts more names s (Ended e) g = g
gets_starts rows starts more names s Lost g = g
gets_starts rows starts more names s (Behind node left) g = record { other = g.other; is_other = slice_get-front starts more node g.other g.is_other; few = g.few; come = g.come }

begun_starts : (rows : List PlacedRow) (starts more : List Start) (start : Start) (state : State) → HasBegun rows starts start state → HasBegun rows (starts ++ more) start state
begun_starts rows starts more start state b = record { next = b.next; is_next = b.is_next; gets = gets_starts rows starts more (names_of rows start) b.next state b.gets }

pub sound_starts : (rows : List PlacedRow) (starts more : List Start) (start : Start) (state : State) → IsSound rows starts start state → IsSound rows (starts ++ more) start state
sound_starts rows starts more start Absent b = b
sound_starts rows starts more start (Ended e) b = begun_starts rows starts more start (Ended e) b
sound_starts rows starts more start Lost b = begun_starts rows starts more start Lost b
sound_starts rows starts more start (Behind node left) b = begun_starts rows starts more start (Behind node left) b

pub indexed_starts : (starts more : List Start) (s : Spot) (way : Option (ℕ × Path)) (n : Option ℕ) → IsIndexed starts s way n → IsIndexed (starts ++ more) s way n
indexed_starts starts more s (Some way) (Some n) h = slice_get-front starts more n (AtPlace s) h
indexed_starts starts more s None None h = h
indexed_starts starts more s (Some way) None h = h
indexed_starts starts more s None (Some n) h = h

pub known_starts : (rows : List PlacedRow) (starts more : List Start) (id : ℕ) (k : Option Known) → IsKnown rows starts id k → IsKnown rows (starts ++ more) id k
known_starts rows starts more id None h = h
known_starts rows starts more id (Some k) h = (slice_get-front starts more k.node (Id id) h.0, h.1)

-- ---- more rows

pub there_stays : (rows more : List PlacedRow) (s : Stand) → IsThere rows s → (turn (rows ++ more) s ≡ turn rows s) × IsThere (rows ++ more) s
there_stays rows more (to id path) h =
    let e : slice_get (rows_of id (rows ++ more)) 0 ≡ Some h.0 = ap (λ ts. slice_get ts 0) (rows_of-append id rows more) ∙ slice_get-front (rows_of id rows) (rows_of id more) 0 h.0 h.1 in
    (first (rows_of id (rows ++ more)) h.0 e ∙ sym (first (rows_of id rows) h.0 h.1), (h.0, e))
  where
    first : (ts : List PlaceTree) (t : PlaceTree) → slice_get ts 0 ≡ Some t → go_to id ts path ≡ enter id t.kind path
    first [] t e = absurd (none-some t e)
    first (u ∷ ts) t e = ap (λ (x : PlaceTree). enter id x.kind path) (same_Some u t e)
there_stays rows more (here s path) h =
    let e = place-more rows more s h.0 h.1 in
    (ap (λ o. go_from s o path) (e ∙ sym h.1), (h.0, e))

pub on_there : (rows : List PlacedRow) (s t : Stand) → turn rows s ≡ on t → IsThere rows s
on_there rows (to id path) t e = go (rows_of id rows) refl e
  where
    go : (ts : List PlaceTree) → rows_of id rows ≡ ts → go_to id ts path ≡ on t → IsThere rows (to id path)
    go [] is e = cc
    go (u ∷ ts) is e = (u, ap (λ x. slice_get x 0) is)
on_there rows (here s path) t e = go (place_at rows s) refl e
  where
    go : (o : Option Place) → place_at rows s ≡ o → go_from s o path ≡ on t → IsThere rows (here s path)
    go None is e = cc
    go (Some at) is e = (at, is)

pub turn_stays : (rows more : List PlacedRow) (s t : Stand) → turn rows s ≡ on t → turn (rows ++ more) s ≡ on t
turn_stays rows more s t e = (there_stays rows more s (on_there rows s t e)).0 ∙ e

come_stays_by : (n : ℕ) (rows more : List PlacedRow) (s t : Stand) → ComeBy n rows s t → ComeBy n (rows ++ more) s t
come_stays_by zero rows more s t e = e
come_stays_by (suc n) rows more s t w = (w.0, turn_stays rows more s w.0 w.1, come_stays_by n rows more w.0 t w.2)

pub come_stays : (rows more : List PlacedRow) (s t : Stand) → Come rows s t → Come (rows ++ more) s t
come_stays rows more s t w = (w.0, come_stays_by w.0 rows more s t w.1)

pub reaches_stays : (rows more : List PlacedRow) (s : Stand) (last : Turn) → Reaches rows s last → Reaches (rows ++ more) s last
reaches_stays rows more s last r =
    let h = there_stays rows more r.by r.there in
    record { by = r.by; come = come_stays rows more s r.by r.come; there = h.1; is_turn = h.0 ∙ r.is_turn }

pub stand_stays : (rows more : List PlacedRow) (start : Start) → IsStart rows start → stand (rows ++ more) start ≡ stand rows start
stand_stays rows more (Id id) h = refl
stand_stays rows more (AtPlace s) h = ap (λ x. here x []) (spot_stays rows more s h.0 h.1)

pub names_stay : (rows more : List PlacedRow) (start : Start) → IsStart rows start → names_of (rows ++ more) start ≡ names_of rows start
names_stay rows more (Id id) h = refl
names_stay rows more (AtPlace s) h = ap (λ o. names_in (option_and_then followed o)) (place_stays rows more s h.0 h.1 ∙ sym h.1)

gets_rows : (rows more : List PlacedRow) (starts : List Start) (names : Path) (s : Stand) (state : State) → AreStarts rows starts → Gets rows starts names s state → Gets (rows ++ more) starts names s state
gets_rows rows more starts names s Absent are g = g
gets_rows rows more starts names s (Ended e) are g = (
  subst (λ x. Reaches (rows ++ more) s (ends (found x))) (sym (spot_stays rows more e g.1.0 g.1.1)) (reaches_stays rows more s (ends (found (spot_of rows e))) g.0),
  (g.1.0, place_stays rows more e g.1.0 g.1.1, g.1.2),
)
gets_rows rows more starts names s Lost are g = reaches_stays rows more s (ends nowhere) g
gets_rows rows more starts names s (Behind node left) are g = record {
  other = g.other;
  is_other = g.is_other;
  few = g.few;
  come = subst (λ x. Come (rows ++ more) s (with_path x (last_names left names))) (sym (stand_stays rows more g.other (are node g.other g.is_other))) (come_stays rows more s (with_path (stand rows g.other) (last_names left names)) g.come);
}

begun_rows : (rows more : List PlacedRow) (starts : List Start) (start : Start) (state : State) → AreStarts rows starts → IsStart rows start → HasBegun rows starts start state → HasBegun (rows ++ more) starts start state
begun_rows rows more starts start state are is b = record {
  next = b.next;
  is_next = ap (turn (rows ++ more)) (stand_stays rows more start is) ∙ turn_stays rows more (stand rows start) b.next b.is_next;
  gets = subst (λ x. Gets (rows ++ more) starts x b.next state) (sym (names_stay rows more start is)) (gets_rows rows more starts (names_of rows start) b.next state are b.gets);
}

-- what the state of a node says stays so, unless the row is that of its id
pub sound_rows : (rows : List PlacedRow) (r : PlacedRow) (starts : List Start) (start : Start) (state : State) → AreStarts rows starts → IsStart rows start → start ≢ Id r.id → IsSound rows starts start state → IsSound (rows ++ r ∷ []) starts start state
sound_rows rows r starts (AtPlace s) Absent are is other b = absurd b
sound_rows rows r starts (Id id) Absent are is other b = rows_of-other id rows r (go (eqb_tells r.id id)) ∙ b
  where
    go : ((nat_eq r.id id ≡ true) × (r.id ≡ id)) ⊎ ((nat_eq r.id id ≡ false) × (r.id ≢ id)) → nat_eq r.id id ≡ false
    go (inl p) = absurd (other (ap Id (sym p.1)))
    go (inr p) = p.0
sound_rows rows r starts start (Ended e) are is other b = begun_rows rows (r ∷ []) starts start (Ended e) are is b
sound_rows rows r starts start Lost are is other b = begun_rows rows (r ∷ []) starts start Lost are is b
sound_rows rows r starts start (Behind node left) are is other b = begun_rows rows (r ∷ []) starts start (Behind node left) are is b

-- ---- a node for an id

pub get_before : {A : Type 0} (xs ys : List A) (n : ℕ) → n < length xs → slice_get (xs ++ ys) n ≡ slice_get xs n
get_before [] ys n w = let no : ⊥ = omega (arith, w) in absurd no
get_before (x ∷ xs) ys zero w = refl
get_before (x ∷ xs) ys (suc n) w = get_before xs ys n (omega (arith, w))

pub absent_ended : (states : List State) (n : ℕ) → has_ended (states ++ Absent ∷ []) n ≡ has_ended states n
absent_ended [] zero = refl
absent_ended [] (suc n) = refl
absent_ended (s ∷ states) zero = refl
absent_ended (s ∷ states) (suc n) = absent_ended states n

absent_quiet : (states : List State) (state : State) → IsQuiet states state → IsQuiet (states ++ Absent ∷ []) state
absent_quiet states Absent q = q
absent_quiet states (Ended e) q = q
absent_quiet states Lost q = q
absent_quiet states (Behind node left) q = absent_ended states node ∙ q

pub name_quiet : (states new : List State) → new ≡ states ++ Absent ∷ [] → AreQuiet states → AreQuiet new
name_quiet states new is quiet = subst AreQuiet (sym is) (λ n state e. go n state (push_get states Absent n state e))
  where
    go : (n : ℕ) (state : State) → (slice_get states n ≡ Some state) ⊎ ((n ≡ length states) × (Absent ≡ state)) → IsQuiet (states ++ Absent ∷ []) state
    go n state (inl h) = absent_quiet states state (quiet n state h)
    go n state (inr p) = subst (IsQuiet (states ++ Absent ∷ [])) p.1 tt

-- an id that was not known, whose node comes behind the others
pub record IsNamedNow (t u : Table) (id : ℕ) (k : Known) : Type 0 where
  pub rows : u.rows.items ≡ t.rows.items
  pub index : u.index.items ≡ t.index.items
  pub starts : u.starts.items ≡ t.starts.items ++ Id id ∷ []
  pub none : known_of t.known id ≡ None
  pub updates : (q : ℕ) → known_of u.known q ≡ cond (nat_eq id q) (Some k) (known_of t.known q)
  pub node : k.node ≡ length t.starts.items
  pub row : k.row ≡ None

named_starts : (rows : List PlacedRow) (starts : List Start) (id : ℕ) → AreStarts rows starts → AreStarts rows (starts ++ Id id ∷ [])
named_starts rows starts id are = λ n start e. go start (push_get starts (Id id) n start e) (are n)
  where
    go : (start : Start) {n : ℕ} → (slice_get starts n ≡ Some start) ⊎ ((n ≡ length starts) × (Id id ≡ start)) → ((start : Start) → IsNodeAt starts n start → IsStart rows start) → IsStart rows start
    go start (inl h) are = are start h
    go start (inr p) are = subst (IsStart rows) p.1 tt

no_row : (t : Table) (id : ℕ) → IsTable t → known_of t.known id ≡ None → rows_of id t.rows.items ≡ []
no_row t id table e = subst (IsKnown t.rows.items t.starts.items id) e (table.known id)

named_known : (t u : Table) (id : ℕ) (k : Known) → IsTable t → IsNamedNow t u id k → (q : ℕ) → IsKnown t.rows.items (t.starts.items ++ Id id ∷ []) q (known_of u.known q)
named_known t u id k table is q = go (eqb_tells id q)
  where
    starts : List Start
    starts = t.starts.items ++ Id id ∷ []

    go : ((nat_eq id q ≡ true) × (id ≡ q)) ⊎ ((nat_eq id q ≡ false) × (id ≢ q)) → IsKnown t.rows.items (t.starts.items ++ Id id ∷ []) q (known_of u.known q)
    go (inl p) = subst (IsKnown t.rows.items (t.starts.items ++ Id id ∷ []) q) (sym (is.updates q ∙ ap (λ b. cond b (Some k) (known_of t.known q)) p.0)) (
      subst (λ i. IsNodeAt (t.starts.items ++ Id id ∷ []) k.node (Id i)) p.1 (ap (slice_get (t.starts.items ++ Id id ∷ [])) is.node ∙ push_at t.starts.items (Id id)),
      subst (IsRowOf t.rows.items q) (sym is.row) (subst (λ i. rows_of i t.rows.items ≡ []) p.1 (no_row t id table is.none)),
    )
    go (inr p) = subst (IsKnown t.rows.items (t.starts.items ++ Id id ∷ []) q) (sym (is.updates q ∙ ap (λ b. cond b (Some k) (known_of t.known q)) p.0))
        (known_starts t.rows.items t.starts.items (Id id ∷ []) q (known_of t.known q) (table.known q))

named_ids : (t u : Table) (id : ℕ) (k : Known) → IsTable t → IsNamedNow t u id k → (n other : ℕ) → IsNodeAt u.starts.items n (Id other) → IsItsNode n (known_of u.known other)
named_ids t u id k table is n other e = subst (IsItsNode n) (sym (is.updates other)) (go (push_get t.starts.items (Id id) n (Id other) (sym (ap (λ x. slice_get x n) is.starts) ∙ e)) (eqb_tells id other))
  where
    go : (slice_get t.starts.items n ≡ Some (Id other)) ⊎ ((n ≡ length t.starts.items) × (Id id ≡ Id other)) → ((nat_eq id other ≡ true) × (id ≡ other)) ⊎ ((nat_eq id other ≡ false) × (id ≢ other)) → IsItsNode n (cond (nat_eq id other) (Some k) (known_of t.known other))
    go (inl h) (inl p) = absurd (subst (IsItsNode n) is.none (subst (λ i. IsItsNode n (known_of t.known i)) (sym p.1) (table.ids n other h)))
    go (inl h) (inr p) = subst (λ b. IsItsNode n (cond b (Some k) (known_of t.known other))) (sym p.0) (table.ids n other h)
    go (inr q) (inl p) = subst (λ b. IsItsNode n (cond b (Some k) (known_of t.known other))) (sym p.0) (is.node ∙ sym q.0)
    go (inr q) (inr p) = let same : id ≡ other = cc in absurd (p.1 same)

pub named_table : (t u : Table) (id : ℕ) (k : Known) → IsTable t → IsNamedNow t u id k → IsTable u
named_table t u id k table is = record {
  plain = subst IsPlain (sym is.rows) table.plain;
  fine = subst (λ (rows : List PlacedRow). All IsFine rows) (sym is.rows) table.fine;
  starts = subst (λ (rows : List PlacedRow). AreStarts rows u.starts.items) (sym is.rows) (subst (AreStarts t.rows.items) (sym is.starts) (named_starts t.rows.items t.starts.items id table.starts));
  indexed = λ s at e.
      subst (λ x. IsIndexed u.starts.items s (followed at) (node_in x s)) (sym is.index)
      (subst (λ x. IsIndexed x s (followed at) (node_in t.index.items s)) (sym is.starts)
      (indexed_starts t.starts.items (Id id ∷ []) s (followed at) (node_in t.index.items s) (table.indexed s at (ap (λ (rows : List PlacedRow). place_in rows s) (sym is.rows) ∙ e))));
  known = λ q.
      subst (λ (rows : List PlacedRow). IsKnown rows u.starts.items q (known_of u.known q)) (sym is.rows)
      (subst (λ x. IsKnown t.rows.items x q (known_of u.known q)) (sym is.starts) (named_known t u id k table is q));
  ids = named_ids t u id k table is;
  one_each = ap length is.index ∙ (table.one_each ∙ sym (ap length is.rows));
}

pub named_states : (t u : Table) (id : ℕ) (k : Known) (states new : List State) → IsTable t → IsNamedNow t u id k → new ≡ states ++ Absent ∷ [] → AreStates t states → AreStates u new
named_states t u id k states new table is is_new are = record {
  one_each =
      ap length is_new ∙ (length-append states (Absent ∷ []) ∙ (ap (λ n. n + 1) are.one_each ∙ (sym (length-append t.starts.items (Id id ∷ [])) ∙ sym (ap length is.starts))));
  sound =
      subst (λ (rows : List PlacedRow). AreSound rows u.starts.items new) (sym is.rows)
      (subst (λ x. AreSound t.rows.items x new) (sym is.starts)
      (subst (AreSound t.rows.items (t.starts.items ++ Id id ∷ [])) (sym is_new) sound));
}
  where
    go : (n : ℕ) (start : Start) (state : State) → (slice_get t.starts.items n ≡ Some start) ⊎ ((n ≡ length t.starts.items) × (Id id ≡ start)) → (slice_get states n ≡ Some state) ⊎ ((n ≡ length states) × (Absent ≡ state)) → IsSound t.rows.items (t.starts.items ++ Id id ∷ []) start state
    go n start state (inl h) (inl k) = sound_starts t.rows.items t.starts.items (Id id ∷ []) start state (are.sound n start state h k)
    go n start state (inl h) (inr p) = let w = slice_get_within t.starts.items n start h in absurd (omega (arith, w, p.0, are.one_each))
    go n start state (inr p) (inl h) = let w = slice_get_within states n state h in absurd (omega (arith, w, p.0, are.one_each))
    go n start state (inr p) (inr q) = subst (IsSound t.rows.items (t.starts.items ++ Id id ∷ []) start) q.1 (subst (HasNoRow t.rows.items) p.1 (no_row t id table is.none))

    sound : AreSound t.rows.items (t.starts.items ++ Id id ∷ []) (states ++ Absent ∷ [])
    sound = λ n start state e f. go n start state (push_get t.starts.items (Id id) n start e) (push_get states Absent n state f)

-- ---- more after more

pub keeps_itself : (t : Table) → Keeps t t
keeps_itself t = record { rows = refl; index = refl; more = []; starts = sym (append-nil t.starts.items) }

pub keeps_on : (t u v : Table) → Keeps t u → Keeps u v → Keeps t v
keeps_on t u v k l = record {
  rows = l.rows ∙ k.rows;
  index = l.index ∙ k.index;
  more = k.more ++ l.more;
  starts = l.starts ∙ (ap (λ x. x ++ l.more) k.starts ∙ append_assoc t.starts.items k.more l.more);
}

pub keeps_node : (t u : Table) (n : ℕ) (start : Start) → Keeps t u → IsNodeAt t.starts.items n start → IsNodeAt u.starts.items n start
keeps_node t u n start k h = ap (λ x. slice_get x n) k.starts ∙ slice_get-front t.starts.items k.more n start h

-- ---- the nodes of a row that is still to come

-- past its index a row has no nodes
past_index : (index : List (Option ℕ)) (n : ℕ) → length index ≤ n → number_in index n ≡ None
past_index [] n w = refl
past_index (o ∷ index) zero w = let no : ⊥ = omega (arith, w) in absurd no
past_index (o ∷ index) (suc n) w = past_index index n (omega (arith, w))

pub fresh_none : (starts : List Start) (row : ℕ) (places : List Place) (at : Place) (f : Fresh) → AreFresh starts row places f → followed at ≡ None → AreFresh starts row (places ++ at ∷ []) f
fresh_none starts row places at f are none = record {
  few = let e = length-append places (at ∷ []) in let few = are.few in omega (arith, e, few);
  same_count = are.same_count;
  placed = λ n p e. go n p (push_get places at n p e);
  nodes = λ j start state e h. node_more j start state (are.nodes j start state e h);
}
  where
    node_more : (j : ℕ) (start : Start) (state : State) → IsFreshNode starts row places start state → IsFreshNode starts row (places ++ at ∷ []) start state
    node_more j start state h = record { number = h.number; is_start = h.is_start; at = h.at; is_place = slice_get-front places (at ∷ []) h.number h.at h.is_place; way = h.way; is_way = h.is_way; node = h.node; is_node = h.is_node; is_state = h.is_state }

    go : (n : ℕ) (p : Place) → (slice_get places n ≡ Some p) ⊎ ((n ≡ length places) × (at ≡ p)) → IsFreshAt starts f.starts.items (record { row = row; place = n }) (followed p) (number_in f.index.items n)
    go n p (inl h) = are.placed n p h
    go n p (inr q) =
        let is_none : followed p ≡ None = ap followed (sym q.1) ∙ none in
        let is_number : number_in f.index.items n ≡ None = past_index f.index.items n (let few = are.few in let last = q.0 in omega (arith, few, last)) in
        subst (λ x. IsFreshAt starts f.starts.items (record { row = row; place = n }) x (number_in f.index.items n)) (sym is_none)
        (subst (λ x. IsFreshAt starts f.starts.items (record { row = row; place = n }) None x) (sym is_number) tt)

pub fresh_some : (starts : List Start) (row : ℕ) (places : List Place) (at : Place) (f g : Fresh) (index : List (Option ℕ)) (way : ℕ × Path) (number node : ℕ) → AreFresh starts row places f → followed at ≡ Some way → IsNodeAt starts node (Id way.0) → number ≡ length starts + length f.starts.items → ((n : ℕ) → number_in index n ≡ number_in f.index.items n) → length index ≡ length places → g.index.items ≡ index ++ Some number ∷ [] → g.starts.items ≡ f.starts.items ++ AtPlace (record { row = row; place = length places }) ∷ [] → g.states.items ≡ f.states.items ++ Behind node (length way.1) ∷ [] → AreFresh starts row (places ++ at ∷ []) g
fresh_some starts row places at f g index way number node are some is_node is_number same long is_index is_starts is_states = record {
  few = let e = ap length is_index ∙ length-append index (Some number ∷ []) in let p = length-append places (at ∷ []) in omega (arith, e, p, long);
  same_count = ap length is_states ∙ (length-append f.states.items (Behind node (length way.1) ∷ []) ∙ (ap (λ n. n + 1) are.same_count ∙ (sym (length-append f.starts.items (AtPlace (record { row = row; place = length places }) ∷ [])) ∙ sym (ap length is_starts))));
  placed = λ n p e.
      subst (λ x. IsFreshAt starts x (record { row = row; place = n }) (followed p) (number_in g.index.items n)) (sym is_starts)
      (subst (λ x. IsFreshAt starts (f.starts.items ++ AtPlace (record { row = row; place = length places }) ∷ []) (record { row = row; place = n }) (followed p) (number_in x n)) (sym is_index)
      (go n p (push_get places at n p e)));
  nodes = λ j start state e h. two j start state (push_get f.starts.items (AtPlace (record { row = row; place = length places })) j start (sym (ap (λ x. slice_get x j) is_starts) ∙ e)) (push_get f.states.items (Behind node (length way.1)) j state (sym (ap (λ x. slice_get x j) is_states) ∙ h));
}
  where
    node_more : (start : Start) (state : State) → IsFreshNode starts row places start state → IsFreshNode starts row (places ++ at ∷ []) start state
    node_more start state h = record { number = h.number; is_start = h.is_start; at = h.at; is_place = slice_get-front places (at ∷ []) h.number h.at h.is_place; way = h.way; is_way = h.is_way; node = h.node; is_node = h.is_node; is_state = h.is_state }

    two : (j : ℕ) (start : Start) (state : State) → (slice_get f.starts.items j ≡ Some start) ⊎ ((j ≡ length f.starts.items) × (AtPlace (record { row = row; place = length places }) ≡ start)) → (slice_get f.states.items j ≡ Some state) ⊎ ((j ≡ length f.states.items) × (Behind node (length way.1) ≡ state)) → IsFreshNode starts row (places ++ at ∷ []) start state
    two j start state (inl h) (inl k) = node_more start state (are.nodes j start state h k)
    two j start state (inl h) (inr p) = let w = slice_get_within f.starts.items j start h in let no : ⊥ = omega (arith, w, p.0, are.same_count) in absurd no
    two j start state (inr p) (inl h) = let w = slice_get_within f.states.items j state h in let no : ⊥ = omega (arith, w, p.0, are.same_count) in absurd no
    two j start state (inr p) (inr q) = record { number = length places; is_start = sym p.1; at = at; is_place = push_at places at; way = way; is_way = some; node = node; is_node = is_node; is_state = sym q.1 }

    more_at : (s : Spot) (o : Option (ℕ × Path)) (n : Option ℕ) → IsFreshAt starts f.starts.items s o n → IsFreshAt starts (f.starts.items ++ AtPlace (record { row = row; place = length places }) ∷ []) s o n
    more_at s (Some w) (Some n) h = (h.0, h.1, slice_get-front f.starts.items (AtPlace (record { row = row; place = length places }) ∷ []) h.0 (AtPlace s) h.2)
    more_at s None None h = h
    more_at s (Some w) None h = h
    more_at s None (Some n) h = h

    go : (n : ℕ) (p : Place) → (slice_get places n ≡ Some p) ⊎ ((n ≡ length places) × (at ≡ p)) → IsFreshAt starts (f.starts.items ++ AtPlace (record { row = row; place = length places }) ∷ []) (record { row = row; place = n }) (followed p) (number_in (index ++ Some number ∷ []) n)
    go n p (inl h) =
        let w = slice_get_within places n p h in
        let w' : n < length index = omega (arith, w, long) in
        subst (λ x. IsFreshAt starts (f.starts.items ++ AtPlace (record { row = row; place = length places }) ∷ []) (record { row = row; place = n }) (followed p) x) (sym (ap (option_and_then (λ o. o)) (get_before index (Some number ∷ []) n w') ∙ same n))
        (more_at (record { row = row; place = n }) (followed p) (number_in f.index.items n) (are.placed n p h))
    go n p (inr q) =
        let is_some : followed p ≡ Some way = ap followed (sym q.1) ∙ some in
        let is_here : number_in (index ++ Some number ∷ []) n ≡ Some number = ap (option_and_then (λ o. o)) (ap (slice_get (index ++ Some number ∷ [])) (q.0 ∙ sym long) ∙ push_at index (Some number)) in
        subst (λ x. IsFreshAt starts (f.starts.items ++ AtPlace (record { row = row; place = length places }) ∷ []) (record { row = row; place = n }) x (number_in (index ++ Some number ∷ []) n)) (sym is_some)
        (subst (λ x. IsFreshAt starts (f.starts.items ++ AtPlace (record { row = row; place = length places }) ∷ []) (record { row = row; place = n }) (Some way) x) (sym is_here)
        (length f.starts.items, is_number, push_at f.starts.items (AtPlace (record { row = row; place = length places })) ∙ ap (λ m. Some (AtPlace (record { row = row; place = m }))) (sym q.0)))
