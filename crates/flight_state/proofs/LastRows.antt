-- The rows that an abort adds.
use Rattle.std.proofs.Common.{◌≡◌, ℕ, Bool, true, false, cond, ◌||◌, eqb, eqb-true, ◌⊎◌, inl, inr, ⊎_elim, List, [], ◌∷◌, map, Some, option_and_then, refl, sym, ap, ◌∙◌, subst}
use Rattle.std.proofs.lemmas.Bool.{false≢true, eqb-false}
use Rattle.std.specs.Prelude.{slice_get}
use Rattle.std.specs.List.{filter}
use Rattle.flight_value.specs.declared.graph.Atom.TheVariants as atom
use Rattle.flight_value.specs.Listed.{In, Distinct}
use Rattle.flight_meaning.specs.declared.place.Place.{Place}
use Rattle.flight_meaning.specs.declared.place.Place.TheVariants as place
use Rattle.flight_meaning.specs.declared.place.PlaceTree.{PlaceTree}
use Rattle.flight_meaning.specs.declared.place.PlacedRow.{PlacedRow}
use Rattle.flight_meaning.specs.Linked.{is_of, rows_of, place_at, first_place}
use Rattle.flight_meaning.specs.Resolve.{to, here, found, on, turn, go_to, go_from, Ends}
use Rattle.flight_meaning.proofs.Walking.{ends_back, turn_ends}
use Rattle.flight_state.specs.State.{Task, IsLive, is_live, is_alone, owns_id, own_ids}
use Rattle.flight_state.specs.Spells.{IsErrorRow}
use Rattle.flight_state.specs.Steps.{close, RefersTo, error_tree, reference_tree, last_tree, last_row, last_rows, ends_of}
use Rattle.flight_state.proofs.Tasks.{live_true, true_live}
use Rattle.flight_state.proofs.Owned.{live_owns, id_in, one_of, distinct_rest}

-- ---- the rows of an id, one after another

pub rows_of-cons : (id : ℕ) (r : PlacedRow) (rows : List PlacedRow) → rows_of id (r ∷ rows) ≡ cond (eqb r.id id) (r.tree ∷ rows_of id rows) (rows_of id rows)
rows_of-cons id r rows = go (eqb r.id id)
  where
    go : (b : Bool) → map (λ (q : PlacedRow). q.tree) (cond b (r ∷ filter (is_of id) rows) (filter (is_of id) rows)) ≡ cond b (r.tree ∷ rows_of id rows) (rows_of id rows)
    go true = refl
    go false = refl

-- what holds of the tree of each row
pub each_tree : (P : PlaceTree → Type 0) (rows : List PlacedRow) → ((r : PlacedRow) → In r rows → P r.tree) → (id : ℕ) (tree : PlaceTree) → In tree (rows_of id rows) → P tree
each_tree P [] h id tree i = absurd i
each_tree P (r ∷ rows) h id tree i = go (eqb r.id id) (subst (In tree) (rows_of-cons id r rows) i) (each_tree P rows (λ q m. h q (inr m)) id tree)
  where
    go : (b : Bool) → In tree (cond b (r.tree ∷ rows_of id rows) (rows_of id rows)) → (In tree (rows_of id rows) → P tree) → P tree
    go true (inl e) rest = subst P (sym e) (h r (inl refl))
    go true (inr k) rest = rest k
    go false k rest = rest k

-- ---- the last rows of live tasks

pub last_tree_of : (digest : List ℕ) (at : Place) (ts : List Task) (r : PlacedRow) → In r (last_rows digest at ts) → (alone : Bool) × (r.tree ≡ last_tree alone digest at)
last_tree_of digest at [] r i = absurd i
last_tree_of digest at (t ∷ ts) r i = go (is_live t.status) i (last_tree_of digest at ts r)
  where
    go : (b : Bool) → In r (cond b (last_row digest at t ∷ last_rows digest at ts) (last_rows digest at ts)) → (In r (last_rows digest at ts) → (alone : Bool) × (r.tree ≡ last_tree alone digest at)) → (alone : Bool) × (r.tree ≡ last_tree alone digest at)
    go true (inl e) rest = (is_alone t.what, ap (λ (z : PlacedRow). z.tree) e)
    go true (inr k) rest = rest k
    go false k rest = rest k

-- no live task has the id
abbrev pub NoneLive : List Task → ℕ → Type 0
NoneLive ts id = (t : Task) → In t ts → IsLive t.status → t.id ≡ id → ⊥

pub none_last : (digest : List ℕ) (at : Place) (ts : List Task) (id : ℕ) → NoneLive ts id → rows_of id (last_rows digest at ts) ≡ []
none_last digest at [] id none = refl
none_last digest at (t ∷ ts) id none = go (is_live t.status) refl (none_last digest at ts id (λ u i. none u (inr i)))
  where
    by : (b : Bool) → eqb t.id id ≡ b → is_live t.status ≡ true → rows_of id (last_rows digest at ts) ≡ [] → cond b (last_tree (is_alone t.what) digest at ∷ rows_of id (last_rows digest at ts)) (rows_of id (last_rows digest at ts)) ≡ []
    by true e l rest = absurd (none t (inl refl) (true_live t.status l) (eqb-true t.id id e))
    by false e l rest = rest

    go : (b : Bool) → is_live t.status ≡ b → rows_of id (last_rows digest at ts) ≡ [] → rows_of id (cond b (last_row digest at t ∷ last_rows digest at ts) (last_rows digest at ts)) ≡ []
    go true l rest = rows_of-cons id (last_row digest at t) (last_rows digest at ts) ∙ by (eqb t.id id) refl l rest
    go false l rest = rest

pub one_last : (digest : List ℕ) (at : Place) (ts : List Task) → Distinct (own_ids ts) → (t : Task) → In t ts → IsLive t.status → rows_of t.id (last_rows digest at ts) ≡ last_tree (is_alone t.what) digest at ∷ []
one_last digest at [] d t i live = absurd i
one_last digest at (x ∷ ts) d t i live = go (is_live x.status) refl i (λ k. one_last digest at ts (distinct_rest x ts d) t k live)
  where
    Answer : List PlacedRow → Type 0
    Answer rows = rows_of t.id rows ≡ last_tree (is_alone t.what) digest at ∷ []

    -- behind a live task none has its id
    none : is_live x.status ≡ true → x.id ≡ t.id → NoneLive ts t.id
    none l e u k live' same = by (owns_id x) (live_owns x (true_live x.status l)) d
      where
        by : (b : Bool) → b ≡ true → Distinct (cond b (x.id ∷ own_ids ts) (own_ids ts)) → ⊥
        by true q y = y.0 (subst (λ z. In z (own_ids ts)) (same ∙ sym e) (id_in ts u k (live_owns u live')))
        by false q y = false≢true q

    on' : (b : Bool) → eqb x.id t.id ≡ b → is_live x.status ≡ true → (t ≡ x) ⊎ In t ts → (In t ts → Answer (last_rows digest at ts))
        → cond b (last_tree (is_alone x.what) digest at ∷ rows_of t.id (last_rows digest at ts)) (rows_of t.id (last_rows digest at ts)) ≡ last_tree (is_alone t.what) digest at ∷ []
    on' true e l k rest =
        let id = eqb-true x.id t.id e in
        let same : x ≡ t = one_of (x ∷ ts) d x t (inl refl) i (live_owns x (true_live x.status l)) (live_owns t live) id in
        ap (λ z. last_tree (is_alone x.what) digest at ∷ z) (none_last digest at ts t.id (none l id)) ∙ ap (λ (z : Task). last_tree (is_alone z.what) digest at ∷ []) same
    on' false e l (inl q) rest = absurd (eqb-false x.id t.id e (ap (λ (z : Task). z.id) (sym q)))
    on' false e l (inr k) rest = rest k

    go : (b : Bool) → is_live x.status ≡ b → (t ≡ x) ⊎ In t ts → (In t ts → Answer (last_rows digest at ts)) → Answer (cond b (last_row digest at x ∷ last_rows digest at ts) (last_rows digest at ts))
    go true l k rest = rows_of-cons t.id (last_row digest at x) (last_rows digest at ts) ∙ on' (eqb x.id t.id) refl l k rest
    go false l (inl q) rest = absurd (false≢true (sym l ∙ live_true x.status (subst (λ (z : Task). IsLive z.status) q live)))
    go false l (inr k) rest = rest k

-- a live task has the id, or none has it
pub live_or_none : (ts : List Task) (id : ℕ) → ((t : Task) × In t ts × IsLive t.status × (t.id ≡ id)) ⊎ NoneLive ts id
live_or_none [] id = inr (λ t i l e. i)
live_or_none (x ∷ ts) id = go (is_live x.status) refl (eqb x.id id) refl (live_or_none ts id)
  where
    go : (b : Bool) → is_live x.status ≡ b → (c : Bool) → eqb x.id id ≡ c → ((t : Task) × In t ts × IsLive t.status × (t.id ≡ id)) ⊎ NoneLive ts id → ((t : Task) × In t (x ∷ ts) × IsLive t.status × (t.id ≡ id)) ⊎ NoneLive (x ∷ ts) id
    go b l c e (inl y) = inl (y.0, inr y.1, y.2, y.3)
    go true l true e (inr none) = inl (x, inl refl, true_live x.status l, eqb-true x.id id e)
    go false l c e (inr none) = inr (λ t i live same. ⊎_elim (λ q. false≢true (sym l ∙ live_true x.status (subst (λ (z : Task). IsLive z.status) q live))) (λ k. none t k live same) i)
    go true l false e (inr none) = inr (λ t i live same. ⊎_elim (λ q. eqb-false x.id id e (ap (λ (z : Task). z.id) (sym q) ∙ same)) (λ k. none t k live same) i)

-- ---- the tasks that are ended

pub ends_forth : (error : ℕ) (ts : List Task) (t : Task) → In t ts → IsLive t.status → In (t.id, error) (ends_of error ts)
ends_forth error [] t i l = absurd i
ends_forth error (x ∷ ts) t i l = go (is_live x.status) refl i (λ k. ends_forth error ts t k l)
  where
    go : (b : Bool) → is_live x.status ≡ b → (t ≡ x) ⊎ In t ts → (In t ts → In (t.id, error) (ends_of error ts)) → In (t.id, error) (cond b ((x.id, error) ∷ ends_of error ts) (ends_of error ts))
    go true e (inl q) rest = inl (ap (λ (z : Task). (z.id, error)) q)
    go true e (inr k) rest = inr (rest k)
    go false e (inl q) rest = absurd (false≢true (sym e ∙ live_true x.status (subst (λ (z : Task). IsLive z.status) q l)))
    go false e (inr k) rest = rest k

pub ends_from : (error : ℕ) (ts : List Task) (id e : ℕ) → In {A = ℕ × ℕ} (id, e) (ends_of error ts) → (t : Task) × In t ts × IsLive t.status × (t.id ≡ id) × (e ≡ error)
ends_from error [] id e i = absurd i
ends_from error (x ∷ ts) id e i = go (is_live x.status) refl i (λ k. ends_from error ts id e k)
  where
    go : (b : Bool) → is_live x.status ≡ b → In {A = ℕ × ℕ} (id, e) (cond b ((x.id, error) ∷ ends_of error ts) (ends_of error ts))
        → (In {A = ℕ × ℕ} (id, e) (ends_of error ts) → (t : Task) × In t ts × IsLive t.status × (t.id ≡ id) × (e ≡ error))
        → (t : Task) × In t (x ∷ ts) × IsLive t.status × (t.id ≡ id) × (e ≡ error)
    go true q (inl s) rest = (x, inl refl, true_live x.status q, sym (ap (λ z. z.0) s), ap (λ z. z.1) s)
    go true q (inr k) rest = let y = rest k in (y.0, inr y.1, y.2, y.3, y.4)
    go false q k rest = let y = rest k in (y.0, inr y.1, y.2, y.3, y.4)

-- ---- the ids of done tasks

closed_ids : (ts : List Task) (id : ℕ) → In id (own_ids (map close ts)) → In id (own_ids ts)
closed_ids [] id i = i
closed_ids (x ∷ ts) id i = go (is_alone x.what) (is_live x.status) i (closed_ids ts id)
  where
    go : (b c : Bool) → In id (cond (b || false) (x.id ∷ own_ids (map close ts)) (own_ids (map close ts))) → (In id (own_ids (map close ts)) → In id (own_ids ts)) → In id (cond (b || c) (x.id ∷ own_ids ts) (own_ids ts))
    go true c (inl e) rest = inl e
    go true c (inr k) rest = inr (rest k)
    go false true k rest = inr (rest k)
    go false false k rest = rest k

pub closed_distinct : (ts : List Task) → Distinct (own_ids ts) → Distinct (own_ids (map close ts))
closed_distinct [] d = tt
closed_distinct (x ∷ ts) d = go (is_alone x.what) (is_live x.status) d (closed_distinct ts)
  where
    go : (b c : Bool) → Distinct (cond (b || c) (x.id ∷ own_ids ts) (own_ids ts)) → (Distinct (own_ids ts) → Distinct (own_ids (map close ts))) → Distinct (cond (b || false) (x.id ∷ own_ids (map close ts)) (own_ids (map close ts)))
    go true c e rest = (λ i. e.0 (closed_ids ts x.id i), rest e.1)
    go false true e rest = rest e.1
    go false false e rest = rest e

-- ---- walks to the error row

-- an error row, and a row that refers to it
pub error_turn : (rows : List PlacedRow) (id : ℕ) (digest : List ℕ) → rows_of id rows ≡ error_tree digest ∷ [] → IsErrorRow rows id digest × Ends rows (to id []) (found (first_place id))
error_turn rows id digest e =
    let at : place_at rows (first_place id) ≡ Some (place.Atom (atom.Failed digest)) = ap (λ ts. option_and_then (λ (t : PlaceTree). slice_get t.places 0) (slice_get ts 0)) e in (
      at,
      ends_back rows (to id []) (here (first_place id) []) (ap (λ ts. go_to id ts []) e) (found (first_place id))
          (turn_ends rows (here (first_place id) []) (found (first_place id)) (ap (λ o. go_from (first_place id) o []) at)),
    )

pub reference_walk : (rows : List PlacedRow) (id error : ℕ) (at : Place) → RefersTo error at → rows_of id rows ≡ reference_tree at ∷ [] → (f : _) → Ends rows (to error []) f → Ends rows (to id []) f
reference_walk rows id error at refers e f w =
    ends_back rows (to id []) (here (first_place id) []) (ap (λ ts. go_to id ts []) e) f (ends_back rows (here (first_place id) []) (to error []) (by refers) f w)
  where
    stands : place_at rows (first_place id) ≡ Some at
    stands = ap (λ ts. option_and_then (λ (t : PlaceTree). slice_get t.places 0) (slice_get ts 0)) e

    by : RefersTo error at → turn rows (here (first_place id) []) ≡ on (to error [])
    by (inl q) = ap (λ o. go_from (first_place id) o []) (stands ∙ ap Some q)
    by (inr q) = ap (λ o. go_from (first_place id) o []) (stands ∙ ap Some q)
