-- A row comes, with the nodes of its places.
use Rattle.std.proofs.Common.{◌≡◌, ◌≢◌, ℕ, zero, suc, ◌+◌, ◌<◌, nat_eq, cond, true, false, List, [], ◌∷◌, ◌++◌, length, Option, Some, None, option_and_then, slice_get, slice_set, refl, sym, ◌∙◌, ap, subst, arith, inl, inr, ◌⊎◌, length-append, append-nil}
use Rattle.flight_link.specs.Known.{known_of}
use Rattle.std.specs.Prelude.{All}
use Rattle.std.proofs.lemmas.Bool.Decides.{eqb_tells}
use Rattle.std.proofs.lemmas.List.{length-set}
use Rattle.std.proofs.lemmas.List.Elements.{All-push}
use Rattle.std.proofs.lemmas.Option.{none-some, same_Some, slice_get_within}
use Rattle.flight_meaning.specs.declared.place.Place.{Place}
use Rattle.flight_meaning.specs.declared.place.Place.TheVariants as place
use Rattle.flight_meaning.specs.declared.place.PlacedRow.{PlacedRow}
use Rattle.flight_meaning.specs.Linked as linked
use Rattle.flight_meaning.specs.Linked.{rows_of, place_at, first_place}
use Rattle.flight_meaning.specs.Resolve.{Path, to, here, on, go_from}
use Rattle.flight_meaning.proofs.MoreRows.{rows_of-other, slice_get-front}
use Rattle.flight_link.specs.declared.found.Spot.{Spot}
use Rattle.flight_link.specs.declared.fresh.Fresh.{Fresh}
use Rattle.flight_link.specs.declared.node.Start.{Start}
use Rattle.flight_link.specs.declared.node.Start.TheVariants.{Id, Place as AtPlace}
use Rattle.flight_link.specs.declared.node.State.{State}
use Rattle.flight_link.specs.declared.node.State.TheVariants.{Behind}
use Rattle.flight_link.specs.declared.ids.Known.{Known}
use Rattle.flight_link.specs.declared.table.Table.{Table}
use Rattle.flight_link.specs.Nodes.{IsPlain, IsFine, place_in, spot_of, followed, names_in, names_of, ComesBehind, HasBegun, IsSound, AreSound, IsNodeAt, IsIndexed, AreIndexed, IsStart, AreStarts, IsItsNode, IsRowOf, IsKnown, IsTable, AreStates, node_in, IsStop}
use Rattle.flight_link.specs.Growth.{IsFreshAt, IsFreshNode, number_in, root_by, root_of, MayCome}
use Rattle.flight_link.proofs.PlainRows.{row_there, place_there, spot_in_row, plain_more, place_stays, into_row}
use Rattle.flight_link.proofs.Stepping.{stop_ends}
use Rattle.flight_link.proofs.Advancing.{end_itself, end_last, stop_there}
use Rattle.flight_link.proofs.Settling.{same_or, set_here, set_there}
use Rattle.flight_link.proofs.Growing.{append_at, append_get, push_get, push_at, get_before, sound_starts, indexed_starts, known_starts, sound_rows}

-- the table with the row
pub record HasCome (t u : Table) (r : PlacedRow) (f : Fresh) (node : ℕ) : Type 0 where
  pub rows : u.rows.items ≡ t.rows.items ++ r ∷ []
  pub index : u.index.items ≡ t.index.items ++ f.index.items ∷ []
  pub starts : u.starts.items ≡ t.starts.items ++ f.starts.items
  pub updates : (q : ℕ) → known_of u.known q ≡ cond (nat_eq r.id q) (Some (record { node = node; row = Some (length t.rows.items) })) (known_of t.known q)

-- ---- places

place_new : (rows : List PlacedRow) (r : PlacedRow) (s : Spot) (at : Place) → place_in (rows ++ r ∷ []) s ≡ Some at → (place_in rows s ≡ Some at) ⊎ ((s.row ≡ length rows) × (slice_get r.tree.places s.place ≡ Some at))
place_new rows r s at e =
    let h = row_there (rows ++ r ∷ []) s at e in
    go h.0 (push_get rows r s.row h.0 h.1) h.2
  where
    go : (q : PlacedRow) → (slice_get rows s.row ≡ Some q) ⊎ ((s.row ≡ length rows) × (r ≡ q)) → slice_get q.tree.places s.place ≡ Some at → (place_in rows s ≡ Some at) ⊎ ((s.row ≡ length rows) × (slice_get r.tree.places s.place ≡ Some at))
    go q (inl h) p = inl (ap (option_and_then (λ (r : PlacedRow). slice_get r.tree.places s.place)) h ∙ p)
    go q (inr h) p = inr (h.0, ap (λ (x : PlacedRow). slice_get x.tree.places s.place) h.1 ∙ p)

pub place_last : (rows : List PlacedRow) (r : PlacedRow) (n : ℕ) (at : Place) → slice_get r.tree.places n ≡ Some at → place_in (rows ++ r ∷ []) (record { row = length rows; place = n }) ≡ Some at
place_last rows r n at e = ap (option_and_then (λ (r : PlacedRow). slice_get r.tree.places n)) (push_at rows r) ∙ e

index_old : (index : List (List (Option ℕ))) (last : List (Option ℕ)) (s : Spot) → s.row < length index → node_in (index ++ last ∷ []) s ≡ node_in index s
index_old index last s w = ap (λ o. option_and_then (λ o. o) (option_and_then (λ (row : List (Option ℕ)). slice_get row s.place) o)) (get_before index (last ∷ []) s.row w)

index_new : (index : List (List (Option ℕ))) (last : List (Option ℕ)) (n : ℕ) → node_in (index ++ last ∷ []) (record { row = length index; place = n }) ≡ number_in last n
index_new index last n = ap (λ o. option_and_then (λ o. o) (option_and_then (λ (row : List (Option ℕ)). slice_get row n) o)) (push_at index last)

fresh_indexed : (starts fresh : List Start) (s : Spot) (way : Option (ℕ × Path)) (n : Option ℕ) → IsFreshAt starts fresh s way n → IsIndexed (starts ++ fresh) s way n
fresh_indexed starts fresh s (Some way) (Some n) h = ap (slice_get (starts ++ fresh)) h.1 ∙ (append_at starts fresh h.0 ∙ h.2)
fresh_indexed starts fresh s None None h = h
fresh_indexed starts fresh s (Some way) None h = h
fresh_indexed starts fresh s None (Some n) h = h

indexed_added : (t : Table) (r : PlacedRow) (f : Fresh) (node : ℕ) → IsTable t → MayCome t r f node → AreIndexed (t.rows.items ++ r ∷ []) (t.starts.items ++ f.starts.items) (t.index.items ++ f.index.items ∷ [])
indexed_added t r f node table may s at e = go (place_new t.rows.items r s at e)
  where
    go : (place_in t.rows.items s ≡ Some at) ⊎ ((s.row ≡ length t.rows.items) × (slice_get r.tree.places s.place ≡ Some at)) → IsIndexed (t.starts.items ++ f.starts.items) s (followed at) (node_in (t.index.items ++ f.index.items ∷ []) s)
    go (inl h) =
        let w = row_there t.rows.items s at h in
        let less = slice_get_within t.rows.items s.row w.0 w.1 in
        let less' : s.row < length t.index.items = omega (arith, less, table.one_each) in
        subst (IsIndexed (t.starts.items ++ f.starts.items) s (followed at)) (sym (index_old t.index.items f.index.items s less'))
        (indexed_starts t.starts.items f.starts.items s (followed at) (node_in t.index.items s) (table.indexed s at h))
    go (inr h) =
        let row : record { row = length t.rows.items; place = s.place } ≡ s = ap (λ n. record { row = n; place = s.place }) (sym h.0) in
        let number : node_in (t.index.items ++ f.index.items ∷ []) s ≡ number_in f.index.items s.place =
        ap (node_in (t.index.items ++ f.index.items ∷ [])) (sym row ∙ ap (λ n. record { row = n; place = s.place }) (sym table.one_each)) ∙ index_new t.index.items f.index.items s.place in
        subst (IsIndexed (t.starts.items ++ f.starts.items) s (followed at)) (sym number)
        (fresh_indexed t.starts.items f.starts.items s (followed at) (number_in f.index.items s.place)
        (subst (λ x. IsFreshAt t.starts.items f.starts.items x (followed at) (number_in f.index.items s.place)) row (may.fresh.placed s.place at h.1)))

-- ---- nodes

start_stays : (rows more : List PlacedRow) (start : Start) → IsStart rows start → IsStart (rows ++ more) start
start_stays rows more (Id id) h = h
start_stays rows more (AtPlace s) h = (h.0, place_stays rows more s h.0 h.1)

pub as_many : {A B : Type 0} (xs : List A) (ys : List B) (j : ℕ) (x : A) → length ys ≡ length xs → slice_get xs j ≡ Some x → (y : B) × (slice_get ys j ≡ Some y)
as_many [] ys j x len e = absurd (none-some x e)
as_many (z ∷ xs) [] j x len e = let no : ⊥ = omega (arith, len) in absurd no
as_many (z ∷ xs) (y ∷ ys) zero x len e = (y, refl)
as_many (z ∷ xs) (y ∷ ys) (suc j) x len e = as_many xs ys j x (omega (arith, len)) e

fresh_start : (rows : List PlacedRow) (r : PlacedRow) (starts : List Start) (start : Start) (state : State) → IsFreshNode starts (length rows) r.tree.places start state → IsStart (rows ++ r ∷ []) start
fresh_start rows r starts start state h = subst (IsStart (rows ++ r ∷ [])) (sym h.is_start) (h.at, place_last rows r h.number h.at h.is_place)

starts_added : (t : Table) (r : PlacedRow) (f : Fresh) (node : ℕ) → IsTable t → MayCome t r f node → AreStarts (t.rows.items ++ r ∷ []) (t.starts.items ++ f.starts.items)
starts_added t r f node table may n start e = go (append_get t.starts.items f.starts.items n start e)
  where
    go : (slice_get t.starts.items n ≡ Some start) ⊎ ((j : ℕ) × (n ≡ length t.starts.items + j) × (slice_get f.starts.items j ≡ Some start)) → IsStart (t.rows.items ++ r ∷ []) start
    go (inl h) = start_stays t.rows.items (r ∷ []) start (table.starts n start h)
    go (inr p) =
        let s = as_many f.starts.items f.states.items p.0 start may.fresh.same_count p.2 in
        fresh_start t.rows.items r t.starts.items start s.0 (may.fresh.nodes p.0 start s.0 p.2 s.1)

row_stays : (rows : List PlacedRow) (r : PlacedRow) (id : ℕ) (row : Option ℕ) → nat_eq r.id id ≡ false → IsRowOf rows id row → IsRowOf (rows ++ r ∷ []) id row
row_stays rows r id None other h = rows_of-other id rows r other ∙ h
row_stays rows r id (Some n) other h = (h.0, slice_get-front rows (r ∷ []) n h.0 h.1, h.2)

known_rows : (rows : List PlacedRow) (r : PlacedRow) (starts : List Start) (id : ℕ) (k : Option Known) → nat_eq r.id id ≡ false → IsKnown rows starts id k → IsKnown (rows ++ r ∷ []) starts id k
known_rows rows r starts id None other h = rows_of-other id rows r other ∙ h
known_rows rows r starts id (Some k) other h = (h.0, row_stays rows r id k.row other h.1)

known_added : (t u : Table) (r : PlacedRow) (f : Fresh) (node : ℕ) → IsTable t → MayCome t r f node → HasCome t u r f node → (q : ℕ) → IsKnown (t.rows.items ++ r ∷ []) (t.starts.items ++ f.starts.items) q (known_of u.known q)
known_added t u r f node table may has q = subst (IsKnown (t.rows.items ++ r ∷ []) (t.starts.items ++ f.starts.items) q) (sym (has.updates q)) (go (eqb_tells r.id q))
  where
    go : ((nat_eq r.id q ≡ true) × (r.id ≡ q)) ⊎ ((nat_eq r.id q ≡ false) × (r.id ≢ q)) → IsKnown (t.rows.items ++ r ∷ []) (t.starts.items ++ f.starts.items) q (cond (nat_eq r.id q) (Some (record { node = node; row = Some (length t.rows.items) })) (known_of t.known q))
    go (inl p) = subst (λ b. IsKnown (t.rows.items ++ r ∷ []) (t.starts.items ++ f.starts.items) q (cond b (Some (record { node = node; row = Some (length t.rows.items) })) (known_of t.known q))) (sym p.0) (
      slice_get-front t.starts.items f.starts.items node (Id q) (subst (λ i. IsNodeAt t.starts.items node (Id i)) p.1 may.is_node),
      (r, push_at t.rows.items r, p.1),
    )
    go (inr p) = subst (λ b. IsKnown (t.rows.items ++ r ∷ []) (t.starts.items ++ f.starts.items) q (cond b (Some (record { node = node; row = Some (length t.rows.items) })) (known_of t.known q))) (sym p.0)
        (known_rows t.rows.items r (t.starts.items ++ f.starts.items) q (known_of t.known q) p.0 (known_starts t.rows.items t.starts.items f.starts.items q (known_of t.known q) (table.known q)))

its_node : (n m : ℕ) (o : Option Known) → IsItsNode n o → IsItsNode m o → n ≡ m
its_node n m None h k = absurd h
its_node n m (Some w) h k = sym h ∙ k

id_place : {A : Type 0} (id : ℕ) (s : Spot) → Id id ≡ AtPlace s → A
id_place id s e = cc

ids_added : (t u : Table) (r : PlacedRow) (f : Fresh) (node : ℕ) → IsTable t → MayCome t r f node → HasCome t u r f node → (n id : ℕ) → IsNodeAt (t.starts.items ++ f.starts.items) n (Id id) → IsItsNode n (known_of u.known id)
ids_added t u r f node table may has n id e = subst (IsItsNode n) (sym (has.updates id)) (go (append_get t.starts.items f.starts.items n (Id id) e) (eqb_tells r.id id))
  where
    go : (slice_get t.starts.items n ≡ Some (Id id)) ⊎ ((j : ℕ) × (n ≡ length t.starts.items + j) × (slice_get f.starts.items j ≡ Some (Id id))) → ((nat_eq r.id id ≡ true) × (r.id ≡ id)) ⊎ ((nat_eq r.id id ≡ false) × (r.id ≢ id)) → IsItsNode n (cond (nat_eq r.id id) (Some (record { node = node; row = Some (length t.rows.items) })) (known_of t.known id))
    go (inl h) (inl p) = subst (λ b. IsItsNode n (cond b (Some (record { node = node; row = Some (length t.rows.items) })) (known_of t.known id))) (sym p.0)
        (its_node node n (known_of t.known id) (table.ids node id (subst (λ i. IsNodeAt t.starts.items node (Id i)) p.1 may.is_node)) (table.ids n id h))
    go (inl h) (inr p) = subst (λ b. IsItsNode n (cond b (Some (record { node = node; row = Some (length t.rows.items) })) (known_of t.known id))) (sym p.0) (table.ids n id h)
    go (inr q) p =
        let s = as_many f.starts.items f.states.items q.0 (Id id) may.fresh.same_count q.2 in
        let x = may.fresh.nodes q.0 (Id id) s.0 q.2 s.1 in
        id_place id (record { row = length t.rows.items; place = x.number }) x.is_start

pub table_added : (t u : Table) (r : PlacedRow) (f : Fresh) (node : ℕ) → IsTable t → MayCome t r f node → HasCome t u r f node → IsTable u
table_added t u r f node table may has = record {
  plain = subst IsPlain (sym has.rows) (plain_more t.rows.items r table.plain may.none may.kind);
  fine = subst (λ (rows : List PlacedRow). All IsFine rows) (sym has.rows) (All-push IsFine t.rows.items r table.fine may.fine);
  starts = subst (λ (rows : List PlacedRow). AreStarts rows u.starts.items) (sym has.rows) (subst (AreStarts (t.rows.items ++ r ∷ [])) (sym has.starts) (starts_added t r f node table may));
  indexed =
      subst (λ (rows : List PlacedRow). AreIndexed rows u.starts.items u.index.items) (sym has.rows)
      (subst (λ x. AreIndexed (t.rows.items ++ r ∷ []) x u.index.items) (sym has.starts)
      (subst (AreIndexed (t.rows.items ++ r ∷ []) (t.starts.items ++ f.starts.items)) (sym has.index) (indexed_added t r f node table may)));
  known = λ q.
      subst (λ (rows : List PlacedRow). IsKnown rows u.starts.items q (known_of u.known q)) (sym has.rows)
      (subst (λ x. IsKnown (t.rows.items ++ r ∷ []) x q (known_of u.known q)) (sym has.starts) (known_added t u r f node table may has q));
  ids = λ n id e. ids_added t u r f node table may has n id (sym (ap (λ x. slice_get x n) has.starts) ∙ e);
  one_each = ap length has.index ∙ (length-append t.index.items (f.index.items ∷ []) ∙ (ap (λ n. n + 1) table.one_each ∙ (sym (length-append t.rows.items (r ∷ [])) ∙ sym (ap length has.rows))));
}

-- ---- states

followed_turn : (s : linked.Spot) (at : Place) (way : ℕ × Path) (path : Path) → followed at ≡ Some way → go_from s (Some at) path ≡ on (to way.0 (way.1 ++ path))
followed_turn s (place.Lazy id) way path e = ap (λ (w : ℕ × Path). on (to w.0 (w.1 ++ path))) (same_Some (id, []) way e)
followed_turn s (place.Value at) way path e = ap (λ (w : ℕ × Path). on (to w.0 (w.1 ++ path))) (same_Some (at.id, at.path) way e)
followed_turn s (place.Atom a) way path e = absurd (none-some way e)
followed_turn s (place.Array ns) way path e = absurd (none-some way e)
followed_turn s (place.Object ps) way path e = absurd (none-some way e)
followed_turn s (place.Element tag key props) way path e = absurd (none-some way e)
followed_turn s (place.Promise id) way path e = absurd (none-some way e)
followed_turn s (place.Map at) way path e = absurd (none-some way e)
followed_turn s (place.Set at) way path e = absurd (none-some way e)
followed_turn s (place.Action id) way path e = absurd (none-some way e)

-- behind the node of its id the walk of a place has all its names left
way_begun : (rows : List PlacedRow) (starts : List Start) (s : Spot) (at : Place) (way : ℕ × Path) (node : ℕ) → IsPlain rows → place_in rows s ≡ Some at → followed at ≡ Some way → IsNodeAt starts node (Id way.0) → HasBegun rows starts (AtPlace s) (Behind node (length way.1))
way_begun rows starts s at way node plain e some is_node =
    let names : names_of rows (AtPlace s) ≡ way.1 = ap (λ o. names_in (option_and_then followed o)) e ∙ ap names_in some in
    let begun : HasBegun rows starts (AtPlace s) (Behind node (length way.1)) = record {
      next = to way.0 (way.1 ++ []);
      is_next = ap (λ o. go_from (spot_of rows s) o []) (place_there rows s at plain e) ∙ followed_turn (spot_of rows s) at way [] some;
      gets = subst (λ x. ComesBehind rows starts x (to way.0 (way.1 ++ [])) node (length way.1)) (sym names) (record {
        other = Id way.0;
        is_other = is_node;
        few = omega arith;
        come = (0, ap (to way.0) (append-nil way.1 ∙ sym (end_last way.1 way.1 (end_itself way.1))));
      });
    } in
    begun

fresh_sound : (rows : List PlacedRow) (r : PlacedRow) (starts more : List Start) (start : Start) (state : State) → IsPlain (rows ++ r ∷ []) → IsFreshNode starts (length rows) r.tree.places start state → IsSound (rows ++ r ∷ []) (starts ++ more) start state
fresh_sound rows r starts more start state plain h =
    subst (λ x. IsSound (rows ++ r ∷ []) (starts ++ more) x state) (sym h.is_start)
    (subst (IsSound (rows ++ r ∷ []) (starts ++ more) (AtPlace (record { row = length rows; place = h.number }))) (sym h.is_state)
    (way_begun (rows ++ r ∷ []) (starts ++ more) (record { row = length rows; place = h.number }) h.at h.way h.node plain (place_last rows r h.number h.at h.is_place) h.is_way (slice_get-front starts more h.node (Id h.way.0) h.is_node)))

root_begun : (rows : List PlacedRow) (r : PlacedRow) (starts fresh : List Start) (at : Place) (n : Option ℕ) → IsPlain (rows ++ r ∷ []) → slice_get r.tree.places 0 ≡ Some at → IsFreshAt starts fresh (record { row = length rows; place = 0 }) (followed at) n → IsSound (rows ++ r ∷ []) (starts ++ fresh) (Id r.id) (root_by (length rows) n)
root_begun rows r starts fresh at n plain e h = go (followed at) n refl h
  where
    spot : spot_of (rows ++ r ∷ []) (record { row = length rows; place = 0 }) ≡ first_place r.id
    spot = spot_in_row (rows ++ r ∷ []) (record { row = length rows; place = 0 }) r (push_at rows r)

    go : (way : Option (ℕ × Path)) (n : Option ℕ) → followed at ≡ way → IsFreshAt starts fresh (record { row = length rows; place = 0 }) way n → IsSound (rows ++ r ∷ []) (starts ++ fresh) (Id r.id) (root_by (length rows) n)
    go (Some way) (Some n) is h = record {
      next = here (first_place r.id) [];
      is_next = into_row (rows ++ r ∷ []) (length rows) r [] plain (push_at rows r);
      gets = record {
        other = AtPlace (record { row = length rows; place = 0 });
        is_other = fresh_indexed starts fresh (record { row = length rows; place = 0 }) (Some way) (Some n) h;
        few = omega arith;
        come = (0, ap (λ x. here x []) (sym spot));
      };
    }
    go None None is h =
        let stop : IsStop (rows ++ r ∷ []) (record { row = length rows; place = 0 }) = (at, place_last rows r 0 at e, is) in
        record {
          next = here (first_place r.id) [];
          is_next = into_row (rows ++ r ∷ []) (length rows) r [] plain (push_at rows r);
          gets = (
            record {
              by = here (spot_of (rows ++ r ∷ []) (record { row = length rows; place = 0 })) [];
              come = (0, ap (λ x. here x []) (sym spot));
              there = stop_there (rows ++ r ∷ []) (record { row = length rows; place = 0 }) [] plain stop;
              is_turn = stop_ends (rows ++ r ∷ []) (record { row = length rows; place = 0 }) plain stop;
            },
            stop,
          );
        }
    go (Some way) None is h = absurd h
    go None (Some n) is h = absurd h

root_sound : (t : Table) (r : PlacedRow) (f : Fresh) (node : ℕ) → IsTable t → MayCome t r f node → IsSound (t.rows.items ++ r ∷ []) (t.starts.items ++ f.starts.items) (Id r.id) (root_of f.index.items (length t.rows.items))
root_sound t r f node table may =
    root_begun t.rows.items r t.starts.items f.starts.items (first r.tree.places may.fine.rooted).0 (number_in f.index.items 0) (plain_more t.rows.items r table.plain may.none may.kind) (first r.tree.places may.fine.rooted).1 (may.fresh.placed 0 (first r.tree.places may.fine.rooted).0 (first r.tree.places may.fine.rooted).1)
  where
    first : (xs : List Place) → 0 < length xs → (at : Place) × (slice_get xs 0 ≡ Some at)
    first [] w = let no : ⊥ = omega (arith, w) in absurd no
    first (x ∷ xs) w = (x, refl)

states_sound : (t : Table) (r : PlacedRow) (f : Fresh) (node : ℕ) (states : List State) → IsTable t → MayCome t r f node → AreStates t states → AreSound (t.rows.items ++ r ∷ []) (t.starts.items ++ f.starts.items) (slice_set (states ++ f.states.items) node (root_of f.index.items (length t.rows.items)))
states_sound t r f node states table may are n start state e h = go (same_or node n)
  where
    two : node ≢ n → (slice_get t.starts.items n ≡ Some start) ⊎ ((j : ℕ) × (n ≡ length t.starts.items + j) × (slice_get f.starts.items j ≡ Some start)) → (slice_get states n ≡ Some state) ⊎ ((j : ℕ) × (n ≡ length states + j) × (slice_get f.states.items j ≡ Some state)) → IsSound (t.rows.items ++ r ∷ []) (t.starts.items ++ f.starts.items) start state
    two ne (inl h) (inl k) =
        let other : start ≢ Id r.id = λ x. ne (its_node node n (known_of t.known r.id) (table.ids node r.id may.is_node) (table.ids n r.id (h ∙ ap Some x))) in
        sound_starts (t.rows.items ++ r ∷ []) t.starts.items f.starts.items start state
        (sound_rows t.rows.items r t.starts.items start state table.starts (table.starts n start h) other (are.sound n start state h k))
    two ne (inl h) (inr p) = let w = slice_get_within t.starts.items n start h in let no : ⊥ = omega (arith, w, p.1, are.one_each) in absurd no
    two ne (inr p) (inl h) = let w = slice_get_within states n state h in let no : ⊥ = omega (arith, w, p.1, are.one_each) in absurd no
    two ne (inr p) (inr q) =
        let same : q.0 ≡ p.0 = omega (arith, p.1, q.1, are.one_each) in
        fresh_sound t.rows.items r t.starts.items f.starts.items start state (plain_more t.rows.items r table.plain may.none may.kind)
        (may.fresh.nodes p.0 start state p.2 (ap (slice_get f.states.items) (sym same) ∙ q.2))

    go : (node ≡ n) ⊎ (node ≢ n) → IsSound (t.rows.items ++ r ∷ []) (t.starts.items ++ f.starts.items) start state
    go (inl p) =
        let is_id : start ≡ Id r.id = same_Some start (Id r.id) (sym e ∙ (ap (slice_get (t.starts.items ++ f.starts.items)) (sym p) ∙ slice_get-front t.starts.items f.starts.items node (Id r.id) may.is_node)) in
        let old = as_many t.starts.items states node (Id r.id) are.one_each may.is_node in
        let is_root : root_of f.index.items (length t.rows.items) ≡ state =
        same_Some (root_of f.index.items (length t.rows.items)) state (sym (set_here (states ++ f.states.items) node old.0 (root_of f.index.items (length t.rows.items)) (slice_get-front states f.states.items node old.0 old.1)) ∙ (ap (slice_get (slice_set (states ++ f.states.items) node (root_of f.index.items (length t.rows.items)))) p ∙ h)) in
        subst (λ x. IsSound (t.rows.items ++ r ∷ []) (t.starts.items ++ f.starts.items) x state) (sym is_id)
        (subst (IsSound (t.rows.items ++ r ∷ []) (t.starts.items ++ f.starts.items) (Id r.id)) is_root (root_sound t r f node table may))
    go (inr ne) =
        two ne (append_get t.starts.items f.starts.items n start e)
        (append_get states f.states.items n state (sym (set_there (states ++ f.states.items) node n (root_of f.index.items (length t.rows.items)) ne) ∙ h))

pub states_added : (t u : Table) (r : PlacedRow) (f : Fresh) (node : ℕ) (states new : List State) → IsTable t → MayCome t r f node → HasCome t u r f node → AreStates t states → new ≡ slice_set (states ++ f.states.items) node (root_of f.index.items (length t.rows.items)) → AreStates u new
states_added t u r f node states new table may has are is = record {
  one_each =
      ap length is ∙ (length-set (states ++ f.states.items) node (root_of f.index.items (length t.rows.items)) ∙ (length-append states f.states.items
      ∙ (ap (λ n. n + length f.states.items) are.one_each ∙ (ap (λ n. length t.starts.items + n) may.fresh.same_count ∙ (sym (length-append t.starts.items f.starts.items) ∙ sym (ap length has.starts))))));
  sound =
      subst (λ (rows : List PlacedRow). AreSound rows u.starts.items new) (sym has.rows)
      (subst (λ x. AreSound (t.rows.items ++ r ∷ []) x new) (sym has.starts)
      (subst (AreSound (t.rows.items ++ r ∷ []) (t.starts.items ++ f.starts.items)) (sym is) (states_sound t r f node states table may are)));
}
