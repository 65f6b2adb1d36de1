-- Rows of which each id has one at most: their places by the numbers of rows.
use Rattle.std.proofs.Common.{◌≡◌, ℕ, zero, suc, ◌==◌, Bool, true, false, cond, List, [], ◌∷◌, ◌++◌, map, Option, Some, None, option_and_then, slice_get, refl, sym, ◌∙◌, ap, subst, arith}
use Rattle.std.specs.Prelude.{option_map, unwrap_or}
use Rattle.std.specs.List.{filter}
use Rattle.std.proofs.lemmas.Bool.Decides.{nat_tests, Decides-eqb}
use Rattle.std.proofs.lemmas.Option.{none-some, same_Some}
use Rattle.flight_row.specs.declared.row.RowKind.{RowKind}
use Rattle.flight_row.specs.declared.row.RowKind.TheVariants as row
use Rattle.flight_meaning.specs.declared.place.Place.{Place}
use Rattle.flight_meaning.specs.declared.place.PlaceTree.{PlaceTree}
use Rattle.flight_meaning.specs.declared.place.PlacedRow.{PlacedRow}
use Rattle.flight_meaning.specs.Linked as linked
use Rattle.flight_meaning.specs.Linked.{is_of, rows_of, Standing, Verdict, goes, refused, absent, defined, twice, next, after, standing_of, FollowOn, place_at, first_place, beside}
use Rattle.flight_meaning.specs.Resolve.{Path, to, here, on, turn}
use Rattle.flight_meaning.proofs.Paths.{IsEnteredKind, IsEntered, entered_turn}
use Rattle.flight_meaning.proofs.MoreRows.{rows_of-same, rows_of-other, slice_get-front}
use Rattle.flight_link.specs.Adding.{is_of_stream}
use Rattle.flight_link.specs.declared.found.Spot.{Spot}
use Rattle.flight_link.specs.Nodes.{IsPlainOf, IsPlain, place_in, id_at, spot_of}

-- ---- the one row of an id

eq_true : (n : ℕ) → n == n ≡ true
eq_true n = grind (arith, nat_tests)

same_id : (m n : ℕ) → m == n ≡ true → m ≡ n
same_id m n e = (Decides-eqb m n).0 e

-- a row is among those of its id
pub held : (rows : List PlacedRow) (i : ℕ) (r : PlacedRow) → slice_get rows i ≡ Some r → (j : ℕ) × (slice_get (rows_of r.id rows) j ≡ Some r.tree)
held [] i r e = absurd (none-some r e)
held (x ∷ xs) zero r e =
    let same : x ≡ r = same_Some x r e in
    (0, ap (λ b. slice_get (map (λ (q : PlacedRow). q.tree) (cond b (x ∷ filter (is_of r.id) xs) (filter (is_of r.id) xs))) 0) (ap (λ (q : PlacedRow). q.id == r.id) same ∙ eq_true r.id) ∙ ap (λ (q : PlacedRow). Some q.tree) same)
held (x ∷ xs) (suc i) r e =
    let h = held xs i r e in
    go (x.id == r.id) refl h
  where
    go : (b : Bool) → x.id == r.id ≡ b → (j : ℕ) × (slice_get (rows_of r.id xs) j ≡ Some r.tree) → (j : ℕ) × (slice_get (rows_of r.id (x ∷ xs)) j ≡ Some r.tree)
    go true t h = (suc h.0, ap (λ b. slice_get (map (λ (q : PlacedRow). q.tree) (cond b (x ∷ filter (is_of r.id) xs) (filter (is_of r.id) xs))) (suc h.0)) t ∙ h.1)
    go false t h = (h.0, ap (λ b. slice_get (map (λ (q : PlacedRow). q.tree) (cond b (x ∷ filter (is_of r.id) xs) (filter (is_of r.id) xs))) h.0) t ∙ h.1)

-- a tree of an id is that of one of the rows
pub row_of_tree : (rows : List PlacedRow) (id j : ℕ) (t : PlaceTree) → slice_get (rows_of id rows) j ≡ Some t → (i : ℕ) × ((r : PlacedRow) × (slice_get rows i ≡ Some r) × (r.id ≡ id) × (r.tree ≡ t))
row_of_tree [] id j t e = absurd (none-some t e)
row_of_tree (x ∷ xs) id j t e = go (x.id == id) refl (λ j e. let h = row_of_tree xs id j t e in (suc h.0, h.1)) j e
  where
    there : ((j : ℕ) → slice_get (rows_of id xs) j ≡ Some t → (i : ℕ) × ((r : PlacedRow) × (slice_get (x ∷ xs) i ≡ Some r) × (r.id ≡ id) × (r.tree ≡ t))) → (j : ℕ) → x.id ≡ id → slice_get (x.tree ∷ rows_of id xs) j ≡ Some t → (i : ℕ) × ((r : PlacedRow) × (slice_get (x ∷ xs) i ≡ Some r) × (r.id ≡ id) × (r.tree ≡ t))
    there rest zero same e = (0, (x, refl, same, same_Some x.tree t e))
    there rest (suc j) same e = rest j e

    go : (b : Bool) → x.id == id ≡ b → ((j : ℕ) → slice_get (rows_of id xs) j ≡ Some t → (i : ℕ) × ((r : PlacedRow) × (slice_get (x ∷ xs) i ≡ Some r) × (r.id ≡ id) × (r.tree ≡ t))) → (j : ℕ) → slice_get (rows_of id (x ∷ xs)) j ≡ Some t → (i : ℕ) × ((r : PlacedRow) × (slice_get (x ∷ xs) i ≡ Some r) × (r.id ≡ id) × (r.tree ≡ t))
    go true b rest j e = there rest j (same_id x.id id b) (sym (ap (λ b. slice_get (map (λ (q : PlacedRow). q.tree) (cond b (x ∷ filter (is_of id) xs) (filter (is_of id) xs))) j) b) ∙ e)
    go false b rest j e = rest j (sym (ap (λ b. slice_get (map (λ (q : PlacedRow). q.tree) (cond b (x ∷ filter (is_of id) xs) (filter (is_of id) xs))) j) b) ∙ e)

-- a list of one at most that has a tree is that tree
pub only : (ts : List PlaceTree) (j : ℕ) (t : PlaceTree) → IsPlainOf ts → slice_get ts j ≡ Some t → ts ≡ t ∷ []
only [] j t p e = absurd (none-some t e)
only (u ∷ []) zero t p e = ap (λ x. x ∷ []) (same_Some u t e)
only (u ∷ []) (suc j) t p e = absurd (none-some t e)
only (u ∷ v ∷ ts) j t p e = absurd p

pub one_row : (rows : List PlacedRow) (i : ℕ) (r : PlacedRow) → IsPlain rows → slice_get rows i ≡ Some r → rows_of r.id rows ≡ r.tree ∷ []
one_row rows i r plain e = let h = held rows i r e in only (rows_of r.id rows) h.0 r.tree (plain r.id) h.1

pub not_of_stream : (rows : List PlacedRow) (i : ℕ) (r : PlacedRow) → IsPlain rows → slice_get rows i ≡ Some r → is_of_stream r.tree.kind ≡ false
not_of_stream rows i r plain e = subst IsPlainOf (one_row rows i r plain e) (plain r.id)

-- ---- places

id_of_row : (rows : List PlacedRow) (i : ℕ) (r : PlacedRow) → slice_get rows i ≡ Some r → id_at rows i ≡ r.id
id_of_row rows i r e = ap (λ o. unwrap_or (option_map (λ (q : PlacedRow). q.id) o) 0) e

pub row_there : (rows : List PlacedRow) (s : Spot) (at : Place) → place_in rows s ≡ Some at → (r : PlacedRow) × (slice_get rows s.row ≡ Some r) × (slice_get r.tree.places s.place ≡ Some at)
row_there rows s at e = go (slice_get rows s.row) refl e
  where
    go : (o : Option PlacedRow) → slice_get rows s.row ≡ o → option_and_then (λ (r : PlacedRow). slice_get r.tree.places s.place) o ≡ Some at → (r : PlacedRow) × (slice_get rows s.row ≡ Some r) × (slice_get r.tree.places s.place ≡ Some at)
    go None is h = absurd (none-some at h)
    go (Some r) is h = (r, is, h)

pub spot_in_row : (rows : List PlacedRow) (s : Spot) (r : PlacedRow) → slice_get rows s.row ≡ Some r → spot_of rows s ≡ record { id = r.id; nth = 0; at = s.place }
spot_in_row rows s r e = ap (λ i. record { id = i; nth = 0; at = s.place }) (id_of_row rows s.row r e)

pub place_there : (rows : List PlacedRow) (s : Spot) (at : Place) → IsPlain rows → place_in rows s ≡ Some at → place_at rows (spot_of rows s) ≡ Some at
place_there rows s at plain e =
    let h = row_there rows s at e in
    ap (place_at rows) (spot_in_row rows s h.0 h.1) ∙ (ap (λ ts. option_and_then (λ (t : PlaceTree). slice_get t.places s.place) (slice_get ts 0)) (one_row rows s.row h.0 plain h.1) ∙ h.2)

-- a place is that of a row by its number
pub place_back : (rows : List PlacedRow) (s : linked.Spot) (at : Place) → IsPlain rows → place_at rows s ≡ Some at → (n : Spot) × (place_in rows n ≡ Some at) × (spot_of rows n ≡ s)
place_back rows s at plain e = go (slice_get (rows_of s.id rows) s.nth) refl e
  where
    first : (ts : List PlaceTree) (j : ℕ) (t : PlaceTree) → IsPlainOf ts → slice_get ts j ≡ Some t → j ≡ 0
    first [] j t p e = absurd (none-some t e)
    first (u ∷ []) zero t p e = refl
    first (u ∷ []) (suc j) t p e = absurd (none-some t e)
    first (u ∷ v ∷ ts) j t p e = absurd p

    go : (o : Option PlaceTree) → slice_get (rows_of s.id rows) s.nth ≡ o → option_and_then (λ (t : PlaceTree). slice_get t.places s.at) o ≡ Some at → (n : Spot) × (place_in rows n ≡ Some at) × (spot_of rows n ≡ s)
    go None is h = absurd (none-some at h)
    go (Some t) is h =
        let w = row_of_tree rows s.id s.nth t is in
        let z = first (rows_of s.id rows) s.nth t (plain s.id) is in
        let n : Spot = record { row = w.0; place = s.at } in (
          n,
          ap (option_and_then (λ (r : PlacedRow). slice_get r.tree.places s.at)) w.1.1 ∙ (ap (λ (t : PlaceTree). slice_get t.places s.at) w.1.3 ∙ h),
          spot_in_row rows n w.1.0 w.1.1 ∙ (ap (λ i. record { id = i; nth = 0; at = s.at }) w.1.2 ∙ ap (λ k. record { id = s.id; nth = k; at = s.at }) (sym z)),
        )

-- ---- into a row

entered_kind : (k : RowKind) → is_of_stream k ≡ false → IsEnteredKind k
entered_kind (row.Open flow) e = cc
entered_kind row.Close e = tt
entered_kind row.Model e = tt
entered_kind row.Import e = tt
entered_kind row.Error e = tt
entered_kind row.Text e = tt

pub into_row : (rows : List PlacedRow) (i : ℕ) (r : PlacedRow) (path : Path) → IsPlain rows → slice_get rows i ≡ Some r → turn rows (to r.id path) ≡ on (here (first_place r.id) path)
into_row rows i r path plain e = entered_turn rows r.id path (subst IsEntered (sym (one_row rows i r plain e)) (entered_kind r.tree.kind (not_of_stream rows i r plain e)))

-- ---- one row more

pub plain_more : (rows : List PlacedRow) (r : PlacedRow) → IsPlain rows → rows_of r.id rows ≡ [] → is_of_stream r.tree.kind ≡ false → IsPlain (rows ++ r ∷ [])
plain_more rows r plain none kind id = go (r.id == id) refl
  where
    go : (b : Bool) → r.id == id ≡ b → IsPlainOf (rows_of id (rows ++ r ∷ []))
    go true b = subst IsPlainOf (sym (rows_of-same id rows r b ∙ ap (λ ts. ts ++ r.tree ∷ []) (subst (λ i. rows_of i rows ≡ []) (same_id r.id id b) none))) kind
    go false b = subst IsPlainOf (sym (rows_of-other id rows r b)) (plain id)

pub plain_none : IsPlain []
plain_none id = tt

pub place_stays : (rows more : List PlacedRow) (s : Spot) (at : Place) → place_in rows s ≡ Some at → place_in (rows ++ more) s ≡ Some at
place_stays rows more s at e =
    let h = row_there rows s at e in
    ap (option_and_then (λ (r : PlacedRow). slice_get r.tree.places s.place)) (slice_get-front rows more s.row h.0 h.1) ∙ h.2

pub spot_stays : (rows more : List PlacedRow) (s : Spot) (at : Place) → place_in rows s ≡ Some at → spot_of (rows ++ more) s ≡ spot_of rows s
spot_stays rows more s at e =
    let h = row_there rows s at e in
    spot_in_row (rows ++ more) s h.0 (slice_get-front rows more s.row h.0 h.1) ∙ sym (spot_in_row rows s h.0 h.1)

-- ---- no row is refused

follows : (ts : List PlaceTree) → IsPlainOf ts → (s : Standing) × (after (goes absent) ts ≡ Some s)
follows [] p = (absent, refl)
follows (t ∷ []) p = go t.kind p
  where
    go : (k : RowKind) → is_of_stream k ≡ false → (s : Standing) × (after (next absent k) [] ≡ Some s)
    go (row.Open flow) e = cc
    go row.Close e = cc
    go k e = (defined, refl)
follows (t ∷ u ∷ ts) p = absurd p

pub follow_on : (rows : List PlacedRow) → IsPlain rows → FollowOn rows
follow_on rows plain id = follows (rows_of id rows) (plain id)
