-- More rows: what was there stays, a walk goes the same way, and on where its id has come.
use Rattle.std.proofs.Common.{◌≡◌, ℕ, zero, suc, ◌==◌, Bool, true, false, cond, inl, inr, List, [], ◌∷◌, ◌++◌, map, append-nil, Option, Some, None, option_and_then, slice_get, refl, sym, ap, ◌∙◌, subst}
use Rattle.std.proofs.lemmas.Option.{none-some, same_Some}
use Rattle.std.proofs.lemmas.List.{map-append}
use Rattle.std.proofs.lemmas.List.Elements.{filter-append}
use Rattle.std.specs.List.{filter}
use Rattle.flight_value.specs.declared.graph.Atom.TheVariants as atom
use Rattle.flight_row.specs.declared.row.RowKind.{RowKind}
use Rattle.flight_row.specs.declared.row.RowKind.TheVariants as row
use Rattle.flight_meaning.specs.declared.place.Place.{Place}
use Rattle.flight_meaning.specs.declared.place.Place.TheVariants as place
use Rattle.flight_meaning.specs.declared.place.PlaceTree.{PlaceTree}
use Rattle.flight_meaning.specs.declared.place.PlacedRow.{PlacedRow}
use Rattle.flight_meaning.specs.Linked.{is_of, rows_of, Standing, Verdict, goes, refused, next, after, standing_of, FollowOn, Spot, place_at}
use Rattle.flight_meaning.specs.Resolve.{Path, step, Stand, to, here, Found, found, stream, not_yet, nowhere, Turn, on, ends, end_at_stream, enter, go_to, go_down, go_on, go_from, turn, after_turn, walk_by, Ends, Endless, LeadsNowhere, IsEnd, ComesToAnEnd}
pub use Rattle.flight_meaning.specs.Linked.{HasRowOf}
pub use Rattle.flight_meaning.specs.Resolve.{IsThere}
use Rattle.flight_meaning.proofs.Walking.{ends_back, ends_forth, endless_back, endless_forth, ends_alike, endless_alike, turn_ends}

-- ---- the rows of an id

pub rows_of-append : (id : ℕ) (rows more : List PlacedRow) → rows_of id (rows ++ more) ≡ rows_of id rows ++ rows_of id more
rows_of-append id rows more = ap (map (λ r. r.tree)) (filter-append (is_of id) rows more) ∙ map-append (λ r. r.tree) (filter (is_of id) rows) (filter (is_of id) more)

one_row : (id : ℕ) (r : PlacedRow) (b : Bool) → r.id == id ≡ b → rows_of id (r ∷ []) ≡ map (λ (q : PlacedRow). q.tree) (cond b (r ∷ []) [])
one_row id r b e = ap (λ b. map (λ (q : PlacedRow). q.tree) (cond b (r ∷ []) [])) e

-- one row more, of this id or of another
pub rows_of-same : (id : ℕ) (rows : List PlacedRow) (r : PlacedRow) → r.id == id ≡ true → rows_of id (rows ++ r ∷ []) ≡ rows_of id rows ++ r.tree ∷ []
rows_of-same id rows r e = rows_of-append id rows (r ∷ []) ∙ ap (λ ts. rows_of id rows ++ ts) (one_row id r true e)

pub rows_of-other : (id : ℕ) (rows : List PlacedRow) (r : PlacedRow) → r.id == id ≡ false → rows_of id (rows ++ r ∷ []) ≡ rows_of id rows
rows_of-other id rows r e = rows_of-append id rows (r ∷ []) ∙ (ap (λ ts. rows_of id rows ++ ts) (one_row id r false e) ∙ append-nil (rows_of id rows))

-- the first row of an id stays the first
pub rows_of-first : (id : ℕ) (rows more : List PlacedRow) (t : PlaceTree) (ts : List PlaceTree) → rows_of id rows ≡ t ∷ ts → rows_of id (rows ++ more) ≡ t ∷ (ts ++ rows_of id more)
rows_of-first id rows more t ts e = rows_of-append id rows more ∙ ap (λ us. us ++ rows_of id more) e

-- ---- how an id stands

pub after-append : (v : Verdict) (s : Standing) (ts us : List PlaceTree) → after v ts ≡ Some s → after v (ts ++ us) ≡ after (goes s) us
after-append (refused why) s ts us h = absurd (none-some s h)
after-append (goes r) s [] us h = ap (λ z. after (goes z) us) (same_Some r s h)
after-append (goes r) s (t ∷ ts) us h = after-append (next r t.kind) s ts us h

after_front : (v : Verdict) (s : Standing) (ts us : List PlaceTree) → after v (ts ++ us) ≡ Some s → (r : Standing) × (after v ts ≡ Some r)
after_front (refused why) s ts us h = absurd (none-some s h)
after_front (goes r) s [] us h = (r, refl)
after_front (goes r) s (t ∷ ts) us h = after_front (next r t.kind) s ts us h

pub standing-append : (id : ℕ) (rows more : List PlacedRow) (s : Standing) → standing_of id rows ≡ Some s → standing_of id (rows ++ more) ≡ after (goes s) (rows_of id more)
standing-append id rows more s h = ap (after (goes _)) (rows_of-append id rows more) ∙ after-append (goes _) s (rows_of id rows) (rows_of id more) h

-- rows of which none is refused begin with rows of which none is refused
pub follow_front : (rows more : List PlacedRow) → FollowOn (rows ++ more) → FollowOn rows
follow_front rows more f id =
    after_front (goes _) (f id).0 (rows_of id rows) (rows_of id more) (sym (ap (after (goes _)) (rows_of-append id rows more)) ∙ (f id).1)

-- ---- places

pub slice_get-front : {A : Type 0} (xs ys : List A) (n : ℕ) (x : A) → slice_get xs n ≡ Some x → slice_get (xs ++ ys) n ≡ Some x
slice_get-front [] ys n x h = absurd (none-some x h)
slice_get-front (z ∷ zs) ys zero x h = h
slice_get-front (z ∷ zs) ys (suc n) x h = slice_get-front zs ys n x h

pub row-more : (rows more : List PlacedRow) (s : Spot) (t : PlaceTree) → slice_get (rows_of s.id rows) s.nth ≡ Some t → slice_get (rows_of s.id (rows ++ more)) s.nth ≡ Some t
row-more rows more s t e = ap (λ ts. slice_get ts s.nth) (rows_of-append s.id rows more) ∙ slice_get-front (rows_of s.id rows) (rows_of s.id more) s.nth t e

-- in a row that is there the places stay as they are
pub places-stay : (rows more : List PlacedRow) (s : Spot) → HasRowOf rows s → place_at (rows ++ more) s ≡ place_at rows s
places-stay rows more s h =
    ap (option_and_then (λ t. slice_get t.places s.at)) (row-more rows more s h.0 h.1) ∙ sym (ap (option_and_then (λ t. slice_get t.places s.at)) h.1)

pub place_row : (rows : List PlacedRow) (s : Spot) (at : Place) → place_at rows s ≡ Some at → HasRowOf rows s
place_row rows s at e = go (slice_get (rows_of s.id rows) s.nth) refl e
  where
    go : (o : Option PlaceTree) → slice_get (rows_of s.id rows) s.nth ≡ o → option_and_then (λ t. slice_get t.places s.at) o ≡ Some at → HasRowOf rows s
    go None is h = absurd (none-some at h)
    go (Some t) is h = (t, is)

pub place-more : (rows more : List PlacedRow) (s : Spot) (at : Place) → place_at rows s ≡ Some at → place_at (rows ++ more) s ≡ Some at
place-more rows more s at e = places-stay rows more s (place_row rows s at e) ∙ e

-- ---- a turn over more rows

-- the turn over more rows, by the turn over fewer: the same, but where no row was
abbrev pub TurnsOn : List PlacedRow → Type 0 → Turn → Turn → Type 0
TurnsOn many there (on s) t = t ≡ on s
TurnsOn many there (ends (found s)) t = t ≡ ends (found s)
TurnsOn many there (ends (stream id)) t = t ≡ ends (stream id)
TurnsOn many there (ends (not_yet id path)) t = t ≡ turn many (to id path)
TurnsOn many there (ends nowhere) t = there → t ≡ ends nowhere

-- a turn that waits for no row
abbrev IsPlain : Turn → Type 0
IsPlain (ends (not_yet id path)) = ⊥
IsPlain t = Unit {0}

turns_same : (many : List PlacedRow) (there : Type 0) (t u : Turn) → IsPlain t → u ≡ t → TurnsOn many there t u
turns_same many there (on s) u plain e = e
turns_same many there (ends (found s)) u plain e = e
turns_same many there (ends (stream id)) u plain e = e
turns_same many there (ends (not_yet id path)) u plain e = absurd plain
turns_same many there (ends nowhere) u plain e = λ _. e

plain_stream : (id : ℕ) (path : Path) → IsPlain (ends (end_at_stream id path))
plain_stream id [] = tt
plain_stream id (name ∷ path) = tt

plain_row : (id : ℕ) (kind : RowKind) (path : Path) → IsPlain (enter id kind path)
plain_row id (row.Open flow) path = plain_stream id path
plain_row id kind path = tt

plain_down : (s : Spot) (o : Option ℕ) (path : Path) → IsPlain (go_down s o path)
plain_down s None path = tt
plain_down s (Some at) path = tt

plain_on : (s : Spot) (at : Place) (path : Path) → IsPlain (go_on s at path)
plain_on s at [] = tt
plain_on s (place.Atom (atom.Failed digest)) (name ∷ path) = tt
plain_on s at (name ∷ path) = plain_down s (step at name) path

plain_from : (s : Spot) (o : Option Place) (path : Path) → IsPlain (go_from s o path)
plain_from s None path = tt
plain_from s (Some (place.Lazy id)) path = tt
plain_from s (Some (place.Value at)) path = tt
plain_from s (Some at) path = plain_on s at path

pub turn-more : (rows more : List PlacedRow) (s : Stand) → TurnsOn (rows ++ more) (IsThere rows s) (turn rows s) (turn (rows ++ more) s)
turn-more rows more (to id path) = go (rows_of id rows) refl
  where
    go : (ts : List PlaceTree) → rows_of id rows ≡ ts → TurnsOn (rows ++ more) (Unit {0}) (go_to id ts path) (go_to id (rows_of id (rows ++ more)) path)
    go [] e = refl
    go (t ∷ ts) e = turns_same (rows ++ more) (Unit {0}) (enter id t.kind path) (go_to id (rows_of id (rows ++ more)) path) (plain_row id t.kind path) (ap (λ us. go_to id us path) (rows_of-first id rows more t ts e))
turn-more rows more (here s path) = go (place_at rows s) refl
  where
    go : (o : Option Place) → place_at rows s ≡ o → TurnsOn (rows ++ more) (HasRowOf rows s) (go_from s o path) (go_from s (place_at (rows ++ more) s) path)
    go None e = λ there. ap (λ o. go_from s o path) (places-stay rows more s there ∙ e)
    go (Some at) e = turns_same (rows ++ more) (HasRowOf rows s) (go_from s (Some at) path) (go_from s (place_at (rows ++ more) s) path) (plain_from s (Some at) path) (ap (λ o. go_from s o path) (place-more rows more s at e))

-- ---- a walk over more rows

-- two walks of one course: they end alike, or both never end
pub record GoAlike (rows : List PlacedRow) (s t : Stand) : Type 0 where
  pub forth : (f : Found) → Ends rows s f → Ends rows t f
  pub back : (f : Found) → Ends rows t f → Ends rows s f
  pub endless_on : Endless rows s → Endless rows t
  pub endless_of : Endless rows t → Endless rows s

alike_turn : (rows : List PlacedRow) (s t : Stand) → turn rows s ≡ turn rows t → GoAlike rows s t
alike_turn rows s t e = record { forth = ends_alike rows s t e; back = ends_alike rows t s (sym e); endless_on = endless_alike rows s t e; endless_of = endless_alike rows t s (sym e) }

pub alike_on : (rows : List PlacedRow) (s t u : Stand) → turn rows s ≡ on t → GoAlike rows t u → GoAlike rows s u
alike_on rows s t u e a =
    record {
      forth = λ f w. a.forth f (ends_forth rows s t e f w);
      back = λ f w. ends_back rows s t e f (a.back f w);
      endless_on = λ w. a.endless_on (endless_forth rows s t e w);
      endless_of = λ w. endless_back rows s t e (a.endless_of w);
    }

-- over more rows a walk that waited for an id goes on as from there
pub waited_by : (n : ℕ) (rows more : List PlacedRow) (s : Stand) (id : ℕ) (path : Path) → walk_by n rows s ≡ Some (not_yet id path) → GoAlike (rows ++ more) s (to id path)
waited_by zero rows more s id path h = absurd (none-some (not_yet id path) h)
waited_by (suc n) rows more s id path h = go (turn rows s) (turn-more rows more s) h (λ t. waited_by n rows more t id path)
  where
    at_id : (e : Found) → TurnsOn (rows ++ more) (IsThere rows s) (ends e) (turn (rows ++ more) s) → e ≡ not_yet id path → turn (rows ++ more) s ≡ turn (rows ++ more) (to id path)
    at_id e turns same = subst (λ z. TurnsOn (rows ++ more) (IsThere rows s) (ends z) (turn (rows ++ more) s)) same turns

    go : (t : Turn) → TurnsOn (rows ++ more) (IsThere rows s) t (turn (rows ++ more) s) → after_turn (walk_by n rows) t ≡ Some (not_yet id path) → ((t : Stand) → walk_by n rows t ≡ Some (not_yet id path) → GoAlike (rows ++ more) t (to id path)) → GoAlike (rows ++ more) s (to id path)
    go (on t) turns x rest = alike_on (rows ++ more) s t (to id path) turns (rest t x)
    go (ends e) turns x rest = alike_turn (rows ++ more) s (to id path) (at_id e turns (same_Some e (not_yet id path) x))

pub waited-more : (rows more : List PlacedRow) (s : Stand) (id : ℕ) (path : Path) → Ends rows s (not_yet id path) → GoAlike (rows ++ more) s (to id path)
waited-more rows more s id path w = waited_by w.0 rows more s id path w.1

-- a place or a stream that a walk has come to
pub end_by : (n : ℕ) (rows more : List PlacedRow) (s : Stand) (f : Found) → IsEnd f → walk_by n rows s ≡ Some f → Ends (rows ++ more) s f
end_by zero rows more s f is h = absurd (none-some f h)
end_by (suc n) rows more s f is h = go (turn rows s) (turn-more rows more s) h (λ t. end_by n rows more t f is)
  where
    last : (e : Found) → TurnsOn (rows ++ more) (IsThere rows s) (ends e) (turn (rows ++ more) s) → IsEnd e → turn (rows ++ more) s ≡ ends e
    last (found t) turns is = turns
    last (stream id) turns is = turns
    last (not_yet id path) turns is = absurd is
    last nowhere turns is = absurd is

    go : (t : Turn) → TurnsOn (rows ++ more) (IsThere rows s) t (turn (rows ++ more) s) → after_turn (walk_by n rows) t ≡ Some f → ((t : Stand) → walk_by n rows t ≡ Some f → Ends (rows ++ more) t f) → Ends (rows ++ more) s f
    go (on t) turns x rest = ends_back (rows ++ more) s t turns f (rest t x)
    go (ends e) turns x rest =
        let same : e ≡ f = same_Some e f x in
        turn_ends (rows ++ more) s f (last e turns (subst IsEnd (sym same) is) ∙ ap ends same)

pub end-more : (rows more : List PlacedRow) (s : Stand) (f : Found) → IsEnd f → Ends rows s f → Ends (rows ++ more) s f
end-more rows more s f is w = end_by w.0 rows more s f is w.1

-- ---- a walk through rows that are there

abbrev pub IsThereBy : List PlacedRow → Turn → Type 0
IsThereBy rows (on s) = IsThere rows s
IsThereBy rows (ends f) = Unit {0}

there_row : (rows : List PlacedRow) (id : ℕ) (kind : RowKind) (t : PlaceTree) (ts : List PlaceTree) (path : Path) → rows_of id rows ≡ t ∷ ts → IsThereBy rows (enter id kind path)
there_row rows id (row.Open flow) t ts path e = tt
there_row rows id kind t ts path e = (t, ap (λ us. slice_get us 0) e)

there_down : (rows : List PlacedRow) (s : Spot) (o : Option ℕ) (path : Path) → HasRowOf rows s → IsThereBy rows (go_down s o path)
there_down rows s None path there = tt
there_down rows s (Some at) path there = there

there_on : (rows : List PlacedRow) (s : Spot) (at : Place) (path : Path) → HasRowOf rows s → IsThereBy rows (go_on s at path)
there_on rows s at [] there = tt
there_on rows s (place.Atom (atom.Failed digest)) (name ∷ path) there = tt
there_on rows s at (name ∷ path) there = there_down rows s (step at name) path there

there_from : (rows : List PlacedRow) (s : Spot) (o : Option Place) (path : Path) → HasRowOf rows s → IsThereBy rows (go_from s o path)
there_from rows s None path there = tt
there_from rows s (Some (place.Lazy id)) path there = tt
there_from rows s (Some (place.Value at)) path there = tt
there_from rows s (Some at) path there = there_on rows s at path there

pub there_turn : (rows : List PlacedRow) (s : Stand) → IsThere rows s → IsThereBy rows (turn rows s)
there_turn rows (to id path) there = go (rows_of id rows) refl
  where
    go : (ts : List PlaceTree) → rows_of id rows ≡ ts → IsThereBy rows (go_to id ts path)
    go [] e = tt
    go (t ∷ ts) e = there_row rows id t.kind t ts path e
there_turn rows (here s path) there = there_from rows s (place_at rows s) path there

-- ---- what leads nowhere

pub nowhere_by : (n : ℕ) (rows more : List PlacedRow) (s : Stand) → IsThere rows s → walk_by n rows s ≡ Some nowhere → Ends (rows ++ more) s nowhere
nowhere_by zero rows more s there h = absurd (none-some nowhere h)
nowhere_by (suc n) rows more s there h = go (turn rows s) (there_turn rows s there) (turn-more rows more s) h (λ t. nowhere_by n rows more t)
  where
    last : (e : Found) → TurnsOn (rows ++ more) (IsThere rows s) (ends e) (turn (rows ++ more) s) → e ≡ nowhere → Ends (rows ++ more) s nowhere
    last e turns same = turn_ends (rows ++ more) s nowhere (subst (λ z. TurnsOn (rows ++ more) (IsThere rows s) (ends z) (turn (rows ++ more) s)) same turns there)

    go : (t : Turn) → IsThereBy rows t → TurnsOn (rows ++ more) (IsThere rows s) t (turn (rows ++ more) s) → after_turn (walk_by n rows) t ≡ Some nowhere → ((t : Stand) → IsThere rows t → walk_by n rows t ≡ Some nowhere → Ends (rows ++ more) t nowhere) → Ends (rows ++ more) s nowhere
    go (on t) is turns x rest = ends_back (rows ++ more) s t turns nowhere (rest t is x)
    go (ends e) is turns x rest = last e turns (same_Some e nowhere x)

pub nowhere-more : (rows more : List PlacedRow) (s : Stand) → IsThere rows s → Ends rows s nowhere → Ends (rows ++ more) s nowhere
nowhere-more rows more s there w = nowhere_by w.0 rows more s there w.1

-- a walk that never ends meets no id without a row
endless_by : (n : ℕ) (rows more : List PlacedRow) (s : Stand) → Endless rows s → walk_by n (rows ++ more) s ≡ None
endless_by zero rows more s w = refl
endless_by (suc n) rows more s w = go (turn rows s) refl (turn-more rows more s) (λ t. endless_by n rows more t)
  where
    go : (t : Turn) → turn rows s ≡ t → TurnsOn (rows ++ more) (IsThere rows s) t (turn (rows ++ more) s) → ((t : Stand) → Endless rows t → walk_by n (rows ++ more) t ≡ None) → walk_by (suc n) (rows ++ more) s ≡ None
    go (on t) is turns rest = ap (after_turn (walk_by n (rows ++ more))) turns ∙ rest t (endless_forth rows s t is w)
    go (ends e) is turns rest = absurd (none-some e (sym (w 1) ∙ ap (after_turn (walk_by 0 rows)) is))

pub endless-more : (rows more : List PlacedRow) (s : Stand) → Endless rows s → Endless (rows ++ more) s
endless-more rows more s w n = endless_by n rows more s w

pub leads_nowhere-more : (rows more : List PlacedRow) (s : Stand) → IsThere rows s → LeadsNowhere rows s → LeadsNowhere (rows ++ more) s
leads_nowhere-more rows more s there (inl w) = inl (nowhere-more rows more s there w)
leads_nowhere-more rows more s there (inr w) = inr (endless-more rows more s w)

-- ---- what comes to an end still does

pub comes-more : (rows more : List PlacedRow) (s : Stand) → ComesToAnEnd rows s → ComesToAnEnd (rows ++ more) s
comes-more rows more s w = (w.0, end-more rows more s w.0 w.2 w.1, w.2)
