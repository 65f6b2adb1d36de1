-- One walk: its turns, its one end, and what stands at an end.
use Rattle.std.proofs.Common.{◌≡◌, ℕ, zero, suc, ◌+◌, ◌-◌, ◌≤◌, List, [], ◌∷◌, Option, Some, None, refl, sym, ap, ◌∙◌, subst, suc-add, arith}
use Rattle.std.proofs.lemmas.Option.{none-some, same_Some}
use Rattle.flight_value.specs.declared.graph.Atom.TheVariants as atom
use Rattle.flight_row.specs.declared.row.RowKind.{RowKind}
use Rattle.flight_row.specs.declared.row.RowKind.TheVariants as row
use Rattle.flight_meaning.specs.declared.place.Place.{Place}
use Rattle.flight_meaning.specs.declared.place.Place.TheVariants as place
use Rattle.flight_meaning.specs.declared.place.PlaceTree.{PlaceTree}
use Rattle.flight_meaning.specs.declared.place.PlacedRow.{PlacedRow}
use Rattle.flight_meaning.specs.Linked.{rows_of, Spot, place_at}
use Rattle.flight_meaning.specs.Resolve.{Path, step, Stand, to, here, Found, found, stream, not_yet, nowhere, Turn, on, ends, end_at_stream, enter, go_to, go_down, go_on, go_from, turn, after_turn, walk_by, Ends, Endless}
pub use Rattle.flight_meaning.specs.Resolve.{IsStop, StopsAt}

-- ---- turns

-- a turn, and then some number of turns, is enough
abbrev pub EndsAfter : List PlacedRow → Turn → Found → Type 0
EndsAfter rows t f = (n : ℕ) × (after_turn (walk_by n rows) t ≡ Some f)

-- a turn, and then no number of turns, is enough
abbrev pub EndlessAfter : List PlacedRow → Turn → Type 0
EndlessAfter rows t = (n : ℕ) → after_turn (walk_by n rows) t ≡ None

pub turn_back : (rows : List PlacedRow) (s t : Stand) → turn rows s ≡ on t → (n : ℕ) (f : Found) → walk_by n rows t ≡ Some f → walk_by (suc n) rows s ≡ Some f
turn_back rows s t e n f h = ap (after_turn (walk_by n rows)) e ∙ h

pub turn_forth : (rows : List PlacedRow) (s t : Stand) → turn rows s ≡ on t → (n : ℕ) (f : Found) → walk_by (suc n) rows s ≡ Some f → walk_by n rows t ≡ Some f
turn_forth rows s t e n f h = sym (ap (after_turn (walk_by n rows)) e) ∙ h

pub ends_back : (rows : List PlacedRow) (s t : Stand) → turn rows s ≡ on t → (f : Found) → Ends rows t f → Ends rows s f
ends_back rows s t e f w = (suc w.0, turn_back rows s t e w.0 f w.1)

pub ends_forth : (rows : List PlacedRow) (s t : Stand) → turn rows s ≡ on t → (f : Found) → Ends rows s f → Ends rows t f
ends_forth rows s t e f (zero, h) = absurd (none-some f h)
ends_forth rows s t e f (suc n, h) = (n, turn_forth rows s t e n f h)

pub endless_back : (rows : List PlacedRow) (s t : Stand) → turn rows s ≡ on t → Endless rows t → Endless rows s
endless_back rows s t e w zero = refl
endless_back rows s t e w (suc n) = ap (after_turn (walk_by n rows)) e ∙ w n

pub endless_forth : (rows : List PlacedRow) (s t : Stand) → turn rows s ≡ on t → Endless rows s → Endless rows t
endless_forth rows s t e w n = sym (ap (after_turn (walk_by n rows)) e) ∙ w (suc n)

-- a turn that ends the walk
pub turn_ends : (rows : List PlacedRow) (s : Stand) (f : Found) → turn rows s ≡ ends f → Ends rows s f
turn_ends rows s f e = (1, ap (after_turn (walk_by 0 rows)) e)

-- from two stands with one turn
pub ends_alike : (rows : List PlacedRow) (s t : Stand) → turn rows s ≡ turn rows t → (f : Found) → Ends rows s f → Ends rows t f
ends_alike rows s t e f (zero, h) = absurd (none-some f h)
ends_alike rows s t e f (suc n, h) = (suc n, sym (ap (after_turn (walk_by n rows)) e) ∙ h)

pub endless_alike : (rows : List PlacedRow) (s t : Stand) → turn rows s ≡ turn rows t → Endless rows s → Endless rows t
endless_alike rows s t e w zero = refl
endless_alike rows s t e w (suc n) = sym (ap (after_turn (walk_by n rows)) e) ∙ w (suc n)

pub ends_turned : (rows : List PlacedRow) (s : Stand) (f : Found) → EndsAfter rows (turn rows s) f → Ends rows s f
ends_turned rows s f w = (suc w.0, w.1)

pub endless_turned : (rows : List PlacedRow) (s : Stand) → EndlessAfter rows (turn rows s) → Endless rows s
endless_turned rows s w zero = refl
endless_turned rows s w (suc n) = w n

-- ---- more turns change no end

pub more_turns : (n k : ℕ) (rows : List PlacedRow) (s : Stand) (f : Found) → walk_by n rows s ≡ Some f → walk_by (n + k) rows s ≡ Some f
more_turns zero k rows s f h = absurd (none-some f h)
more_turns (suc n) k rows s f h = subst (λ z. walk_by z rows s ≡ Some f) (sym (suc-add n k)) (go (turn rows s) h (λ t. more_turns n k rows t f))
  where
    go : (t : Turn) → after_turn (walk_by n rows) t ≡ Some f → ((t : Stand) → walk_by n rows t ≡ Some f → walk_by (n + k) rows t ≡ Some f) → after_turn (walk_by (n + k) rows) t ≡ Some f
    go (on t) h rest = rest t h
    go (ends e) h rest = h

pub within_turns : (n m : ℕ) (rows : List PlacedRow) (s : Stand) (f : Found) → n ≤ m → walk_by n rows s ≡ Some f → walk_by m rows s ≡ Some f
within_turns n m rows s f le h =
    let sum : n + (m - n) ≡ m = omega arith in
    subst (λ z. walk_by z rows s ≡ Some f) sum (more_turns n (m - n) rows s f h)

-- ---- one end

pub one_walk : (n m : ℕ) (rows : List PlacedRow) (s : Stand) (f g : Found) → walk_by n rows s ≡ Some f → walk_by m rows s ≡ Some g → f ≡ g
one_walk zero m rows s f g a b = absurd (none-some f a)
one_walk (suc n) zero rows s f g a b = absurd (none-some g b)
one_walk (suc n) (suc m) rows s f g a b = go (turn rows s) a b (λ t. one_walk n m rows t f g)
  where
    go : (t : Turn) → after_turn (walk_by n rows) t ≡ Some f → after_turn (walk_by m rows) t ≡ Some g → ((t : Stand) → walk_by n rows t ≡ Some f → walk_by m rows t ≡ Some g → f ≡ g) → f ≡ g
    go (on t) x y rest = rest t x y
    go (ends e) x y rest = sym (same_Some e f x) ∙ same_Some e g y

pub one_end : (rows : List PlacedRow) (s : Stand) (f g : Found) → Ends rows s f → Ends rows s g → f ≡ g
one_end rows s f g a b = one_walk a.0 b.0 rows s f g a.1 b.1

pub not_endless : (rows : List PlacedRow) (s : Stand) (f : Found) → Ends rows s f → Endless rows s → ⊥
not_endless rows s f a w = none-some f (sym (w a.0) ∙ a.1)

-- ---- what stands at an end

-- the first row of the id opened a stream
abbrev pub IsOpened : List PlaceTree → Type 0
IsOpened [] = ⊥
IsOpened (t ∷ ts) = (flow : _) × (t.kind ≡ row.Open flow)

abbrev pub IsReached : List PlacedRow → Found → Type 0
IsReached rows (found s) = StopsAt rows s
IsReached rows (stream id) = IsOpened (rows_of id rows)
IsReached rows (not_yet id path) = rows_of id rows ≡ []
IsReached rows nowhere = Unit {0}

abbrev pub IsReachedBy : List PlacedRow → Turn → Type 0
IsReachedBy rows (on s) = Unit {0}
IsReachedBy rows (ends f) = IsReached rows f

reached_stream : (rows : List PlacedRow) (id : ℕ) (path : Path) → IsOpened (rows_of id rows) → IsReached rows (end_at_stream id path)
reached_stream rows id [] opened = opened
reached_stream rows id (name ∷ path) opened = tt

reached_row : (rows : List PlacedRow) (id : ℕ) (kind : RowKind) (t : PlaceTree) (ts : List PlaceTree) (path : Path) → rows_of id rows ≡ t ∷ ts → t.kind ≡ kind → IsReachedBy rows (enter id kind path)
reached_row rows id (row.Open flow) t ts path e k = reached_stream rows id path (subst IsOpened (sym e) (flow, k))
reached_row rows id row.Model t ts path e k = tt
reached_row rows id row.Import t ts path e k = tt
reached_row rows id row.Error t ts path e k = tt
reached_row rows id row.Text t ts path e k = tt
reached_row rows id row.Close t ts path e k = tt

reached_down : (rows : List PlacedRow) (s : Spot) (o : Option ℕ) (path : Path) → IsReachedBy rows (go_down s o path)
reached_down rows s None path = tt
reached_down rows s (Some at) path = tt

reached_on : (rows : List PlacedRow) (s : Spot) (at : Place) (path : Path) → place_at rows s ≡ Some at → IsStop at → IsReachedBy rows (go_on s at path)
reached_on rows s at [] e stop = (at, e, stop)
reached_on rows s (place.Atom (atom.Failed digest)) (name ∷ path) e stop = (place.Atom (atom.Failed digest), e, stop)
reached_on rows s at (name ∷ path) e stop = reached_down rows s (step at name) path

reached_from : (rows : List PlacedRow) (s : Spot) (o : Option Place) (path : Path) → place_at rows s ≡ o → IsReachedBy rows (go_from s o path)
reached_from rows s None path e = tt
reached_from rows s (Some (place.Lazy id)) path e = tt
reached_from rows s (Some (place.Value at)) path e = tt
reached_from rows s (Some at) path e = reached_on rows s at path e tt

pub reached_turn : (rows : List PlacedRow) (s : Stand) → IsReachedBy rows (turn rows s)
reached_turn rows (to id path) = go (rows_of id rows) refl
  where
    go : (ts : List PlaceTree) → rows_of id rows ≡ ts → IsReachedBy rows (go_to id ts path)
    go [] e = e
    go (t ∷ ts) e = reached_row rows id t.kind t ts path e refl
reached_turn rows (here s path) = reached_from rows s (place_at rows s) path refl

pub reached_by : (n : ℕ) (rows : List PlacedRow) (s : Stand) (f : Found) → walk_by n rows s ≡ Some f → IsReached rows f
reached_by zero rows s f h = absurd (none-some f h)
reached_by (suc n) rows s f h = go (turn rows s) (reached_turn rows s) h (λ t. reached_by n rows t f)
  where
    go : (t : Turn) → IsReachedBy rows t → after_turn (walk_by n rows) t ≡ Some f → ((t : Stand) → walk_by n rows t ≡ Some f → IsReached rows f) → IsReached rows f
    go (on t) r x rest = rest t x
    go (ends e) r x rest = subst (IsReached rows) (same_Some e f x) r

-- an end at a place is at one that is there, and is no lazy and no value reference
pub found_stops : (rows : List PlacedRow) (s : Stand) (t : Spot) → Ends rows s (found t) → StopsAt rows t
found_stops rows s t w = reached_by w.0 rows s (found t) w.1

pub not_yet_absent : (rows : List PlacedRow) (s : Stand) (id : ℕ) (path : Path) → Ends rows s (not_yet id path) → rows_of id rows ≡ []
not_yet_absent rows s id path w = reached_by w.0 rows s (not_yet id path) w.1

pub stream_opened : (rows : List PlacedRow) (s : Stand) (id : ℕ) → Ends rows s (stream id) → IsOpened (rows_of id rows)
stream_opened rows s id w = reached_by w.0 rows s (stream id) w.1

-- where the walk ends it ends at once, without a step left
pub stop_turn : (rows : List PlacedRow) (s : Spot) → StopsAt rows s → turn rows (here s []) ≡ ends (found s)
stop_turn rows s w = go w.0 w.1 w.2
  where
    go : (at : Place) → place_at rows s ≡ Some at → IsStop at → turn rows (here s []) ≡ ends (found s)
    go (place.Lazy id) e stop = absurd stop
    go (place.Value at) e stop = absurd stop
    go at e stop = ap (λ o. go_from s o []) e

-- a place that an end stands at is its own end
pub found_again : (rows : List PlacedRow) (s : Stand) (t : Spot) → Ends rows s (found t) → Ends rows (here t []) (found t)
found_again rows s t w = turn_ends rows (here t []) (found t) (stop_turn rows t (found_stops rows s t w))
