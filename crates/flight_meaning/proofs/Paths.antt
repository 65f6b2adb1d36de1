-- Walks with more steps: they go where the walk with fewer steps goes, and on from its end.
use Rattle.std.proofs.Common.{◌≡◌, ℕ, zero, suc, ◌≤◌, List, [], ◌∷◌, ◌++◌, append_assoc, Option, Some, None, refl, sym, ap, ◌∙◌, subst, arith}
use Rattle.std.proofs.lemmas.Option.{none-some, same_Some}
use Rattle.flight_value.specs.declared.graph.Atom.TheVariants as atom
use Rattle.flight_row.specs.declared.row.RowKind.{RowKind}
use Rattle.flight_row.specs.declared.row.RowKind.TheVariants as row
use Rattle.flight_meaning.specs.declared.place.Place.{Place}
use Rattle.flight_meaning.specs.declared.place.Place.TheVariants as place
use Rattle.flight_meaning.specs.declared.place.PlaceTree.{PlaceTree}
use Rattle.flight_text.specs.declared.mark.Ref.{Ref}
use Rattle.flight_meaning.specs.declared.place.PlacedRow.{PlacedRow}
use Rattle.flight_meaning.specs.Linked.{rows_of, Spot, place_at, first_place}
use Rattle.flight_meaning.specs.Resolve.{Path, step, Stand, to, here, Found, found, stream, not_yet, nowhere, Turn, on, ends, end_at_stream, enter, go_to, go_down, go_on, go_from, turn, after_turn, walk_by, Ends, Endless}
use Rattle.flight_meaning.proofs.Walking.{EndsAfter, EndlessAfter, IsOpened, turn_back, ends_back, one_walk, within_turns}

-- the stand with more steps behind its own
abbrev pub longer : Stand → Path → Stand
longer (to id path) more = to id (path ++ more)
longer (here s path) more = here s (path ++ more)

-- Where a walk goes on with more steps, by where it ended without them. From a place it goes on; a failure ends it there
-- again. A stream has no steps.
abbrev pub onward : Found → Path → Turn
onward (found s) more = on (here s more)
onward (stream id) more = ends (end_at_stream id more)
onward (not_yet id path) more = ends (not_yet id (path ++ more))
onward nowhere more = ends nowhere

-- the turn with more steps, by the turn without them
abbrev pub turned : List PlacedRow → Turn → Path → Turn
turned rows (on s) more = on (longer s more)
turned rows (ends (found s)) more = turn rows (here s more)
turned rows (ends (stream id)) more = ends (end_at_stream id more)
turned rows (ends (not_yet id path)) more = ends (not_yet id (path ++ more))
turned rows (ends nowhere) more = ends nowhere

-- ---- one turn

turned_stream : (rows : List PlacedRow) (id : ℕ) (path more : Path) → ends (end_at_stream id (path ++ more)) ≡ turned rows (ends (end_at_stream id path)) more
turned_stream rows id [] more = refl
turned_stream rows id (name ∷ path) more = refl

turned_row : (rows : List PlacedRow) (id : ℕ) (kind : RowKind) (path more : Path) → enter id kind (path ++ more) ≡ turned rows (enter id kind path) more
turned_row rows id (row.Open flow) path more = turned_stream rows id path more
turned_row rows id row.Model path more = refl
turned_row rows id row.Import path more = refl
turned_row rows id row.Error path more = refl
turned_row rows id row.Text path more = refl
turned_row rows id row.Close path more = refl

turned_down : (rows : List PlacedRow) (s : Spot) (o : Option ℕ) (path more : Path) → go_down s o (path ++ more) ≡ turned rows (go_down s o path) more
turned_down rows s None path more = refl
turned_down rows s (Some at) path more = refl

-- a failure ends each walk where it is met
failed_turn : (s : Spot) (digest : List ℕ) (path : Path) → go_on s (place.Atom (atom.Failed digest)) path ≡ ends (found s)
failed_turn s digest [] = refl
failed_turn s digest (name ∷ path) = refl

turned_from : (rows : List PlacedRow) (s : Spot) (o : Option Place) (path more : Path) → place_at rows s ≡ o → go_from s o (path ++ more) ≡ turned rows (go_from s o path) more
turned_from rows s None path more e = refl
turned_from rows s (Some (place.Lazy id)) path more e = refl
turned_from rows s (Some (place.Value at)) path more e = ap (λ p. on (to at.id p)) (sym (append_assoc at.path path more))
turned_from rows s (Some at) [] more e = sym (ap (λ o. go_from s o more) e)
turned_from rows s (Some (place.Atom (atom.Failed digest))) (name ∷ path) more e =
    sym (ap (λ o. go_from s o more) e ∙ failed_turn s digest more)
turned_from rows s (Some at) (name ∷ path) more e = turned_down rows s (step at name) path more

pub turn-longer : (rows : List PlacedRow) (s : Stand) (more : Path) → turn rows (longer s more) ≡ turned rows (turn rows s) more
turn-longer rows (to id path) more = go (rows_of id rows)
  where
    go : (ts : List PlaceTree) → go_to id ts (path ++ more) ≡ turned rows (go_to id ts path) more
    go [] = refl
    go (t ∷ ts) = turned_row rows id t.kind path more
turn-longer rows (here s path) more = turned_from rows s (place_at rows s) path more refl

-- ---- the walk with more steps, from the end of the walk without them

-- from an end of the walk without them, and on
pub longer_by : (n : ℕ) (rows : List PlacedRow) (s : Stand) (more : Path) (f g : Found) → walk_by n rows s ≡ Some f → EndsAfter rows (onward f more) g → Ends rows (longer s more) g
longer_by zero rows s more f g h w = absurd (none-some f h)
longer_by (suc n) rows s more f g h w =
    go (turn rows s) (turn-longer rows s more) h (λ t. longer_by n rows t more f g)
  where
    last : (e : Found) → turn rows (longer s more) ≡ turned rows (ends e) more → EndsAfter rows (onward e more) g → Ends rows (longer s more) g
    last (found t) turns (zero, x) = absurd (none-some g x)
    last (found t) turns (suc k, x) = (suc k, ap (after_turn (walk_by k rows)) turns ∙ x)
    last (stream id) turns x = (suc x.0, ap (after_turn (walk_by x.0 rows)) turns ∙ x.1)
    last (not_yet id path) turns x = (suc x.0, ap (after_turn (walk_by x.0 rows)) turns ∙ x.1)
    last nowhere turns x = (suc x.0, ap (after_turn (walk_by x.0 rows)) turns ∙ x.1)

    go : (t : Turn) → turn rows (longer s more) ≡ turned rows t more → after_turn (walk_by n rows) t ≡ Some f → ((t : Stand) → walk_by n rows t ≡ Some f → EndsAfter rows (onward f more) g → Ends rows (longer t more) g) → Ends rows (longer s more) g
    go (on t) turns x rest = ends_back rows (longer s more) (longer t more) turns g (rest t x w)
    go (ends e) turns x rest = last e turns (subst (λ z. EndsAfter rows (onward z more) g) (sym (same_Some e f x)) w)

pub ends-longer : (rows : List PlacedRow) (s : Stand) (more : Path) (f g : Found) → Ends rows s f → EndsAfter rows (onward f more) g → Ends rows (longer s more) g
ends-longer rows s more f g a w = longer_by a.0 rows s more f g a.1 w

-- ---- and back

-- the walk without them ended within so many turns, and from there on it takes no more than so many
pub record HasFront (n : ℕ) (rows : List PlacedRow) (s : Stand) (more : Path) (g : Found) : Type 0 where
  pub turns : ℕ
  pub within : turns ≤ n
  pub front : Found
  pub walks : walk_by turns rows s ≡ Some front
  pub rest : after_turn (walk_by n rows) (onward front more) ≡ Some g

after_more : (n : ℕ) (rows : List PlacedRow) (t : Turn) (g : Found) → after_turn (walk_by n rows) t ≡ Some g → after_turn (walk_by (suc n) rows) t ≡ Some g
after_more n rows (on s) g h = within_turns n (suc n) rows s g (omega arith) h
after_more n rows (ends f) g h = h

pub front_by : (n : ℕ) (rows : List PlacedRow) (s : Stand) (more : Path) (g : Found) → walk_by n rows (longer s more) ≡ Some g → HasFront n rows s more g
front_by zero rows s more g h = absurd (none-some g h)
front_by (suc n) rows s more g h =
    go (turn rows s) refl (sym (ap (after_turn (walk_by n rows)) (turn-longer rows s more)) ∙ h) (λ t. front_by n rows t more g)
  where
    first : (e : Found) → turn rows s ≡ ends e → after_turn (walk_by (suc n) rows) (onward e more) ≡ Some g → HasFront (suc n) rows s more g
    first e turns x = record { turns = 1; within = omega arith; front = e; walks = ap (after_turn (walk_by 0 rows)) turns; rest = x }

    last : (e : Found) → turn rows s ≡ ends e → after_turn (walk_by n rows) (turned rows (ends e) more) ≡ Some g → HasFront (suc n) rows s more g
    last (found t) turns x = first (found t) turns x
    last (stream id) turns x = first (stream id) turns x
    last (not_yet id path) turns x = first (not_yet id path) turns x
    last nowhere turns x = first nowhere turns x

    go : (t : Turn) → turn rows s ≡ t → after_turn (walk_by n rows) (turned rows t more) ≡ Some g → ((t : Stand) → walk_by n rows (longer t more) ≡ Some g → HasFront n rows t more g) → HasFront (suc n) rows s more g
    go (on t) turns x rest =
        let r = rest t x in
        let most : r.turns ≤ n = r.within in
        record {
          turns = suc r.turns;
          within = omega (arith, most);
          front = r.front;
          walks = turn_back rows s t turns r.turns r.front r.walks;
          rest = after_more n rows (onward r.front more) g r.rest;
        }
    go (ends e) turns x rest = last e turns x

-- what never ends, never ends with more steps
pub endless-longer : (rows : List PlacedRow) (s : Stand) (more : Path) → Endless rows s → Endless rows (longer s more)
endless-longer rows s more w n = go (walk_by n rows (longer s more)) refl
  where
    go : (o : Option Found) → walk_by n rows (longer s more) ≡ o → o ≡ None
    go None e = refl
    go (Some g) e =
        let r = front_by n rows s more g e in
        absurd (none-some r.front (sym (w r.turns) ∙ r.walks))

-- and so does what never ends from the end without them
pub endless-onward : (rows : List PlacedRow) (s : Stand) (more : Path) (f : Found) → Ends rows s f → EndlessAfter rows (onward f more) → Endless rows (longer s more)
endless-onward rows s more f a w n = go (walk_by n rows (longer s more)) refl
  where
    go : (o : Option Found) → walk_by n rows (longer s more) ≡ o → o ≡ None
    go None e = refl
    go (Some g) e =
        let r = front_by n rows s more g e in
        let same : r.front ≡ f = one_walk r.turns a.0 rows s r.front f r.walks a.1 in
        absurd (none-some g (sym (w n) ∙ subst (λ z. after_turn (walk_by n rows) (onward z more) ≡ Some g) same r.rest))

-- the end with more steps, by the end without them
pub ends-onward : (rows : List PlacedRow) (s : Stand) (more : Path) (f g : Found) → Ends rows s f → Ends rows (longer s more) g → EndsAfter rows (onward f more) g
ends-onward rows s more f g a w =
    let r = front_by w.0 rows s more g w.1 in
    let same : r.front ≡ f = one_walk r.turns a.0 rows s r.front f r.walks a.1 in
    (w.0, subst (λ z. after_turn (walk_by w.0 rows) (onward z more) ≡ Some g) same r.rest)

-- ---- turns by what stands there

pub lazy_turn : (rows : List PlacedRow) (s : Spot) (id : ℕ) (path : Path) → place_at rows s ≡ Some (place.Lazy id) → turn rows (here s path) ≡ on (to id path)
lazy_turn rows s id path e = ap (λ o. go_from s o path) e

pub value_turn : (rows : List PlacedRow) (s : Spot) (at : Ref) (path : Path) → place_at rows s ≡ Some (place.Value at) → turn rows (here s path) ≡ on (to at.id (at.path ++ path))
value_turn rows s at path e = ap (λ o. go_from s o path) e

pub failed_there : (rows : List PlacedRow) (s : Spot) (digest : List ℕ) (path : Path) → place_at rows s ≡ Some (place.Atom (atom.Failed digest)) → turn rows (here s path) ≡ ends (found s)
failed_there rows s digest path e = ap (λ o. go_from s o path) e ∙ failed_turn s digest path

pub empty_turn : (rows : List PlacedRow) (s : Spot) (path : Path) → place_at rows s ≡ None → turn rows (here s path) ≡ ends nowhere
empty_turn rows s path e = ap (λ o. go_from s o path) e

pub absent_turn : (rows : List PlacedRow) (id : ℕ) (path : Path) → rows_of id rows ≡ [] → turn rows (to id path) ≡ ends (not_yet id path)
absent_turn rows id path e = ap (λ ts. go_to id ts path) e

pub opened_turn : (rows : List PlacedRow) (id : ℕ) (path : Path) → IsOpened (rows_of id rows) → turn rows (to id path) ≡ ends (end_at_stream id path)
opened_turn rows id path opened = go (rows_of id rows) opened
  where
    go : (ts : List PlaceTree) → IsOpened ts → go_to id ts path ≡ ends (end_at_stream id path)
    go [] o = absurd o
    go (t ∷ ts) o = ap (λ k. enter id k path) o.1

-- a row of this kind opens no stream
abbrev pub IsEnteredKind : RowKind → Type 0
IsEnteredKind (row.Open flow) = ⊥
IsEnteredKind kind = Unit {0}

-- there is a first row of the id, and it opens no stream
abbrev pub IsEntered : List PlaceTree → Type 0
IsEntered [] = ⊥
IsEntered (t ∷ ts) = IsEnteredKind t.kind

pub entered_turn : (rows : List PlacedRow) (id : ℕ) (path : Path) → IsEntered (rows_of id rows) → turn rows (to id path) ≡ on (here (first_place id) path)
entered_turn rows id path entered = go (rows_of id rows) entered
  where
    kind : (k : RowKind) → IsEnteredKind k → enter id k path ≡ on (here (first_place id) path)
    kind (row.Open flow) e = absurd e
    kind k e = refl

    go : (ts : List PlaceTree) → IsEntered ts → go_to id ts path ≡ on (here (first_place id) path)
    go [] e = absurd e
    go (t ∷ ts) e = kind t.kind e

-- a step from a place that is no lazy, no value reference and no failure
abbrev pub IsSteady : Place → Type 0
IsSteady (place.Lazy id) = ⊥
IsSteady (place.Value at) = ⊥
IsSteady (place.Atom (atom.Failed digest)) = ⊥
IsSteady at = Unit {0}

pub step_turn : (rows : List PlacedRow) (s : Spot) (at : Place) (name : List ℕ) (path : Path) → place_at rows s ≡ Some at → IsSteady at → turn rows (here s (name ∷ path)) ≡ go_down s (step at name) path
step_turn rows s at name path e steady = ap (λ o. go_from s o (name ∷ path)) e ∙ go at steady
  where
    go : (at : Place) → IsSteady at → go_from s (Some at) (name ∷ path) ≡ go_down s (step at name) path
    go (place.Lazy id) steady = absurd steady
    go (place.Value at) steady = absurd steady
    go (place.Atom (atom.Failed digest)) steady = absurd steady
    go at steady = refl
