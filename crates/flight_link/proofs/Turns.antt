-- Turns one after another, and what more names change.
use Rattle.std.proofs.Common.{◌≡◌, ℕ, zero, suc, List, [], ◌∷◌, ◌++◌, Option, Some, None, refl, sym, ◌∙◌, ap, subst, append_assoc}
use Rattle.std.proofs.lemmas.List.{append-nil}
use Rattle.flight_value.specs.declared.graph.Atom.TheVariants as atom
use Rattle.flight_row.specs.declared.row.RowKind.{RowKind}
use Rattle.flight_row.specs.declared.row.RowKind.TheVariants as row
use Rattle.flight_meaning.specs.declared.place.Place.{Place}
use Rattle.flight_meaning.specs.declared.place.Place.TheVariants as place
use Rattle.flight_meaning.specs.declared.place.PlaceTree.{PlaceTree}
use Rattle.flight_meaning.specs.declared.place.PlacedRow.{PlacedRow}
use Rattle.flight_meaning.specs.Linked.{rows_of, Spot, place_at}
use Rattle.flight_meaning.specs.Resolve.{Path, step, Stand, to, here, Found, found, not_yet, nowhere, Turn, on, ends, enter, go_to, go_down, go_on, go_from, turn}
use Rattle.flight_link.specs.Nodes.{ComeBy, Come, IsThere, Reaches, with_path}

-- ---- turns

-- a turn goes on or ends
abbrev pub to_turn : Turn → Stand → Stand
to_turn (on t) s = t
to_turn (ends f) s = s

pub on_ends : {A : Type 0} (t : Stand) (f : Found) → on t ≡ ends f → A
on_ends t f e = cc

pub same_on : (t u : Stand) → on t ≡ on u → t ≡ u
same_on t u e = cc

pub same_ends : (f g : Found) → ends f ≡ ends g → f ≡ g
same_ends f g e = cc

-- ---- more names

-- a turn with more names to go
abbrev pub turn_with : Turn → Path → Turn
turn_with (on t) q = on (with_path t q)
turn_with (ends (not_yet id p)) q = ends (not_yet id (p ++ q))
turn_with (ends f) q = ends f

-- turns that go on, or end where no row is yet, do so with more names
abbrev pub GoesOn : Turn → Type 0
GoesOn (on t) = Unit {0}
GoesOn (ends (not_yet id p)) = Unit {0}
GoesOn (ends f) = ⊥

enter_with : (id : ℕ) (kind : RowKind) (p q : Path) → GoesOn (enter id kind p) → enter id kind (p ++ q) ≡ turn_with (enter id kind p) q
enter_with id (row.Open flow) [] q h = absurd h
enter_with id (row.Open flow) (name ∷ p) q h = absurd h
enter_with id row.Model p q h = refl
enter_with id row.Import p q h = refl
enter_with id row.Error p q h = refl
enter_with id row.Text p q h = refl
enter_with id row.Close p q h = refl

to_with : (id : ℕ) (ts : List PlaceTree) (p q : Path) → GoesOn (go_to id ts p) → go_to id ts (p ++ q) ≡ turn_with (go_to id ts p) q
to_with id [] p q h = refl
to_with id (t ∷ ts) p q h = enter_with id t.kind p q h

down_with : (s : Spot) (o : Option ℕ) (p q : Path) → GoesOn (go_down s o p) → go_down s o (p ++ q) ≡ turn_with (go_down s o p) q
down_with s None p q h = absurd h
down_with s (Some n) p q h = refl

on_with : (s : Spot) (at : Place) (p q : Path) → GoesOn (go_on s at p) → go_on s at (p ++ q) ≡ turn_with (go_on s at p) q
on_with s at [] q h = absurd h
on_with s (place.Atom (atom.Failed digest)) (name ∷ p) q h = absurd h
on_with s at (name ∷ p) q h = down_with s (step at name) p q h

from_with : (s : Spot) (o : Option Place) (p q : Path) → GoesOn (go_from s o p) → go_from s o (p ++ q) ≡ turn_with (go_from s o p) q
from_with s None p q h = absurd h
from_with s (Some (place.Lazy id)) p q h = refl
from_with s (Some (place.Value at)) p q h = ap (λ x. on (to at.id x)) (sym (append_assoc at.path p q))
from_with s (Some at) p q h = on_with s at p q h

pub turn_more : (rows : List PlacedRow) (s : Stand) (q : Path) → GoesOn (turn rows s) → turn rows (with_path s q) ≡ turn_with (turn rows s) q
turn_more rows (to id p) q h = to_with id (rows_of id rows) p q h
turn_more rows (here s p) q h = from_with s (place_at rows s) p q h

pub turn_on : (rows : List PlacedRow) (s t : Stand) (q : Path) → turn rows s ≡ on t → turn rows (with_path s q) ≡ on (with_path t q)
turn_on rows s t q e = turn_more rows s q (subst GoesOn (sym e) tt) ∙ ap (λ x. turn_with x q) e

pub turn_not_yet : (rows : List PlacedRow) (s : Stand) (id : ℕ) (p q : Path) → turn rows s ≡ ends (not_yet id p) → turn rows (with_path s q) ≡ ends (not_yet id (p ++ q))
turn_not_yet rows s id p q e = turn_more rows s q (subst GoesOn (sym e) tt) ∙ ap (λ x. turn_with x q) e

-- with more names, a walk that leads nowhere leads nowhere
abbrev IsNowhere : Turn → Type 0
IsNowhere (ends nowhere) = Unit {0}
IsNowhere t = ⊥

enter_lost : (id : ℕ) (kind : RowKind) (p q : Path) → IsNowhere (enter id kind p) → enter id kind (p ++ q) ≡ ends nowhere
enter_lost id (row.Open flow) [] q h = absurd h
enter_lost id (row.Open flow) (name ∷ p) q h = refl
enter_lost id row.Model p q h = absurd h
enter_lost id row.Import p q h = absurd h
enter_lost id row.Error p q h = absurd h
enter_lost id row.Text p q h = absurd h
enter_lost id row.Close p q h = absurd h

to_lost : (id : ℕ) (ts : List PlaceTree) (p q : Path) → IsNowhere (go_to id ts p) → go_to id ts (p ++ q) ≡ ends nowhere
to_lost id [] p q h = absurd h
to_lost id (t ∷ ts) p q h = enter_lost id t.kind p q h

down_lost : (s : Spot) (o : Option ℕ) (p q : Path) → IsNowhere (go_down s o p) → go_down s o (p ++ q) ≡ ends nowhere
down_lost s None p q h = refl
down_lost s (Some n) p q h = absurd h

on_lost : (s : Spot) (at : Place) (p q : Path) → IsNowhere (go_on s at p) → go_on s at (p ++ q) ≡ ends nowhere
on_lost s at [] q h = absurd h
on_lost s (place.Atom (atom.Failed digest)) (name ∷ p) q h = absurd h
on_lost s at (name ∷ p) q h = down_lost s (step at name) p q h

from_lost : (s : Spot) (o : Option Place) (p q : Path) → IsNowhere (go_from s o p) → go_from s o (p ++ q) ≡ ends nowhere
from_lost s None p q h = refl
from_lost s (Some (place.Lazy id)) p q h = absurd h
from_lost s (Some (place.Value at)) p q h = absurd h
from_lost s (Some at) p q h = on_lost s at p q h

pub turn_lost : (rows : List PlacedRow) (s : Stand) (q : Path) → turn rows s ≡ ends nowhere → turn rows (with_path s q) ≡ ends nowhere
turn_lost rows (to id p) q e = to_lost id (rows_of id rows) p q (subst IsNowhere (sym e) tt)
turn_lost rows (here s p) q e = from_lost s (place_at rows s) p q (subst IsNowhere (sym e) tt)

-- with more names, a walk that ends at a place goes on from there as from its beginning
abbrev IsAt : Spot → Turn → Type 0
IsAt s (ends (found t)) = s ≡ t
IsAt s t = ⊥

enter_not : {A : Type 0} (s : Spot) (id : ℕ) (kind : RowKind) (p : Path) → IsAt s (enter id kind p) → A
enter_not s id (row.Open flow) [] h = absurd h
enter_not s id (row.Open flow) (name ∷ p) h = absurd h
enter_not s id row.Model p h = absurd h
enter_not s id row.Import p h = absurd h
enter_not s id row.Error p h = absurd h
enter_not s id row.Text p h = absurd h
enter_not s id row.Close p h = absurd h

to_not : {A : Type 0} (s : Spot) (id : ℕ) (ts : List PlaceTree) (p : Path) → IsAt s (go_to id ts p) → A
to_not s id [] p h = absurd h
to_not s id (t ∷ ts) p h = enter_not s id t.kind p h

down_not : {A : Type 0} (e s : Spot) (o : Option ℕ) (p : Path) → IsAt e (go_down s o p) → A
down_not e s None p h = absurd h
down_not e s (Some n) p h = absurd h

on_ended : (e s : Spot) (at : Place) (p q : Path) → IsAt e (go_on s at p) → (e ≡ s) × (go_on s at (p ++ q) ≡ go_on s at q)
on_ended e s at [] q h = (h, refl)
on_ended e s (place.Atom (atom.Failed digest)) (name ∷ p) [] h = (h, refl)
on_ended e s (place.Atom (atom.Failed digest)) (name ∷ p) (n ∷ q) h = (h, refl)
on_ended e s at (name ∷ p) q h = down_not e s (step at name) p h

from_ended : (e s : Spot) (o : Option Place) (p q : Path) → IsAt e (go_from s o p) → (e ≡ s) × (go_from s o (p ++ q) ≡ go_from s o q)
from_ended e s None p q h = absurd h
from_ended e s (Some (place.Lazy id)) p q h = absurd h
from_ended e s (Some (place.Value at)) p q h = absurd h
from_ended e s (Some at) p q h = on_ended e s at p q h

pub turn_ended : (rows : List PlacedRow) (s : Stand) (e : Spot) (q : Path) → turn rows s ≡ ends (found e) → turn rows (with_path s q) ≡ turn rows (here e q)
turn_ended rows (to id p) e q h = to_not e id (rows_of id rows) p (subst (IsAt e) (sym h) refl)
turn_ended rows (here s p) e q h =
    let r = from_ended e s (place_at rows s) p q (subst (IsAt e) (sym h) refl) in
    r.1 ∙ ap (λ x. turn rows (here x q)) (sym r.0)

-- ---- turns one after another

pub come_more : (n : ℕ) (rows : List PlacedRow) (s t : Stand) (q : Path) → ComeBy n rows s t → ComeBy n rows (with_path s q) (with_path t q)
come_more zero rows s t q e = ap (λ x. with_path x q) e
come_more (suc n) rows s t q w = (with_path w.0 q, turn_on rows s w.0 q w.1, come_more n rows w.0 t q w.2)

pub come_then : (n m : ℕ) (rows : List PlacedRow) (s t u : Stand) → ComeBy n rows s t → ComeBy m rows t u → Come rows s u
come_then zero m rows s t u a b = (m, subst (λ x. ComeBy m rows x u) (sym a) b)
come_then (suc n) m rows s t u a b =
    let r = come_then n m rows a.0 t u a.2 b in
    (suc r.0, (a.0, a.1, r.1))

pub come_on : (rows : List PlacedRow) (s t u : Stand) → Come rows s t → Come rows t u → Come rows s u
come_on rows s t u a b = come_then a.0 b.0 rows s t u a.1 b.1

pub come_here : (rows : List PlacedRow) (s : Stand) → Come rows s s
come_here rows s = (0, refl)

pub come_by_turn : (rows : List PlacedRow) (s t : Stand) → turn rows s ≡ on t → Come rows s t
come_by_turn rows s t e = (1, (t, e, refl))

pub come_with : (rows : List PlacedRow) (s t : Stand) (q : Path) → Come rows s t → Come rows (with_path s q) (with_path t q)
come_with rows s t q a = (a.0, come_more a.0 rows s t q a.1)

pub with_nothing : (s : Stand) → with_path s [] ≡ s
with_nothing (to id p) = ap (to id) (append-nil p)
with_nothing (here s p) = ap (here s) (append-nil p)

pub with_twice : (s : Stand) (p q : Path) → with_path (with_path s p) q ≡ with_path s (p ++ q)
with_twice (to id r) p q = ap (to id) (append_assoc r p q)
with_twice (here s r) p q = ap (here s) (append_assoc r p q)

-- ---- reaching a last turn

pub there_with : (rows : List PlacedRow) (s : Stand) (q : Path) → IsThere rows s → IsThere rows (with_path s q)
there_with rows (to id p) q h = h
there_with rows (here s p) q h = h

pub reaches_from : (rows : List PlacedRow) (s t : Stand) (last : Turn) → Come rows s t → Reaches rows t last → Reaches rows s last
reaches_from rows s t last a r = record { by = r.by; come = come_on rows s t r.by a r.come; there = r.there; is_turn = r.is_turn }

pub reaches_come : (rows : List PlacedRow) (s t : Stand) → Reaches rows s (on t) → Come rows s t
reaches_come rows s t r = come_on rows s r.by t r.come (come_by_turn rows r.by t r.is_turn)

pub reaches_lost : (rows : List PlacedRow) (s : Stand) (q : Path) → Reaches rows s (ends nowhere) → Reaches rows (with_path s q) (ends nowhere)
reaches_lost rows s q r = record { by = with_path r.by q; come = come_with rows s r.by q r.come; there = there_with rows r.by q r.there; is_turn = turn_lost rows r.by q r.is_turn }

pub reaches_ended : (rows : List PlacedRow) (s : Stand) (e : Spot) (q : Path) → Reaches rows s (ends (found e)) → Reaches rows (with_path s q) (turn rows (here e q))
reaches_ended rows s e q r = record { by = with_path r.by q; come = come_with rows s r.by q r.come; there = there_with rows r.by q r.there; is_turn = turn_ended rows r.by e q r.is_turn }
