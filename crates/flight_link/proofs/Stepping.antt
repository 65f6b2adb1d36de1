-- Single steps from the places of a table.
use Rattle.std.proofs.Common.{◌≡◌, ℕ, suc, ◌<◌, Bool, true, false, List, [], ◌∷◌, length, Option, Some, None, option_and_then, slice_get, refl, sym, ◌∙◌, ap, subst}
use Rattle.std.specs.Prelude.{All, if◌then◌else◌, codes}
use Rattle.std.specs.Fmt.{decimal}
use Rattle.std.specs.Str.{bytes_eq}
use Rattle.std.proofs.lemmas.Bool.{false≢true}
use Rattle.std.proofs.lemmas.List.Elements.{All-head, All-tail}
use Rattle.std.proofs.lemmas.Option.{none-some, same_Some, slice_get_within, slice_get-get_or, get_or_from_slice_get}
use Rattle.flight_value.specs.declared.graph.Atom.TheVariants as atom
use Rattle.flight_meaning.specs.declared.place.Place.{Place}
use Rattle.flight_meaning.specs.declared.place.Place.TheVariants as place
use Rattle.flight_meaning.specs.declared.place.Named.{Named}
use Rattle.flight_meaning.specs.declared.place.PlacedRow.{PlacedRow}
use Rattle.flight_place.specs.Parts.{IsWithin, HasOrder}
use Rattle.flight_meaning.specs.Resolve.{Path, step, item_from, property, part, here, found, on, ends, go_down, go_from, turn}
use Rattle.flight_meaning.proofs.Paths.{IsSteady, step_turn}
use Rattle.flight_link.specs.declared.found.Spot.{Spot}
use Rattle.flight_link.specs.declared.node.Start.{Start}
use Rattle.flight_link.specs.declared.node.Start.TheVariants.{Place as AtPlace}
use Rattle.flight_link.specs.declared.table.Table.{Table}
use Rattle.flight_link.specs.declared.table.Step.TheVariants.{Stops, Leaves, To, Meets}
use Rattle.flight_link.specs.Nodes.{IsPlain, IsFine, place_in, spot_of, followed, fails, IsTable, IsStop, IsStep, IsNodeAt, IsIndexed, node_in}
use Rattle.flight_link.proofs.PlainRows.{row_there, place_there}

-- ---- lists

pub at_all : {A : Type 0} (P : A → Type 0) (xs : List A) (i : ℕ) (x : A) → All P xs → slice_get xs i ≡ Some x → P x
at_all P xs i x all e = subst P (get_or_from_slice_get xs i x x e) (all i x (slice_get_within xs i x e))

-- ---- numbers in a place

picked : (P : ℕ → Type 0) (b : Bool) (q n : ℕ) (o : Option ℕ) → P q → (o ≡ Some n → P n) → (if b then Some q else o) ≡ Some n → P n
picked P true q n o h k e = subst P (same_Some q n e) h
picked P false q n o h k e = k e

item_within : (total k : ℕ) (qs : List ℕ) (name : List ℕ) (n : ℕ) → All (λ q. q < total) qs → item_from k qs name ≡ Some n → n < total
item_within total k [] name n all e = absurd (none-some n e)
item_within total k (q ∷ qs) name n all e =
    picked (λ m. m < total) (bytes_eq (decimal k) name) q n (item_from (suc k) qs name) (All-head (λ m. m < total) q qs all)
    (item_within total (suc k) qs name n (All-tail (λ m. m < total) q qs all)) e

pub property_within : (total : ℕ) (ps : List Named) (name : List ℕ) (n : ℕ) → All (λ (p : Named). p.place < total) ps → property ps name ≡ Some n → n < total
property_within total [] name n all e = absurd (none-some n e)
property_within total (p ∷ ps) name n all e =
    picked (λ m. m < total) (bytes_eq p.name name) p.place n (property ps name) (All-head (λ (p : Named). p.place < total) p ps all)
    (property_within total ps name n (All-tail (λ (p : Named). p.place < total) p ps all)) e

part_within : (total tag key props : ℕ) (name : List ℕ) (n : ℕ) → tag < total → key < total → props < total → part tag key props name ≡ Some n → n < total
part_within total tag key props name n a b c e =
    picked (λ m. m < total) (bytes_eq name (codes "type")) tag n _ a
    (picked (λ m. m < total) (bytes_eq name (codes "key")) key n _ b
    (picked (λ m. m < total) (bytes_eq name (codes "props")) props n None c (λ h. absurd (none-some n h)))) e

pub step_within : (total : ℕ) (at : Place) (name : List ℕ) (n : ℕ) → IsWithin total at → step at name ≡ Some n → n < total
step_within total (place.Array numbers) name n w e = item_within total 0 numbers name n w e
step_within total (place.Object props) name n w e = property_within total props name n w e
step_within total (place.Element tag key props) name n w e = part_within total tag key props name n w.0 w.1 w.2 e
step_within total at name n w e = absurd (none-some n e)

-- where a step leads there is a place
pub step_there : (rows : List PlacedRow) (s : Spot) (at : Place) (name : List ℕ) (n : ℕ) → All IsFine rows → place_in rows s ≡ Some at → step at name ≡ Some n → (next : Place) × (place_in rows (record { row = s.row; place = n }) ≡ Some next)
step_there rows s at name n fine e st =
    let h = row_there rows s at e in
    let f = at_all IsFine rows s.row h.0 fine h.1 in
    let w = at_all (IsWithin (length h.0.tree.places)) h.0.tree.places s.place at f.within h.2 in
    let less = step_within (length h.0.tree.places) at name n w st in
    (_, ap (option_and_then (λ (r : PlacedRow). slice_get r.tree.places n)) h.1 ∙ slice_get-get_or h.0.tree.places n at less)

-- the names of an object ascend
pub place_ordered : (rows : List PlacedRow) (s : Spot) (at : Place) → All IsFine rows → place_in rows s ≡ Some at → HasOrder at
place_ordered rows s at fine e =
    let h = row_there rows s at e in
    let f = at_all IsFine rows s.row h.0 fine h.1 in
    at_all HasOrder h.0.tree.places s.place at f.ordered h.2

-- ---- turns

steady : (at : Place) → followed at ≡ None → fails at ≡ false → IsSteady at
steady (place.Lazy id) f g = cc
steady (place.Value r) f g = cc
steady (place.Atom (atom.Failed digest)) f g = cc
steady at f g = tt

stops : (rows : List PlacedRow) (s : Spot) (at : Place) (name : List ℕ) (rest : Path) → fails at ≡ true → go_from (spot_of rows s) (Some at) (name ∷ rest) ≡ ends (found (spot_of rows s))
stops rows s (place.Atom (atom.Failed digest)) name rest e = refl
stops rows s at name rest e = absurd (false≢true e)

pub failure_stops : (rows : List PlacedRow) (s : Spot) (at : Place) (name : List ℕ) (rest : Path) → IsPlain rows → place_in rows s ≡ Some at → fails at ≡ true → turn rows (here (spot_of rows s) (name ∷ rest)) ≡ ends (found (spot_of rows s))
failure_stops rows s at name rest plain e f =
    ap (λ o. go_from (spot_of rows s) o (name ∷ rest)) (place_there rows s at plain e) ∙ stops rows s at name rest f

pub goes_down : (rows : List PlacedRow) (s : Spot) (at : Place) (name : List ℕ) (rest : Path) → IsPlain rows → place_in rows s ≡ Some at → followed at ≡ None → fails at ≡ false → turn rows (here (spot_of rows s) (name ∷ rest)) ≡ go_down (spot_of rows s) (step at name) rest
goes_down rows s at name rest plain e f g = step_turn rows (spot_of rows s) at name rest (place_there rows s at plain e) (steady at f g)

-- without a name a walk ends at a place that is not followed
ends_there : (rows : List PlacedRow) (s : Spot) (at : Place) → followed at ≡ None → go_from (spot_of rows s) (Some at) [] ≡ ends (found (spot_of rows s))
ends_there rows s (place.Lazy id) f = cc
ends_there rows s (place.Value r) f = cc
ends_there rows s at f = refl

pub stop_ends : (rows : List PlacedRow) (s : Spot) → IsPlain rows → IsStop rows s → turn rows (here (spot_of rows s) []) ≡ ends (found (spot_of rows s))
stop_ends rows s plain stop =
    ap (λ o. go_from (spot_of rows s) o []) (place_there rows s stop.0 plain stop.1) ∙ ends_there rows s stop.0 stop.2

-- ---- the step of a table

pub step_stops : (t : Table) (s : Spot) (at : Place) (name : List ℕ) → IsTable t → place_in t.rows.items s ≡ Some at → fails at ≡ true → IsStep t.rows.items t.starts.items s name Stops
step_stops t s at name table e f = λ rest. failure_stops t.rows.items s at name rest table.plain e f

pub stop_not_followed : (rows : List PlacedRow) (s : Spot) (at : Place) → IsStop rows s → place_in rows s ≡ Some at → followed at ≡ None
stop_not_followed rows s at stop e = ap followed (same_Some at stop.0 (sym e ∙ stop.1)) ∙ stop.2

pub step_leaves : (t : Table) (s : Spot) (at : Place) (name : List ℕ) → IsTable t → IsStop t.rows.items s → place_in t.rows.items s ≡ Some at → fails at ≡ false → step at name ≡ None → IsStep t.rows.items t.starts.items s name Leaves
step_leaves t s at name table stop e f none = λ rest.
    goes_down t.rows.items s at name rest table.plain e (stop_not_followed t.rows.items s at stop e) f ∙ ap (λ o. go_down (spot_of t.rows.items s) o rest) none

step_on : (t : Table) (s : Spot) (at : Place) (name : List ℕ) (n : ℕ) → IsTable t → IsStop t.rows.items s → place_in t.rows.items s ≡ Some at → fails at ≡ false → step at name ≡ Some n → (rest : Path) → turn t.rows.items (here (spot_of t.rows.items s) (name ∷ rest)) ≡ on (here (spot_of t.rows.items (record { row = s.row; place = n })) rest)
step_on t s at name n table stop e f some rest =
    goes_down t.rows.items s at name rest table.plain e (stop_not_followed t.rows.items s at stop e) f ∙ ap (λ o. go_down (spot_of t.rows.items s) o rest) some

not_followed : (starts : List Start) (s : Spot) (at : Place) (n : Option ℕ) → n ≡ None → IsIndexed starts s (followed at) n → followed at ≡ None
not_followed starts s at n none h = go (followed at) (subst (IsIndexed starts s (followed at)) none h)
  where
    go : (o : Option (ℕ × Path)) → IsIndexed starts s o None → o ≡ None
    go None h = refl
    go (Some way) h = absurd h

is_followed : (starts : List Start) (s : Spot) (at : Place) (n : Option ℕ) (m : ℕ) → n ≡ Some m → IsIndexed starts s (followed at) n → IsNodeAt starts m (AtPlace s)
is_followed starts s at n m some h = go (followed at) (subst (IsIndexed starts s (followed at)) some h)
  where
    go : (o : Option (ℕ × Path)) → IsIndexed starts s o (Some m) → IsNodeAt starts m (AtPlace s)
    go None h = absurd h
    go (Some way) h = h

pub step_to : (t : Table) (s next : Spot) (at : Place) (name : List ℕ) → IsTable t → IsStop t.rows.items s → place_in t.rows.items s ≡ Some at → fails at ≡ false → step at name ≡ Some next.place → next.row ≡ s.row → node_in t.index.items next ≡ None → IsStep t.rows.items t.starts.items s name (To next)
step_to t s next at name table stop e f some row none =
    let same : record { row = s.row; place = next.place } ≡ next = ap (λ r. record { row = r; place = next.place }) (sym row) in
    let p = step_there t.rows.items s at name next.place table.fine e some in
    let there = subst (λ x. place_in t.rows.items x ≡ Some p.0) same p.1 in (
      (p.0, there, not_followed t.starts.items next p.0 (node_in t.index.items next) none (table.indexed next p.0 there)),
      λ rest. step_on t s at name next.place table stop e f some rest ∙ ap (λ x. on (here (spot_of t.rows.items x) rest)) same,
    )

pub step_meets : (t : Table) (s next : Spot) (at : Place) (name : List ℕ) (node : ℕ) → IsTable t → IsStop t.rows.items s → place_in t.rows.items s ≡ Some at → fails at ≡ false → step at name ≡ Some next.place → next.row ≡ s.row → node_in t.index.items next ≡ Some node → IsStep t.rows.items t.starts.items s name (Meets node)
step_meets t s next at name node table stop e f some row is_node =
    let same : record { row = s.row; place = next.place } ≡ next = ap (λ r. record { row = r; place = next.place }) (sym row) in
    let p = step_there t.rows.items s at name next.place table.fine e some in
    let there = subst (λ x. place_in t.rows.items x ≡ Some p.0) same p.1 in (
      next,
      is_followed t.starts.items next p.0 (node_in t.index.items next) node is_node (table.indexed next p.0 there),
      λ rest. step_on t s at name next.place table stop e f some rest ∙ ap (λ x. on (here (spot_of t.rows.items x) rest)) same,
    )
