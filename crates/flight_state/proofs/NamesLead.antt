-- The names of the steps within a row lead to the place.
use Rattle.std.proofs.Common.{◌≡◌, ℕ, List, [], ◌∷◌, Some, option_and_then, refl, sym, ap, ◌∙◌, subst}
use Rattle.std.proofs.lemmas.Option.{none-some}
use Rattle.std.specs.Prelude.{slice_get}
use Rattle.flight_row.specs.declared.row.RowKind.{RowKind}
use Rattle.flight_row.specs.declared.row.RowKind.TheVariants as row
use Rattle.flight_meaning.specs.declared.place.Place.{Place}
use Rattle.flight_meaning.specs.declared.place.Place.TheVariants as place
use Rattle.flight_meaning.specs.declared.place.PlaceTree.{PlaceTree}
use Rattle.flight_meaning.specs.declared.place.PlacedRow.{PlacedRow}
use Rattle.flight_meaning.specs.Linked.{rows_of, Spot, place_at, first_place, beside}
use Rattle.flight_meaning.specs.Resolve.{Path, step, to, here, found, on, enter, go_to, go_down, go_from, turn, Ends}
use Rattle.flight_meaning.proofs.Walking.{ends_back, turn_ends, stop_turn}
use Rattle.flight_state.specs.Local.{HasValue, StepsTo, EndsHere}

place_there : (rows : List PlacedRow) (id : ℕ) (tree : PlaceTree) (ts : List PlaceTree) → rows_of id rows ≡ tree ∷ ts → (n : ℕ) → place_at rows (beside (first_place id) n) ≡ slice_get tree.places n
place_there rows id tree ts e n = ap (λ xs. option_and_then (λ (t : PlaceTree). slice_get t.places n) (slice_get xs 0)) e

step_goes : (s : Spot) (at : Place) (name : List ℕ) (path : Path) (n : ℕ) → step at name ≡ Some n → go_from s (Some at) (name ∷ path) ≡ on (here (beside s n) path)
step_goes s (place.Array ns) name path n h = ap (λ o. go_down s o path) h
step_goes s (place.Object ps) name path n h = ap (λ o. go_down s o path) h
step_goes s (place.Element a b c) name path n h = ap (λ o. go_down s o path) h
step_goes s (place.Atom a) name path n h = absurd (none-some n h)
step_goes s (place.Lazy a) name path n h = absurd (none-some n h)
step_goes s (place.Promise a) name path n h = absurd (none-some n h)
step_goes s (place.Value a) name path n h = absurd (none-some n h)
step_goes s (place.Map a) name path n h = absurd (none-some n h)
step_goes s (place.Set a) name path n h = absurd (none-some n h)
step_goes s (place.Action a) name path n h = absurd (none-some n h)

steps_lead : (rows : List PlacedRow) (id : ℕ) (tree : PlaceTree) (ts : List PlaceTree) → rows_of id rows ≡ tree ∷ ts → (path : Path) (at last : ℕ) → StepsTo tree.places at path last → EndsHere tree.places last → Ends rows (here (beside (first_place id) at) path) (found (beside (first_place id) last))
steps_lead rows id tree ts e [] at last steps stops =
    subst (λ z. Ends rows (here (beside (first_place id) z) []) (found (beside (first_place id) last))) (sym steps)
    (turn_ends rows (here (beside (first_place id) last) []) (found (beside (first_place id) last)) (stop_turn rows (beside (first_place id) last) (stops.0, place_there rows id tree ts e last ∙ stops.1, stops.2)))
steps_lead rows id tree ts e (name ∷ path) at last steps stops =
    ends_back rows (here (beside (first_place id) at) (name ∷ path)) (here (beside (first_place id) steps.1) path)
    (ap (λ o. go_from (beside (first_place id) at) o (name ∷ path)) (place_there rows id tree ts e at ∙ steps.2) ∙ step_goes (beside (first_place id) at) steps.0 name path steps.1 steps.3)
    (found (beside (first_place id) last)) (steps_lead rows id tree ts e path steps.1 last steps.4 stops)

enters : (id : ℕ) (kind : RowKind) (path : Path) → HasValue kind → enter id kind path ≡ on (here (first_place id) path)
enters id row.Model path h = refl
enters id row.Import path h = refl
enters id row.Error path h = refl
enters id row.Text path h = refl
enters id row.Close path h = refl
enters id (row.Open flow) path h = absurd h

pub names_lead : (rows : List PlacedRow) (id : ℕ) (tree : PlaceTree) (behind : List PlaceTree) (path : Path) (last : ℕ) → rows_of id rows ≡ tree ∷ behind → HasValue tree.kind → StepsTo tree.places 0 path last → EndsHere tree.places last → Ends rows (to id path) (found (beside (first_place id) last))
names_lead rows id tree behind path last e value steps stops =
    ends_back rows (to id path) (here (first_place id) path) (ap (λ xs. go_to id xs path) e ∙ enters id tree.kind path value) (found (beside (first_place id) last)) (steps_lead rows id tree behind e path 0 last steps stops)

pub value_leads : (rows : List PlacedRow) (id : ℕ) (tree : PlaceTree) (behind : List PlaceTree) → rows_of id rows ≡ tree ∷ behind → HasValue tree.kind → turn rows (to id []) ≡ on (here (first_place id) [])
value_leads rows id tree behind e value = ap (λ xs. go_to id xs []) e ∙ enters id tree.kind [] value
