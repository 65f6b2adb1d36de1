-- The slots of a node stand in rows that are there.
use Rattle.std.proofs.Common.{◌≡◌, ℕ, zero, suc, ◌+◌, arith, List, [], ◌∷◌, ◌++◌, map, codes, Option, Some, None, option_and_then, slice_get, refl, sym, ◌∙◌, ap, subst, All}
use Rattle.std.proofs.lemmas.List.Elements.{All-nil, All-cons, All-append, All-head, All-tail}
use Rattle.std.proofs.lemmas.Option.{none-some, same_Some}
use Rattle.flight_value.specs.Store.{Shape}
use Rattle.flight_value.specs.declared.graph.Atom.TheVariants as atom
use Rattle.flight_text.specs.declared.mark.Ref.{Ref}
use Rattle.flight_row.specs.declared.row.RowKind.{RowKind}
use Rattle.flight_row.specs.declared.row.RowKind.TheVariants as row
use Rattle.flight_meaning.specs.declared.place.Place.{Place}
use Rattle.flight_meaning.specs.declared.place.Place.TheVariants as place
use Rattle.flight_meaning.specs.declared.place.PlaceTree.{PlaceTree}
use Rattle.flight_meaning.specs.declared.place.PlacedRow.{PlacedRow}
use Rattle.flight_meaning.specs.Linked.{rows_of, Spot, place_at, first_place, beside, HasRowOf}
use Rattle.flight_meaning.specs.Resolve.{property, Stand, found, stream, not_yet, nowhere, Ends, IsThere}
use Rattle.flight_meaning.specs.Meaning.{Written, at_place, value_of, Identity, made_at, promise_of, stream_of, action_of, at_places, Token, map_token, set_token, entry, both, entries, slots_in, HasSlots, HasShapeHere, HasTokenShape, Reference, bound_at, reference_with, there, reference_in, reference_by, reference_of, Flowed, with_row, flowed, final_slots, opened, stream_shape, action_shape, HasShape, stand_of}
use Rattle.flight_meaning.proofs.Walking.{found_stops}
use Rattle.flight_meaning.proofs.MoreRows.{place_row}

pub row_there : (rows : List PlacedRow) (s : Stand) (t : Spot) → Ends rows s (found t) → HasRowOf rows t
row_there rows s t w = let p = found_stops rows s t w in place_row rows t p.0 p.1

abbrev pub IsSlotThere : List PlacedRow → Written → Type 0
IsSlotThere rows w = IsThere rows (stand_of w)

abbrev AreThere : List PlacedRow → List Written → Type 0
AreThere rows ws = All (IsSlotThere rows) ws

-- ---- at places of a row that is there

none_there : (rows : List PlacedRow) → AreThere rows []
none_there rows = All-nil (IsSlotThere rows)

places_there : (rows : List PlacedRow) (s : Spot) (ns : List ℕ) → HasRowOf rows s → AreThere rows (at_places s ns)
places_there rows s [] is = none_there rows
places_there rows s (n ∷ ns) is = All-cons (IsSlotThere rows) (at_place (beside s n)) (at_places s ns) is (places_there rows s ns is)

found_slots : (rows : List PlacedRow) (ws slots : List Written) → Some ws ≡ Some slots → AreThere rows ws → AreThere rows slots
found_slots rows ws slots e h = subst (AreThere rows) (same_Some ws slots e) h

-- ---- Maps and Sets

entry_there : (rows : List PlacedRow) (s : Spot) (o : Option Place) (slots : List Written) → HasRowOf rows s → entry s o ≡ Some slots → AreThere rows slots
entry_there rows s (Some (place.Array [])) slots is e = absurd (none-some slots e)
entry_there rows s (Some (place.Array (a ∷ []))) slots is e = absurd (none-some slots e)
entry_there rows s (Some (place.Array (a ∷ b ∷ []))) slots is e = found_slots rows (at_places s (a ∷ b ∷ [])) slots e (places_there rows s (a ∷ b ∷ []) is)
entry_there rows s (Some (place.Array (a ∷ b ∷ c ∷ ns))) slots is e = absurd (none-some slots e)
entry_there rows s None slots is e = absurd (none-some slots e)
entry_there rows s (Some at) slots is e = absurd (none-some slots e)

both_there : (rows : List PlacedRow) (x y : Option (List Written)) (slots : List Written) → ((front : List Written) → x ≡ Some front → AreThere rows front) → ((rest : List Written) → y ≡ Some rest → AreThere rows rest) → both x y ≡ Some slots → AreThere rows slots
both_there rows None y slots a b e = absurd (none-some slots e)
both_there rows (Some front) None slots a b e = absurd (none-some slots e)
both_there rows (Some front) (Some rest) slots a b e = found_slots rows (front ++ rest) slots e (All-append (IsSlotThere rows) front rest (a front refl) (b rest refl))

entries_there : (rows : List PlacedRow) (s : Spot) (ns : List ℕ) (slots : List Written) → HasRowOf rows s → entries rows s ns ≡ Some slots → AreThere rows slots
entries_there rows s [] slots is e = found_slots rows [] slots e (none_there rows)
entries_there rows s (n ∷ ns) slots is e =
    let one = place_at rows (beside s n) in
    both_there rows (entry s one) (entries rows s ns) slots (λ front h. entry_there rows s one front is h) (λ rest h. entries_there rows s ns rest is h) e

slots_in_there : (token : Token) (rows : List PlacedRow) (s : Spot) (o : Option Place) (slots : List Written) → HasRowOf rows s → slots_in token rows s o ≡ Some slots → AreThere rows slots
slots_in_there map_token rows s (Some (place.Array numbers)) slots is e = entries_there rows s numbers slots is e
slots_in_there set_token rows s (Some (place.Array numbers)) slots is e = found_slots rows (at_places s numbers) slots e (places_there rows s numbers is)
slots_in_there map_token rows s None slots is e = absurd (none-some slots e)
slots_in_there set_token rows s None slots is e = absurd (none-some slots e)
slots_in_there map_token rows s (Some at) slots is e = absurd (none-some slots e)
slots_in_there set_token rows s (Some at) slots is e = absurd (none-some slots e)

token_there : (rows : List PlacedRow) (token : Token) (r : Ref) (slots : List Written) → HasSlots rows token r slots → AreThere rows slots
token_there rows token r slots (found s, w, e) = slots_in_there token rows s (place_at rows s) slots (row_there rows _ s w) e
token_there rows token r slots (stream id, w, e) = absurd (none-some slots e)
token_there rows token r slots (not_yet id path, w, e) = absurd (none-some slots e)
token_there rows token r slots (nowhere, w, e) = absurd (none-some slots e)

-- ---- what is made at a place

shape_there : (rows : List PlacedRow) (x shape : Shape Written) → Some x ≡ Some shape → AreThere rows x.slots → AreThere rows shape.slots
shape_there rows x shape e h = subst (λ z. AreThere rows z.slots) (same_Some x shape e) h

token_shape_there : (rows : List PlacedRow) (token : Token) (r : Ref) (shape : Shape Written) → HasTokenShape rows token r shape → AreThere rows shape.slots
token_shape_there rows token r shape h = subst (λ z. AreThere rows z.slots) (sym h.2) (token_there rows token r h.0 h.1)

made_there : (rows : List PlacedRow) (s : Spot) (o : Option Place) (shape : Shape Written) → place_at rows s ≡ o → HasShapeHere rows s o shape → AreThere rows shape.slots
made_there rows s None shape is h = absurd (none-some shape h)
made_there rows s (Some (place.Array ns)) shape is h = shape_there rows _ shape h (places_there rows s ns (place_row rows s _ is))
made_there rows s (Some (place.Object ps)) shape is h = shape_there rows _ shape h (places_there rows s (map (λ p. p.place) ps) (place_row rows s _ is))
made_there rows s (Some (place.Element tag key props)) shape is h = shape_there rows _ shape h (places_there rows s (tag ∷ key ∷ props ∷ []) (place_row rows s _ is))
made_there rows s (Some (place.Map r)) shape is h = token_shape_there rows map_token r shape h
made_there rows s (Some (place.Set r)) shape is h = token_shape_there rows set_token r shape h
made_there rows s (Some at) shape is h = absurd (none-some shape h)

-- ---- a server reference

bound_there : (rows : List PlacedRow) (s : Spot) (o : Option Place) (bound : Spot) → HasRowOf rows s → bound_at s o ≡ Some bound → HasRowOf rows bound
bound_there rows s (Some (place.Atom atom.Null)) bound is e = subst (HasRowOf rows) (same_Some s bound e) is
bound_there rows s (Some (place.Promise id)) bound is e = subst (HasRowOf rows) (same_Some s bound e) is
bound_there rows s None bound is e = absurd (none-some bound e)
bound_there rows s (Some at) bound is e = absurd (none-some bound e)

bound_in : (rows : List PlacedRow) (s : Spot) (o : Option ℕ) (bound : Spot) → HasRowOf rows s → option_and_then (λ n. bound_at (beside s n) (there rows s n)) o ≡ Some bound → HasRowOf rows bound
bound_in rows s None bound is e = absurd (none-some bound e)
bound_in rows s (Some n) bound is e = bound_there rows (beside s n) (there rows s n) bound is e

with_there : (rows : List PlacedRow) (x : Option (List ℕ)) (y : Option Spot) (r : Reference) → ((bound : Spot) → y ≡ Some bound → HasRowOf rows bound) → reference_with x y ≡ Some r → HasRowOf rows r.bound
with_there rows None y r k e = absurd (none-some r e)
with_there rows (Some name) None r k e = absurd (none-some r e)
with_there rows (Some name) (Some bound) r k e = subst (λ z. HasRowOf rows z.bound) (same_Some (record { name = name; bound = bound }) r e) (k bound refl)

reference_there : (rows : List PlacedRow) (s : Spot) (o : Option Place) (r : Reference) → HasRowOf rows s → reference_in rows s o ≡ Some r → HasRowOf rows r.bound
reference_there rows s (Some (place.Object props)) r is e = with_there rows _ _ r (λ bound h. bound_in rows s (property props (codes "bound")) bound is h) e
reference_there rows s None r is e = absurd (none-some r e)
reference_there rows s (Some at) r is e = absurd (none-some r e)

kind_there : (rows : List PlacedRow) (id : ℕ) (kind : RowKind) (r : Reference) → HasRowOf rows (first_place id) → reference_by rows id kind ≡ Some r → HasRowOf rows r.bound
kind_there rows id row.Model r is e = reference_there rows (first_place id) (place_at rows (first_place id)) r is e
kind_there rows id kind r is e = absurd (none-some r e)

first_there : (rows : List PlacedRow) (id : ℕ) (o : Option PlaceTree) (r : Reference) → slice_get (rows_of id rows) 0 ≡ o → option_and_then (λ t. reference_by rows id t.kind) o ≡ Some r → HasRowOf rows r.bound
first_there rows id None r is e = absurd (none-some r e)
first_there rows id (Some t) r is e = kind_there rows id t.kind r (t, is) e

action_there : (rows : List PlacedRow) (id : ℕ) (o : Option Reference) (shape : Shape Written) → reference_of rows id ≡ o → action_shape o ≡ Some shape → AreThere rows shape.slots
action_there rows id None shape is h = absurd (none-some shape h)
action_there rows id (Some r) shape is h =
    shape_there rows _ shape h (All-cons (IsSlotThere rows) (at_place r.bound) [] (first_there rows id (slice_get (rows_of id rows) 0) r refl is) (none_there rows))

-- ---- a stream

abbrev FlowThere : List PlacedRow → Flowed → Type 0
FlowThere rows f = AreThere rows f.items × AreThere rows (final_slots f.end)

row_brings : (rows : List PlacedRow) (id n : ℕ) (kind : RowKind) (t : PlaceTree) (rest : Flowed) → HasRowOf rows (record { id = id; nth = n; at = 0 }) → FlowThere rows rest → FlowThere rows (with_row id n kind t rest)
row_brings rows id n row.Error t rest is h = (none_there rows, none_there rows)
row_brings rows id n row.Close t rest is h = (none_there rows, All-cons (IsSlotThere rows) (at_place (record { id = id; nth = n; at = 0 })) [] is (none_there rows))
row_brings rows id n (row.Open flow) t rest is h = h
row_brings rows id n row.Model t rest is h = (All-cons (IsSlotThere rows) (at_place (record { id = id; nth = n; at = 0 })) rest.items is h.0, h.1)
row_brings rows id n row.Import t rest is h = (All-cons (IsSlotThere rows) (at_place (record { id = id; nth = n; at = 0 })) rest.items is h.0, h.1)
row_brings rows id n row.Text t rest is h = (All-cons (IsSlotThere rows) (at_place (record { id = id; nth = n; at = 0 })) rest.items is h.0, h.1)

-- the trees are those of the id from row n on
abbrev AreFrom : List PlaceTree → ℕ → List PlaceTree → Type 0
AreFrom all n ts = (m j : ℕ) (t : PlaceTree) → m ≡ n + j → slice_get ts j ≡ Some t → slice_get all m ≡ Some t

flow_there : (rows : List PlacedRow) (id n : ℕ) (ts : List PlaceTree) → AreFrom (rows_of id rows) n ts → FlowThere rows (flowed id n ts)
flow_there rows id n [] from = (none_there rows, none_there rows)
flow_there rows id n (t ∷ ts) from =
    let first : slice_get (rows_of id rows) n ≡ Some t = from n 0 t (omega arith) refl in
    row_brings rows id n t.kind t (flowed id (suc n) ts) (t, first) (flow_there rows id (suc n) ts (λ m j u e h. from m (suc j) u (omega (arith, e)) h))

opened_there : (rows : List PlacedRow) (kind : RowKind) (f : Flowed) (shape : Shape Written) → FlowThere rows f → opened kind f ≡ Some shape → AreThere rows shape.slots
opened_there rows (row.Open flow) f shape is h = shape_there rows _ shape h (All-append (IsSlotThere rows) f.items (final_slots f.end) is.0 is.1)
opened_there rows kind f shape is h = absurd (none-some shape h)

second_on : (all : List PlaceTree) (t : PlaceTree) (ts : List PlaceTree) → all ≡ t ∷ ts → AreFrom all 1 ts
second_on all t ts is m j u e h =
    let later : m ≡ suc j = omega (arith, e) in
    ap (λ us. slice_get us m) is ∙ (ap (λ k. slice_get (t ∷ ts) k) later ∙ h)

stream_there : (rows : List PlacedRow) (id : ℕ) (ts : List PlaceTree) (shape : Shape Written) → rows_of id rows ≡ ts → stream_shape id ts ≡ Some shape → AreThere rows shape.slots
stream_there rows id [] shape is h = absurd (none-some shape h)
stream_there rows id (t ∷ ts) shape is h = opened_there rows t.kind (flowed id 1 ts) shape (flow_there rows id 1 ts (second_on (rows_of id rows) t ts is)) h

-- ---- of each node

slots_there : (rows : List PlacedRow) (k : Identity) (shape : Shape Written) → HasShape rows k shape → AreThere rows shape.slots
slots_there rows (made_at s) shape h = made_there rows s (place_at rows s) shape refl h
slots_there rows (promise_of id) shape h = subst (λ z. AreThere rows z.slots) (sym h) (All-cons (IsSlotThere rows) (value_of id) [] tt (none_there rows))
slots_there rows (stream_of id) shape h = stream_there rows id (rows_of id rows) shape refl h
slots_there rows (action_of id) shape h = action_there rows id (reference_of rows id) shape refl h

one_of : (rows : List PlacedRow) (ws : List Written) (n : ℕ) (w : Written) → AreThere rows ws → slice_get ws n ≡ Some w → IsSlotThere rows w
one_of rows [] n w h e = absurd (none-some w e)
one_of rows (v ∷ ws) zero w h e = subst (IsSlotThere rows) (same_Some v w e) (All-head (IsSlotThere rows) v ws h)
one_of rows (v ∷ ws) (suc n) w h e = one_of rows ws n w (All-tail (IsSlotThere rows) v ws h) e

pub slot_there : (rows : List PlacedRow) (k : Identity) (shape : Shape Written) (n : ℕ) (w : Written) → HasShape rows k shape → slice_get shape.slots n ≡ Some w → IsSlotThere rows w
slot_there rows k shape n w h e = one_of rows shape.slots n w (slots_there rows k shape h) e
