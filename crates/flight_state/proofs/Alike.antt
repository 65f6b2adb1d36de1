-- Rows of which each id has the same mean the same; so rows of other ids may stand before them.
use Rattle.std.proofs.Common.{◌≡◌, ℕ, zero, suc, ◌⊎◌, inl, inr, List, [], ◌∷◌, ◌++◌, Option, Some, None, option_and_then, refl, sym, ap, ◌∙◌, subst, append-nil}
use Rattle.std.specs.Prelude.{slice_get, codes}
use Rattle.flight_row.specs.declared.row.RowKind.{RowKind}
use Rattle.flight_row.specs.declared.row.RowKind.TheVariants as row
use Rattle.flight_text.specs.declared.mark.Ref.{Ref}
use Rattle.flight_meaning.specs.declared.place.Place.{Place}
use Rattle.flight_meaning.specs.declared.place.Place.TheVariants as place
use Rattle.flight_meaning.specs.declared.place.PlaceTree.{PlaceTree}
use Rattle.flight_meaning.specs.declared.place.PlacedRow.{PlacedRow}
use Rattle.flight_meaning.specs.Linked.{rows_of, Spot, place_at, first_place, beside}
use Rattle.flight_meaning.specs.Resolve.{property, Stand, to, here, Found, found, not_yet, nowhere, Turn, on, ends, go_to, go_from, turn, after_turn, walk_by, Ends, IsEnd}
use Rattle.flight_meaning.specs.Resolve as resolve
use Rattle.flight_meaning.specs.Meaning.{Written, Identity, made_at, promise_of, stream_of, action_of, Token, map_token, set_token, entry, both, entries, slots_in, slots_found, HasSlots, text_at, bound_at, reference_with, there, reference_in, reference_by, reference_of, action_shape, stream_shape, HasShapeHere, HasShape}
use Rattle.flight_meaning.proofs.MoreRows.{rows_of-append, end-more, place-more}
use Rattle.flight_meaning.proofs.MoreMeaning.{shape-more}
use Rattle.flight_meaning.specs.Lasting.{HasEnded}
use Rattle.flight_value.specs.Store.{Shape}

-- each id has the same rows
abbrev pub Alike : List PlacedRow → List PlacedRow → Type 0
Alike xs ys = (id : ℕ) → rows_of id xs ≡ rows_of id ys

place-alike : (xs ys : List PlacedRow) → Alike xs ys → (s : Spot) → place_at xs s ≡ place_at ys s
place-alike xs ys same s = ap (λ ts. option_and_then (λ (t : PlaceTree). slice_get t.places s.at) (slice_get ts s.nth)) (same s.id)

turn-alike : (xs ys : List PlacedRow) → Alike xs ys → (s : Stand) → turn xs s ≡ turn ys s
turn-alike xs ys same (to id path) = ap (λ ts. go_to id ts path) (same id)
turn-alike xs ys same (here s path) = ap (λ o. go_from s o path) (place-alike xs ys same s)

walk-alike : (n : ℕ) (xs ys : List PlacedRow) → Alike xs ys → (s : Stand) → walk_by n xs s ≡ walk_by n ys s
walk-alike zero xs ys same s = refl
walk-alike (suc n) xs ys same s = ap (after_turn (walk_by n xs)) (turn-alike xs ys same s) ∙ go (turn ys s) (walk-alike n xs ys same)
  where
    go : (t : Turn) → ((r : Stand) → walk_by n xs r ≡ walk_by n ys r) → after_turn (walk_by n xs) t ≡ after_turn (walk_by n ys) t
    go (on r) rest = rest r
    go (ends f) rest = refl

ends-alike : (xs ys : List PlacedRow) → Alike xs ys → (s : Stand) (f : Found) → Ends xs s f → Ends ys s f
ends-alike xs ys same s f w = (w.0, sym (walk-alike w.0 xs ys same s) ∙ w.1)

entries-alike : (xs ys : List PlacedRow) → Alike xs ys → (s : Spot) (ns : List ℕ) → entries xs s ns ≡ entries ys s ns
entries-alike xs ys same s [] = refl
entries-alike xs ys same s (n ∷ ns) =
    ap (λ o. both (entry s o) (entries xs s ns)) (place-alike xs ys same (beside s n)) ∙ ap (both (entry s (place_at ys (beside s n)))) (entries-alike xs ys same s ns)

slots_in-alike : (token : Token) (xs ys : List PlacedRow) → Alike xs ys → (s : Spot) (o : Option Place) → slots_in token xs s o ≡ slots_in token ys s o
slots_in-alike map_token xs ys same s (Some (place.Array ns)) = entries-alike xs ys same s ns
slots_in-alike set_token xs ys same s (Some (place.Array ns)) = refl
slots_in-alike map_token xs ys same s None = refl
slots_in-alike set_token xs ys same s None = refl
slots_in-alike map_token xs ys same s (Some at) = refl
slots_in-alike set_token xs ys same s (Some at) = refl

slots_found-alike : (token : Token) (xs ys : List PlacedRow) → Alike xs ys → (f : Found) → slots_found token xs f ≡ slots_found token ys f
slots_found-alike token xs ys same (found s) = slots_in-alike token xs ys same s (place_at xs s) ∙ ap (slots_in token ys s) (place-alike xs ys same s)
slots_found-alike token xs ys same (resolve.stream id) = refl
slots_found-alike token xs ys same (not_yet id path) = refl
slots_found-alike token xs ys same nowhere = refl

has_slots-alike : (xs ys : List PlacedRow) → Alike xs ys → (token : Token) (r : Ref) (slots : List Written) → HasSlots xs token r slots → HasSlots ys token r slots
has_slots-alike xs ys same token r slots h = (h.0, ends-alike xs ys same (to r.id r.path) h.0 h.1, sym (slots_found-alike token xs ys same h.0) ∙ h.2)

reference_in-alike : (xs ys : List PlacedRow) → Alike xs ys → (s : Spot) (o : Option Place) → reference_in xs s o ≡ reference_in ys s o
reference_in-alike xs ys same s (Some (place.Object props)) =
    ap (λ a. reference_with a (option_and_then (λ n. bound_at (beside s n) (there xs s n)) (property props (codes "bound")))) (names (property props (codes "id")))
    ∙ ap (reference_with (option_and_then (λ n. text_at (there ys s n)) (property props (codes "id")))) (bounds (property props (codes "bound")))
  where
    names : (o : Option ℕ) → option_and_then (λ n. text_at (there xs s n)) o ≡ option_and_then (λ n. text_at (there ys s n)) o
    names None = refl
    names (Some n) = ap text_at (place-alike xs ys same (beside s n))

    bounds : (o : Option ℕ) → option_and_then (λ n. bound_at (beside s n) (there xs s n)) o ≡ option_and_then (λ n. bound_at (beside s n) (there ys s n)) o
    bounds None = refl
    bounds (Some n) = ap (bound_at (beside s n)) (place-alike xs ys same (beside s n))
reference_in-alike xs ys same s None = refl
reference_in-alike xs ys same s (Some (place.Atom a)) = refl
reference_in-alike xs ys same s (Some (place.Array a)) = refl
reference_in-alike xs ys same s (Some (place.Element a b c)) = refl
reference_in-alike xs ys same s (Some (place.Lazy a)) = refl
reference_in-alike xs ys same s (Some (place.Promise a)) = refl
reference_in-alike xs ys same s (Some (place.Value a)) = refl
reference_in-alike xs ys same s (Some (place.Map a)) = refl
reference_in-alike xs ys same s (Some (place.Set a)) = refl
reference_in-alike xs ys same s (Some (place.Action a)) = refl

reference_by-alike : (xs ys : List PlacedRow) → Alike xs ys → (id : ℕ) (kind : RowKind) → reference_by xs id kind ≡ reference_by ys id kind
reference_by-alike xs ys same id row.Model = reference_in-alike xs ys same (first_place id) (place_at xs (first_place id)) ∙ ap (reference_in ys (first_place id)) (place-alike xs ys same (first_place id))
reference_by-alike xs ys same id row.Import = refl
reference_by-alike xs ys same id row.Error = refl
reference_by-alike xs ys same id row.Text = refl
reference_by-alike xs ys same id row.Close = refl
reference_by-alike xs ys same id (row.Open flow) = refl

reference_of-alike : (xs ys : List PlacedRow) → Alike xs ys → (id : ℕ) → reference_of xs id ≡ reference_of ys id
reference_of-alike xs ys same id = go (slice_get (rows_of id xs) 0) ∙ ap (λ ts. option_and_then (λ (t : PlaceTree). reference_by ys id t.kind) (slice_get ts 0)) (same id)
  where
    go : (o : Option PlaceTree) → option_and_then (λ (t : PlaceTree). reference_by xs id t.kind) o ≡ option_and_then (λ (t : PlaceTree). reference_by ys id t.kind) o
    go None = refl
    go (Some t) = reference_by-alike xs ys same id t.kind

shape_here-alike : (xs ys : List PlacedRow) → Alike xs ys → (s : Spot) (o : Option Place) (shape : _) → HasShapeHere xs s o shape → HasShapeHere ys s o shape
shape_here-alike xs ys same s (Some (place.Map r)) shape h = (h.0, has_slots-alike xs ys same map_token r h.0 h.1, h.2)
shape_here-alike xs ys same s (Some (place.Set r)) shape h = (h.0, has_slots-alike xs ys same set_token r h.0 h.1, h.2)
shape_here-alike xs ys same s None shape h = h
shape_here-alike xs ys same s (Some (place.Atom a)) shape h = h
shape_here-alike xs ys same s (Some (place.Array a)) shape h = h
shape_here-alike xs ys same s (Some (place.Object a)) shape h = h
shape_here-alike xs ys same s (Some (place.Element a b c)) shape h = h
shape_here-alike xs ys same s (Some (place.Lazy a)) shape h = h
shape_here-alike xs ys same s (Some (place.Promise a)) shape h = h
shape_here-alike xs ys same s (Some (place.Value a)) shape h = h
shape_here-alike xs ys same s (Some (place.Action a)) shape h = h

shape-alike : (xs ys : List PlacedRow) → Alike xs ys → (i : Identity) (shape : _) → HasShape xs i shape → HasShape ys i shape
shape-alike xs ys same (made_at s) shape h = subst (λ o. HasShapeHere ys s o shape) (place-alike xs ys same s) (shape_here-alike xs ys same s (place_at xs s) shape h)
shape-alike xs ys same (promise_of id) shape h = h
shape-alike xs ys same (stream_of id) shape h = ap (stream_shape id) (sym (same id)) ∙ h
shape-alike xs ys same (action_of id) shape h = ap action_shape (sym (reference_of-alike xs ys same id)) ∙ h

-- ---- rows of other ids before rows

-- no id has rows in both
abbrev pub Apart : List PlacedRow → List PlacedRow → Type 0
Apart old rows = (id : ℕ) → (rows_of id old ≡ []) ⊎ (rows_of id rows ≡ [])

pub swapped : (old rows : List PlacedRow) → Apart old rows → Alike (rows ++ old) (old ++ rows)
swapped old rows apart id = rows_of-append id rows old ∙ (go (apart id) ∙ sym (rows_of-append id old rows))
  where
    go : (rows_of id old ≡ []) ⊎ (rows_of id rows ≡ []) → rows_of id rows ++ rows_of id old ≡ rows_of id old ++ rows_of id rows
    go (inl e) = ap (λ z. rows_of id rows ++ z) e ∙ (append-nil (rows_of id rows) ∙ sym (ap (λ z. z ++ rows_of id rows) e))
    go (inr e) = ap (λ z. z ++ rows_of id old) e ∙ sym (ap (λ z. rows_of id old ++ z) e ∙ append-nil (rows_of id old))

pub place-behind : (old rows : List PlacedRow) → Apart old rows → (s : Spot) (at : Place) → place_at rows s ≡ Some at → place_at (old ++ rows) s ≡ Some at
place-behind old rows apart s at h = sym (place-alike (rows ++ old) (old ++ rows) (swapped old rows apart) s) ∙ place-more rows old s at h

pub end-behind : (old rows : List PlacedRow) → Apart old rows → (s : Stand) (f : Found) → IsEnd f → Ends rows s f → Ends (old ++ rows) s f
end-behind old rows apart s f is w = ends-alike (rows ++ old) (old ++ rows) (swapped old rows apart) s f (end-more rows old s f is w)

pub shape-behind : (old rows : List PlacedRow) → Apart old rows → (i : Identity) (shape : Shape Written) → HasEnded shape.label → HasShape rows i shape → HasShape (old ++ rows) i shape
shape-behind old rows apart i shape over h = shape-alike (rows ++ old) (old ++ rows) (swapped old rows apart) i shape (shape-more rows old i shape over h)

-- the rows of an id that only the later rows have
pub rows-behind : (old rows : List PlacedRow) → Apart old rows → (id : ℕ) (t : PlaceTree) (ts : List PlaceTree) → rows_of id rows ≡ t ∷ ts → rows_of id (old ++ rows) ≡ t ∷ ts
rows-behind old rows apart id t ts e = rows_of-append id old rows ∙ go (apart id)
  where
    IsEmpty : List PlaceTree → Type 0
    IsEmpty [] = Unit {0}
    IsEmpty (x ∷ xs) = ⊥

    go : (rows_of id old ≡ []) ⊎ (rows_of id rows ≡ []) → rows_of id old ++ rows_of id rows ≡ t ∷ ts
    go (inl none) = ap (λ z. z ++ rows_of id rows) none ∙ e
    go (inr none) = absurd (subst IsEmpty (sym none ∙ e) tt)
