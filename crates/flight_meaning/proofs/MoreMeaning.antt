-- What rows mean stays when rows are added, where it was resolved.
use Rattle.std.proofs.Common.{◌≡◌, ◌≢◌, ℕ, suc, ◌+◌, add-zero, length, arith, append-nil, append_assoc, inl, inr, Bool, is_some, if◌then◌else◌, List, [], ◌∷◌, ◌++◌, codes, Option, Some, None, option_and_then, slice_get, refl, sym, ap, ◌∙◌, subst}
use Rattle.std.proofs.lemmas.Option.{none-some, same_Some}
use Rattle.flight_value.specs.declared.graph.Atom.TheVariants as atom
use Rattle.flight_value.specs.declared.graph.Flow.{Flow}
use Rattle.flight_value.specs.Store as store
use Rattle.flight_value.specs.Store.{Label, Shape, Target, FlowState}
use Rattle.flight_text.specs.declared.mark.Ref.{Ref}
use Rattle.flight_row.specs.declared.row.RowKind.{RowKind}
use Rattle.flight_row.specs.declared.row.RowKind.TheVariants as row
use Rattle.flight_meaning.specs.declared.place.Place.{Place}
use Rattle.flight_meaning.specs.declared.place.Place.TheVariants as place
use Rattle.flight_meaning.specs.declared.place.PlaceTree.{PlaceTree}
use Rattle.flight_meaning.specs.declared.place.PlacedRow.{PlacedRow}
use Rattle.flight_meaning.specs.Linked.{rows_of, Spot, place_at, first_place, beside}
use Rattle.flight_meaning.specs.Resolve.{property, to, Found, found, stream, not_yet, nowhere}
use Rattle.flight_meaning.specs.Meaning.{Written, Identity, made_at, promise_of, stream_of, action_of, Token, map_token, set_token, entry, both, entries, slots_in, HasSlots, FailsWith, Reference, text_at, bound_at, reference_with, there, reference_in, reference_by, reference_of, FlowEnd, flowing, closed_with, broken_by, Flowed, with_row, flowed, joined, state_of, final_slots, HasShapeHere, opened, stream_shape, action_shape, HasShape, pending, TokenLeads, LeadsHere, IsTarget, stand_of, Leads}
use Rattle.flight_meaning.specs.Good.{IsTokenDefined, IsDefined, IsHeld}
use Rattle.flight_meaning.specs.Lasting.{HasEnded, HasGrown}
use Rattle.flight_meaning.proofs.MoreRows.{rows_of-first, place-more, end-more, comes-more}

-- ---- Maps and Sets

entry-more : (rows more : List PlacedRow) (s t : Spot) (slots : List Written) → entry s (place_at rows t) ≡ Some slots → entry s (place_at (rows ++ more) t) ≡ Some slots
entry-more rows more s t slots h = go (place_at rows t) refl h
  where
    go : (o : Option Place) → place_at rows t ≡ o → entry s o ≡ Some slots → entry s (place_at (rows ++ more) t) ≡ Some slots
    go None e h = absurd (none-some slots h)
    go (Some at) e h = ap (entry s) (place-more rows more t at e) ∙ h

-- both are there
both_there : (x y : Option (List Written)) (slots : List Written) → both x y ≡ Some slots → (front : List Written) × (rest : List Written) × (x ≡ Some front) × (y ≡ Some rest)
both_there None y slots h = absurd (none-some slots h)
both_there (Some front) None slots h = absurd (none-some slots h)
both_there (Some front) (Some rest) slots h = (front, rest, refl, refl)

entries-more : (rows more : List PlacedRow) (s : Spot) (ns : List ℕ) (slots : List Written) → entries rows s ns ≡ Some slots → entries (rows ++ more) s ns ≡ Some slots
entries-more rows more s [] slots h = h
entries-more rows more s (n ∷ ns) slots h =
    let b = both_there (entry s (place_at rows (beside s n))) (entries rows s ns) slots h in
    let first : entry s (place_at (rows ++ more) (beside s n)) ≡ entry s (place_at rows (beside s n)) = entry-more rows more s (beside s n) b.0 b.2 ∙ sym b.2 in
    let others : entries (rows ++ more) s ns ≡ entries rows s ns = entries-more rows more s ns b.1 b.3 ∙ sym b.3 in
    ap (λ x. both x (entries (rows ++ more) s ns)) first ∙ (ap (λ y. both (entry s (place_at rows (beside s n))) y) others ∙ h)

slots_in-more : (token : Token) (rows more : List PlacedRow) (s : Spot) (o : Option Place) (slots : List Written) → slots_in token rows s o ≡ Some slots → slots_in token (rows ++ more) s o ≡ Some slots
slots_in-more map_token rows more s (Some (place.Array numbers)) slots h = entries-more rows more s numbers slots h
slots_in-more set_token rows more s (Some (place.Array numbers)) slots h = h
slots_in-more map_token rows more s None slots h = absurd (none-some slots h)
slots_in-more set_token rows more s None slots h = absurd (none-some slots h)
slots_in-more map_token rows more s (Some at) slots h = absurd (none-some slots h)
slots_in-more set_token rows more s (Some at) slots h = absurd (none-some slots h)

pub slots-more : (rows more : List PlacedRow) (token : Token) (r : Ref) (slots : List Written) → HasSlots rows token r slots → HasSlots (rows ++ more) token r slots
slots-more rows more token r slots (found s, w, h) = (found s, end-more rows more (to r.id r.path) (found s) tt w, go (place_at rows s) refl h)
  where
    none : (t : Token) → slots_in t rows s None ≡ Some slots → None ≡ Some slots
    none map_token h = h
    none set_token h = h

    go : (o : Option Place) → place_at rows s ≡ o → slots_in token rows s o ≡ Some slots → slots_in token (rows ++ more) s (place_at (rows ++ more) s) ≡ Some slots
    go None e h = absurd (none-some slots (none token h))
    go (Some at) e h = ap (slots_in token (rows ++ more) s) (place-more rows more s at e) ∙ slots_in-more token rows more s (Some at) slots h
slots-more rows more token r slots (stream id, w, h) = absurd (none-some slots h)
slots-more rows more token r slots (not_yet id path, w, h) = absurd (none-some slots h)
slots-more rows more token r slots (nowhere, w, h) = absurd (none-some slots h)

pub failure-more : (rows more : List PlacedRow) (r : Ref) (digest : List ℕ) → FailsWith rows r digest → FailsWith (rows ++ more) r digest
failure-more rows more r digest w = (w.0, end-more rows more (to r.id r.path) (found w.0) tt w.1, place-more rows more w.0 (place.Atom (atom.Failed digest)) w.2)

-- ---- server references

text-more : (rows more : List PlacedRow) (s : Spot) (o : Option ℕ) (text : List ℕ) → option_and_then (λ n. text_at (there rows s n)) o ≡ Some text → option_and_then (λ n. text_at (there (rows ++ more) s n)) o ≡ Some text
text-more rows more s None text h = absurd (none-some text h)
text-more rows more s (Some n) text h = go (place_at rows (beside s n)) refl h
  where
    go : (o : Option Place) → place_at rows (beside s n) ≡ o → text_at o ≡ Some text → text_at (place_at (rows ++ more) (beside s n)) ≡ Some text
    go None e h = absurd (none-some text h)
    go (Some at) e h = ap text_at (place-more rows more (beside s n) at e) ∙ h

bound-more : (rows more : List PlacedRow) (s : Spot) (o : Option ℕ) (bound : Spot) → option_and_then (λ n. bound_at (beside s n) (there rows s n)) o ≡ Some bound → option_and_then (λ n. bound_at (beside s n) (there (rows ++ more) s n)) o ≡ Some bound
bound-more rows more s None bound h = absurd (none-some bound h)
bound-more rows more s (Some n) bound h = go (place_at rows (beside s n)) refl h
  where
    go : (o : Option Place) → place_at rows (beside s n) ≡ o → bound_at (beside s n) o ≡ Some bound → bound_at (beside s n) (place_at (rows ++ more) (beside s n)) ≡ Some bound
    go None e h = absurd (none-some bound h)
    go (Some at) e h = ap (bound_at (beside s n)) (place-more rows more (beside s n) at e) ∙ h

with_there : (x : Option (List ℕ)) (y : Option Spot) (r : Reference) → reference_with x y ≡ Some r → (name : List ℕ) × (bound : Spot) × (x ≡ Some name) × (y ≡ Some bound)
with_there None y r h = absurd (none-some r h)
with_there (Some name) None r h = absurd (none-some r h)
with_there (Some name) (Some bound) r h = (name, bound, refl, refl)

reference_in-more : (rows more : List PlacedRow) (s : Spot) (o : Option Place) (r : Reference) → reference_in rows s o ≡ Some r → reference_in (rows ++ more) s o ≡ Some r
reference_in-more rows more s (Some (place.Object props)) r h =
    let name = property props (codes "id") in
    let bound = property props (codes "bound") in
    let w = with_there (option_and_then (λ n. text_at (there rows s n)) name) (option_and_then (λ n. bound_at (beside s n) (there rows s n)) bound) r h in
    let names : option_and_then (λ n. text_at (there (rows ++ more) s n)) name ≡ option_and_then (λ n. text_at (there rows s n)) name = text-more rows more s name w.0 w.2 ∙ sym w.2 in
    let bounds : option_and_then (λ n. bound_at (beside s n) (there (rows ++ more) s n)) bound ≡ option_and_then (λ n. bound_at (beside s n) (there rows s n)) bound = bound-more rows more s bound w.1 w.3 ∙ sym w.3 in
    ap (λ x. reference_with x (option_and_then (λ n. bound_at (beside s n) (there (rows ++ more) s n)) bound)) names
    ∙ (ap (λ y. reference_with (option_and_then (λ n. text_at (there rows s n)) name) y) bounds ∙ h)
reference_in-more rows more s None r h = absurd (none-some r h)
reference_in-more rows more s (Some at) r h = absurd (none-some r h)

reference_by-more : (rows more : List PlacedRow) (id : ℕ) (kind : RowKind) (r : Reference) → reference_by rows id kind ≡ Some r → reference_by (rows ++ more) id kind ≡ Some r
reference_by-more rows more id row.Model r h = go (place_at rows (first_place id)) refl h
  where
    go : (o : Option Place) → place_at rows (first_place id) ≡ o → reference_in rows (first_place id) o ≡ Some r → reference_in (rows ++ more) (first_place id) (place_at (rows ++ more) (first_place id)) ≡ Some r
    go None e h = absurd (none-some r h)
    go (Some at) e h = ap (reference_in (rows ++ more) (first_place id)) (place-more rows more (first_place id) at e) ∙ reference_in-more rows more (first_place id) (Some at) r h
reference_by-more rows more id kind r h = absurd (none-some r h)

pub reference-more : (rows more : List PlacedRow) (id : ℕ) (r : Reference) → reference_of rows id ≡ Some r → reference_of (rows ++ more) id ≡ Some r
reference-more rows more id r h = go (rows_of id rows) refl h
  where
    go : (ts : List PlaceTree) → rows_of id rows ≡ ts → option_and_then (λ t. reference_by rows id t.kind) (slice_get ts 0) ≡ Some r → reference_of (rows ++ more) id ≡ Some r
    go [] e h = absurd (none-some r h)
    go (t ∷ ts) e h = ap (λ us. option_and_then (λ t. reference_by (rows ++ more) id t.kind) (slice_get us 0)) (rows_of-first id rows more t ts e) ∙ reference_by-more rows more id t.kind r h

-- ---- streams

-- what has an end takes no more
abbrev pub IsOver : FlowEnd → Type 0
IsOver flowing = ⊥
IsOver e = Unit {0}

row-more : (id n : ℕ) (kind : RowKind) (t : PlaceTree) (a b : Flowed) → (IsOver a.end → b ≡ a) → IsOver (with_row id n kind t a).end → with_row id n kind t b ≡ with_row id n kind t a
row-more id n row.Error t a b same over = refl
row-more id n row.Close t a b same over = refl
row-more id n (row.Open flow) t a b same over = same over
row-more id n row.Model t a b same over = ap (λ z. with_row id n row.Model t z) (same over)
row-more id n row.Import t a b same over = ap (λ z. with_row id n row.Import t z) (same over)
row-more id n row.Text t a b same over = ap (λ z. with_row id n row.Text t z) (same over)

flowed-more : (id n : ℕ) (ts us : List PlaceTree) → IsOver (flowed id n ts).end → flowed id n (ts ++ us) ≡ flowed id n ts
flowed-more id n [] us over = absurd over
flowed-more id n (t ∷ ts) us over = row-more id n t.kind t (flowed id (suc n) ts) (flowed id (suc n) (ts ++ us)) (flowed-more id (suc n) ts us) over

opened-more : (kind : RowKind) (a b : Flowed) (shape : Shape Written) → (IsOver a.end → b ≡ a) → opened kind a ≡ Some shape → HasEnded shape.label → opened kind b ≡ Some shape
opened-more (row.Open flow) a b shape same h ended = ap (opened (row.Open flow)) (same (over a.end label)) ∙ h
  where
    label : HasEnded (store.stream flow (state_of a.end))
    label = subst (λ (z : Shape Written). HasEnded z.label) (sym (same_Some _ shape h)) ended

    over : (e : FlowEnd) → HasEnded (store.stream flow (state_of e)) → IsOver e
    over flowing x = absurd x
    over (closed_with final) x = tt
    over (broken_by digest) x = tt
opened-more kind a b shape same h ended = absurd (none-some shape h)

pub stream-more : (rows more : List PlacedRow) (id : ℕ) (shape : Shape Written) → HasEnded shape.label → stream_shape id (rows_of id rows) ≡ Some shape → stream_shape id (rows_of id (rows ++ more)) ≡ Some shape
stream-more rows more id shape ended h = go (rows_of id rows) refl h
  where
    go : (ts : List PlaceTree) → rows_of id rows ≡ ts → stream_shape id ts ≡ Some shape → stream_shape id (rows_of id (rows ++ more)) ≡ Some shape
    go [] e h = absurd (none-some shape h)
    go (t ∷ ts) e h =
        ap (stream_shape id) (rows_of-first id rows more t ts e)
        ∙ opened-more t.kind (flowed id 1 ts) (flowed id 1 (ts ++ rows_of id more)) shape (flowed-more id 1 ts (rows_of id more)) h ended

-- ---- what stands under an identity

shape_here-more : (rows more : List PlacedRow) (s : Spot) (at : Place) (shape : Shape Written) → HasShapeHere rows s (Some at) shape → HasShapeHere (rows ++ more) s (Some at) shape
shape_here-more rows more s (place.Map r) shape h = (h.0, slots-more rows more map_token r h.0 h.1, h.2)
shape_here-more rows more s (place.Set r) shape h = (h.0, slots-more rows more set_token r h.0 h.1, h.2)
shape_here-more rows more s at shape h = h

-- a stream may still go on; any other node stays as it is
pub shape-more : (rows more : List PlacedRow) (k : Identity) (shape : Shape Written) → HasEnded shape.label → HasShape rows k shape → HasShape (rows ++ more) k shape
shape-more rows more (made_at s) shape ended h = go (place_at rows s) refl h
  where
    go : (o : Option Place) → place_at rows s ≡ o → HasShapeHere rows s o shape → HasShapeHere (rows ++ more) s (place_at (rows ++ more) s) shape
    go None e h = absurd (none-some shape h)
    go (Some at) e h = subst (λ o. HasShapeHere (rows ++ more) s o shape) (sym (place-more rows more s at e)) (shape_here-more rows more s at shape h)
shape-more rows more (promise_of id) shape ended h = h
shape-more rows more (stream_of id) shape ended h = stream-more rows more id shape ended h
shape-more rows more (action_of id) shape ended h = go (reference_of rows id) refl h
  where
    go : (o : Option Reference) → reference_of rows id ≡ o → action_shape o ≡ Some shape → action_shape (reference_of (rows ++ more) id) ≡ Some shape
    go None e h = absurd (none-some shape h)
    go (Some r) e h = ap action_shape (reference-more rows more id r e) ∙ h

-- ---- where a slot leads

token-more : (rows more : List PlacedRow) (token : Token) (s : Spot) (r : Ref) (x : Target Identity) → x ≢ pending → TokenLeads rows token s r x → TokenLeads (rows ++ more) token s r x
token-more rows more token s r x sure (inl a) = inl (a.0, slots-more rows more token r a.0 a.1, a.2)
token-more rows more token s r x sure (inr (inl a)) = inr (inl (a.0, failure-more rows more r a.0 a.1, a.2))
token-more rows more token s r x sure (inr (inr a)) = absurd (sure a.2)

abbrev action_target : ℕ → Bool → Target Identity
action_target id b = if b then store.node_at (action_of id) else pending

action-more : (rows more : List PlacedRow) (id : ℕ) (x : Target Identity) → x ≢ pending → x ≡ action_target id (is_some (reference_of rows id)) → x ≡ action_target id (is_some (reference_of (rows ++ more) id))
action-more rows more id x sure h = go (reference_of rows id) refl h
  where
    go : (o : Option Reference) → reference_of rows id ≡ o → x ≡ action_target id (is_some o) → x ≡ action_target id (is_some (reference_of (rows ++ more) id))
    go None e h = absurd (sure h)
    go (Some r) e h = h ∙ sym (ap (λ o. action_target id (is_some o)) (reference-more rows more id r e))

here-more : (rows more : List PlacedRow) (s : Spot) (at : Place) (x : Target Identity) → x ≢ pending → LeadsHere rows s (Some at) x → LeadsHere (rows ++ more) s (Some at) x
here-more rows more s (place.Map r) x sure h = token-more rows more map_token s r x sure h
here-more rows more s (place.Set r) x sure h = token-more rows more set_token s r x sure h
here-more rows more s (place.Action id) x sure h = action-more rows more id x sure h
here-more rows more s at x sure h = h

pub target-more : (rows more : List PlacedRow) (f : Found) (x : Target Identity) → x ≢ pending → IsTarget rows f x → IsTarget (rows ++ more) f x
target-more rows more (found s) x sure h = go (place_at rows s) refl h
  where
    go : (o : Option Place) → place_at rows s ≡ o → LeadsHere rows s o x → LeadsHere (rows ++ more) s (place_at (rows ++ more) s) x
    go None e h = absurd (sure h)
    go (Some at) e h = subst (λ o. LeadsHere (rows ++ more) s o x) (sym (place-more rows more s at e)) (here-more rows more s at x sure h)
target-more rows more (stream id) x sure h = h
target-more rows more (not_yet id path) x sure h = h
target-more rows more nowhere x sure h = h

-- a target that is not pending stays
pub leads-more : (rows more : List PlacedRow) (w : Written) (x : Target Identity) → x ≢ pending → Leads rows w x → Leads (rows ++ more) w x
leads-more rows more w x sure (inr a) = absurd (sure a.1)
leads-more rows more w x sure (inl (found s, a, h)) = inl (found s, end-more rows more (stand_of w) (found s) tt a, target-more rows more (found s) x sure h)
leads-more rows more w x sure (inl (stream id, a, h)) = inl (stream id, end-more rows more (stand_of w) (stream id) tt a, h)
leads-more rows more w x sure (inl (not_yet id path, a, h)) = absurd (sure h)
leads-more rows more w x sure (inl (nowhere, a, h)) = absurd (sure h)

-- ---- which references are defined

token_defined-more : (rows more : List PlacedRow) (token : Token) (r : Ref) → IsTokenDefined rows token r → IsTokenDefined (rows ++ more) token r
token_defined-more rows more token r (inl a) = inl (a.0, slots-more rows more token r a.0 a.1)
token_defined-more rows more token r (inr a) = inr (a.0, failure-more rows more r a.0 a.1)

pub defined-more : (rows more : List PlacedRow) (at : Place) → IsDefined rows at → IsDefined (rows ++ more) at
defined-more rows more (place.Lazy id) h = comes-more rows more (to id []) h
defined-more rows more (place.Promise id) h = comes-more rows more (to id []) h
defined-more rows more (place.Value at) h = comes-more rows more (to at.id at.path) h
defined-more rows more (place.Map at) h = token_defined-more rows more map_token at h
defined-more rows more (place.Set at) h = token_defined-more rows more set_token at h
defined-more rows more (place.Action id) h = (h.0, reference-more rows more id h.0 h.1)
defined-more rows more at h = h

pub held-more : (rows more : List PlacedRow) (at : Place) → IsHeld rows at → IsHeld (rows ++ more) at
held-more rows more at h = (h.0, place-more rows more h.0 at h.1)

-- ---- a stream that still goes on

row-joined : (id n : ℕ) (kind : RowKind) (t : PlaceTree) (a b c : Flowed) → (a.end ≡ flowing → c ≡ joined a b) → (with_row id n kind t a).end ≡ flowing → with_row id n kind t c ≡ joined (with_row id n kind t a) b
row-joined id n row.Error t a b c same still = cc
row-joined id n row.Close t a b c same still = cc
row-joined id n (row.Open flow) t a b c same still = same still
row-joined id n row.Model t a b c same still = ap (λ z. with_row id n row.Model t z) (same still)
row-joined id n row.Import t a b c same still = ap (λ z. with_row id n row.Import t z) (same still)
row-joined id n row.Text t a b c same still = ap (λ z. with_row id n row.Text t z) (same still)

pub flowed-append : (id n : ℕ) (ts us : List PlaceTree) → (flowed id n ts).end ≡ flowing → flowed id n (ts ++ us) ≡ joined (flowed id n ts) (flowed id (n + length ts) us)
flowed-append id n [] us still = ap (λ k. flowed id k us) (sym (add-zero n))
flowed-append id n (t ∷ ts) us still =
    subst (λ k. flowed id n (t ∷ (ts ++ us)) ≡ joined (flowed id n (t ∷ ts)) (flowed id k us)) count
    (row-joined id n t.kind t (flowed id (suc n) ts) (flowed id (suc n + length ts) us) (flowed id (suc n) (ts ++ us)) (flowed-append id (suc n) ts us) still)
  where
    count : suc n + length ts ≡ n + length (t ∷ ts)
    count = omega arith

-- what a row that opens a stream says of its shape
opened_parts : (kind : RowKind) (a : Flowed) (flow : Flow) (state : FlowState) (slots : List Written) → opened kind a ≡ Some (record { label = store.stream flow state; slots = slots })
    → (kind ≡ row.Open flow) × (state_of a.end ≡ state) × (a.items ++ final_slots a.end ≡ slots)
opened_parts (row.Open f) a flow state slots h =
    let same : ◌≡◌ {A = Shape Written} (record { label = store.stream f (state_of a.end); slots = a.items ++ final_slots a.end }) (record { label = store.stream flow state; slots = slots }) = same_Some _ _ h in
    let label : store.stream f (state_of a.end) ≡ store.stream flow state = ap (λ (z : Shape Written). z.label) same in
    let flows : f ≡ flow = cc in
    let states : state_of a.end ≡ state = cc in
    (ap row.Open flows, states, ap (λ (z : Shape Written). z.slots) same)
opened_parts row.Model a flow state slots h = absurd (none-some _ h)
opened_parts row.Import a flow state slots h = absurd (none-some _ h)
opened_parts row.Error a flow state slots h = absurd (none-some _ h)
opened_parts row.Text a flow state slots h = absurd (none-some _ h)
opened_parts row.Close a flow state slots h = absurd (none-some _ h)

grown-by : (kind : RowKind) (a b c : Flowed) (flow : Flow) (slots : List Written) → kind ≡ row.Open flow → c ≡ joined a b → a.end ≡ flowing → a.items ++ final_slots a.end ≡ slots
    → opened kind c ≡ Some (record { label = store.stream flow (state_of b.end); slots = slots ++ (b.items ++ final_slots b.end) })
grown-by kind a b c flow slots is_open is_joined still is_slots =
    let front : a.items ≡ slots = sym (append-nil a.items) ∙ (ap (λ z. a.items ++ final_slots z) (sym still) ∙ is_slots) in
    let all : (a.items ++ b.items) ++ final_slots b.end ≡ slots ++ (b.items ++ final_slots b.end) = append_assoc a.items b.items (final_slots b.end) ∙ ap (λ z. z ++ (b.items ++ final_slots b.end)) front in
    ap (λ k. opened k c) is_open ∙ (ap (opened (row.Open flow)) is_joined ∙ ap (λ z. Some (record { label = store.stream flow (state_of b.end); slots = z })) all)

-- a stream grows by slots behind its own, and may end
pub stream-grows : (rows more : List PlacedRow) (id : ℕ) (flow : Flow) (state : FlowState) (slots : List Written) → HasShape rows (stream_of id) (record { label = store.stream flow state; slots = slots }) → HasGrown (rows ++ more) id flow slots
stream-grows rows more id flow state slots h = go (rows_of id rows) refl h
  where
    over : HasEnded (store.stream flow state) → HasGrown (rows ++ more) id flow slots
    over e = (state, [], subst (λ z. HasShape (rows ++ more) (stream_of id) (record { label = store.stream flow state; slots = z })) (sym (append-nil slots)) (shape-more rows more (stream_of id) (record { label = store.stream flow state; slots = slots }) e h))

    by_end : (t : PlaceTree) (ts : List PlaceTree) → rows_of id rows ≡ t ∷ ts → t.kind ≡ row.Open flow → (e : FlowEnd) → (flowed id 1 ts).end ≡ e → state_of e ≡ state → (flowed id 1 ts).items ++ final_slots (flowed id 1 ts).end ≡ slots → HasGrown (rows ++ more) id flow slots
    by_end t ts first is_open flowing is_end is_state is_slots =
        let b = flowed id (1 + length ts) (rows_of id more) in (
          state_of b.end,
          b.items ++ final_slots b.end,
          ap (stream_shape id) (rows_of-first id rows more t ts first)
              ∙ grown-by t.kind (flowed id 1 ts) b (flowed id 1 (ts ++ rows_of id more)) flow slots is_open (flowed-append id 1 ts (rows_of id more) is_end) is_end is_slots,
        )
    by_end t ts first is_open (closed_with final) is_end is_state is_slots = over (subst (λ z. HasEnded (store.stream flow z)) is_state tt)
    by_end t ts first is_open (broken_by digest) is_end is_state is_slots = over (subst (λ z. HasEnded (store.stream flow z)) is_state tt)

    go : (ts : List PlaceTree) → rows_of id rows ≡ ts → stream_shape id ts ≡ Some (record { label = store.stream flow state; slots = slots }) → HasGrown (rows ++ more) id flow slots
    go [] first h = absurd (none-some _ h)
    go (t ∷ ts) first h =
        let p = opened_parts t.kind (flowed id 1 ts) flow state slots h in
        by_end t ts first p.0 (flowed id 1 ts).end refl p.1 p.2
