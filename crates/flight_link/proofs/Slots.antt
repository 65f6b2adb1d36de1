-- The slots of nodes by their numbers, and what stands below a slot.
use Rattle.std.proofs.Common.{◌≡◌, ◌≢◌, ℕ, zero, suc, ◌+◌, ◌/◌, ◌%◌, ◌<◌, Bool, true, false, List, [], ◌∷◌, map, length, Option, Some, None, slice_get, refl, sym, ◌∙◌, ap, subst, arith, inl, inr}
use Rattle.std.specs.Prelude.{is_some, if◌then◌else◌, option_and_then, option_map, codes}
use Rattle.std.proofs.lemmas.Option.{none-some, same_Some, slice_get-map, slice_get-get_or}
use Rattle.std.proofs.Math.Nat.{div-add-mod, mod-lt}
use Rattle.flight_text.specs.declared.mark.Ref.{Ref}
use Rattle.flight_value.specs.declared.graph.Atom.TheVariants as atom
use Rattle.flight_value.specs.Store as store
use Rattle.flight_value.specs.Store.{Label, Shape}
use Rattle.flight_row.specs.declared.row.RowKind.{RowKind}
use Rattle.flight_row.specs.declared.row.RowKind.TheVariants as kind
use Rattle.flight_meaning.specs.declared.place.Named.{Named}
use Rattle.flight_meaning.specs.declared.place.Place.{Place}
use Rattle.flight_meaning.specs.declared.place.Place.TheVariants as place
use Rattle.flight_meaning.specs.declared.place.PlaceTree.{PlaceTree}
use Rattle.flight_meaning.specs.declared.place.PlacedRow.{PlacedRow}
use Rattle.flight_meaning.specs.Linked as linked
use Rattle.flight_meaning.specs.Linked.{rows_of, place_at, first_place}
use Rattle.flight_place.specs.Parts.{IsWithin}
use Rattle.flight_meaning.specs.Resolve.{property, to, Found, found, stream, not_yet, nowhere}
use Rattle.flight_meaning.specs.Meaning.{Written, at_place, value_of, at_places, Identity, made_at, promise_of, stream_of, action_of, pending, Leads, LeadsHere, IsTarget, HasShape, HasShapeHere, Token, map_token, set_token, token_label, HasSlots, slots_in, slots_found, entry, both, entries, Reference, text_at, bound_at, reference_with, reference_in, reference_by, reference_of, there, action_shape}
use Rattle.flight_meaning.proofs.Walking.{one_end}
use Rattle.flight_link.specs.declared.found.Spot.{Spot}
use Rattle.flight_link.specs.declared.node.State.{State}
use Rattle.flight_link.specs.declared.node.State.TheVariants.{Ended}
use Rattle.flight_link.specs.declared.table.Table.{Table}
use Rattle.flight_link.specs.declared.target.Target.{Target}
use Rattle.flight_link.specs.declared.target.Target.TheVariants as target
use Rattle.flight_link.specs.declared.below.Below.TheVariants as below
use Rattle.flight_link.specs.Spots.{IsSpot}
use Rattle.flight_link.specs.Looking.{no_place, SeesPast, InSlot, Sees}
use Rattle.flight_link.specs.Nodes.{IsPlain, IsFine, IsTable, AreLinked, IsRowOf, place_in, spot_of}
use Rattle.flight_link.specs.Waiting.{IsResolved}
use Rattle.flight_link.specs.Targets.{IsTargetOf, token_place}
use Rattle.flight_link.specs.Slots.{number_in, beside, IsSlotOf, IsThere, IsSlotAt, IsTokenSlot, IsEntrySlot, array_item, item_at, entry_item, object_property, property_at, IsBound, IsBelowTarget}
use Rattle.flight_link.proofs.PlainRows.{row_there, place_there, spot_in_row, one_row}
use Rattle.flight_link.proofs.Stepping.{at_all, property_within}
use Rattle.flight_link.proofs.Finds.{none_before}
use Rattle.flight_link.proofs.Defined.{place_of_row, token_never}

-- ---- the places of slots are there

pub number_within : (total : ℕ) (at : Place) (n m : ℕ) → IsWithin total at → number_in at n ≡ Some m → m < total
number_within total (place.Array numbers) n m w e = at_all (λ k. k < total) numbers n m w e
number_within total (place.Object props) n m w e = go (slice_get props n) refl e
  where
    go : (o : Option Named) → slice_get props n ≡ o → option_map (λ (p : Named). p.place) o ≡ Some m → m < total
    go (Some p) is h = subst (λ k. k < total) (same_Some p.place m h) (at_all (λ (q : Named). q.place < total) props n p w is)
    go None is h = absurd (none-some m h)
number_within total (place.Element tag key props) zero m w e = subst (λ k. k < total) (same_Some tag m e) w.0
number_within total (place.Element tag key props) (suc zero) m w e = subst (λ k. k < total) (same_Some key m e) w.1
number_within total (place.Element tag key props) (suc (suc zero)) m w e = subst (λ k. k < total) (same_Some props m e) w.2
number_within total (place.Element tag key props) (suc (suc (suc n))) m w e = absurd (none-some m e)
number_within total at n m w e = absurd (none-some m e)

pub beside_there : (t : Table) (s : Spot) (at : Place) (o : Option ℕ) → IsTable t → place_in t.rows.items s ≡ Some at → ((total m : ℕ) → IsWithin total at → o ≡ Some m → m < total) → IsThere t.rows.items (beside s o)
beside_there t s at None table e f = tt
beside_there t s at (Some m) table e f =
    let h = row_there t.rows.items s at e in
    let fine = at_all IsFine t.rows.items s.row h.0 table.fine h.1 in
    let w = at_all (IsWithin (length h.0.tree.places)) h.0.tree.places s.place at fine.within h.2 in
    let less = f (length h.0.tree.places) m w refl in
    (_, ap (option_and_then (λ (r : PlacedRow). slice_get r.tree.places m)) h.1 ∙ slice_get-get_or h.0.tree.places m at less)

-- the place of a number in a place
pub number_there : (t : Table) (s : Spot) (at : Place) (n : ℕ) → IsTable t → place_in t.rows.items s ≡ Some at → IsThere t.rows.items (beside s (number_in at n))
number_there t s at n table e = beside_there t s at (number_in at n) table e (λ total m w is. number_within total at n m w is)

pub property_there : (t : Table) (s : Spot) (props : List Named) (name : List ℕ) → IsTable t → place_in t.rows.items s ≡ Some (place.Object props) → IsThere t.rows.items (beside s (property props name))
property_there t s props name table e = beside_there t s (place.Object props) (property props name) table e (λ total m w is. property_within total props name m w is)

-- ---- slots of arrays, objects and elements

written_at : (rows : List PlacedRow) (s : Spot) (o : Option ℕ) → option_map (λ n. at_place (linked.beside (spot_of rows s) n)) o ≡ option_map (λ (x : Spot). at_place (spot_of rows x)) (beside s o)
written_at rows s None = refl
written_at rows s (Some n) = refl

written_slots : (rows : List PlacedRow) (s : Spot) (numbers : List ℕ) (n : ℕ) → slice_get (at_places (spot_of rows s) numbers) n ≡ option_map (λ (x : Spot). at_place (spot_of rows x)) (beside s (slice_get numbers n))
written_slots rows s numbers n = slice_get-map (λ k. at_place (linked.beside (spot_of rows s) k)) numbers n ∙ written_at rows s (slice_get numbers n)

-- neither a Map nor a Set
abbrev pub IsNoToken : Place → Type 0
IsNoToken (place.Map reference) = ⊥
IsNoToken (place.Set reference) = ⊥
IsNoToken at = Unit {0}

slots_same : (rows : List PlacedRow) (s : Spot) (n : ℕ) (o : Option ℕ) (label : Label) (numbers : List ℕ) (shape : Shape Written) → Some (record { label = label; slots = at_places (spot_of rows s) numbers }) ≡ Some shape → slice_get numbers n ≡ o → IsSlotOf rows shape.slots n (beside s o)
slots_same rows s n o label numbers shape e is =
    let same : record { label = label; slots = at_places (spot_of rows s) numbers } ≡ shape = same_Some _ shape e in
    ap (λ (x : Shape Written). slice_get x.slots n) (sym same) ∙ (written_slots rows s numbers n ∙ ap (λ q. option_map (λ (x : Spot). at_place (spot_of rows x)) (beside s q)) is)

plain_slots : (rows : List PlacedRow) (s : Spot) (at : Place) (n : ℕ) (shape : Shape Written) → IsNoToken at → HasShapeHere rows (spot_of rows s) (Some at) shape → IsSlotOf rows shape.slots n (beside s (number_in at n))
plain_slots rows s (place.Array numbers) n shape is h = slots_same rows s n (slice_get numbers n) store.array numbers shape h refl
plain_slots rows s (place.Object props) n shape is h = slots_same rows s n (option_map (λ (p : Named). p.place) (slice_get props n)) (store.object (map (λ (p : Named). p.name) props)) (map (λ (p : Named). p.place) props) shape h (slice_get-map (λ (p : Named). p.place) props n)
plain_slots rows s (place.Element tag key props) n shape is h = slots_same rows s n (slice_get (tag ∷ key ∷ props ∷ []) n) store.element (tag ∷ key ∷ props ∷ []) shape h refl
plain_slots rows s (place.Map reference) n shape is h = absurd is
plain_slots rows s (place.Set reference) n shape is h = absurd is
plain_slots rows s (place.Atom a) n shape is h = absurd (none-some shape h)
plain_slots rows s (place.Lazy id) n shape is h = absurd (none-some shape h)
plain_slots rows s (place.Promise id) n shape is h = absurd (none-some shape h)
plain_slots rows s (place.Value reference) n shape is h = absurd (none-some shape h)
plain_slots rows s (place.Action id) n shape is h = absurd (none-some shape h)

pub no_token : (at : Place) → ((r : Ref) → at ≢ place.Map r) → ((r : Ref) → at ≢ place.Set r) → IsNoToken at
no_token (place.Map r) f g = f r refl
no_token (place.Set r) f g = g r refl
no_token (place.Atom a) f g = tt
no_token (place.Array numbers) f g = tt
no_token (place.Object props) f g = tt
no_token (place.Element tag key props) f g = tt
no_token (place.Lazy id) f g = tt
no_token (place.Promise id) f g = tt
no_token (place.Value r) f g = tt
no_token (place.Action id) f g = tt

pub plain_slot : (t : Table) (s : Spot) (at : Place) (n : ℕ) → IsTable t → place_in t.rows.items s ≡ Some at → IsNoToken at → IsSlotAt t.rows.items (made_at (spot_of t.rows.items s)) n (beside s (number_in at n))
plain_slot t s at n table e is shape h = plain_slots t.rows.items s at n shape is (subst (λ o. HasShapeHere t.rows.items (spot_of t.rows.items s) o shape) (place_there t.rows.items s at table.plain e) h)

-- ---- slots of Maps and Sets

token_shape : (rows : List PlacedRow) (k : Token) (s : linked.Spot) (r : Ref) (shape : Shape Written) → HasShapeHere rows s (Some (token_place k r)) shape → (slots : List Written) × HasSlots rows k r slots × (shape ≡ record { label = token_label k; slots = slots })
token_shape rows map_token s r shape h = h
token_shape rows set_token s r shape h = h

pub token_slot_at : (t : Table) (k : Token) (s : Spot) (r : Ref) (n : ℕ) (o : Option Spot) → IsTable t → place_in t.rows.items s ≡ Some (token_place k r) → IsTokenSlot t.rows.items k r n o → IsSlotAt t.rows.items (made_at (spot_of t.rows.items s)) n o
token_slot_at t k s r n o table e f shape h =
    let x = token_shape t.rows.items k (spot_of t.rows.items s) r shape (subst (λ p. HasShapeHere t.rows.items (spot_of t.rows.items s) p shape) (place_there t.rows.items s (token_place k r) table.plain e) h) in
    ap (λ (y : Shape Written). slice_get y.slots n) x.2 ∙ f x.0 x.1

pub token_slot : (t : Table) (states : List State) (k : Token) (r : Ref) (end : Spot) (n : ℕ) (o : Option Spot) → IsTable t → IsResolved t states r.id r.path (Ended end) → IsEntrySlot t.rows.items k end n o → IsTokenSlot t.rows.items k r n o
token_slot t states k r end n o table h f slots has =
    let same = one_end t.rows.items (to r.id r.path) (found (spot_of t.rows.items end)) has.0 h.0 has.1 in
    let stands : place_at t.rows.items (spot_of t.rows.items end) ≡ place_in t.rows.items end = place_there t.rows.items end h.1.0 table.plain h.1.1 ∙ sym h.1.1 in
    f slots (ap (slots_in k t.rows.items (spot_of t.rows.items end)) (sym stands) ∙ (ap (slots_found k t.rows.items) same ∙ has.2))

pub no_token_slot : (t : Table) (states : List State) (k : Token) (r : Ref) (state : State) (n : ℕ) → AreLinked t states → IsResolved t states r.id r.path state → ((s : Spot) → state ≢ Ended s) → IsTokenSlot t.rows.items k r n None
no_token_slot t states k r state n linked h other slots has = absurd (token_never t states k r state linked h other (inl (slots, has)))

items_slot : (rows : List PlacedRow) (s : Spot) (o : Option Place) (n : ℕ) (slots : List Written) → slots_in set_token rows (spot_of rows s) o ≡ Some slots → IsSlotOf rows slots n (array_item s o n)
items_slot rows s (Some (place.Array numbers)) n slots e = ap (λ x. slice_get x n) (sym (same_Some (at_places (spot_of rows s) numbers) slots e)) ∙ written_slots rows s numbers n
items_slot rows s (Some at) n slots e = absurd (none-some slots e)
items_slot rows s None n slots e = absurd (none-some slots e)

pub item_slot : (rows : List PlacedRow) (s : Spot) (n : ℕ) → IsEntrySlot rows set_token s n (item_at rows s n)
item_slot rows s n slots e = items_slot rows s (place_in rows s) n slots e

pub set_slot : (rows : List PlacedRow) (s : Spot) (n : ℕ) (o : Option Spot) → o ≡ item_at rows s n → IsEntrySlot rows set_token s n o
set_slot rows s n o is = subst (IsEntrySlot rows set_token s n) (sym is) (item_slot rows s n)

-- the two slots of the first entry, and those of the others
record Entered (rows : List PlacedRow) (s : linked.Spot) (m : ℕ) (ns : List ℕ) (slots : List Written) : Type 0 where
  key : ℕ
  value : ℕ
  pair : place_at rows (linked.beside s m) ≡ Some (place.Array (key ∷ value ∷ []))
  rest : List Written
  others : entries rows s ns ≡ Some rest
  whole : slots ≡ at_place (linked.beside (linked.beside s m) key) ∷ at_place (linked.beside (linked.beside s m) value) ∷ rest

entered : (rows : List PlacedRow) (s : linked.Spot) (m : ℕ) (ns : List ℕ) (slots : List Written) → entries rows s (m ∷ ns) ≡ Some slots → Entered rows s m ns slots
entered rows s m ns slots e = go (place_at rows (linked.beside s m)) refl (entries rows s ns) refl e
  where
    go : (o : Option Place) → place_at rows (linked.beside s m) ≡ o → (r : Option (List Written)) → entries rows s ns ≡ r → both (entry (linked.beside s m) o) r ≡ Some slots → Entered rows s m ns slots
    go (Some (place.Array (key ∷ value ∷ []))) is (Some rest) others h = record { key = key; value = value; pair = is; rest = rest; others = others; whole = sym (same_Some _ slots h) }
    go (Some (place.Array (key ∷ value ∷ []))) is None others h = absurd (none-some slots h)
    go o is r others h = cc

entry_get : (rows : List PlacedRow) (s : Spot) (at : Place) (numbers : List ℕ) (k b : ℕ) (slots : List Written) → IsPlain rows → place_in rows s ≡ Some at → b < 2 → entries rows (spot_of rows s) numbers ≡ Some slots → slice_get slots (k + k + b) ≡ option_map (λ (x : Spot). at_place (spot_of rows x)) (entry_item rows (beside s (slice_get numbers k)) b)
entry_get rows s at [] k b slots plain e less h = ap (λ x. slice_get x (k + k + b)) (sym (same_Some [] slots h)) ∙ none_there (k + k + b) ∙ sym (none_in k)
  where
    none_there : (n : ℕ) → slice_get {X = Written} [] n ≡ None
    none_there zero = refl
    none_there (suc n) = refl

    none_in : (n : ℕ) → option_map (λ (x : Spot). at_place (spot_of rows x)) (entry_item rows (beside s (slice_get [] n)) b) ≡ None
    none_in zero = refl
    none_in (suc n) = refl
entry_get rows s at (m ∷ ns) zero b slots plain e less h =
    let none : 0 + 0 + b ≡ b = omega arith in
    ap (slice_get slots) none ∙ first b less
  where
    x : Entered rows (spot_of rows s) m ns slots
    x = entered rows (spot_of rows s) m ns slots h

    stands : place_in rows (record { row = s.row; place = m }) ≡ Some (place.Array (x.key ∷ x.value ∷ []))
    stands = let r = row_there rows s at e in sym (place_of_row rows s r.0 m plain r.1) ∙ x.pair

    first : (b : ℕ) → b < 2 → slice_get slots b ≡ option_map (λ (y : Spot). at_place (spot_of rows y)) (entry_item rows (Some (record { row = s.row; place = m })) b)
    first zero l = ap (λ y. slice_get y 0) x.whole ∙ sym (ap (λ o. option_map (λ (y : Spot). at_place (spot_of rows y)) (array_item (record { row = s.row; place = m }) o 0)) stands)
    first (suc zero) l = ap (λ y. slice_get y 1) x.whole ∙ sym (ap (λ o. option_map (λ (y : Spot). at_place (spot_of rows y)) (array_item (record { row = s.row; place = m }) o 1)) stands)
    first (suc (suc n)) l = let no_more : ⊥ = omega (arith, l) in absurd no_more
entry_get rows s at (m ∷ ns) (suc k) b slots plain e less h =
    let x = entered rows (spot_of rows s) m ns slots h in
    let two : suc k + suc k + b ≡ suc (suc (k + k + b)) = omega arith in
    ap (slice_get slots) two ∙ (ap (λ y. slice_get y (suc (suc (k + k + b)))) x.whole ∙ entry_get rows s at ns k b x.rest plain e less x.others)

entries_slot : (rows : List PlacedRow) (s : Spot) (o : Option Place) (n : ℕ) (slots : List Written) → IsPlain rows → place_in rows s ≡ o → slots_in map_token rows (spot_of rows s) o ≡ Some slots → IsSlotOf rows slots n (entry_item rows (array_item s o (n / 2)) (n % 2))
entries_slot rows s (Some (place.Array numbers)) n slots plain is e =
    let less : n % 2 < 2 = mod-lt n (omega arith) in
    let parts = div-add-mod n 2 in
    let whole : n ≡ n / 2 + n / 2 + n % 2 = omega (arith, parts) in
    ap (slice_get slots) whole ∙ entry_get rows s (place.Array numbers) numbers (n / 2) (n % 2) slots plain is less e
entries_slot rows s (Some at) n slots plain is e = absurd (none-some slots e)
entries_slot rows s None n slots plain is e = absurd (none-some slots e)

pub entry_slot : (rows : List PlacedRow) (s : Spot) (n : ℕ) → IsPlain rows → IsEntrySlot rows map_token s n (entry_item rows (item_at rows s (n / 2)) (n % 2))
entry_slot rows s n plain slots e = entries_slot rows s (place_in rows s) n slots plain refl e

pub entry_known : (rows : List PlacedRow) (s found_at : Spot) (n : ℕ) (o : Option Spot) → IsPlain rows → Some found_at ≡ item_at rows s (n / 2) → o ≡ item_at rows found_at (n % 2) → IsEntrySlot rows map_token s n o
entry_known rows s found_at n o plain e is = subst (IsEntrySlot rows map_token s n) (ap (λ x. entry_item rows x (n % 2)) (sym e) ∙ sym is) (entry_slot rows s n plain)

pub entry_none : (rows : List PlacedRow) (s : Spot) (n : ℕ) → IsPlain rows → None ≡ item_at rows s (n / 2) → IsEntrySlot rows map_token s n None
entry_none rows s n plain e = subst (IsEntrySlot rows map_token s n) (ap (λ x. entry_item rows x (n % 2)) (sym e)) (entry_slot rows s n plain)

-- ---- what a server reference is bound to

known_bound : (rows : List PlacedRow) (row : ℕ) (r : PlacedRow) (o : Option Place) (x : Reference) → ((n : ℕ) → spot_of rows (record { row = row; place = n }) ≡ linked.beside (first_place r.id) n) → reference_in rows (first_place r.id) o ≡ Some x → option_map (λ (s : Spot). spot_of rows s) (object_property (record { row = row; place = 0 }) o (codes "bound")) ≡ Some x.bound
known_bound rows row r (Some (place.Object props)) x same e = go (option_and_then (λ n. text_at (there rows (first_place r.id) n)) (property props (codes "id"))) (property props (codes "bound")) e
  where
    at_bound : (n : ℕ) (p : Option Place) (name : List ℕ) → reference_with (Some name) (bound_at (linked.beside (first_place r.id) n) p) ≡ Some x → linked.beside (first_place r.id) n ≡ x.bound
    at_bound n (Some (place.Atom atom.Null)) name h = ap (λ (y : Reference). y.bound) (same_Some _ x h)
    at_bound n (Some (place.Promise id)) name h = ap (λ (y : Reference). y.bound) (same_Some _ x h)
    at_bound n p name h = absurd (none-some x h)

    go : (name : Option (List ℕ)) (number : Option ℕ) → reference_with name (option_and_then (λ n. bound_at (linked.beside (first_place r.id) n) (there rows (first_place r.id) n)) number) ≡ Some x → option_map (λ (s : Spot). spot_of rows s) (beside (record { row = row; place = 0 }) number) ≡ Some x.bound
    go (Some name) (Some n) h = ap Some (same n ∙ at_bound n (there rows (first_place r.id) n) name h)
    go (Some name) None h = absurd (none-some x h)
    go None number h = absurd (none-some x h)
known_bound rows row r (Some at) x same e = absurd (none-some x e)
known_bound rows row r None x same e = absurd (none-some x e)

pub bound_of_row : (t : Table) (id row : ℕ) → IsTable t → IsRowOf t.rows.items id (Some row) → IsBound t.rows.items id (property_at t.rows.items (record { row = row; place = 0 }) (codes "bound"))
bound_of_row t id row table h x e =
    let r = h.0 in
    let one = one_row t.rows.items row r table.plain h.1 in
    let first : place_at t.rows.items (first_place r.id) ≡ place_in t.rows.items (record { row = row; place = 0 }) =
    ap (λ (y : linked.Spot). place_at t.rows.items (linked.beside y 0)) (sym (spot_in_row t.rows.items (record { row = row; place = 0 }) r h.1)) ∙ place_of_row t.rows.items (record { row = row; place = 0 }) r 0 table.plain h.1 in
    go r.tree.kind (sym (ap (λ ts. option_and_then (λ (y : PlaceTree). reference_by t.rows.items r.id y.kind) (slice_get ts 0)) one) ∙ (ap (reference_of t.rows.items) h.2 ∙ e)) first
  where
    go : (k : RowKind) → reference_by t.rows.items h.0.id k ≡ Some x → place_at t.rows.items (first_place h.0.id) ≡ place_in t.rows.items (record { row = row; place = 0 }) → option_map (λ (s : Spot). spot_of t.rows.items s) (property_at t.rows.items (record { row = row; place = 0 }) (codes "bound")) ≡ Some x.bound
    go kind.Model g first = known_bound t.rows.items row h.0 (place_in t.rows.items (record { row = row; place = 0 })) x (λ n. spot_in_row t.rows.items (record { row = row; place = n }) h.0 h.1) (sym (ap (reference_in t.rows.items (first_place h.0.id)) first) ∙ g)
    go k g first = absurd (none-some x g)

pub no_bound : (rows : List PlacedRow) (id : ℕ) → rows_of id rows ≡ [] → IsBound rows id None
no_bound rows id none x e = absurd (none-some x (sym (ap (λ ts. option_and_then (λ (y : PlaceTree). reference_by rows id y.kind) (slice_get ts 0)) none) ∙ e))

-- ---- where a slot that leads to a node leads

pub spot_is : (rows : List PlacedRow) (s : Spot) (x : linked.Spot) → IsPlain rows → IsSpot rows s x → x ≡ spot_of rows s
spot_is rows s x plain is =
    same x is.id (is.nth ∙ sym (none_before rows s.row is.row plain is.is_row)) is.at ∙ sym (spot_in_row rows s is.row is.is_row)
  where
    same : (y : linked.Spot) → y.id ≡ is.row.id → y.nth ≡ 0 → y.at ≡ s.place → y ≡ record { id = is.row.id; nth = 0; at = s.place }
    same y a b c = ap (λ i. record { id = i; nth = y.nth; at = y.at }) a ∙ (ap (λ n. record { id = is.row.id; nth = n; at = y.at }) b ∙ ap (λ k. record { id = is.row.id; nth = 0; at = k }) c)

-- the place at which it ends
pub record LeadsFrom (rows : List PlacedRow) (w : Written) (k : Identity) : Type 0 where
  pub spot : linked.Spot
  pub at : Place
  pub stands : place_at rows spot ≡ Some at
  pub here : LeadsHere rows spot (Some at) (store.node_at k)

no_node : (k : Identity) → store.node_at k ≡ pending → ⊥
no_node k e = cc

abbrev IsNoStream : Identity → Type 0
IsNoStream (stream_of id) = ⊥
IsNoStream k = Unit {0}

no_stream : (k : Identity) (id : ℕ) → IsNoStream k → store.node_at k ≡ store.node_at (stream_of id) → ⊥
no_stream (made_at s) id h e = cc
no_stream (promise_of i) id h e = cc
no_stream (action_of i) id h e = cc
no_stream (stream_of i) id h e = h

pub leads_from : (rows : List PlacedRow) (w : Written) (k : Identity) → IsNoStream k → Leads rows w (store.node_at k) → LeadsFrom rows w k
leads_from rows w k other (inr l) = absurd (no_node k l.1)
leads_from rows w k other (inl l) = go l.0 l.2
  where
    at_spot : (s : linked.Spot) (o : Option Place) → place_at rows s ≡ o → LeadsHere rows s o (store.node_at k) → LeadsFrom rows w k
    at_spot s (Some at) is h = record { spot = s; at = at; stands = is; here = h }
    at_spot s None is h = absurd (no_node k h)

    go : (f : Found) → IsTarget rows f (store.node_at k) → LeadsFrom rows w k
    go (found s) h = at_spot s (place_at rows s) refl h
    go (stream id) h = absurd (no_stream k id other h)
    go (not_yet id path) h = absurd (no_node k h)
    go nowhere h = absurd (no_node k h)

-- the node is there
record StandsThere (rows : List PlacedRow) (s t : linked.Spot) (at : Place) : Type 0 where
  same : s ≡ t
  shape : Shape Written
  has : HasShapeHere rows t (Some at) shape

there_made : (rows : List PlacedRow) (s t : linked.Spot) (at : Place) (shape : Shape Written) → store.node_at (made_at s) ≡ store.node_at (made_at t) → HasShapeHere rows t (Some at) shape → StandsThere rows s t at
there_made rows s t at shape e h = record { same = cc; shape = shape; has = h }

made_there : (rows : List PlacedRow) (s t : linked.Spot) (at : Place) → LeadsHere rows t (Some at) (store.node_at (made_at s)) → StandsThere rows s t at
made_there rows s t (place.Array numbers) h = there_made rows s t (place.Array numbers) (record { label = store.array; slots = at_places t numbers }) h refl
made_there rows s t (place.Object props) h = there_made rows s t (place.Object props) (record { label = store.object (map (λ (p : Named). p.name) props); slots = at_places t (map (λ (p : Named). p.place) props) }) h refl
made_there rows s t (place.Element tag key props) h = there_made rows s t (place.Element tag key props) (record { label = store.element; slots = at_places t (tag ∷ key ∷ props ∷ []) }) h refl
made_there rows s t (place.Map r) (inl h) = there_made rows s t (place.Map r) (record { label = store.map_of; slots = h.0 }) h.2 (h.0, h.1, refl)
made_there rows s t (place.Map r) (inr (inl h)) = let e = h.2 in cc
made_there rows s t (place.Map r) (inr (inr h)) = let e = h.2 in cc
made_there rows s t (place.Set r) (inl h) = there_made rows s t (place.Set r) (record { label = store.set_of; slots = h.0 }) h.2 (h.0, h.1, refl)
made_there rows s t (place.Set r) (inr (inl h)) = let e = h.2 in cc
made_there rows s t (place.Set r) (inr (inr h)) = let e = h.2 in cc
made_there rows s t (place.Action id) h = go (is_some (reference_of rows id)) h
  where
    go : (b : Bool) → store.node_at (made_at s) ≡ (if b then store.node_at (action_of id) else pending) → StandsThere rows s t (place.Action id)
    go true e = cc
    go false e = cc
made_there rows s t (place.Atom a) h = cc
made_there rows s t (place.Promise id) h = cc
made_there rows s t (place.Lazy id) h = cc
made_there rows s t (place.Value r) h = cc

-- a node at a place: it is there, and has a shape
pub record NodeThere (t : Table) (w : Written) (s : Spot) : Type 0 where
  pub at : Place
  pub stands : place_in t.rows.items s ≡ Some at
  pub leads : Leads t.rows.items w (store.node_at (made_at (spot_of t.rows.items s)))
  pub shape : Shape Written
  pub has : HasShape t.rows.items (made_at (spot_of t.rows.items s)) shape

pub node_there : (t : Table) (w : Written) (s : Spot) → IsTable t → IsTargetOf t.rows.items w (target.Node s) → NodeThere t w s
node_there t w s table h =
    let same = spot_is t.rows.items s h.0 table.plain h.1 in
    let leads = subst (λ x. Leads t.rows.items w (store.node_at (made_at x))) same h.2 in
    let f = leads_from t.rows.items w (made_at (spot_of t.rows.items s)) tt leads in
    let m = made_there t.rows.items (spot_of t.rows.items s) f.spot f.at f.here in
    let at_s : place_at t.rows.items (spot_of t.rows.items s) ≡ Some f.at = ap (place_at t.rows.items) m.same ∙ f.stands in
    let inside : place_in t.rows.items s ≡ Some f.at =
    sym (place_of_row t.rows.items s h.1.row s.place table.plain h.1.is_row) ∙ at_s in
    record {
      at = f.at;
      stands = inside;
      leads = leads;
      shape = m.shape;
      has = subst (λ o. HasShapeHere t.rows.items (spot_of t.rows.items s) o m.shape) (sym at_s) (subst (λ x. HasShapeHere t.rows.items x (Some f.at) m.shape) (sym m.same) m.has);
    }

pub node_place : (t : Table) (s : Spot) (w : Written) → IsTable t → IsTargetOf t.rows.items w (target.Node s) → (at : Place) × (place_in t.rows.items s ≡ Some at)
node_place t s w table h = let there = node_there t w s table h in (there.at, there.stands)

-- ---- what stands below

made_past : (label : Label) (s : linked.Spot) → SeesPast label (made_at s) no_place
made_past store.array s = refl
made_past (store.object names) s = refl
made_past store.map_of s = refl
made_past store.set_of s = refl
made_past store.element s = refl
made_past store.promise s = refl
made_past (store.stream flow store.flowing) s = refl
made_past (store.stream flow store.closed) s = refl
made_past (store.stream flow (store.broken digest)) s = refl
made_past (store.action id) s = refl

pub node_below : (t : Table) (s next : Spot) (n : ℕ) (x : Target) → IsTable t → IsSlotAt t.rows.items (made_at (spot_of t.rows.items s)) n (Some next) → IsTargetOf t.rows.items (at_place (spot_of t.rows.items next)) x → IsBelowTarget t.rows.items (target.Node s) n (below.Slot x)
node_below t s next n x table slot is w h =
    let there = node_there t w s table h in
    let e = slot there.shape there.has in
    (at_place (spot_of t.rows.items next), is, λ path sight sees. inl (made_at (spot_of t.rows.items s), there.shape, there.leads, there.has, subst (λ o. InSlot (λ v. Sees t.rows.items v path sight) there.shape.label (made_at (spot_of t.rows.items s)) o sight) (sym e) sees))

pub node_past : (t : Table) (s : Spot) (n : ℕ) → IsTable t → IsSlotAt t.rows.items (made_at (spot_of t.rows.items s)) n None → IsBelowTarget t.rows.items (target.Node s) n below.NoPlace
node_past t s n table slot w h path =
    let there = node_there t w s table h in
    let e = slot there.shape there.has in
    inl (made_at (spot_of t.rows.items s), there.shape, there.leads, there.has, subst (λ o. InSlot (λ v. Sees t.rows.items v path no_place) there.shape.label (made_at (spot_of t.rows.items s)) o no_place) (sym e) (made_past there.shape.label (spot_of t.rows.items s)))

pub promise_below : (rows : List PlacedRow) (id : ℕ) (x : Target) → IsTargetOf rows (value_of id) x → IsBelowTarget rows (target.Promise id) 0 (below.Slot x)
promise_below rows id x is w h = (value_of id, is, λ path sight sees. inl (promise_of id, record { label = store.promise; slots = value_of id ∷ [] }, h, refl, sees))

pub promise_past : (rows : List PlacedRow) (id n : ℕ) → n ≢ 0 → IsBelowTarget rows (target.Promise id) n below.NoPlace
promise_past rows id zero other w h path = absurd (other refl)
promise_past rows id (suc n) other w h path = inl (promise_of id, record { label = store.promise; slots = value_of id ∷ [] }, h, refl, none n)
  where
    none : (n : ℕ) → InSlot (λ v. Sees rows v path no_place) store.promise (promise_of id) (slice_get [] n) no_place
    none zero = refl
    none (suc n) = refl

record Refers (rows : List PlacedRow) (id : ℕ) : Type 0 where
  reference : Reference
  is : reference_of rows id ≡ Some reference

action_there : (rows : List PlacedRow) (id : ℕ) (s : linked.Spot) (at : Place) → LeadsHere rows s (Some at) (store.node_at (action_of id)) → (at ≡ place.Action id) × Refers rows id
action_there rows id s (place.Action other) h = go (reference_of rows other) refl h
  where
    go : (o : Option Reference) → reference_of rows other ≡ o → store.node_at (action_of id) ≡ (if is_some o then store.node_at (action_of other) else pending) → (place.Action other ≡ place.Action id) × Refers rows id
    go (Some r) is e = let same : other ≡ id = cc in (ap place.Action same, subst (Refers rows) same (record { reference = r; is = is }))
    go None is e = cc
action_there rows id s (place.Map r) (inl h) = let e = h.2 in cc
action_there rows id s (place.Map r) (inr (inl h)) = let e = h.2 in cc
action_there rows id s (place.Map r) (inr (inr h)) = let e = h.2 in cc
action_there rows id s (place.Set r) (inl h) = let e = h.2 in cc
action_there rows id s (place.Set r) (inr (inl h)) = let e = h.2 in cc
action_there rows id s (place.Set r) (inr (inr h)) = let e = h.2 in cc
action_there rows id s (place.Array numbers) h = cc
action_there rows id s (place.Object props) h = cc
action_there rows id s (place.Element tag key props) h = cc
action_there rows id s (place.Atom a) h = cc
action_there rows id s (place.Promise i) h = cc
action_there rows id s (place.Lazy i) h = cc
action_there rows id s (place.Value r) h = cc

promise_there : (rows : List PlacedRow) (id : ℕ) (s : linked.Spot) (at : Place) → LeadsHere rows s (Some at) (store.node_at (promise_of id)) → at ≡ place.Promise id
promise_there rows id s (place.Promise i) h = let same : i ≡ id = cc in ap place.Promise same
promise_there rows id s (place.Action other) h = go (is_some (reference_of rows other)) h
  where
    go : (b : Bool) → store.node_at (promise_of id) ≡ (if b then store.node_at (action_of other) else pending) → place.Action other ≡ place.Promise id
    go true e = cc
    go false e = cc
promise_there rows id s (place.Map r) (inl h) = let e = h.2 in cc
promise_there rows id s (place.Map r) (inr (inl h)) = let e = h.2 in cc
promise_there rows id s (place.Map r) (inr (inr h)) = let e = h.2 in cc
promise_there rows id s (place.Set r) (inl h) = let e = h.2 in cc
promise_there rows id s (place.Set r) (inr (inl h)) = let e = h.2 in cc
promise_there rows id s (place.Set r) (inr (inr h)) = let e = h.2 in cc
promise_there rows id s (place.Array numbers) h = cc
promise_there rows id s (place.Object props) h = cc
promise_there rows id s (place.Element tag key props) h = cc
promise_there rows id s (place.Atom a) h = cc
promise_there rows id s (place.Lazy i) h = cc
promise_there rows id s (place.Value r) h = cc

-- where a promise or a server reference is mentioned
pub promise_mentioned : (rows : List PlacedRow) (w : Written) (id : ℕ) → IsTargetOf rows w (target.Promise id) → (s : linked.Spot) × (place_at rows s ≡ Some (place.Promise id))
promise_mentioned rows w id h =
    let f = leads_from rows w (promise_of id) tt h in
    (f.spot, f.stands ∙ ap Some (promise_there rows id f.spot f.at f.here))

pub action_mentioned : (rows : List PlacedRow) (w : Written) (id : ℕ) → IsTargetOf rows w (target.Action id) → (s : linked.Spot) × (place_at rows s ≡ Some (place.Action id))
action_mentioned rows w id h =
    let f = leads_from rows w (action_of id) tt h in
    (f.spot, f.stands ∙ ap Some (action_there rows id f.spot f.at f.here).0)

pub action_shape_there : (rows : List PlacedRow) (w : Written) (id : ℕ) → IsTargetOf rows w (target.Action id) → (r : Reference) × HasShape rows (action_of id) (record { label = store.action r.name; slots = at_place r.bound ∷ [] })
action_shape_there rows w id h =
    let f = leads_from rows w (action_of id) tt h in
    let x = (action_there rows id f.spot f.at f.here).1 in
    (x.reference, ap action_shape x.is)

pub action_below : (t : Table) (id : ℕ) (next : Spot) (x : Target) → IsTable t → IsBound t.rows.items id (Some next) → IsTargetOf t.rows.items (at_place (spot_of t.rows.items next)) x → IsBelowTarget t.rows.items (target.Action id) 0 (below.Slot x)
action_below t id next x table bound is w h =
    let f = leads_from t.rows.items w (action_of id) tt h in
    let r = (action_there t.rows.items id f.spot f.at f.here).1 in
    let same : spot_of t.rows.items next ≡ r.reference.bound = same_Some _ r.reference.bound (bound r.reference r.is) in
    (at_place (spot_of t.rows.items next), is, λ path sight sees. inl (action_of id, record { label = store.action r.reference.name; slots = at_place r.reference.bound ∷ [] }, h, ap action_shape r.is, subst (λ s. Sees t.rows.items (at_place s) path sight) same sees))

pub action_past : (rows : List PlacedRow) (id n : ℕ) → n ≢ 0 → IsBelowTarget rows (target.Action id) n below.NoPlace
action_past rows id zero other w h path = absurd (other refl)
action_past rows id (suc n) other w h path =
    let s = action_shape_there rows w id h in
    inl (action_of id, record { label = store.action s.0.name; slots = at_place s.0.bound ∷ [] }, h, s.1, none n)
  where
    none : (n : ℕ) → InSlot (λ v. Sees rows v path no_place) (store.action (action_shape_there rows w id h).0.name) (action_of id) (slice_get [] n) no_place
    none zero = refl
    none (suc n) = refl

pub action_unbound : (rows : List PlacedRow) (id n : ℕ) → IsBound rows id None → IsBelowTarget rows (target.Action id) n below.NoPlace
action_unbound rows id n bound w h path =
    let f = leads_from rows w (action_of id) tt h in
    let r = (action_there rows id f.spot f.at f.here).1 in
    absurd (none-some r.reference.bound (bound r.reference r.is))

pub awaited_below : (rows : List PlacedRow) (id n : ℕ) → IsBelowTarget rows (target.Awaits id) n (below.NotYet id)
awaited_below rows id n w h path = inr (inr (inl (id, h.1, refl)))

pub lost_below : (rows : List PlacedRow) (n : ℕ) → IsBelowTarget rows target.Lost n below.NoPlace
lost_below rows n w h path = inr (inr (inr (h.0, h.1, refl)))
