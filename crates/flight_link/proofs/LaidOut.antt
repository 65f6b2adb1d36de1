-- What stands under a key, with what its slots lead to.
use Rattle.std.proofs.Common.{◌≡◌, ℕ, suc, ◌+◌, ◌<◌, ◌^◌, codes, List, [], ◌∷◌, ◌++◌, length, map, take, get_or, Option, Some, None, slice_get, refl, sym, ◌∙◌, ap, subst, arith, append_assoc, append-nil}
use Rattle.std.specs.List.{AllZip}
use Rattle.std.proofs.lemmas.Option.{none-some, same_Some}
use Rattle.std.proofs.lemmas.List.{take_more, map-append, length-map}
use Rattle.flight_text.specs.declared.mark.Ref.{Ref}
use Rattle.flight_value.specs.declared.graph.Atom.TheVariants as atom
use Rattle.flight_value.specs.Store as store
use Rattle.flight_value.specs.Store.{Shape}
use Rattle.flight_meaning.specs.declared.place.Place.{Place}
use Rattle.flight_meaning.specs.declared.place.Place.TheVariants as place
use Rattle.flight_meaning.specs.declared.place.Named.{Named}
use Rattle.flight_meaning.specs.declared.place.PlacedRow.{PlacedRow}
use Rattle.flight_meaning.specs.Linked as linked
use Rattle.flight_meaning.specs.Linked.{place_at, beside, first_place}
use Rattle.flight_meaning.specs.Resolve.{property, to, found, Ends}
use Rattle.flight_meaning.specs.Meaning.{Written, at_place, value_of, at_places, entry, both, entries, slots_in, map_token, set_token, HasSlots, HasShapeHere, Reference, reference_of, action_shape}
use Rattle.flight_link.specs.declared.found.Spot.{Spot}
use Rattle.flight_link.specs.declared.key.NodeKey.TheVariants as node_key
use Rattle.flight_link.specs.declared.laid.Head.{Head}
use Rattle.flight_link.specs.declared.laid.Head.TheVariants as head
use Rattle.flight_link.specs.declared.target.Target.{Target}
use Rattle.flight_link.specs.Nodes.{IsPlain, place_in, spot_of}
use Rattle.flight_link.specs.Targets.{IsTargetOf}
use Rattle.flight_link.specs.Laid.{label_in, IsCount, IsLaid, ArePlacesOf, Adds, AddsEntries}
use Rattle.flight_link.proofs.PlainRows.{place_there}
use Rattle.flight_link.proofs.Valid.{reference_parts}

-- ---- one after another

zip_append : {A B : Type 0} (R : A → B → Type 0) (xs : List A) (ys : List B) (us : List A) (vs : List B) → AllZip R xs ys → AllZip R us vs → AllZip R (xs ++ us) (ys ++ vs)
zip_append R [] [] us vs h k = k
zip_append R (x ∷ xs) (y ∷ ys) us vs h k = (h.0, zip_append R xs ys us vs h.1 k)
zip_append R [] (y ∷ ys) us vs h k = absurd h
zip_append R (x ∷ xs) [] us vs h k = absurd h

pub zip_long : {A B : Type 0} (R : A → B → Type 0) (xs : List A) (ys : List B) → AllZip R xs ys → length xs ≡ length ys
zip_long R [] [] h = refl
zip_long R (x ∷ xs) (y ∷ ys) h = ap suc (zip_long R xs ys h.1)
zip_long R [] (y ∷ ys) h = absurd h
zip_long R (x ∷ xs) [] h = absurd h

pub adds_none : (rows : List PlacedRow) (old new : List Target) → new ≡ old → Adds rows [] old new
adds_none rows old new e = ([], e ∙ sym (append-nil old), tt)

adds_on : (rows : List PlacedRow) (ws vs : List Written) (old mid new : List Target) → Adds rows ws old mid → Adds rows vs mid new → Adds rows (ws ++ vs) old new
adds_on rows ws vs old mid new p q = (p.0 ++ q.0, q.1 ∙ (ap (λ x. x ++ q.0) p.1 ∙ append_assoc old p.0 q.0), zip_append (IsTargetOf rows) ws p.0 vs q.0 p.2 q.2)

adds_push : (rows : List PlacedRow) (ws : List Written) (w : Written) (old mid new : List Target) (t : Target) → Adds rows ws old mid → IsTargetOf rows w t → new ≡ mid ++ t ∷ [] → Adds rows (ws ++ w ∷ []) old new
adds_push rows ws w old mid new t p h e = adds_on rows ws (w ∷ []) old mid new p (t ∷ [], e, (h, tt))

-- what was added to none is all
all_added : (rows : List PlacedRow) (slots : List Written) (old new : List Target) → old ≡ [] → Adds rows slots old new → AllZip (IsTargetOf rows) slots new
all_added rows slots old new none h = subst (AllZip (IsTargetOf rows) slots) (sym (h.1 ∙ ap (λ x. x ++ h.0) none)) h.2

-- the front of a list, with one more
front_more : {A B : Type 0} (f : A → B) (xs : List A) (i : ℕ) (x : A) → i < length xs → x ≡ get_or xs i x → map f (take (i + 1) xs) ≡ map f (take i xs) ++ f x ∷ []
front_more f xs i x within e = ap (map f) (take_more xs i x within ∙ ap (λ y. take i xs ++ y ∷ []) (sym e)) ∙ map-append f (take i xs) (x ∷ [])

pub slots_more : (rows : List PlacedRow) (s : linked.Spot) (ns : List ℕ) (i : ℕ) (old mid new : List Target) (t : Target) → i < length ns → Adds rows (at_places s (take i ns)) old mid → IsTargetOf rows (at_place (beside s (get_or ns i 0))) t → new ≡ mid ++ t ∷ [] → Adds rows (at_places s (take (i + 1) ns)) old new
slots_more rows s ns i old mid new t less h is e =
    subst (λ ws. Adds rows ws old new) (sym (ap (at_places s) (take_more ns i 0 less) ∙ map-append (λ n. at_place (beside s n)) (take i ns) (get_or ns i 0 ∷ [])))
    (adds_push rows (at_places s (take i ns)) (at_place (beside s (get_or ns i 0))) old mid new t h is e)

pub props_more : (rows : List PlacedRow) (s : linked.Spot) (ns : List Named) (i : ℕ) (n : Named) (old mid new : List Target) (t : Target) → i < length ns → n ≡ get_or ns i n → Adds rows (at_places s (map (λ (p : Named). p.place) (take i ns))) old mid → IsTargetOf rows (at_place (beside s n.place)) t → new ≡ mid ++ t ∷ [] → Adds rows (at_places s (map (λ (p : Named). p.place) (take (i + 1) ns))) old new
props_more rows s ns i n old mid new t less at h is e =
    subst (λ ws. Adds rows ws old new) (sym (ap (at_places s) (front_more (λ (p : Named). p.place) ns i n less at) ∙ map-append (λ k. at_place (beside s k)) (map (λ (p : Named). p.place) (take i ns)) (n.place ∷ [])))
    (adds_push rows (at_places s (map (λ (p : Named). p.place) (take i ns))) (at_place (beside s n.place)) old mid new t h is e)

-- ---- entries

both_parts : (o p : Option (List Written)) (ws : List Written) → both o p ≡ Some ws → (a : List Written) × (b : List Written) × (o ≡ Some a) × (p ≡ Some b) × (a ++ b ≡ ws)
both_parts (Some a) (Some b) ws e = (a, b, refl, refl, same_Some (a ++ b) ws e)
both_parts (Some a) None ws e = absurd (none-some ws e)
both_parts None (Some b) ws e = absurd (none-some ws e)
both_parts None None ws e = absurd (none-some ws e)

entries_append : (rows : List PlacedRow) (s : linked.Spot) (xs ys : List ℕ) (ws vs : List Written) → entries rows s xs ≡ Some ws → entries rows s ys ≡ Some vs → entries rows s (xs ++ ys) ≡ Some (ws ++ vs)
entries_append rows s [] ys ws vs e f = f ∙ ap (λ w. Some (w ++ vs)) (same_Some [] ws e)
entries_append rows s (x ∷ xs) ys ws vs e f =
    let h = both_parts (entry s (place_at rows (beside s x))) (entries rows s xs) ws e in
    let rest = entries_append rows s xs ys h.1 vs h.3 f in
    ap (λ o. both o (entries rows s (xs ++ ys))) h.2 ∙ (ap (both (Some h.0)) rest ∙ ap Some (sym (append_assoc h.0 h.1 vs) ∙ ap (λ w. w ++ vs) h.4))

entry_long : (s : linked.Spot) (o : Option Place) (ws : List Written) → entry s o ≡ Some ws → length ws ≡ 2
entry_long s (Some (place.Array (key ∷ value ∷ []))) ws e = ap length (sym (same_Some (at_place (beside s key) ∷ at_place (beside s value) ∷ []) ws e))
entry_long s o ws e = absurd (none-some ws e)

length-append : {A : Type 0} (xs ys : List A) → length (xs ++ ys) ≡ length xs + length ys
length-append [] ys = omega arith
length-append (x ∷ xs) ys = omega (arith, length-append xs ys)

entries_long : (rows : List PlacedRow) (s : linked.Spot) (ns : List ℕ) (ws : List Written) → entries rows s ns ≡ Some ws → length ws ≡ length ns + length ns
entries_long rows s [] ws e = ap length (sym (same_Some [] ws e))
entries_long rows s (n ∷ ns) ws e =
    let h = both_parts (entry s (place_at rows (beside s n))) (entries rows s ns) ws e in
    let two = entry_long s (place_at rows (beside s n)) h.0 h.2 in
    let rest = entries_long rows s ns h.1 h.3 in
    let sum = length-append h.0 h.1 in
    sym (ap length h.4) ∙ omega (arith, two, rest, sum)

pub entries_none : (rows : List PlacedRow) (s : linked.Spot) (old new : List Target) → new ≡ old → AddsEntries rows s [] old new
entries_none rows s old new e = ([], refl, adds_none rows old new e)

pub entries_more : (rows : List PlacedRow) (s : linked.Spot) (ns : List ℕ) (i : ℕ) (old mid new : List Target) → i < length ns → AddsEntries rows s (take i ns) old mid → AddsEntries rows s (get_or ns i 0 ∷ []) mid new → AddsEntries rows s (take (i + 1) ns) old new
entries_more rows s ns i old mid new less h k =
    subst (λ ms. AddsEntries rows s ms old new) (sym (take_more ns i 0 less))
    (h.0 ++ k.0, entries_append rows s (take i ns) (get_or ns i 0 ∷ []) h.0 k.0 h.1 k.1, adds_on rows h.0 k.0 old mid new h.2 k.2)

pub one_entry : (rows : List PlacedRow) (s : Spot) (places : List Place) (n k v : ℕ) (old new : List Target) → IsPlain rows → ArePlacesOf rows s.row places → slice_get places n ≡ Some (place.Array (k ∷ v ∷ [])) → Adds rows (at_places (spot_of rows s) (k ∷ v ∷ [])) old new → AddsEntries rows (spot_of rows s) (n ∷ []) old new
one_entry rows s places n k v old new plain are e h =
    let spot : Spot = record { row = s.row; place = n } in
    let there : place_at rows (beside (spot_of rows s) n) ≡ Some (place.Array (k ∷ v ∷ [])) = place_there rows spot (place.Array (k ∷ v ∷ [])) plain (are n ∙ e) in
    (at_places (spot_of rows s) (k ∷ v ∷ []), ap (λ o. both (entry (spot_of rows s) o) (Some [])) there, h)

-- ---- nodes

pub array_laid : (rows : List PlacedRow) (s : Spot) (ns : List ℕ) (old new : List Target) → IsPlain rows → place_in rows s ≡ Some (place.Array ns) → old ≡ [] → Adds rows (at_places (spot_of rows s) ns) old new → length new < 2 ^ 32 → IsLaid rows (node_key.Made s) head.Array new
array_laid rows s ns old new plain e none h few = record {
  shape = record { label = store.array; slots = at_places (spot_of rows s) ns };
  stands = subst (λ o. HasShapeHere rows (spot_of rows s) o (record { label = store.array; slots = at_places (spot_of rows s) ns })) (sym (place_there rows s (place.Array ns) plain e)) refl;
  label = refl;
  slots = all_added rows (at_places (spot_of rows s) ns) old new none h;
  count = tt;
  few = few;
}

at_places_long : (s : linked.Spot) (ns : List Named) → length (at_places s (map (λ (p : Named). p.place) ns)) ≡ length ns
at_places_long s ns = length-map (map (λ (p : Named). p.place) ns) (λ n. at_place (beside s n)) ∙ length-map ns (λ (p : Named). p.place)

pub object_laid : (rows : List PlacedRow) (s : Spot) (h : Head) (ns : List Named) (old new : List Target) → label_in h ≡ store.object (map (λ (p : Named). p.name) ns) → (length new ≡ length ns → IsCount h (length new)) → IsPlain rows → place_in rows s ≡ Some (place.Object ns) → old ≡ [] → Adds rows (at_places (spot_of rows s) (map (λ (p : Named). p.place) ns)) old new → length new < 2 ^ 32 → IsLaid rows (node_key.Made s) h new
object_laid rows s h ns old new label count plain e none adds few =
    let slots = at_places (spot_of rows s) (map (λ (p : Named). p.place) ns) in
    let shape : Shape Written = record { label = store.object (map (λ (p : Named). p.name) ns); slots = slots } in
    let zipped = all_added rows slots old new none adds in
    record {
      shape = shape;
      stands = subst (λ o. HasShapeHere rows (spot_of rows s) o shape) (sym (place_there rows s (place.Object ns) plain e)) refl;
      label = label;
      slots = zipped;
      count = count (sym (zip_long (IsTargetOf rows) slots new zipped) ∙ at_places_long (spot_of rows s) ns);
      few = few;
    }

few_slots : (n count : ℕ) → n ≡ count → n < 4 → count < 2 ^ 32
few_slots n count e h = subst (λ k. k < 2 ^ 32) e (omega (arith, h))

pub element_laid : (rows : List PlacedRow) (s : Spot) (a b c : ℕ) (old new : List Target) → IsPlain rows → place_in rows s ≡ Some (place.Element a b c) → old ≡ [] → Adds rows (at_places (spot_of rows s) (a ∷ b ∷ c ∷ [])) old new → IsLaid rows (node_key.Made s) head.Element new
element_laid rows s a b c old new plain e none h =
    let slots = at_places (spot_of rows s) (a ∷ b ∷ c ∷ []) in
    let shape : Shape Written = record { label = store.element; slots = slots } in
    let zipped = all_added rows slots old new none h in
    let three : 3 ≡ length new = zip_long (IsTargetOf rows) slots new zipped in
    record {
      shape = shape;
      stands = subst (λ o. HasShapeHere rows (spot_of rows s) o shape) (sym (place_there rows s (place.Element a b c) plain e)) refl;
      label = refl;
      slots = zipped;
      count = sym three;
      few = few_slots 3 (length new) three (omega arith);
    }

pub set_laid : (rows : List PlacedRow) (s end : Spot) (r : Ref) (ns : List ℕ) (old new : List Target) → IsPlain rows → place_in rows s ≡ Some (place.Set r) → Ends rows (to r.id r.path) (found (spot_of rows end)) → place_in rows end ≡ Some (place.Array ns) → old ≡ [] → Adds rows (at_places (spot_of rows end) ns) old new → length new < 2 ^ 32 → IsLaid rows (node_key.Made s) head.Set new
set_laid rows s end r ns old new plain e ends at none h few =
    let slots = at_places (spot_of rows end) ns in
    let shape : Shape Written = record { label = store.set_of; slots = slots } in
    let has : HasSlots rows set_token r slots = (found (spot_of rows end), ends, ap (λ o. slots_in set_token rows (spot_of rows end) o) (place_there rows end (place.Array ns) plain at)) in
    record {
      shape = shape;
      stands = subst (λ o. HasShapeHere rows (spot_of rows s) o shape) (sym (place_there rows s (place.Set r) plain e)) (slots, has, refl);
      label = refl;
      slots = all_added rows slots old new none h;
      count = tt;
      few = few;
    }

pub map_laid : (rows : List PlacedRow) (s end : Spot) (r : Ref) (ns : List ℕ) (old new : List Target) → IsPlain rows → place_in rows s ≡ Some (place.Map r) → Ends rows (to r.id r.path) (found (spot_of rows end)) → place_in rows end ≡ Some (place.Array ns) → old ≡ [] → AddsEntries rows (spot_of rows end) ns old new → length new < 2 ^ 32 → IsLaid rows (node_key.Made s) head.Map new
map_laid rows s end r ns old new plain e ends at none h few =
    let shape : Shape Written = record { label = store.map_of; slots = h.0 } in
    let has : HasSlots rows map_token r h.0 = (found (spot_of rows end), ends, ap (λ o. slots_in map_token rows (spot_of rows end) o) (place_there rows end (place.Array ns) plain at) ∙ h.1) in
    let zipped = all_added rows h.0 old new none h.2 in
    record {
      shape = shape;
      stands = subst (λ o. HasShapeHere rows (spot_of rows s) o shape) (sym (place_there rows s (place.Map r) plain e)) (h.0, has, refl);
      label = refl;
      slots = zipped;
      count = (length ns, sym (zip_long (IsTargetOf rows) h.0 new zipped) ∙ entries_long rows (spot_of rows end) ns h.0 h.1);
      few = few;
    }

pub promise_laid : (rows : List PlacedRow) (id : ℕ) (t : Target) (old new : List Target) → IsTargetOf rows (value_of id) t → old ≡ [] → new ≡ old ++ t ∷ [] → IsLaid rows (node_key.Promise id) head.Promise new
promise_laid rows id t old new h none e =
    let same : new ≡ t ∷ [] = e ∙ ap (λ x. x ++ t ∷ []) none in
    subst (IsLaid rows (node_key.Promise id) head.Promise) (sym same) (record {
      shape = record { label = store.promise; slots = value_of id ∷ [] };
      stands = refl;
      label = refl;
      slots = (h, tt);
      count = refl;
      few = omega arith;
    })

pub action_laid : (rows : List PlacedRow) (id : ℕ) (spot : Spot) (places : List Place) (ps : List Named) (n m : ℕ) (text : List ℕ) (h : Head) (old new : List Target) → label_in h ≡ store.action text → (length new ≡ 1 → IsCount h (length new)) → IsPlain rows → ((r : Reference) × (reference_of rows id ≡ Some r)) → spot_of rows spot ≡ first_place id → ArePlacesOf rows spot.row places → slice_get places spot.place ≡ Some (place.Object ps) → property ps (codes "id") ≡ Some n → property ps (codes "bound") ≡ Some m → slice_get places n ≡ Some (place.Atom (atom.Text text)) → old ≡ [] → Adds rows (at_places (spot_of rows spot) (m ∷ [])) old new → IsLaid rows (node_key.Action id) h new
action_laid rows id spot places ps n m text h old new label count plain r same are e pn pm te none adds =
    let named : Spot = record { row = spot.row; place = n } in
    let object : place_at rows (first_place id) ≡ Some (place.Object ps) = ap (place_at rows) (sym same) ∙ place_there rows spot (place.Object ps) plain (are spot.place ∙ e) in
    let there : place_at rows (beside (first_place id) n) ≡ Some (place.Atom (atom.Text text)) =
    ap (λ s. place_at rows (beside s n)) (sym same) ∙ place_there rows named (place.Atom (atom.Text text)) plain (are n ∙ te) in
    let parts = reference_parts rows id r.0 ps n m text r.1 object pn pm there in
    let slots : List Written = at_place (beside (spot_of rows spot) m) ∷ [] in
    let shape : Shape Written = record { label = store.action r.0.name; slots = at_place r.0.bound ∷ [] } in
    let zipped = all_added rows slots old new none adds in
    let one : 1 ≡ length new = zip_long (IsTargetOf rows) slots new zipped in
    record {
      shape = shape;
      stands = ap action_shape r.1;
      label = label ∙ ap store.action (sym parts.0);
      slots = subst (λ s. AllZip (IsTargetOf rows) (at_place s ∷ []) new) (ap (λ s. beside s m) same ∙ sym parts.1) zipped;
      count = count (sym one);
      few = few_slots 1 (length new) one (omega arith);
    }
