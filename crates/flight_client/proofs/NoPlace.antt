-- A path that shows no place shows none when more rows come.
use Rattle.std.proofs.Common.{◌≡◌, ◌≢◌, ℕ, List, [], ◌∷◌, ◌++◌, refl, sym, ◌∙◌, ap, subst, Option, Some, None, inl, inr}
use Rattle.std.specs.Prelude.{slice_get}
use Rattle.flight_value.specs.Store as store
use Rattle.flight_value.specs.Store.{Label, Shape}
use Rattle.flight_value.specs.declared.graph.Flow.{Flow}
use Rattle.flight_meaning.specs.declared.place.Place.{Place}
use Rattle.flight_meaning.specs.declared.place.Place.TheVariants as place
use Rattle.flight_meaning.specs.declared.place.PlaceTree.{PlaceTree}
use Rattle.flight_meaning.specs.declared.place.PlacedRow.{PlacedRow}
use Rattle.flight_meaning.specs.Linked.{rows_of, Spot, place_at}
use Rattle.flight_meaning.specs.Resolve.{to, found, not_yet, Ends}
use Rattle.flight_meaning.specs.Meaning.{Written, value_of, Identity, made_at, promise_of, stream_of, action_of, pending, stand_of, Leads, HasShape, reference_of}
use Rattle.flight_meaning.specs.Lasting.{HasEnded, IsSettledHere, IsSettled}
use Rattle.flight_meaning.proofs.MoreRows.{rows_of-first, places-stay, slice_get-front}
use Rattle.flight_meaning.proofs.MoreMeaning.{shape-more, leads-more}
use Rattle.flight_meaning.proofs.Settled.{ends-back, settled-stays}
use Rattle.flight_link.specs.Looking.{AwaitsHere, Awaits, awaits, no_place, SeesHere, SeesPast, InSlot, Sees}
use Rattle.flight_client.specs.AnyPrefix.{NoPlaceStays}
use Rattle.flight_client.proofs.SlotsThere.{IsSlotThere, row_there, slot_there}
use Rattle.flight_client.proofs.Lasting.{made_ended, action_ended, grows, node_not_pending, atom_not_pending}

-- ---- a slot that meets no id without a row

abbrev AwaitsNone : List PlacedRow → Written → Type 0
AwaitsNone rows w = (id : ℕ) → ¬ Awaits rows w id

settled_here : (rows : List PlacedRow) (w : Written) → AwaitsNone rows w → (s : Spot) → Ends rows (stand_of w) (found s) → (o : Option Place) → place_at rows s ≡ o → IsSettledHere rows o
settled_here rows w none s e (Some (place.Map r)) is = λ id path h. none id (inr (s, place.Map r, e, is, (path, h)))
settled_here rows w none s e (Some (place.Set r)) is = λ id path h. none id (inr (s, place.Set r, e, is, (path, h)))
settled_here rows w none s e (Some (place.Action id)) is = λ h. none id (inr (s, place.Action id, e, is, (refl, h)))
settled_here rows w none s e None is = tt
settled_here rows w none s e (Some at) is = tt

settled : (rows : List PlacedRow) (w : Written) → IsSlotThere rows w → AwaitsNone rows w → IsSettled rows w
settled rows w is none = (is, λ id path h. none id (inl (path, h)), λ s e. settled_here rows w none s e (place_at rows s) refl)

no_more : (rows more : List PlacedRow) (id : ℕ) (ts : List PlaceTree) → rows_of id rows ≡ ts → ts ≢ [] → rows_of id (rows ++ more) ≢ []
no_more rows more id [] is some e = some refl
no_more rows more id (t ∷ ts) is some e = let first = rows_of-first id rows more t ts is in let no : t ∷ (ts ++ rows_of id more) ≡ [] = sym first ∙ e in cc

awaits_none_here : (rows more : List PlacedRow) (s : Spot) (at : Place) (id : ℕ) → IsSettledHere rows (Some at) → ¬ AwaitsHere (rows ++ more) s at id
awaits_none_here rows more s (place.Map r) id none h = none id h.0 (ends-back rows more (to r.id r.path) (not_yet id h.0) tt none h.1)
awaits_none_here rows more s (place.Set r) id none h = none id h.0 (ends-back rows more (to r.id r.path) (not_yet id h.0) tt none h.1)
awaits_none_here rows more s (place.Action named) id some h = no_more rows more named (rows_of named rows) refl some (subst (λ i. rows_of i (rows ++ more) ≡ []) (sym h.0) h.1)
awaits_none_here rows more s at id none h = absurd h

awaits_none : (rows more : List PlacedRow) (w : Written) → IsSettled rows w → AwaitsNone (rows ++ more) w
awaits_none rows more w is id (inl h) = is.1 id h.0 (ends-back rows more (stand_of w) (not_yet id h.0) is.0 is.1 h.1)
awaits_none rows more w is id (inr h) =
    let back : Ends rows (stand_of w) (found h.0) = ends-back rows more (stand_of w) (found h.0) is.0 is.1 h.2 in
    let at : place_at rows h.0 ≡ Some h.1 = sym (places-stay rows more h.0 (row_there rows (stand_of w) h.0 back)) ∙ h.3 in
    awaits_none_here rows more h.0 h.1 id (subst (IsSettledHere rows) at (is.2 h.0 back)) h.4

here_stays : (rows more : List PlacedRow) (w : Written) → IsSlotThere rows w → SeesHere rows w no_place → SeesHere (rows ++ more) w no_place
here_stays rows more w is h =
    let sure = settled rows w is h.1 in
    (settled-stays rows more w pending sure h.0, awaits_none rows more w sure)

-- ---- behind the slots of a node

flowing_ended : (rows : List PlacedRow) (k : Identity) (shape : Shape Written) → HasShape rows k shape → ((id : ℕ) → k ≢ stream_of id) → HasEnded shape.label
flowing_ended rows (made_at s) shape h other = made_ended rows s (place_at rows s) shape h
flowing_ended rows (promise_of id) shape h other = subst (λ z. HasEnded z.label) (sym h) tt
flowing_ended rows (action_of id) shape h other = action_ended (reference_of rows id) shape h
flowing_ended rows (stream_of id) shape h other = absurd (other id refl)

past_flowing : (k : Identity) (flow : Flow) → SeesPast (store.stream flow store.flowing) k no_place → (id : ℕ) → k ≢ stream_of id
past_flowing k flow h id e = let no : no_place ≡ awaits id = subst (λ j. SeesPast (store.stream flow store.flowing) j no_place) e h in cc

past_ended : (rows : List PlacedRow) (k : Identity) (shape : Shape Written) (l : Label) → shape.label ≡ l → HasShape rows k shape → SeesPast l k no_place → HasEnded l
past_ended rows k shape (store.stream flow store.flowing) e has h = subst HasEnded e (flowing_ended rows k shape has (past_flowing k flow h))
past_ended rows k shape (store.stream flow store.closed) e has h = tt
past_ended rows k shape (store.stream flow (store.broken digest)) e has h = tt
past_ended rows k shape l e has h = tt

-- ---- along a path

below_stays : (rows more : List PlacedRow) (w : Written) (n : ℕ) (path : List ℕ) → ((v : Written) → IsSlotThere rows v → Sees rows v path no_place → Sees (rows ++ more) v path no_place) → (k : Identity) (shape : Shape Written) → Leads rows w (store.node_at k) → HasShape rows k shape → (o : Option Written) → slice_get shape.slots n ≡ o → InSlot (λ v. Sees rows v path no_place) shape.label k o no_place → Sees (rows ++ more) w (n ∷ path) no_place
below_stays rows more w n path next k shape leads has (Some v) e goes =
    let g = grows rows more k shape has in
    let there : slice_get g.later.slots n ≡ Some v = ap (λ ss. slice_get ss n) g.slots ∙ slice_get-front shape.slots g.rest n v e in
    let into : Sees (rows ++ more) v path no_place = next v (slot_there rows k shape n v has e) goes in
    inl (k, g.later, leads-more rows more w (store.node_at k) (node_not_pending k) leads, g.has, subst (λ o. InSlot (λ v. Sees (rows ++ more) v path no_place) g.later.label k o no_place) (sym there) into)
below_stays rows more w n path next k shape leads has None e goes =
    let ended = past_ended rows k shape shape.label refl has goes in
    inl (k, shape, leads-more rows more w (store.node_at k) (node_not_pending k) leads, shape-more rows more k shape ended has, subst (λ o. InSlot (λ v. Sees (rows ++ more) v path no_place) shape.label k o no_place) (sym e) goes)

along : (rows more : List PlacedRow) (path : List ℕ) (w : Written) → IsSlotThere rows w → Sees rows w path no_place → Sees (rows ++ more) w path no_place
along rows more [] w is h = here_stays rows more w is h
along rows more (n ∷ path) w is (inl h) = below_stays rows more w n path (λ v there k. along rows more path v there k) h.0 h.1 h.2 h.3 (slice_get h.1.slots n) refl h.4
along rows more (n ∷ path) w is (inr (inl h)) = inr (inl (h.0, leads-more rows more w (store.atom h.0) (atom_not_pending h.0 h.2) h.1, h.2, refl))
along rows more (n ∷ path) w is (inr (inr (inl h))) = let no : no_place ≡ awaits h.0 = h.2 in cc
along rows more (n ∷ path) w is (inr (inr (inr h))) =
    let now = here_stays rows more w is (h.0, h.1) in
    inr (inr (inr (now.0, now.1, refl)))

pub no_place_stays : (rows more : List PlacedRow) → NoPlaceStays rows more
no_place_stays rows more path h = along rows more path (value_of 0) tt h
