-- What rows mean is one: each slot leads to one target, and under each identity stands one node.
use Rattle.std.proofs.Common.{◌≡◌, ℕ, inl, inr, List, Option, Some, None, refl, sym, ap, ◌∙◌, subst}
use Rattle.std.proofs.lemmas.Option.{none-some, same_Some}
use Rattle.flight_value.specs.declared.graph.Atom.TheVariants as atom
use Rattle.flight_value.specs.Store as store
use Rattle.flight_value.specs.Store.{Shape, Target, Store}
use Rattle.flight_text.specs.declared.mark.Ref.{Ref}
use Rattle.flight_meaning.specs.declared.place.Place.{Place}
use Rattle.flight_meaning.specs.declared.place.Place.TheVariants as place
use Rattle.flight_meaning.specs.declared.place.PlacedRow.{PlacedRow}
use Rattle.flight_meaning.specs.Linked.{Spot, place_at}
use Rattle.flight_meaning.specs.Resolve.{to, Found, found, stream, not_yet, nowhere}
use Rattle.flight_meaning.specs.Meaning.{Written, Identity, made_at, promise_of, stream_of, action_of, Token, token_label, map_token, set_token, slots_in, slots_found, HasSlots, FailsWith, HasShapeHere, HasShape, TokenLeads, LeadsHere, IsTarget, stand_of, Leads}
use Rattle.flight_meaning.proofs.Walking.{one_end, not_endless}

-- ---- Maps and Sets

pub one_slots : (rows : List PlacedRow) (token : Token) (r : Ref) (a b : List Written) → HasSlots rows token r a → HasSlots rows token r b → a ≡ b
one_slots rows token r a b x y =
    same_Some a b (sym x.2 ∙ (ap (slots_found token rows) (one_end rows (to r.id r.path) x.0 y.0 x.1 y.1) ∙ y.2))

no_slots : (token : Token) (rows : List PlacedRow) (s : Spot) (digest : List ℕ) → slots_in token rows s (Some (place.Atom (atom.Failed digest))) ≡ None
no_slots map_token rows s digest = refl
no_slots set_token rows s digest = refl

-- a reference does not lead to slots and to a failure
pub slots_or_failure : (rows : List PlacedRow) (token : Token) (r : Ref) (slots : List Written) (digest : List ℕ) → HasSlots rows token r slots → FailsWith rows r digest → ⊥
slots_or_failure rows token r slots digest x y =
    let same : x.0 ≡ found y.0 = one_end rows (to r.id r.path) x.0 (found y.0) x.1 y.1 in
    none-some slots (sym (ap (slots_found token rows) same ∙ (ap (slots_in token rows y.0) y.2 ∙ no_slots token rows y.0 digest)) ∙ x.2)

same_spot : (s t : Spot) → found s ≡ found t → s ≡ t
same_spot s t e = cc

same_failure : (d e : List ℕ) → Some (place.Atom (atom.Failed d)) ≡ Some (place.Atom (atom.Failed e)) → d ≡ e
same_failure d e h = cc

pub one_failure : (rows : List PlacedRow) (r : Ref) (d e : List ℕ) → FailsWith rows r d → FailsWith rows r e → d ≡ e
one_failure rows r d e x y =
    let same : x.0 ≡ y.0 = same_spot x.0 y.0 (one_end rows (to r.id r.path) (found x.0) (found y.0) x.1 y.1) in
    same_failure d e (sym x.2 ∙ (ap (place_at rows) same ∙ y.2))

-- ---- where a slot leads

one_token : (rows : List PlacedRow) (token : Token) (s : Spot) (r : Ref) (x y : Target Identity) → TokenLeads rows token s r x → TokenLeads rows token s r y → x ≡ y
one_token rows token s r x y (inl a) (inl b) = a.2 ∙ sym b.2
one_token rows token s r x y (inl a) (inr (inl b)) = absurd (slots_or_failure rows token r a.0 b.0 a.1 b.1)
one_token rows token s r x y (inl a) (inr (inr b)) = absurd (b.0 a.0 a.1)
one_token rows token s r x y (inr (inl a)) (inl b) = absurd (slots_or_failure rows token r b.0 a.0 b.1 a.1)
one_token rows token s r x y (inr (inl a)) (inr (inl b)) = a.2 ∙ (ap (λ d. store.atom (atom.Failed d)) (one_failure rows r a.0 b.0 a.1 b.1) ∙ sym b.2)
one_token rows token s r x y (inr (inl a)) (inr (inr b)) = absurd (b.1 a.0 a.1)
one_token rows token s r x y (inr (inr a)) (inl b) = absurd (a.0 b.0 b.1)
one_token rows token s r x y (inr (inr a)) (inr (inl b)) = absurd (a.1 b.0 b.1)
one_token rows token s r x y (inr (inr a)) (inr (inr b)) = a.2 ∙ sym b.2

one_here : (rows : List PlacedRow) (s : Spot) (o : Option Place) (x y : Target Identity) → LeadsHere rows s o x → LeadsHere rows s o y → x ≡ y
one_here rows s (Some (place.Map r)) x y a b = one_token rows map_token s r x y a b
one_here rows s (Some (place.Set r)) x y a b = one_token rows set_token s r x y a b
one_here rows s None x y a b = a ∙ sym b
one_here rows s (Some at) x y a b = a ∙ sym b

pub one_target : (rows : List PlacedRow) (f : Found) (x y : Target Identity) → IsTarget rows f x → IsTarget rows f y → x ≡ y
one_target rows (found s) x y a b = one_here rows s (place_at rows s) x y a b
one_target rows (stream id) x y a b = a ∙ sym b
one_target rows (not_yet id path) x y a b = a ∙ sym b
one_target rows nowhere x y a b = a ∙ sym b

pub leads_once : (rows : List PlacedRow) (w : Written) (x y : Target Identity) → Leads rows w x → Leads rows w y → x ≡ y
leads_once rows w x y (inl a) (inl b) =
    one_target rows b.0 x y (subst (λ f. IsTarget rows f x) (one_end rows (stand_of w) a.0 b.0 a.1 b.1) a.2) b.2
leads_once rows w x y (inl a) (inr b) = absurd (not_endless rows (stand_of w) a.0 a.1 b.0)
leads_once rows w x y (inr a) (inl b) = absurd (not_endless rows (stand_of w) b.0 b.1 a.0)
leads_once rows w x y (inr a) (inr b) = a.1 ∙ sym b.1

-- ---- what stands under an identity

one_shape_here : (rows : List PlacedRow) (s : Spot) (o : Option Place) (x y : Shape Written) → HasShapeHere rows s o x → HasShapeHere rows s o y → x ≡ y
one_shape_here rows s (Some (place.Map r)) x y a b = a.2 ∙ (ap (λ z. record { label = token_label map_token; slots = z }) (one_slots rows map_token r a.0 b.0 a.1 b.1) ∙ sym b.2)
one_shape_here rows s (Some (place.Set r)) x y a b = a.2 ∙ (ap (λ z. record { label = token_label set_token; slots = z }) (one_slots rows set_token r a.0 b.0 a.1 b.1) ∙ sym b.2)
one_shape_here rows s None x y a b = same_Some x y (sym a ∙ b)
one_shape_here rows s (Some at) x y a b = same_Some x y (sym a ∙ b)

pub stands_once : (rows : List PlacedRow) (k : Identity) (x y : Shape Written) → HasShape rows k x → HasShape rows k y → x ≡ y
stands_once rows (made_at s) x y a b = one_shape_here rows s (place_at rows s) x y a b
stands_once rows (promise_of id) x y a b = a ∙ sym b
stands_once rows (stream_of id) x y a b = same_Some x y (sym a ∙ b)
stands_once rows (action_of id) x y a b = same_Some x y (sym a ∙ b)
