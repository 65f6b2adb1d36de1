-- Places added one after another, and faults behind places.
use Rattle.std.proofs.Common.{◌≡◌, ℕ, ◌+◌, List, [], ◌∷◌, ◌++◌, length, slice_set, refl, sym, ◌∙◌, ap, subst, append_assoc, append-nil, length-append, inl, inr}
use Rattle.std.proofs.Math.Seq.{set-append_seam}
use Rattle.flight_meaning.specs.declared.place.Place.{Place}
use Rattle.flight_place.specs.declared.manner.Manner.{Manner}
use Rattle.flight_place.specs.declared.fault.PlaceKind.{PlaceKind}
use Rattle.flight_place.specs.declared.fault.PlaceFault.{PlaceFault}
use Rattle.flight_place.specs.declared.fault.PlaceFault.TheVariants.{Fault, Memory}
use Rattle.flight_place.specs.Places.{Visit, placed, HavePlaces, IsFirstFault}
use Rattle.flight_place.specs.Faults.{Refuses, Adds}

have-append : (manner : Manner) (vs ws : List Visit) (ps qs : List Place) → HavePlaces manner vs ps → HavePlaces manner ws qs → HavePlaces manner (vs ++ ws) (ps ++ qs)
have-append manner [] ws [] qs h k = k
have-append manner [] ws (p ∷ ps) qs h k = absurd h
have-append manner (v ∷ vs) ws [] qs h k = absurd h
have-append manner (v ∷ vs) ws (p ∷ ps) qs h k = (h.0, have-append manner vs ws ps qs h.1 k)

pub adds-none : (manner : Manner) (places : List Place) → Adds manner places places []
adds-none manner places = record { more = []; added = sym (append-nil places); have = tt }

pub adds-more : (manner : Manner) (start now last : List Place) (vs ws : List Visit) → Adds manner start now vs → Adds manner now last ws → Adds manner start last (vs ++ ws)
adds-more manner start now last vs ws a b = record {
  more = a.more ++ b.more;
  added = b.added ∙ (ap (λ xs. xs ++ b.more) a.added ∙ append_assoc start a.more b.more);
  have = have-append manner vs ws a.more b.more a.have b.have;
}

-- a place that is put where one stood, in front of what came behind it
pub adds-filled : (manner : Manner) (start last : List Place) (vs : List Visit) (n : ℕ) (first place : Place) → length start ≡ n → Adds manner (start ++ first ∷ []) last vs → Adds manner start (slice_set last n place) (placed place ∷ vs)
adds-filled manner start last vs n first place len a = record {
  more = place ∷ a.more;
  added = rw (a.added, append_assoc, ← len) (set-append_seam start first a.more place);
  have = (refl, a.have);
}

-- a place that is filled in with parts whose numbers begin behind it
pub adds-parts : {A : Type 0} (manner : Manner) (start opened walked last : List Place) (first : Place) (make : List A → Place) (vs : ℕ → List Visit) (ns : ℕ → List A) (n : ℕ) (parts : List A)
    → n ≡ length start → opened ≡ start ++ first ∷ [] → Adds manner opened walked (vs (length opened)) → parts ≡ ns (length opened) → last ≡ slice_set walked n (make parts)
    → Adds manner start last (placed (make (ns (length start + 1))) ∷ vs (length start + 1))
adds-parts manner start opened walked last first make vs ns n parts is_n is_opened a is_parts is_last =
    let len : length opened ≡ length start + 1 = ap length is_opened ∙ length-append start (first ∷ []) in
    let all = vs (length start + 1) in
    let behind : Adds manner (start ++ first ∷ []) walked all = subst (λ k. Adds manner (start ++ first ∷ []) walked (vs k)) len (subst (λ o. Adds manner o walked (vs (length opened))) is_opened a) in
    let filled = adds-filled manner start walked all n first (make parts) (sym is_n) behind in
    subst (λ o. Adds manner start o (placed (make (ns (length start + 1))) ∷ all)) (sym is_last)
    (subst (λ q. Adds manner start (slice_set walked n (make parts)) (placed (make q) ∷ all)) (is_parts ∙ ap ns len) filled)

later_fault : (manner : Manner) (vs ws : List Visit) (ps : List Place) (kind : PlaceKind) → HavePlaces manner vs ps → IsFirstFault manner ws kind → IsFirstFault manner (vs ++ ws) kind
later_fault manner [] ws ps kind h f = f
later_fault manner (v ∷ vs) ws [] kind h f = absurd h
later_fault manner (v ∷ vs) ws (p ∷ ps) kind h f = inr (p, h.0, later_fault manner vs ws ps kind h.1 f)

earlier_fault : (manner : Manner) (vs ws : List Visit) (kind : PlaceKind) → IsFirstFault manner vs kind → IsFirstFault manner (vs ++ ws) kind
earlier_fault manner [] ws kind f = absurd f
earlier_fault manner (v ∷ vs) ws kind (inl f) = inl f
earlier_fault manner (v ∷ vs) ws kind (inr r) = inr (r.0, r.1, earlier_fault manner vs ws kind r.2)

-- behind a place that is known, the refusal stays
pub refuses-behind : (manner : Manner) (place : Place) (vs : List Visit) (e : PlaceFault) → Refuses manner vs e → Refuses manner (placed place ∷ vs) e
refuses-behind manner place vs (Fault kind) f = inr (place, refl, f)
refuses-behind manner place vs Memory f = tt

-- what is left leads to all: its places complete those that were added, and its first fault is the first of all
pub record Leads (manner : Manner) (start : List Place) (all : List Visit) (now : List Place) (rest : List Visit) : Type 0 where
  pub adds : (last : List Place) → Adds manner now last rest → Adds manner start last all
  pub fails : (kind : PlaceKind) → IsFirstFault manner rest kind → IsFirstFault manner all kind

pub leads-start : (manner : Manner) (start : List Place) (all : List Visit) → Leads manner start all start all
leads-start manner start all = record { adds = λ last a. a; fails = λ kind f. f }

pub leads-on : (manner : Manner) (start now next : List Place) (all vs rest : List Visit) → Leads manner start all now (vs ++ rest) → Adds manner now next vs → Leads manner start all next rest
leads-on manner start now next all vs rest l a = record {
  adds = λ last b. l.adds last (adds-more manner now next last vs rest a b);
  fails = λ kind f. l.fails kind (later_fault manner vs rest a.more kind a.have f);
}

pub leads-refuses : (manner : Manner) (start now : List Place) (all vs rest : List Visit) (e : PlaceFault) → Leads manner start all now (vs ++ rest) → Refuses manner vs e → Refuses manner all e
leads-refuses manner start now all vs rest (Fault kind) l f = l.fails kind (earlier_fault manner vs rest kind f)
leads-refuses manner start now all vs rest Memory l f = tt

pub leads-end : (manner : Manner) (start now : List Place) (all : List Visit) → Leads manner start all now [] → Adds manner start now all
leads-end manner start now all l = l.adds now (adds-none manner now)
