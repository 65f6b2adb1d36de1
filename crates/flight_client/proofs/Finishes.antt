-- The end of a stream.
use Rattle.std.proofs.Common.{◌≡◌, ◌≢◌, ℕ, List, [], ◌∷◌, ◌++◌, refl, sym, ◌∙◌, ap, subst, append-nil, Some}
use Rattle.flight_row.specs.Rows.{SpellAll}
use Rattle.flight_feed.specs.declared.fault.FeedKind.TheVariants.{Cut}
use Rattle.flight_feed.specs.Fed.{Fed}
use Rattle.flight_feed.proofs.Ends.{refused_fails}
use Rattle.flight_meaning.specs.declared.place.PlacedRow.{PlacedRow}
use Rattle.flight_client.specs.declared.fault.ClientFault.{ClientFault}
use Rattle.flight_client.specs.declared.fault.ClientFault.TheVariants as fault
use Rattle.flight_client.specs.Rows.{IsWhole}
use Rattle.flight_client.specs.Faults.{HasFeedEnd, EndsWithFault}
use Rattle.flight_client.specs.Adding.{IsWanting, IsEndFault}
use Rattle.std.specs.Prelude.{Result, Ok, Err, OnOk}
use Rattle.flight_meaning.specs.Good.{IsGood}
use Rattle.flight_client.specs.Held.{IsOn, Stands}

pub none_unless : {A : Type 0} (xs : List A) → ¬ (xs ≢ []) → xs ≡ []
none_unless [] h = refl
none_unless (x ∷ xs) h = absurd (h (λ e. cc))

-- nothing is left of the text
pub on_whole : (text : List ℕ) (feed : Fed) (placed : List PlacedRow) → IsOn text feed placed → feed.bytes ≡ [] → IsWhole text placed
on_whole text feed placed on none =
    let s = on.splits in
    let same : text ≡ s.front = s.whole ∙ (ap (λ xs. s.front ++ xs) none ∙ append-nil s.front) in
    record { items = on.items; spelled = subst (λ t. SpellAll t on.items) (sym same) s.spelled; have = on.have }

-- a row has begun and is not whole
pub on_cut : (text : List ℕ) (feed : Fed) (placed : List PlacedRow) → IsOn text feed placed → feed.bytes ≢ [] → HasFeedEnd text placed feed.number Cut
on_cut text feed placed on some =
    record {
      items = on.items;
      fails = record { rest = feed.bytes; some = some; splits = on.splits };
      have = on.have;
      is_number = on.is_number;
    }

-- the fault that was kept
pub kept_ends : (text : List ℕ) (feed : Fed) (placed : List PlacedRow) (f : ClientFault) → f ≢ fault.Memory → Stands text (Some f) feed placed → EndsWithFault text f
kept_ends text feed placed (fault.Feed number kind) n h =
    (placed, record { items = h.items; fails = refused_fails kind text h.items h.refuses; have = h.have; is_number = h.is_number })
kept_ends text feed placed (fault.Place number kind) n h = (placed, h)
kept_ends text feed placed (fault.Link number kind) n h = (placed, h)
kept_ends text feed placed fault.NoRoot n h = absurd h
kept_ends text feed placed (fault.Undefined id) n h = absurd h
kept_ends text feed placed fault.Memory n h = absurd (n refl)

-- what is wrong with the rows of a whole text
whole_ends : (text : List ℕ) (placed : List PlacedRow) (f : ClientFault) → f ≢ fault.Memory → IsWhole text placed → IsWanting placed f → EndsWithFault text f
whole_ends text placed (fault.Feed number kind) n w h = absurd h
whole_ends text placed (fault.Place number kind) n w h = absurd h
whole_ends text placed (fault.Link number kind) n w h = absurd h
whole_ends text placed fault.NoRoot n w h = (placed, w, h)
whole_ends text placed (fault.Undefined id) n w h = (placed, w, h.0, h.1)
whole_ends text placed fault.Memory n w h = absurd (n refl)

pub on_ends : (text : List ℕ) (feed : Fed) (placed : List PlacedRow) (f : ClientFault) → f ≢ fault.Memory → IsOn text feed placed → IsEndFault feed placed f → EndsWithFault text f
on_ends text feed placed (fault.Feed number kind) n on h =
    (placed, subst (λ k. HasFeedEnd text placed number k) (sym h.2) (subst (λ m. HasFeedEnd text placed m Cut) (sym h.1) (on_cut text feed placed on h.0)))
on_ends text feed placed (fault.Place number kind) n on h = absurd h.1
on_ends text feed placed (fault.Link number kind) n on h = absurd h.1
on_ends text feed placed fault.NoRoot n on h = whole_ends text placed fault.NoRoot n (on_whole text feed placed on h.0) h.1
on_ends text feed placed (fault.Undefined id) n on h = whole_ends text placed (fault.Undefined id) n (on_whole text feed placed on h.0) h.1
on_ends text feed placed fault.Memory n on h = absurd (n refl)

-- the rows of a whole text
pub good_on : {T : Type 0} (r : Result T ClientFault) (text : List ℕ) (feed : Fed) (placed : List PlacedRow) → IsOn text feed placed → OnOk r ((feed.bytes ≡ []) × IsGood placed) → OnOk r (IsWhole text placed × IsGood placed)
good_on (Ok g) text feed placed on h = (on_whole text feed placed on h.0, h.1)
good_on (Err f) text feed placed on h = tt
