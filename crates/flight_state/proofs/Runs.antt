-- The theorem over whole journals.
use Rattle.std.proofs.Common.{◌≡◌, ℕ, zero, suc, Bool, true, false, ◌⊎◌, inl, inr, ⊎_elim, List, [], ◌∷◌, replicate, length, refl, sym, ap, ◌∙◌, subst, arith}
use Rattle.std.proofs.lemmas.Option.{none-some}
use Rattle.std.proofs.lemmas.Bool.{false≢true}
use Rattle.std.specs.Prelude.{slice_set}
use Rattle.flight_value.specs.Store.{Paired, DrawOneGraph}
use Rattle.flight_value.specs.declared.key.Key.{Key}
use Rattle.flight_render.specs.declared.root.Ground.{Ground}
use Rattle.flight_render.specs.Values.{is_settled}
use Rattle.flight_render.specs.Jobs.{the_root, of_job}
use Rattle.flight_render.specs.Plain.{plain}
use Rattle.flight_value.specs.Listed.{In}
use Rattle.flight_render.specs.Costs.{at_root, Total, total_of}
use Rattle.flight_render.specs.Laws.{Grows}
use Rattle.flight_render.specs.Attempt.{IsTabled}
use Rattle.flight_meaning.specs.Linked.{absent}
use Rattle.flight_meaning.specs.Meaning.{Identity, meaning}
use Rattle.flight_meaning.specs.Good.{IsGood}
use Rattle.flight_state.specs.declared.status.Status.{Status}
use Rattle.flight_state.specs.declared.status.Status.TheVariants as status
use Rattle.flight_state.specs.declared.event.Event.{Event}
use Rattle.flight_state.specs.declared.event.Event.TheVariants as event
use Rattle.flight_state.specs.State.{State, Task, IsAtRest, IsQuiet, IsClosed, stream_for}
use Rattle.flight_state.specs.Fits.{ReachedFor, Fits}
use Rattle.flight_state.specs.Steps.{Does, Run, first_task, opening, IsAbort, NoAborts, PingsWithin, AbortStep}
use Rattle.flight_state.proofs.AnyOrder.{same_graph, spent_total, closed_good}
use Rattle.flight_state.proofs.Tasks.{with_settled, more_settled}
use Rattle.flight_state.proofs.Aborted.{aborted_graph}
use Rattle.flight_state.proofs.Aborting.{abort_fits, first_aborted, abort_closed}
use Rattle.flight_state.specs.Ended.{ended}

-- ---- the opening state

no_pair : (k : Key) (i : Identity) → Paired [] k i → ⊥
no_pair k i p = omega (arith, p.1)

IsReady : Status → Type 0
IsReady status.Ready = Unit {0}
IsReady s = ⊥

only_first : (t : Task) → In t (first_task ∷ []) → t ≡ first_task
only_first t (inl e) = e
only_first t (inr i) = absurd i

ready_first : (t : Task) (s : Status) → In t (first_task ∷ []) → t.status ≡ s → IsReady s
unfolding IsReady
ready_first t s i e = subst IsReady (sym (ap (λ (z : Task). z.status) (only_first t i)) ∙ e) tt

pub opening_fits : (g : Ground) → Fits g (opening g)
unfolding IsReady
opening_fits g =
    record {
      follow_on = λ id. (absent, refl);
      known = λ at h. absurd (none-some at h.1);
      root = inr (inl (record { jobs = []; last = of_job the_root; task = first_task; leads = refl; counted = tt; begins = refl; is_task = inl refl; live = tt; alone = refl; walks = (1, refl) }));
      homes = λ k i p. absurd (no_pair k i p);
      one_home = λ k i j p q. absurd (no_pair k i p);
      one_key = λ k l i p q. absurd (no_pair k i p);
      others = λ k id i. absurd i;
      one_row = λ k a b i j. absurd i;
      one_row_key = λ k l id i j. absurd i;
      one_task = (λ i. i, tt);
      reached = λ t i. subst (λ (z : Task). ReachedFor g (opening g).settled z.what) (sym (only_first t i)) (of_job the_root, at_root, refl);
      tabled = λ t i. subst (λ (z : Task). IsTabled g (opening g).settled z.what) (sym (only_first t i)) tt;
      remembered = λ t turn i e. absurd (ready_first t (status.Running turn) i e);
      waiting = λ t s i e. absurd (ready_first t (status.Waiting s) i e);
      unwritten = λ t i l alone. refl;
      finished = λ t i d alone. absurd (ready_first t status.Done i d);
      open_for = λ t n i l e. absurd (none-some n (sym (ap (λ (z : Task). stream_for z.what) (only_first t i)) ∙ e));
      counted_once = tt;
      counted_only = λ a c i. absurd i;
    }

-- ---- runs

fits_after : (g : Ground) (es : List Event) (a c : State) → Fits g a → Run g es a c → Fits g c
fits_after g [] a c f w = subst (Fits g) w f
fits_after g (e ∷ es) a c f w = fits_after g es w.0 c w.1.fits w.2

pub run_fits : (g : Ground) (es : List Event) (st : State) → Run g es (opening g) st → Fits g st
run_fits g es st w = fits_after g es (opening g) st (opening_fits g) w

same_ended : (g : Ground) (a : State) (e : Event) (b : State) → Does g a e b → (IsAbort e → ⊥) → b.ended ≡ a.ended
same_ended g a (event.Take t) b d n = ap (λ (z : State). z.ended) d.now
same_ended g a (event.Done t) b d n = ap (λ (z : State). z.ended) d.rest
same_ended g a (event.Wait t s) b d n = ap (λ (z : State). z.ended) d.now
same_ended g a (event.Ping s) b d n = ap (λ (z : State). z.ended) d.now
same_ended g a event.Abort b d n = absurd (n tt)

none_ended : (g : Ground) (es : List Event) (a c : State) → Run g es a c → NoAborts es → a.ended ≡ [] → c.ended ≡ []
none_ended g [] a c w n h = ap (λ (z : State). z.ended) (sym w) ∙ h
none_ended g (e ∷ es) a c w n h = none_ended g es w.0 c w.2 n.1 (same_ended g a e w.0 w.1.does n.0 ∙ h)

pub run_ended : (g : Ground) (es : List Event) (st : State) → Run g es (opening g) st → NoAborts es → st.ended ≡ []
run_ended g es st w n = none_ended g es (opening g) st w n refl

pub run_same : (g : Ground) (es : List Event) (st : State) → Run g es (opening g) st → NoAborts es → IsQuiet st → DrawOneGraph (plain g st.settled) (meaning st.rows)
run_same g es st w n q = same_graph g st (run_fits g es st w) q (run_ended g es st w n)

pub run_spent : (g : Ground) (es : List Event) (st : State) → Run g es (opening g) st → NoAborts es → IsQuiet st → Total g st.settled (total_of st.counted)
run_spent g es st w n q = spent_total g st (run_fits g es st w) q (run_ended g es st w n)

pub run_good : (g : Ground) (es : List Event) (st : State) → Run g es (opening g) st → IsClosed st → IsGood st.rows
run_good g es st w closed = closed_good g st (run_fits g es st w) closed

-- ---- where every task is done, more settled sources change nothing

pub closed_quiet : (st : State) → IsClosed st → IsQuiet st
closed_quiet st closed t i = subst IsAtRest (sym (closed t i)) tt

pub closed_same : (g : Ground) (st : State) (s : List Bool) → Fits g st → IsClosed st → st.ended ≡ [] → Grows st.settled s → DrawOneGraph (plain g s) (meaning st.rows)
closed_same g st s f closed none grows = same_graph g (with_settled st s) (more_settled g st s f closed grows) (closed_quiet st closed) none

pub closed_spent : (g : Ground) (st : State) (s : List Bool) → Fits g st → IsClosed st → st.ended ≡ [] → Grows st.settled s → Total g s (total_of st.counted)
closed_spent g st s f closed none grows = spent_total g (with_settled st s) (more_settled g st s f closed grows) (closed_quiet st closed) none

-- ---- which sources are settled after a run

none_settled : (n i : ℕ) → is_settled (replicate n false) i ≡ true → ⊥
none_settled zero i h = false≢true h
none_settled (suc n) zero h = false≢true h
none_settled (suc n) (suc i) h = none_settled n i h

settled_or : (bs : List Bool) (s i : ℕ) → is_settled (slice_set bs s true) i ≡ true → (i ≡ s) ⊎ (is_settled bs i ≡ true)
settled_or [] s i h = inr h
settled_or (b ∷ bs) zero zero h = inl refl
settled_or (b ∷ bs) zero (suc i) h = inr h
settled_or (b ∷ bs) (suc s) zero h = inr h
settled_or (b ∷ bs) (suc s) (suc i) h = ⊎_elim (λ e. inl (ap suc e)) (λ x. inr x) (settled_or bs s i h)

step_within : (g : Ground) (settled : List Bool) (a : State) (e : Event) (es : List Event) (b : State) → Does g a e b → PingsWithin settled (e ∷ es) → Grows a.settled settled → Grows b.settled settled × PingsWithin settled es
step_within g settled a (event.Take t) es b d p grows = (subst (λ (z : State). Grows z.settled settled) (sym d.now) grows, p)
step_within g settled a (event.Done t) es b d p grows = (subst (λ z. Grows z settled) (sym (ap (λ (z : State). z.settled) d.rest)) grows, p)
step_within g settled a (event.Wait t s) es b d p grows = (subst (λ (z : State). Grows z.settled settled) (sym d.now) grows, p)
step_within g settled a event.Abort es b d p grows = (subst (λ (z : State). Grows z.settled settled) (sym d.now) grows, p)
step_within g settled a (event.Ping s) es b d p grows = (
  λ i h. ⊎_elim (λ e. ap (is_settled settled) e ∙ p.0) (λ x. grows i x)
      (settled_or a.settled s i (subst (λ z. is_settled z i ≡ true) (ap (λ (z : State). z.settled) d.now) h)),
  p.1,
)

run_within : (g : Ground) (settled : List Bool) (es : List Event) (a c : State) → Run g es a c → PingsWithin settled es → Grows a.settled settled → Grows c.settled settled
run_within g settled [] a c w p grows = subst (λ (z : State). Grows z.settled settled) w grows
run_within g settled (e ∷ es) a c w p grows = let x = step_within g settled a e es w.0 w.1.does p grows in run_within g settled es w.0 c w.2 x.1 x.0

pub run_settled : (g : Ground) (settled : List Bool) (es : List Event) (st : State) → Run g es (opening g) st → PingsWithin settled es → Grows st.settled settled
run_settled g settled es st w p = run_within g settled es (opening g) st w p (λ i h. absurd (none_settled (length g.script.sources) i h))

pub run_scripted : (g : Ground) (settled : List Bool) (es : List Event) (st : State) → Run g es (opening g) st → NoAborts es → PingsWithin settled es → IsClosed st → DrawOneGraph (plain g settled) (meaning st.rows)
run_scripted g settled es st w n p closed = closed_same g st settled (run_fits g es st w) closed (run_ended g es st w n) (run_settled g settled es st w p)

pub run_scripted-spent : (g : Ground) (settled : List Bool) (es : List Event) (st : State) → Run g es (opening g) st → NoAborts es → PingsWithin settled es → IsClosed st → Total g settled (total_of st.counted)
run_scripted-spent g settled es st w n p closed = closed_spent g st settled (run_fits g es st w) closed (run_ended g es st w n) (run_settled g settled es st w p)

-- ---- the first abort of a run, in a quiet state

pub run_aborted : (g : Ground) (es : List Event) (st new : State) → Run g es (opening g) st → NoAborts es → IsQuiet st → (w : AbortStep st new) → DrawOneGraph (ended w.digest (plain g st.settled)) (meaning new.rows)
run_aborted g es st new w n q a =
    let f = run_fits g es st w in
    let is = first_aborted g st new f q (run_ended g es st w n) a in
    subst (λ z. DrawOneGraph (ended a.digest (plain g z)) (meaning new.rows)) (ap (λ (z : State). z.settled) a.now) (aborted_graph g new a.digest (abort_fits g st new f a) is)

pub run_aborted-good : (g : Ground) (es : List Event) (st new : State) → Run g es (opening g) st → AbortStep st new → IsGood new.rows
run_aborted-good g es st new w a = closed_good g new (abort_fits g st new (run_fits g es st w) a) (abort_closed st new a)
