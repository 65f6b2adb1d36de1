-- After an abort in a quiet state the rows mean sequential rendering with what pends failed.
use Rattle.std.proofs.Common.{◌≡◌, ℕ, inl, inr, List, [], ◌∷◌, ◌++◌, Option, Some, refl, sym, ap, ◌∙◌, subst}
use Rattle.flight_value.specs.Store as store
use Rattle.flight_value.specs.Store.{Target, Shape, Label, TargetsFit, SlotsFit, Paired, DrawOneGraph}
use Rattle.flight_value.specs.declared.graph.Atom.{Atom}
use Rattle.flight_value.specs.declared.graph.Atom.TheVariants as atom
use Rattle.flight_value.specs.declared.key.Key.{Key}
use Rattle.flight_value.specs.declared.key.Key.TheVariants as key
use Rattle.flight_render.specs.declared.root.Ground.{Ground}
use Rattle.flight_render.specs.Run.{waits}
use Rattle.flight_render.specs.Jobs.{Value, of_job, the_root, stopped}
use Rattle.flight_render.specs.Plain.{plain}
use Rattle.flight_meaning.specs.declared.place.Place.{Place}
use Rattle.flight_meaning.specs.declared.place.Place.TheVariants as place
use Rattle.flight_meaning.specs.Linked.{first_place}
use Rattle.flight_meaning.specs.Resolve.{found}
use Rattle.flight_meaning.specs.Meaning as wire
use Rattle.flight_meaning.specs.Meaning.{Written, Identity, made_at, promise_of, stream_of, action_of, meaning}
use Rattle.flight_meaning.specs.Lasting.{HasEnded}
use Rattle.flight_state.specs.State.{State, IsLive, job_at}
use Rattle.flight_state.specs.Spells.{Spells, SpelledBy, AtHome, IsLone, HomeAt}
use Rattle.flight_state.specs.Fits.{Fits}
use Rattle.flight_state.specs.Ended.{ended_atom, ended_target, ended_label, ended, EndedHome, IsAborted}
use Rattle.flight_state.proofs.Lists.{zip-map}
use Rattle.flight_state.proofs.AnyOrder.{leads_more}
use Rattle.flight_state.proofs.Moves.{lone_ended}

ended_same : (digest : List ℕ) (a : Atom) → ¬ (a ≡ atom.Pending) → ended_atom digest a ≡ a
ended_same digest atom.Pending sure = absurd (sure refl)
ended_same digest atom.Null sure = refl
ended_same digest atom.Undefined sure = refl
ended_same digest (atom.Bool b) sure = refl
ended_same digest (atom.Whole z) sure = refl
ended_same digest (atom.Big t) sure = refl
ended_same digest (atom.Text t) sure = refl
ended_same digest (atom.Date t) sure = refl
ended_same digest (atom.Symbol t) sure = refl
ended_same digest (atom.Constant c) sure = refl
ended_same digest (atom.Import t) sure = refl
ended_same digest (atom.Failed d) sure = refl

target_same : {K : Type 0} (digest : List ℕ) (t : Target K) → ¬ (t ≡ store.atom atom.Pending) → ended_target digest t ≡ t
target_same digest (store.atom a) sure = ap store.atom (ended_same digest a (λ e. sure (ap store.atom e)))
target_same digest (store.node_at k) sure = refl

digest_or : Option Place → List ℕ → List ℕ
digest_or (Some (place.Atom (atom.Failed d))) x = d
digest_or o x = x

same_digest : (d x : List ℕ) → Some (place.Atom (atom.Failed d)) ≡ Some (place.Atom (atom.Failed x)) → d ≡ x
unfolding digest_or
same_digest d x h = ap (λ o. digest_or o d) h

meets : (g : Ground) (st : State) (d : List ℕ) → IsAborted g st d → (e : Value) (m : Written) → Spells g st m e → SlotsFit (Paired st.homes) (ended d (plain g st.settled)) (meaning st.rows) e m
meets g st d a e m (inl now) =
    record {
      here = ended_target d now.here;
      there = now.there;
      leads_here = (now.here, record { jobs = now.jobs; last = now.last; leads = now.leads; no_job = now.no_job; is_target = now.is_here }, refl);
      leads_there = now.is_there;
      targets_fit = subst (λ z. TargetsFit (Paired st.homes) z now.there) (sym (target_same d now.here now.certain)) now.fit;
    }
meets g st d a e m (inr (inl l)) = absurd (subst IsLive (a.closed l.task l.is_task) l.live)
meets g st d a e m (inr (inr x)) =
    let w = a.waited x.task x.error x.is_task x.alone x.is_ended in
    let same : d ≡ x.digest = same_digest d x.digest (sym (a.errors x.task.id x.error x.is_ended) ∙ x.is_error) in
    record {
      here = store.atom (atom.Failed d);
      there = store.atom (atom.Failed d);
      leads_here = (store.atom atom.Pending, record { jobs = x.jobs ++ job_at g x.task ∷ []; last = stopped w.0; leads = leads_more g st.settled e x.jobs x.last x.leads (job_at g x.task) (waits w.0) x.begins w.1; no_job = refl; is_target = refl }, refl);
      leads_there = inl (found (first_place x.error), x.walks, subst (λ o. wire.LeadsHere st.rows (first_place x.error) o (store.atom (atom.Failed d))) (sym (a.errors x.task.id x.error x.is_ended)) refl);
      targets_fit = refl;
    }

label_same : (digest : List ℕ) (l : Label) → HasEnded l → ended_label digest l ≡ l
label_same digest (store.stream flow store.flowing) h = absurd h
label_same digest (store.stream flow store.closed) h = refl
label_same digest (store.stream flow (store.broken d)) h = refl
label_same digest store.array h = refl
label_same digest (store.object names) h = refl
label_same digest store.map_of h = refl
label_same digest store.set_of h = refl
label_same digest store.element h = refl
label_same digest store.promise h = refl
label_same digest (store.action id) h = refl

lone_home : (g : Ground) (st : State) (d : List ℕ) (k : Key) (i : Identity) → IsLone i → AtHome g st k i → EndedHome g st d k i
lone_home g st d k i lone x =
    record {
      here = x.here;
      there = x.there;
      is_here = x.is_here;
      is_there = x.is_there;
      labels = label_same d x.here.label (subst HasEnded (sym x.labels) (lone_ended st.rows i x.there lone x.is_there)) ∙ x.labels;
      slots = x.slots;
    }

ended_home : (g : Ground) (st : State) (d : List ℕ) → IsAborted g st d → (k : Key) (i : Identity) → Paired st.homes k i → HomeAt g st k i → EndedHome g st d k i
ended_home g st d a (key.Stream f) (stream_of id) p x = a.streams f id p
ended_home g st d a (key.Stream f) (made_at s) p x = absurd x
ended_home g st d a (key.Stream f) (promise_of id) p x = absurd x
ended_home g st d a (key.Stream f) (action_of id) p x = absurd x
ended_home g st d a (key.Made n) i p x = lone_home g st d (key.Made n) i x.0 x.1
ended_home g st d a (key.Source s n) i p x = lone_home g st d (key.Source s n) i x.0 x.1
ended_home g st d a (key.Settled s) i p x = lone_home g st d (key.Settled s) i x.0 x.1
ended_home g st d a (key.Action s) i p x = lone_home g st d (key.Action s) i x.0 x.1
ended_home g st d a (key.Client s) i p x = lone_home g st d (key.Client s) i x.0 x.1
ended_home g st d a (key.Symbol s) i p x = lone_home g st d (key.Symbol s) i x.0 x.1
ended_home g st d a (key.Server s) i p x = lone_home g st d (key.Server s) i x.0 x.1

pub aborted_graph : (g : Ground) (st : State) (d : List ℕ) → Fits g st → IsAborted g st d → DrawOneGraph (ended d (plain g st.settled)) (meaning st.rows)
aborted_graph g st d f a = (
  st.homes,
  record {
    one_there = f.one_home;
    one_here = f.one_key;
    roots = meets g st d a (of_job the_root) (wire.value_of 0) f.root;
    each = λ k i p. let x = ended_home g st d a k i p (f.homes k i p) in
        record {
          here = record { label = ended_label d x.here.label; slots = x.here.slots };
          there = x.there;
          is_here = (x.here, x.is_here, refl);
          is_there = x.is_there;
          labels = x.labels;
          slots_fit = zip-map (SpelledBy g st) (SlotsFit (Paired st.homes) (ended d (plain g st.settled)) (meaning st.rows)) (meets g st d a) x.here.slots x.there.slots x.slots;
        };
  },
)
