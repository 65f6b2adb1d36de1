-- The step of a finished task keeps the facts of a state.
use Rattle.std.proofs.Common.{◌≡◌, ℕ, suc, ◌+◌, Bool, true, cond, is_some, ◌⊎◌, inl, inr, ⊎_elim, List, [], ◌∷◌, ◌++◌, length, Option, Some, None, refl, sym, ap, ◌∙◌, subst, append-nil, append_assoc, arith}
use Rattle.std.proofs.lemmas.Option.{none-some, same_Some}
use Rattle.std.proofs.lemmas.List.Elements.{Contains-append_left}
use Rattle.std.specs.Prelude.{slice_get, slice_set}
use Rattle.std.specs.List.{AllZip}
use Rattle.flight_value.specs.Store as target
use Rattle.flight_value.specs.Store.{Target, Shape, TargetsFit, Paired}
use Rattle.flight_value.specs.declared.key.Key.{Key}
use Rattle.flight_value.specs.declared.key.Key.TheVariants as key
use Rattle.flight_value.specs.declared.made.Tree.{Tree}
use Rattle.flight_syntax.specs.declared.script.Flowing.{Flowing}
use Rattle.flight_row.specs.declared.row.RowKind.{RowKind}
use Rattle.flight_row.specs.declared.row.RowKind.TheVariants as row
use Rattle.flight_render.specs.declared.root.Ground.{Ground}
use Rattle.flight_render.specs.declared.job.What.{What}
use Rattle.flight_render.specs.declared.job.What.TheVariants as what
use Rattle.flight_render.specs.Run.{gave}
use Rattle.flight_render.specs.Values.{is_settled}
use Rattle.flight_render.specs.Jobs.{Job, outcome, Value, of_job, shown, job_of, comes, value_of, Leads}
use Rattle.flight_render.specs.Plain.{last_job, next_job}
use Rattle.flight_value.specs.Listed.{In}
use Rattle.flight_render.specs.Costs.{address_of}
use Rattle.flight_render.specs.Attempt.{job_for}
use Rattle.flight_render.specs.Laws.{Grows, IsLasting}
use Rattle.flight_render.specs.Valid.{IsValidGround}
use Rattle.flight_render.proofs.Falling.{no_loop}
use Rattle.flight_meaning.specs.declared.place.Place.{Place}
use Rattle.flight_meaning.specs.declared.place.Place.TheVariants as place
use Rattle.flight_meaning.specs.declared.place.PlaceTree.{PlaceTree}
use Rattle.flight_meaning.specs.declared.place.PlacedRow.{PlacedRow}
use Rattle.flight_meaning.specs.Linked.{rows_of, Standing, absent, streaming, ended, goes, next, after, standing_of, Spot, place_at, first_place}
use Rattle.flight_meaning.specs.Resolve.{Stand, to, here, Found, found, not_yet, nowhere, Turn, on, ends, turn, go_from, Ends, Path}
use Rattle.flight_meaning.specs.Resolve as resolve
use Rattle.flight_meaning.specs.Meaning as wire
use Rattle.flight_meaning.specs.Meaning.{Written, at_place, Identity, promise_of, stream_of, HasShape, FlowEnd, flowing, closed_with, broken_by, Flowed, flowed, joined, with_row, digest_at, Reference, reference_of, stand_of}
use Rattle.flight_meaning.specs.Good.{IsHeld, IsTokenDefined}
use Rattle.flight_meaning.proofs.Walking.{ends_back, ends_forth, turn_ends, one_end}
use Rattle.flight_meaning.proofs.MoreMeaning.{flowed-append}
use Rattle.flight_state.specs.declared.status.Status.{Status}
use Rattle.flight_state.specs.declared.status.Status.TheVariants as status
use Rattle.flight_state.specs.State.{State, Task, IsLive, stream_for, IsAlone, next_by, next_what, job_at}
use Rattle.flight_state.specs.Spells.{CountedAt, SpellsLater, Spells, SpelledBy, AtHome, AllGive, values_of, EndsAt, is_going, is_closed, is_broken, is_ended, StreamAt, IsLone, HomeAt}
use Rattle.flight_state.specs.Fits.{IsFollowed, IsKnown, WaitsFor, Fits}
use Rattle.flight_state.specs.Steps.{close, DoneStep}
use Rattle.flight_state.specs.Emits.{Meant, IsWritten, as_itself, as_task, as_given, MeantBy, by_place, by_row, by_task, NewHome, IsPlain, IsItem, root_of, Grown, next_row, final_row, broken_row, StreamStep, unchanged, grown, opened, EmitsWell}
use Rattle.flight_state.proofs.Lists.{zip-map, zip-append, in_front, in_either, at_in, set_in, set_forth, set_back}
use Rattle.flight_state.proofs.Flows.{next_is, slice_get-behind}
use Rattle.flight_state.proofs.AnyOrder.{pends, spells_followed}
use Rattle.flight_state.proofs.Spelled.{leads_join, GoesTo, through_row, given_first, serve_live, spells_from}
use Rattle.flight_state.proofs.Moves.{Moves, Lives, now_on, ended_on, later_on, spells_on, home_on, all_give-keeps, IsOver, stream_with, stream_on, Adds, fits_on}
use Rattle.flight_state.proofs.Tasks.{gives_now}
use Rattle.flight_state.proofs.Owned.{live_owns, one_of}

-- ---- a place as it is written spells what is meant

goes_by_turn : (rows : List PlacedRow) (a b : Written) → turn rows (stand_of a) ≡ on (stand_of b) → GoesTo rows a b
goes_by_turn rows a b e f w = ends_back rows (stand_of a) (stand_of b) e f w

-- the rows of these tasks spell their jobs' values
abbrev Serves : Ground → State → Value → Type 0
Serves g st v = (u : Task) → In u st.tasks → IsAlone u.what → (js : List Job) (last : Value) → Leads g st.settled v js last → job_of g st.settled last ≡ Some (job_at g u) → Spells g st (wire.value_of u.id) (of_job (job_at g u))

spell_place : (g : Ground) (st : State) (s : Spot) (v : Value) → Serves g st v → IsWritten g st s v → Spells g st (at_place s) v
spell_place g st s v served (as_itself a b none is sure leads fit) =
    inl (record { jobs = []; last = v; leads = refl; no_job = none; counted = tt; here = a; there = b; is_here = is; is_there = leads; certain = sure; fit = fit })
spell_place g st s v served (as_task u i alone is refers) =
    through_row g st (at_place s) (wire.value_of u.id) v [] v (job_at g u) refl tt is (goes_by_turn st.rows (at_place s) (wire.value_of u.id) refers) (served u i alone [] v refl is)
spell_place g st s v served (as_given j h is by c w) =
    given_first g st (at_place s) (at_place s) v j h is by c (λ f x. x)
    (spell_place g st s (value_of g st.settled j h) (λ u i alone js last l b. served u i alone (j ∷ js) last (is, (h, by, l)) b) w)

-- ---- the tasks after the step

pub step_others : (g : Ground) (old new : State) (n : ℕ) (d : DoneStep g old new n) (u : Task) → In u old.tasks → (u ≡ d.task) ⊎ In u new.tasks
step_others g old new n d u i =
    ⊎_elim (λ e. inl e) (λ k. inr (subst (In u) (sym d.tasks) (in_front (slice_set old.tasks n (close d.task)) d.born u k))) (set_forth old.tasks n d.task (close d.task) u d.is_task i)

pub step_now : (g : Ground) (old new : State) (n : ℕ) (d : DoneStep g old new n) → In (close d.task) new.tasks
step_now g old new n d = subst (In (close d.task)) (sym d.tasks) (in_front (slice_set old.tasks n (close d.task)) d.born (close d.task) (set_in old.tasks n d.task (close d.task) d.is_task))

pub step_only : (g : Ground) (old new : State) (n : ℕ) (d : DoneStep g old new n) (u : Task) → In u new.tasks → (u ≡ close d.task) ⊎ (In u old.tasks ⊎ In u d.born)
step_only g old new n d u i =
    ⊎_elim (λ k. ⊎_elim (λ e. inl e) (λ x. inr (inl x)) (set_back old.tasks n (close d.task) u k)) (λ k. inr (inr k))
    (in_either (slice_set old.tasks n (close d.task)) d.born u (subst (In u) d.tasks i))

pub moves_of : (g : Ground) (old new : State) (n : ℕ) → DoneStep g old new n → Moves g old new
moves_of g old new n d =
    record {
      grows = λ s h. subst (λ z. is_settled z s ≡ true) (sym (ap (λ (z : State). z.settled) d.rest)) h;
      more = d.rows.0;
      rows = d.rows.1;
      homes = λ k i p. subst (λ z. Paired z k i) (sym d.homes.1) (Contains-append_left old.homes d.homes.0 (k, i) p);
      counted = λ a c i. subst (In (a, c)) (sym d.counted.1) (in_front old.counted d.counted.0 (a, c) i);
      ended = λ p i. subst (In p) (sym (ap (λ (z : State). z.ended) d.rest)) i;
      tasks = λ u i. ⊎_elim
          (λ e. record { task = close d.task; is_task = step_now g old new n d; same_id = ap (λ (z : Task). z.id) (sym e); same_what = ap (λ (z : Task). z.what) (sym e) })
          (λ k. record { task = u; is_task = k; same_id = refl; same_what = refl })
          (step_others g old new n d u i);
    }

-- ---- the rows of tasks after the step

is_done : (s : Status) → (s ≡ status.Done) ⊎ IsLive s
is_done status.Ready = inr tt
is_done (status.Running n) = inr tt
is_done (status.Waiting s) = inr tt
is_done status.Done = inl refl

record Given (g : Ground) (old new : State) (n : ℕ) (meant : Meant) : Type 0 where
  step : DoneStep g old new n
  fits : Fits g old
  gives : comes g old.settled (job_at g step.task) ≡ Some step.end
  well : EmitsWell g old new step.task step.born step.end meant

pub settled_is : (g : Ground) (old new : State) (n : ℕ) → DoneStep g old new n → new.settled ≡ old.settled
settled_is g old new n d = ap (λ (z : State). z.settled) d.rest

born_served : (g : Ground) (old new : State) (n : ℕ) (meant : Meant) (w : Given g old new n meant) (u : Task) → In u new.tasks → IsAlone u.what → In u w.step.born → Spells g new (wire.value_of u.id) (of_job (job_at g u))
born_served g old new n meant w u i alone k =
    let live : IsLive u.status = subst IsLive (sym (w.step.are_ready u k)) tt in
    serve_live g new u i alone live (w.well.unwritten u i live alone)

-- another task's row spells its job, where the job is what the finished task comes to
other_served : (g : Ground) (old new : State) (n : ℕ) (meant : Meant) (w : Given g old new n meant)
    → (u : Task) → In u new.tasks → IsAlone u.what → (js : List Job) (last : Value) → Leads g old.settled (value_of g old.settled (job_at g w.step.task) w.step.end) js last → job_of g old.settled last ≡ Some (job_at g u) → Spells g new (wire.value_of u.id) (of_job (job_at g u))
other_served g old new n meant w u i alone js last l0 is = ⊎_elim own (λ x. ⊎_elim before (born_served g old new n meant w u i alone) x) (step_only g old new n w.step u i)
  where
    t : Task
    t = w.step.task

    mv : Moves g old new
    mv = moves_of g old new n w.step

    own : u ≡ close t → Spells g new (wire.value_of u.id) (of_job (job_at g u))
    own same = absurd (no_loop g old.settled (job_at g t) w.step.end js last w.gives l0 (is ∙ ap (λ (z : Task). Some (job_at g z)) same))

    loops : (l : SpellsLater g old (wire.value_of u.id) (of_job (job_at g u))) → l.task ≡ t → ⊥
    loops l same =
        let back : job_of g old.settled l.last ≡ Some (job_at g t) = l.begins ∙ ap (λ (z : Task). Some (job_at g z)) same in
        ⊎_elim
        (λ x. no_loop g old.settled (job_at g t) w.step.end js last w.gives l0 (is ∙ (ap (job_of g old.settled) (sym x.1) ∙ back)))
        (λ x. no_loop g old.settled (job_at g t) w.step.end (js ++ l.jobs) l.last w.gives x back)
        (leads_join g old.settled (value_of g old.settled (job_at g t) w.step.end) js last (job_at g u) l.jobs l.last l0 is l.leads)

    later : (l : SpellsLater g old (wire.value_of u.id) (of_job (job_at g u))) → (l.task ≡ t) ⊎ In l.task new.tasks → Spells g new (wire.value_of u.id) (of_job (job_at g u))
    later l (inl same) = absurd (loops l same)
    later l (inr k) =
        later_on g old new mv (wire.value_of u.id) (of_job (job_at g u)) l
        (inl (record { kept = record { task = l.task; is_task = k; same_id = refl; same_what = refl }; live = l.live; no_row = w.well.unwritten l.task k l.live l.alone }))

    by_old : Spells g old (wire.value_of u.id) (of_job (job_at g u)) → Spells g new (wire.value_of u.id) (of_job (job_at g u))
    by_old (inl now) = inl (now_on g old new w.fits mv (wire.value_of u.id) (of_job (job_at g u)) now)
    by_old (inr (inl l)) = later l (step_others g old new n w.step l.task l.is_task)
    by_old (inr (inr x)) = inr (inr (ended_on g old new mv (wire.value_of u.id) (of_job (job_at g u)) x))

    before : In u old.tasks → Spells g new (wire.value_of u.id) (of_job (job_at g u))
    before k = ⊎_elim (λ d. by_old (w.fits.finished u k d alone)) (λ live. serve_live g new u i alone live (w.well.unwritten u i live alone)) (is_done u.status)

-- the chain of what the finished task comes to serves
serves_end : (g : Ground) (old new : State) (n : ℕ) (meant : Meant) (w : Given g old new n meant) → Serves g new (value_of g new.settled (job_at g w.step.task) w.step.end)
serves_end g old new n meant w u i alone js last l is =
    let same = settled_is g old new n w.step in
    other_served g old new n meant w u i alone js last
    (subst (λ z. Leads g z (value_of g z (job_at g w.step.task) w.step.end) js last) same l) (subst (λ z. job_of g z last ≡ Some (job_at g u)) same is)

gives_new : (g : Ground) (old new : State) (n : ℕ) (meant : Meant) (w : Given g old new n meant) → comes g new.settled (job_at g w.step.task) ≡ Some w.step.end
gives_new g old new n meant w = subst (λ z. comes g z (job_at g w.step.task) ≡ Some w.step.end) (sym (settled_is g old new n w.step)) w.gives

own_spelled : (g : Ground) (old new : State) (n : ℕ) (meant : Meant) (w : Given g old new n meant) → IsAlone w.step.task.what → Spells g new (wire.value_of w.step.task.id) (of_job (job_at g w.step.task))
own_spelled g old new n meant w alone =
    let t = w.step.task in
    let v = value_of g new.settled (job_at g t) w.step.end in
    given_first g new (wire.value_of t.id) (at_place (first_place t.id)) (of_job (job_at g t)) (job_at g t) w.step.end refl (gives_new g old new n meant w) w.well.own_counted
    (goes_by_turn new.rows (wire.value_of t.id) (at_place (first_place t.id)) (w.well.own alone).0)
    (spell_place g new (first_place t.id) v (serves_end g old new n meant w) (w.well.places (first_place t.id) v (w.well.own alone).1))

lives_of : (g : Ground) (old new : State) (n : ℕ) (meant : Meant) → Given g old new n meant → Lives g old new
lives_of g old new n meant w u i live alone =
    ⊎_elim
    (λ e. inr (subst (λ (z : Task). Spells g new (wire.value_of z.id) (of_job (job_at g z))) (sym e) (own_spelled g old new n meant w (ap (λ (z : Task). stream_for z.what) (sym e) ∙ alone))))
    (λ k. inl (record { kept = record { task = u; is_task = k; same_id = refl; same_what = refl }; live = live; no_row = w.well.unwritten u k live alone }))
    (step_others g old new n w.step u i)

-- each task's own row spells its job's value
served : (g : Ground) (old new : State) (n : ℕ) (meant : Meant) → Given g old new n meant → (u : Task) → In u new.tasks → IsAlone u.what → Spells g new (wire.value_of u.id) (of_job (job_at g u))
served g old new n meant w u i alone = ⊎_elim own (λ x. ⊎_elim before (born_served g old new n meant w u i alone) x) (step_only g old new n w.step u i)
  where
    own : u ≡ close w.step.task → Spells g new (wire.value_of u.id) (of_job (job_at g u))
    own e = subst (λ (z : Task). Spells g new (wire.value_of z.id) (of_job (job_at g z))) (sym e) (own_spelled g old new n meant w (ap (λ (z : Task). stream_for z.what) (sym e) ∙ alone))

    before : In u old.tasks → Spells g new (wire.value_of u.id) (of_job (job_at g u))
    before k = ⊎_elim
        (λ d. spells_on g old new w.fits (moves_of g old new n w.step) (lives_of g old new n meant w) (wire.value_of u.id) (of_job (job_at g u)) (w.fits.finished u k d alone))
        (λ live. serve_live g new u i alone live (w.well.unwritten u i live alone)) (is_done u.status)

serves_all : (g : Ground) (old new : State) (n : ℕ) (meant : Meant) → Given g old new n meant → (v : Value) → Serves g new v
serves_all g old new n meant w v u i alone js last l is = served g old new n meant w u i alone

spelled : (g : Ground) (old new : State) (n : ℕ) (meant : Meant) → Given g old new n meant → (s : Spot) (v : Value) → In (s, v) meant → Spells g new (at_place s) v
spelled g old new n meant w s v i = spell_place g new s v (serves_all g old new n meant w v) (w.well.places s v i)

meant_spelled : (g : Ground) (old new : State) (n : ℕ) (meant : Meant) → Given g old new n meant → (v : Value) (m : Written) → MeantBy g new meant v m → Spells g new m v
meant_spelled g old new n meant w v _ (by_place s i) = spelled g old new n meant w s v i
meant_spelled g old new n meant w v _ (by_row id row i) = go (spelled g old new n meant w (first_place id) v i)
  where
    goes_on : GoesTo new.rows (wire.value_of id) (at_place (first_place id))
    goes_on = goes_by_turn new.rows (wire.value_of id) (at_place (first_place id)) row

    go : Spells g new (at_place (first_place id)) v → Spells g new (wire.value_of id) v
    go x = spells_from g new (wire.value_of id) (at_place (first_place id)) goes_on v x
meant_spelled g old new n meant w v _ (by_task t i alone is) = through_row g new (wire.value_of t.id) (wire.value_of t.id) v [] v (job_at g t) refl tt is (λ f x. x) (served g old new n meant w t i alone)

-- ---- references

IsOn : Turn → Type 0
IsOn (on s) = Unit {0}
IsOn (ends f) = ⊥

stand_or : Turn → Stand → Stand
stand_or (on s) d = s
stand_or (ends f) d = d

stand_same : (s t : Stand) → on s ≡ on t → s ≡ t
unfolding stand_or
stand_same s t e = ap (λ z. stand_or z s) e

-- where a place leads to something certain, a reference that stands there is known
known_itself : (g : Ground) (st : State) → ((k : Key) (id : ℕ) → Paired st.homes k (promise_of id) → IsFollowed st (to id [])) → (s : Spot) (at : Place) → place_at st.rows s ≡ Some at → (a : Target Key) (b : Target Identity) → ¬ (b ≡ wire.pending)
    → TargetsFit (Paired st.homes) a b → wire.Leads st.rows (at_place s) b → IsKnown st at
known_itself g st promised s at h a b sure fit (inr x) = absurd (sure x.1)
known_itself g st promised s at h a b sure fit (inl (f, w, is)) = go at h
  where
    followed : (r : Stand) → turn st.rows (here s []) ≡ on r → (k : Found) → Ends st.rows (here s []) k → wire.IsTarget st.rows k b → IsFollowed st r
    followed r e (found p) x t = (found p, ends_forth st.rows (here s []) r e (found p) x, tt)
    followed r e (resolve.stream id) x t = (resolve.stream id, ends_forth st.rows (here s []) r e (resolve.stream id) x, tt)
    followed r e (not_yet id path) x t = absurd (sure t)
    followed r e nowhere x t = absurd (sure t)

    -- a place that is no lazy and no value reference is where the walk ends
    leads_here : (q : Place) → place_at st.rows s ≡ Some q → turn st.rows (here s []) ≡ ends (found s) → wire.LeadsHere st.rows s (Some q) b
    leads_here q e stops =
        let same : f ≡ found s = one_end st.rows (here s []) f (found s) w (turn_ends st.rows (here s []) (found s) stops) in
        subst (λ o. wire.LeadsHere st.rows s o b) e (subst (λ z. wire.IsTarget st.rows z b) same is)

    promise : (id : ℕ) → b ≡ target.node_at (promise_of id) → (x : Target Key) → TargetsFit (Paired st.homes) x b → IsFollowed st (to id [])
    promise id e (target.node_at k) y = promised k id (subst (λ z. TargetsFit (Paired st.homes) (target.node_at k) z) e y)
    promise id e (target.atom c) y = absurd (subst (λ z. TargetsFit (Paired st.homes) (target.atom c) z) e y)

    action : (id : ℕ) → (o : Option Reference) → reference_of st.rows id ≡ o → b ≡ cond (is_some o) (target.node_at (wire.action_of id)) wire.pending → (r : Reference) × (reference_of st.rows id ≡ Some r)
    action id None e y = absurd (sure y)
    action id (Some r) e y = (r, e)

    token : (k : wire.Token) (r : _) → wire.TokenLeads st.rows k s r b → IsTokenDefined st.rows k r
    token k r (inl x) = inl (x.0, x.1)
    token k r (inr (inl x)) = inr (x.0, x.1)
    token k r (inr (inr x)) = absurd (sure x.2)

    go : (q : Place) → place_at st.rows s ≡ Some q → IsKnown st q
    go (place.Lazy id) e = followed (to id []) (ap (λ o. go_from s o []) e) f w is
    go (place.Value r) e =
        subst (λ z. IsFollowed st (to r.id z)) (append-nil r.path) (followed (to r.id (r.path ++ [])) (ap (λ o. go_from s o []) e) f w is)
    go (place.Promise id) e = promise id (leads_here (place.Promise id) e (ap (λ o. go_from s o []) e)) a fit
    go (place.Map r) e = token wire.map_token r (leads_here (place.Map r) e (ap (λ o. go_from s o []) e))
    go (place.Set r) e = token wire.set_token r (leads_here (place.Set r) e (ap (λ o. go_from s o []) e))
    go (place.Action id) e = action id (reference_of st.rows id) refl (leads_here (place.Action id) e (ap (λ o. go_from s o []) e))
    go (place.Atom c) e = tt
    go (place.Array ns) e = tt
    go (place.Object ps) e = tt
    go (place.Element x y z) e = tt

-- a place that refers to the row of a task
known_task : (st : State) (s : Spot) (at : Place) (id : ℕ) → place_at st.rows s ≡ Some at → turn st.rows (here s []) ≡ on (to id []) → IsFollowed st (to id []) → IsKnown st at
unfolding IsOn
known_task st s at id h refers k = go at h
  where
    stops : (q : Place) → place_at st.rows s ≡ Some q → go_from s (Some q) [] ≡ ends (found s) → ⊥
    stops q e x = absurd (subst IsOn (sym refers ∙ (ap (λ o. go_from s o []) e ∙ x)) tt)

    same : (q : Place) (r : Stand) → place_at st.rows s ≡ Some q → go_from s (Some q) [] ≡ on r → IsFollowed st r
    same q r e x = subst (IsFollowed st) (stand_same (to id []) r (sym refers ∙ (ap (λ o. go_from s o []) e ∙ x))) k

    go : (q : Place) → place_at st.rows s ≡ Some q → IsKnown st q
    go (place.Lazy j) e = same (place.Lazy j) (to j []) e refl
    go (place.Value r) e = subst (λ z. IsFollowed st (to r.id z)) (append-nil r.path) (same (place.Value r) (to r.id (r.path ++ [])) e refl)
    go (place.Promise j) e = absurd (stops (place.Promise j) e refl)
    go (place.Map r) e = absurd (stops (place.Map r) e refl)
    go (place.Set r) e = absurd (stops (place.Set r) e refl)
    go (place.Action j) e = absurd (stops (place.Action j) e refl)
    go (place.Atom c) e = tt
    go (place.Array ns) e = tt
    go (place.Object ps) e = tt
    go (place.Element x y z) e = tt

known_written : (g : Ground) (st : State) → ((u : Task) → In u st.tasks → IsAlone u.what → Spells g st (wire.value_of u.id) (of_job (job_at g u))) → ((k : Key) (id : ℕ) → Paired st.homes k (promise_of id) → IsFollowed st (to id []))
    → (s : Spot) (at : Place) → place_at st.rows s ≡ Some at → (v : Value) → IsWritten g st s v → IsKnown st at
known_written g st serve promised s at h v (as_itself a b none is sure leads fit) = known_itself g st promised s at h a b (λ e. sure (pends st.homes a b fit e)) fit leads
known_written g st serve promised s at h v (as_task u i alone is refers) = known_task st s at u.id h refers (spells_followed g st (wire.value_of u.id) (of_job (job_at g u)) (serve u i alone))
known_written g st serve promised s at h v (as_given j end is by c w) = known_written g st serve promised s at h (value_of g st.settled j end) w

-- ---- streams

-- an id that stands as an open stream has a stream that goes on
not_ended : (ts : List PlaceTree) → after (goes ended) ts ≡ Some streaming → ⊥
not_ended [] e = absurd (subst IsEnded (same_Some ended streaming e) tt)
  where
    IsEnded : Standing → Type 0
    IsEnded ended = Unit {0}
    IsEnded s = ⊥
not_ended (t ∷ ts) e = none-some streaming e

pub flows_on : (id n : ℕ) (ts : List PlaceTree) → after (goes streaming) ts ≡ Some streaming → (flowed id n ts).end ≡ flowing
flows_on id n [] h = refl
flows_on id n (t ∷ ts) h = go t.kind h (flows_on id (suc n) ts)
  where
    go : (k : RowKind) → after (next streaming k) ts ≡ Some streaming → (after (goes streaming) ts ≡ Some streaming → (flowed id (suc n) ts).end ≡ flowing) → (with_row id n k t (flowed id (suc n) ts)).end ≡ flowing
    go row.Model e rest = rest e
    go row.Text e rest = rest e
    go row.Error e rest = absurd (not_ended ts e)
    go row.Close e rest = absurd (not_ended ts e)
    go row.Import e rest = absurd (none-some streaming e)
    go (row.Open flow) e rest = absurd (none-some streaming e)

pub open_flows : (st : State) (id : ℕ) (opener : PlaceTree) (behind : List PlaceTree) (flow : _) → rows_of id st.rows ≡ opener ∷ behind → opener.kind ≡ row.Open flow → standing_of id st.rows ≡ Some streaming → (flowed id 1 behind).end ≡ flowing
open_flows st id opener behind flow rows opens h =
    flows_on id 1 behind (sym (ap (λ k. after (next absent k) behind) opens) ∙ (sym (ap (after (goes absent)) rows) ∙ h))

values-append : (xs ys : List ℕ) → values_of (xs ++ ys) ≡ values_of xs ++ values_of ys
values-append [] ys = refl
values-append (x ∷ xs) ys = ap (λ z. of_job (outcome x) ∷ z) (values-append xs ys)

all_give-append : (g : Ground) (s : List Bool) (xs ys : List ℕ) → AllGive g s xs → AllGive g s ys → AllGive g s (xs ++ ys)
all_give-append g s [] ys a b = b
all_give-append g s (x ∷ xs) ys a b = (a.0, all_give-append g s xs ys a.1 b)

length-snoc : (xs : List ℕ) (y : ℕ) → length (xs ++ y ∷ []) ≡ suc (length xs)
length-snoc [] y = refl
length-snoc (x ∷ xs) y = ap suc (length-snoc xs y)

uncounted : (st : State) (last : Option ℕ) → CountedAt st (address_of (last_job last))
uncounted st None = tt
uncounted st (Some l) = tt

IsItemWhat : What → Type 0
IsItemWhat (what.Item stream index) = Unit {0}
IsItemWhat w = ⊥

index_or : What → ℕ → ℕ
index_or (what.Item stream index) d = index
index_or w d = d

-- the source of a stream's next item
item_next : (stream count : ℕ) (o : Option ℕ) (index : ℕ) → next_by stream count o ≡ what.Item stream index → (source : ℕ) × (o ≡ Some source) × (count ≡ index)
unfolding IsItemWhat index_or
item_next stream count None index e = absurd (subst IsItemWhat (sym e) tt)
item_next stream count (Some source) index e = (source, refl, ap (λ z. index_or z count) e)

last_next : (stream count : ℕ) (o : Option ℕ) → next_by stream count o ≡ what.Last stream → o ≡ None
unfolding IsItemWhat
last_next stream count None e = refl
last_next stream count (Some source) e = absurd (subst IsItemWhat e tt)

none_left : (left : List ℕ) → slice_get left 0 ≡ None → left ≡ []
none_left [] e = refl
none_left (x ∷ left) e = absurd (none-some x (sym e))

some_left : (left : List ℕ) (source : ℕ) → slice_get left 0 ≡ Some source → (rest : List ℕ) × (left ≡ source ∷ rest)
some_left [] source e = absurd (none-some source e)
some_left (x ∷ left) source e = (left, ap (λ z. z ∷ left) (same_Some x source e))

-- the row that is added to a stream that goes on
pub added_row : (id : ℕ) (behind : List PlaceTree) (tree : PlaceTree) → (flowed id 1 behind).end ≡ flowing → flowed id 1 (behind ++ tree ∷ []) ≡ joined (flowed id 1 behind) (flowed id (suc (length behind)) (tree ∷ []))
added_row id behind tree going = let e : 1 + length behind ≡ suc (length behind) = omega arith in flowed-append id 1 behind (tree ∷ []) going ∙ ap (λ k. joined (flowed id 1 behind) (flowed id k (tree ∷ []))) e

item_row : (id n : ℕ) (tree : PlaceTree) → IsItem tree.kind → flowed id n (tree ∷ []) ≡ record { items = at_place (root_of id n) ∷ []; end = flowing }
item_row id n tree is = go tree.kind is
  where
    go : (k : RowKind) → IsItem k → with_row id n k tree (record { items = []; end = flowing }) ≡ record { items = at_place (root_of id n) ∷ []; end = flowing }
    go row.Model x = refl
    go row.Text x = refl
    go row.Error x = absurd x
    go row.Close x = absurd x
    go row.Import x = absurd x
    go (row.Open flow) x = absurd x

-- the value of a stream's row
row_spelled : (g : Ground) (old new : State) (n : ℕ) (meant : Meant) → Given g old new n meant → (s : Spot) (j : Job) (value : Tree) → comes g new.settled j ≡ Some (gave value) → CountedAt new (address_of j) → In (s, shown value) meant → Spells g new (at_place s) (of_job j)
row_spelled g old new n meant w s j value by c i =
    given_first g new (at_place s) (at_place s) (of_job j) j (gave value) refl by c (λ f x. x) (spelled g old new n meant w s (shown value) i)

-- the finished task is for what comes next of its stream
pub is_next : (g : Ground) (st : State) → Fits g st → (t : Task) → In t st.tasks → IsLive t.status → (stream id : ℕ) (x : StreamAt g st stream id) → id ≡ t.id → standing_of id st.rows ≡ Some streaming → t.what ≡ next_what stream x.flows.items (length x.written)
is_next g st f t i live stream id x same open' = go (flowed id 1 x.behind).end (open_flows st id x.opener x.behind x.flows.flow x.rows x.opens open') x.ends
  where
    go : (e : FlowEnd) → e ≡ flowing → EndsAt g st stream id x.flows (length x.written) x.left e → t.what ≡ next_what stream x.flows.items (length x.written)
    go _ is (is_going u k same' live' is_what) =
        ap (λ (z : Task). z.what) (one_of st.tasks f.one_task t u i k (live_owns t live) (live_owns u live') (sym same ∙ sym same')) ∙ is_what
    go _ is (is_closed m z empty h s) = absurd (subst IsOver is tt)
    go _ is (is_broken d h) = absurd (subst IsOver is tt)
    go _ is (is_ended d z k h) = absurd (subst IsOver is tt)

stream_grows : (g : Ground) (old new : State) (n : ℕ) (meant : Meant) (w : Given g old new n meant) (stream id : ℕ) (x : StreamAt g old stream id) → (flowed id 1 x.behind).end ≡ flowing → w.step.task.what ≡ next_what stream x.flows.items (length x.written)
    → (tree : PlaceTree) → rows_of id new.rows ≡ rows_of id old.rows ++ tree ∷ [] → Grown g new w.step.task w.step.end meant stream id (length (rows_of id old.rows)) tree → StreamAt g new stream id
stream_grows g old new n meant w stream id x going next_ tree rows grows = go grows
  where
    mv : Moves g old new
    mv = moves_of g old new n w.step

    lv : Lives g old new
    lv = lives_of g old new n meant w

    behind : List PlaceTree
    behind = x.behind ++ tree ∷ []

    rows_now : rows_of id new.rows ≡ x.opener ∷ behind
    rows_now = rows ∙ ap (λ z. z ++ tree ∷ []) x.rows

    at_end : length (rows_of id old.rows) ≡ suc (length x.behind)
    at_end = ap length x.rows

    now : Flowed
    now = flowed id (suc (length x.behind)) (tree ∷ [])

    flow_now : flowed id 1 behind ≡ joined (flowed id 1 x.behind) now
    flow_now = added_row id x.behind tree going

    at_next : slice_get x.flows.items (length x.written) ≡ slice_get x.left 0
    at_next = ap (λ z. slice_get z (length x.written)) x.split ∙ slice_get-behind x.written x.left

    job : job_at g w.step.task ≡ next_job x.left x.flows.last
    job = ap (job_for g) next_ ∙ next_is g stream x.flows x.written x.left x.is_stream x.split

    by : comes g new.settled (next_job x.left x.flows.last) ≡ Some w.step.end
    by = ap (comes g new.settled) (sym job) ∙ gives_new g old new n meant w

    with_end : (items_same : (flowed id 1 behind).items ≡ (flowed id 1 x.behind).items) → EndsAt g new stream id x.flows (length x.written) x.left (flowed id 1 behind).end → StreamAt g new stream id
    with_end same e = stream_with g old new w.fits mv lv stream id x behind rows_now same e

    go : Grown g new w.step.task w.step.end meant stream id (length (rows_of id old.rows)) tree → StreamAt g new stream id
    go (next_row f index value is_f is_what is_end kind i u) =
        let same_f : f ≡ x.flows = same_Some f x.flows (sym is_f ∙ x.is_stream) in
        let s = item_next stream (length x.written) (slice_get x.flows.items (length x.written)) index (sym next_ ∙ is_what) in
        let l = some_left x.left s.0 (sym at_next ∙ s.1) in
        let gives : comes g new.settled (outcome s.0) ≡ Some (gave value) = sym (ap (λ z. comes g new.settled (next_job z x.flows.last)) l.1) ∙ (by ∙ ap Some is_end) in
        let spot : root_of id (length (rows_of id old.rows)) ≡ root_of id (suc (length x.behind)) = ap (root_of id) at_end in
        let flows_now : flowed id 1 behind ≡ record { items = (flowed id 1 x.behind).items ++ at_place (root_of id (suc (length x.behind))) ∷ []; end = flowing } = flow_now ∙ ap (joined (flowed id 1 x.behind)) (item_row id (suc (length x.behind)) tree kind) in
        let many : length (x.written ++ s.0 ∷ []) ≡ suc index = length-snoc x.written s.0 ∙ ap suc s.2 in
        let task_what : u.task.what ≡ next_what stream x.flows.items (length (x.written ++ s.0 ∷ [])) =
        u.is_next ∙ (ap (λ (z : Flowing). next_what stream z.items (suc index)) same_f ∙ ap (next_what stream x.flows.items) (sym many)) in
        record {
          flows = x.flows;
          is_stream = x.is_stream;
          opener = x.opener;
          behind = behind;
          rows = rows_now;
          opens = x.opens;
          written = x.written ++ s.0 ∷ [];
          left = l.0;
          split = x.split ∙ (ap (λ z. x.written ++ z) l.1 ∙ sym (append_assoc x.written (s.0 ∷ []) l.0));
          gave = all_give-append g new.settled x.written (s.0 ∷ []) (all_give-keeps g old.settled new.settled mv.grows x.written x.gave) ((value, gives), tt);
          items = subst (λ z. AllZip (SpelledBy g new) (values_of (x.written ++ s.0 ∷ [])) z.items) (sym flows_now)
              (subst (λ z. AllZip (SpelledBy g new) z ((flowed id 1 x.behind).items ++ at_place (root_of id (suc (length x.behind))) ∷ [])) (sym (values-append x.written (s.0 ∷ [])))
              (zip-append (SpelledBy g new) (values_of x.written) (of_job (outcome s.0) ∷ []) (flowed id 1 x.behind).items (at_place (root_of id (suc (length x.behind))) ∷ [])
              (zip-map (SpelledBy g old) (SpelledBy g new) (λ e m. spells_on g old new w.fits mv lv m e) (values_of x.written) (flowed id 1 x.behind).items x.items)
              (row_spelled g old new n meant w (root_of id (suc (length x.behind))) (outcome s.0) value gives tt (subst (λ z. In (z, shown value) meant) spot i), tt)));
          ends = subst (λ z. EndsAt g new stream id x.flows (length (x.written ++ s.0 ∷ [])) l.0 z.end) (sym flows_now) (is_going u.task u.is_task u.same_id u.live task_what);
        }
    go (final_row value is_what is_end kind i) =
        let none = none_left x.left (sym at_next ∙ last_next stream (length x.written) (slice_get x.flows.items (length x.written)) (sym next_ ∙ is_what)) in
        let gives : comes g new.settled (last_job x.flows.last) ≡ Some (gave value) = sym (ap (λ z. comes g new.settled (next_job z x.flows.last)) none) ∙ (by ∙ ap Some is_end) in
        let spot : root_of id (length (rows_of id old.rows)) ≡ root_of id (suc (length x.behind)) = ap (root_of id) at_end in
        let flows_now : flowed id 1 behind ≡ record { items = (flowed id 1 x.behind).items ++ []; end = closed_with (at_place (root_of id (suc (length x.behind)))) } =
        flow_now ∙ ap (λ k. joined (flowed id 1 x.behind) (with_row id (suc (length x.behind)) k tree (record { items = []; end = flowing }))) kind in
        with_end (ap (λ (z : Flowed). z.items) flows_now ∙ append-nil (flowed id 1 x.behind).items)
        (subst (λ z. EndsAt g new stream id x.flows (length x.written) x.left z.end) (sym flows_now)
        (is_closed (at_place (root_of id (suc (length x.behind)))) value none gives
        (row_spelled g old new n meant w (root_of id (suc (length x.behind))) (last_job x.flows.last) value gives (uncounted new x.flows.last) (subst (λ z. In (z, shown value) meant) spot i))))
    go (broken_row digest is_end kind is_digest) =
        let flows_now : flowed id 1 behind ≡ record { items = (flowed id 1 x.behind).items ++ []; end = broken_by digest } =
        flow_now ∙ (ap (λ k. joined (flowed id 1 x.behind) (with_row id (suc (length x.behind)) k tree (record { items = []; end = flowing }))) kind
        ∙ ap (λ d. joined (flowed id 1 x.behind) (record { items = []; end = broken_by d })) is_digest) in
        with_end (ap (λ (z : Flowed). z.items) flows_now ∙ append-nil (flowed id 1 x.behind).items)
        (subst (λ z. EndsAt g new stream id x.flows (length x.written) x.left z.end) (sym flows_now) (is_broken digest (by ∙ ap Some is_end)))

-- a stream's home after the step
stream_step : (g : Ground) (old new : State) (n : ℕ) (meant : Meant) (w : Given g old new n meant) (stream id : ℕ) → StreamStep g old new w.step.task w.step.end meant stream id → StreamAt g new stream id
stream_step g old new n meant w stream id (unchanged p ne same) =
    stream_on g old new w.fits (moves_of g old new n w.step) (lives_of g old new n meant w) stream id (w.fits.homes (key.Stream stream) (stream_of id) p) same
    (λ u i e live. ⊎_elim
    (λ q. absurd (ne (sym e ∙ ap (λ (z : Task). z.id) q)))
    (λ k. record { kept = record { task = u; is_task = k; same_id = refl; same_what = refl }; live = live })
    (step_others g old new n w.step u i))
stream_step g old new n meant w stream id (grown p same of tree rows grows) =
    let t = w.step.task in
    let i = at_in old.tasks n t w.step.is_task in
    let live : IsLive t.status = subst IsLive (sym w.step.was) tt in
    let x = w.fits.homes (key.Stream stream) (stream_of id) p in
    let open' : standing_of id old.rows ≡ Some streaming = subst (λ z. standing_of z old.rows ≡ Some streaming) (sym same) (w.fits.open_for t stream i live of).goes_on in
    stream_grows g old new n meant w stream id x (open_flows old id x.opener x.behind x.flows.flow x.rows x.opens open') (is_next g old w.fits t i live stream id x same open') tree rows grows
stream_step g old new n meant w stream id (opened f tree is rows kind u) =
    record {
      flows = f;
      is_stream = is;
      opener = tree;
      behind = [];
      rows = rows;
      opens = kind;
      written = [];
      left = f.items;
      split = refl;
      gave = tt;
      items = tt;
      ends = is_going u.task u.is_task u.same_id u.live u.is_next;
    }

-- ---- the facts of the state

IsRunning : Status → Type 0
IsRunning (status.Running n) = Unit {0}
IsRunning s = ⊥

IsWaiting : Status → Type 0
IsWaiting (status.Waiting n) = Unit {0}
IsWaiting s = ⊥

promised : (g : Ground) (st : State) → ((k : Key) (i : Identity) → IsLasting k → Paired st.homes k i → IsLone i × AtHome g st k i) → ((stream : ℕ) (i : Identity) → Paired st.homes (key.Stream stream) i → HomeAt g st (key.Stream stream) i) → (k : Key) (id : ℕ) → Paired st.homes k (promise_of id) → IsFollowed st (to id [])
promised g st lone streams k id p = go k p
  where
    only : (xs : List Value) → AllZip (SpelledBy g st) xs (wire.value_of id ∷ []) → IsFollowed st (to id [])
    only [] z = absurd z
    only (v ∷ vs) z = spells_followed g st (wire.value_of id) v z.0

    by : (l : Key) → AtHome g st l (promise_of id) → IsFollowed st (to id [])
    by l a = only a.here.slots (subst (λ (z : Shape Written). AllZip (SpelledBy g st) a.here.slots z.slots) a.is_there a.slots)

    go : (l : Key) → Paired st.homes l (promise_of id) → IsFollowed st (to id [])
    go (key.Stream stream) q = absurd (streams stream (promise_of id) q)
    go (key.Made n) q = by (key.Made n) (lone (key.Made n) (promise_of id) tt q).1
    go (key.Source s n) q = by (key.Source s n) (lone (key.Source s n) (promise_of id) tt q).1
    go (key.Settled s) q = by (key.Settled s) (lone (key.Settled s) (promise_of id) tt q).1
    go (key.Action s) q = by (key.Action s) (lone (key.Action s) (promise_of id) tt q).1
    go (key.Client s) q = by (key.Client s) (lone (key.Client s) (promise_of id) tt q).1
    go (key.Symbol s) q = by (key.Symbol s) (lone (key.Symbol s) (promise_of id) tt q).1
    go (key.Server s) q = by (key.Server s) (lone (key.Server s) (promise_of id) tt q).1

lone_home : (g : Ground) (st : State) → Fits g st → (k : Key) (i : Identity) → IsLasting k → Paired st.homes k i → IsLone i × AtHome g st k i
lone_home g st f (key.Stream s) i lasting p = absurd lasting
lone_home g st f (key.Made s) i lasting p = f.homes (key.Made s) i p
lone_home g st f (key.Source s n) i lasting p = f.homes (key.Source s n) i p
lone_home g st f (key.Settled s) i lasting p = f.homes (key.Settled s) i p
lone_home g st f (key.Action s) i lasting p = f.homes (key.Action s) i p
lone_home g st f (key.Client s) i lasting p = f.homes (key.Client s) i p
lone_home g st f (key.Symbol s) i lasting p = f.homes (key.Symbol s) i p
lone_home g st f (key.Server s) i lasting p = f.homes (key.Server s) i p

given_fits : (g : Ground) (old new : State) (n : ℕ) (meant : Meant) → Given g old new n meant → Fits g new
unfolding IsRunning IsWaiting
given_fits g old new n meant w = fits_on g old new w.fits mv lv adds
  where
    mv : Moves g old new
    mv = moves_of g old new n w.step

    lv : Lives g old new
    lv = lives_of g old new n meant w

    same : new.settled ≡ old.settled
    same = settled_is g old new n w.step

    new_home : (k : Key) (i : Identity) → NewHome g new meant k i → IsLone i × AtHome g new k i
    new_home k i h = (
      h.lone,
      record {
        here = h.here;
        there = h.there;
        is_here = h.is_here;
        is_there = h.is_there;
        labels = h.labels;
        slots = zip-map (MeantBy g new meant) (SpelledBy g new) (meant_spelled g old new n meant w) h.here.slots h.there.slots h.slots;
      },
    )

    homes : (k : Key) (i : Identity) → IsLasting k → Paired new.homes k i → Paired old.homes k i ⊎ (IsLone i × AtHome g new k i)
    homes k i lasting p = ⊎_elim (λ x. inl x) (λ x. inr (new_home k i x)) (w.well.new_homes k i lasting p)

    all_homes : (k : Key) (i : Identity) → IsLasting k → Paired new.homes k i → IsLone i × AtHome g new k i
    all_homes k i lasting p = ⊎_elim (λ x. let y = lone_home g old w.fits k i lasting x in (y.0, home_on g old new w.fits mv lv k i lasting y.0 y.1)) (λ x. x) (homes k i lasting p)

    streams : (stream : ℕ) (i : Identity) → Paired new.homes (key.Stream stream) i → HomeAt g new (key.Stream stream) i
    streams stream i p = let x = w.well.streams stream i p in subst (HomeAt g new (key.Stream stream)) (sym x.1) (stream_step g old new n meant w stream x.0 x.2)

    plain_known : (at : Place) → IsPlain at → IsKnown new at
    plain_known (place.Atom a) x = tt
    plain_known (place.Array ns) x = tt
    plain_known (place.Object ps) x = tt
    plain_known (place.Element a b c) x = tt
    plain_known (place.Lazy a) x = absurd x
    plain_known (place.Promise a) x = absurd x
    plain_known (place.Value a) x = absurd x
    plain_known (place.Map a) x = absurd x
    plain_known (place.Set a) x = absurd x
    plain_known (place.Action a) x = absurd x

    known : (at : Place) → IsHeld new.rows at → IsHeld old.rows at ⊎ IsKnown new at
    known at h = ⊎_elim (λ x. inl x)
        (λ x. inr (⊎_elim (plain_known at) (λ y. known_written g new (served g old new n meant w) (promised g new all_homes streams) h.0 at h.1 y.0 (w.well.places h.0 y.0 y.1)) x))
        (w.well.held h.0 at h.1)

    -- a task that is neither done nor born was there
    was : (u : Task) → In u new.tasks → (u.status ≡ status.Done → ⊥) → (u.status ≡ status.Ready → ⊥) → In u old.tasks
    was u i nd nr = ⊎_elim (λ e. absurd (nd (ap (λ (z : Task). z.status) e))) (λ x. ⊎_elim (λ k. k) (λ k. absurd (nr (w.step.are_ready u k))) x) (step_only g old new n w.step u i)

    adds : Adds g old new
    adds =
        record {
          follow_on = w.well.follow_on;
          known = known;
          one_home = w.well.one_home;
          one_key = w.well.one_key;
          homes = homes;
          streams = streams;
          others = w.well.others;
          one_row = w.well.one_row;
          one_row_key = w.well.one_row_key;
          one_task = w.well.one_task;
          tasks = λ u i. ⊎_elim (λ e. inl (w.step.task, at_in old.tasks n w.step.task w.step.is_task, ap (λ (z : Task). z.what) (sym e)))
              (λ x. ⊎_elim (λ k. inl (u, k, refl)) (λ k. inr (w.well.reached u k, w.well.tabled u k)) x) (step_only g old new n w.step u i);
          remembered = λ u turn i e. let k = was u i (λ d. absurd (subst IsRunning (sym e ∙ d) tt)) (λ d. absurd (subst IsRunning (sym e ∙ d) tt)) in
              subst (Grows u.remembered) (sym same) (w.fits.remembered u turn k e);
          waiting = λ u s i e. let k = was u i (λ d. absurd (subst IsWaiting (sym e ∙ d) tt)) (λ d. absurd (subst IsWaiting (sym e ∙ d) tt)) in
              subst (λ z. WaitsFor g z (job_at g u) s) (sym same) (w.fits.waiting u s k e);
          unwritten = w.well.unwritten;
          finished = λ u i d alone. inr (served g old new n meant w u i alone);
          open_for = w.well.open_for;
          counted_once = w.well.counted_once;
          counted = w.well.new_counted;
        }

pub finish_fits : (g : Ground) → IsValidGround g → (old new : State) (n : ℕ) (meant : Meant) → Fits g old → (d : DoneStep g old new n) → EmitsWell g old new d.task d.born d.end meant → Fits g new
finish_fits g valid old new n meant f d w =
    given_fits g old new n meant (record { step = d; fits = f; gives = gives_now g valid old n d.task d.turn d.end f d.is_task d.was d.finds d.finishes; well = w })
