-- Which states are within their fuel, and which answers take rendering over it.
use Rattle.std.proofs.Common.{◌≡◌, ℕ, ◌≤◌, ◌<◌, Bool, inl, inr, ⊎_elim, List, [], ◌∷◌, ◌++◌, map, Option, Some, None, is_some, unwrap_or, refl, sym, ap, ◌∙◌, subst, arith, true, false}
use Rattle.std.proofs.lemmas.Option.{none-some, same_Some}
use Rattle.std.proofs.lemmas.Bool.{false≢true}
use Rattle.flight_value.specs.declared.made.Tree.{Tree}
use Rattle.flight_render.specs.declared.root.Ground.{Ground}
use Rattle.flight_render.specs.declared.job.What.{What}
use Rattle.flight_render.specs.declared.job.What.TheVariants as what
use Rattle.flight_render.specs.Run.{waits, Run, fail, End}
use Rattle.flight_render.specs.Values.{made_in, is_settled}
use Rattle.flight_render.specs.Operators.{type_digest}
use Rattle.flight_render.specs.Body.{fresh}
use Rattle.flight_render.specs.Bodies.{inner, element_of, next_body, body_at, node_at}
use Rattle.flight_render.specs.Jobs.{Job, the_root, element, outcome, known, blank, Value, of_job, stopped, job_of, job_body, Leads, comes}
use Rattle.flight_value.specs.Listed.{In, Distinct}
use Rattle.flight_render.specs.Costs.{Reached, at_root, Rendered, address_of, total_of, IsOver}
use Rattle.flight_render.specs.Attempt.{source_job, item_job, end_job, job_for, run_for, IsTabled}
use Rattle.flight_render.specs.Laws.{Grows, Stays}
use Rattle.flight_render.specs.Valid.{IsValidGround}
use Rattle.flight_render.proofs.Dearer.{body_dearer, over-keeps}
use Rattle.flight_render.proofs.Larger.{body-keeps, root-keeps, body_at-keeps}
use Rattle.flight_syntax.specs.declared.script.Flowing.{Flowing}
use Rattle.flight_render.specs.Plain.{last_job}
use Rattle.std.specs.Prelude.{slice_get, slice_set}
use Rattle.flight_state.specs.Steps.{waiting_for, stopped_at, woken, taken, TakeStep, WaitStep, DoneStep, PingStep}
use Rattle.flight_state.proofs.Emitting.{settled_is, step_only}
use Rattle.flight_state.proofs.Tasks.{grows_at, other_at, woken_waiting}
use Rattle.flight_render.proofs.Falling.{body_with-tables, bodied}
use Rattle.flight_render.proofs.Sums.{one_within, total-within}
use Rattle.flight_render.proofs.There.{tables_belong}
use Rattle.flight_state.specs.declared.status.Status.{Status}
use Rattle.flight_state.specs.declared.status.Status.TheVariants as status
use Rattle.flight_state.specs.State.{State, Task, IsLive, stream_for, job_at, IsAtRest, IsQuiet}
use Rattle.flight_state.specs.Spells.{CountedAt, Spells}
use Rattle.flight_state.specs.Fits.{ReachedBy, Fits, WaitsWithin}
use Rattle.flight_state.proofs.Lists.{in_either, at_in, map_in, set_back}
use Rattle.flight_state.proofs.Flows.{at_rest}
use Rattle.flight_state.proofs.AnyOrder.{not_ended, stuck, passes, Shown, shown, next_same, next_job_same, spent_total}

-- ---- a quiet state within its fuel

-- a live task at rest waits for a source
rest_waits : (s : Status) → IsLive s → IsAtRest s → (source : ℕ) × (s ≡ status.Waiting source)
rest_waits status.Ready l r = absurd r
rest_waits (status.Running n) l r = absurd r
rest_waits (status.Waiting source) l r = (source, refl)
rest_waits status.Done l r = absurd l

-- a job with a body, by its address
addressed : (g : Ground) (s : List Bool) (j : Job) (b : Run Tree) → job_body g s j ≡ Some b → (a : List ℕ) × (address_of j ≡ Some a) × (body_at g s a ≡ Some b)
addressed g s the_root b h = ([], refl, h)
addressed g s (element n) b h = (inner n, refl, h)
addressed g s (outcome i) b h = absurd (none-some b h)
addressed g s (known x) b h = absurd (none-some b h)
addressed g s blank b h = absurd (none-some b h)

-- a counted body costs no more than all
counted_within : (g : Ground) (st : State) → Fits g st → IsQuiet st → st.ended ≡ [] → (j : Job) (b : Run Tree) → job_body g st.settled j ≡ Some b → CountedAt st (address_of j) → b.after.cost ≤ total_of st.counted
counted_within g st f quiet none j b is c =
    let a = addressed g st.settled j b is in
    by a.0 a.2 (subst (CountedAt st) a.1 c)
  where
    by : (a : List ℕ) → body_at g st.settled a ≡ Some b → CountedAt st (Some a) → b.after.cost ≤ total_of st.counted
    by a at c =
        let r = f.counted_only a c.0 c.1 in
        let same : c.0 ≡ b.after.cost = sym r.costs ∙ ap (λ (z : Run Tree). z.after.cost) (same_Some r.here b (sym r.is_body ∙ at)) in
        subst (λ z. z ≤ total_of st.counted) same (one_within g st.settled (total_of st.counted) a c.0 (spent_total g st f quiet none) r)

body_within : (g : Ground) (st : State) (fuel : ℕ) → Fits g st → IsQuiet st → st.ended ≡ [] → total_of st.counted ≤ fuel → WaitsWithin g st fuel → (e : Value) (j : Job) (b : Run Tree) → Reached g st.settled e → job_of g st.settled e ≡ Some j → job_body g st.settled j ≡ Some b → b.after.cost ≤ fuel
body_within g st fuel f quiet none low waiting e j b met is body = go (shown g st f quiet none e met)
  where
    by_count : CountedAt st (address_of j) → b.after.cost ≤ fuel
    by_count c = omega (arith, low, counted_within g st f quiet none j b body c)

    at_task : (s : Shown g st e) (t : Task) → In t st.tasks → IsLive t.status → (last : Value) → job_of g st.settled last ≡ Some (job_at g t) → (ks : List Job) → Leads g st.settled last ks e → b.after.cost ≤ fuel
    at_task s t i live last begins [] l =
        let same : job_at g t ≡ j = same_Some (job_at g t) j (sym begins ∙ (ap (job_of g st.settled) l ∙ is)) in
        let r = rest_waits t.status live (quiet t i) in
        waiting t r.0 i r.1 b (ap (job_body g st.settled) same ∙ body)
    at_task s t i live last begins (k ∷ ks) l =
        let w = at_rest g st f t i live (quiet t i) in
        let same = next_same g st.settled k (job_at g t) l.1.0 (waits w.0) (next_job_same g st.settled last k (job_at g t) l.0 begins) l.1.1 w.1.0 in
        absurd (stuck g st.settled (stopped w.0) ks e j refl (subst (λ z. Leads g st.settled z ks e) same l.1.2) is)

    go : Shown g st e → b.after.cost ≤ fuel
    go s = by s.spelled
      where
        by : Spells g st s.mark s.from → b.after.cost ≤ fuel
        by (inl now) = ⊎_elim by_count (λ w. absurd (stuck g st.settled now.last w.0 e j now.no_job w.1 is)) (passes g st s.from now.jobs s.jobs now.last e j now.leads now.counted s.leads is)
        by (inr (inl l)) = ⊎_elim by_count (λ w. at_task s l.task l.is_task l.live l.last l.begins w.0 w.1) (passes g st s.from l.jobs s.jobs l.last e j l.leads l.counted s.leads is)
        by (inr (inr x)) = absurd (not_ended st (x.task.id, x.error) none x.is_ended)

pub not_over : (g : Ground) (st : State) (fuel : ℕ) → Fits g st → IsQuiet st → st.ended ≡ [] → total_of st.counted ≤ fuel → WaitsWithin g st fuel → IsOver g st.settled fuel → ⊥
not_over g st fuel f quiet none low waiting (inl o) = omega (arith, low, total-within g st.settled (total_of st.counted) fuel (spent_total g st f quiet none) o)
not_over g st fuel f quiet none low waiting (inr o) = omega (arith, o.more, body_within g st fuel f quiet none low waiting o.value o.job o.here o.met o.is_job o.is_body)

-- ---- answers over fuel

-- costs that would take what is spent over the fuel
pub costs_over : (g : Ground) (st : State) (more : List (List ℕ × ℕ)) (fuel : ℕ) → Fits g st → Distinct (map (λ p. p.0) (st.counted ++ more)) → ((address : List ℕ) (cost : ℕ) → In (address, cost) more → Rendered g st.settled address cost) → fuel < total_of (st.counted ++ more) → IsOver g st.settled fuel
costs_over g st more fuel f once each over =
    inl (record { counted = st.counted ++ more; once = once; only = λ a c i. ⊎_elim (λ x. f.counted_only a c x) (λ x. each a c x) (in_either st.counted more (a, c) i); more = over })

-- an attempt that costs more than the fuel
pub attempt_over : (g : Ground) → IsValidGround g → (st : State) (t : Task) (turn fuel : ℕ) → Fits g st → In t st.tasks → t.status ≡ status.Running turn → fuel < (run_for g t.remembered t.what).after.cost → IsOver g st.settled fuel
unfolding body_at
attempt_over g valid st t turn fuel f i running over = go t.what over (f.tabled t i) (f.reached t i)
  where
    grows : Grows t.remembered st.settled
    grows = f.remembered t turn i running

    nothing : fuel < 0 → IsOver g st.settled fuel
    nothing h = absurd (omega (arith, h))

    go : (w : What) → fuel < (run_for g t.remembered w).after.cost → IsTabled g st.settled w → ReachedBy g st.settled (job_for g w) (stream_for w) → IsOver g st.settled fuel
    go what.Root h tabled r = over-keeps g t.remembered st.settled grows fuel (inr (record { value = of_job the_root; met = at_root; job = the_root; is_job = refl; here = _; is_body = refl; more = h }))
    go (what.Promise a) h tabled r = nothing h
    go (what.Known a) h tabled r = nothing h
    go (what.Item a b) h tabled r = nothing h
    go (what.Last a) h tabled r = nothing h
    go (what.Element n tables) h tabled r = by (element_of (node_at g st.settled n)) refl
      where
        same : made_in tables.made n ≡ node_at g st.settled n
        same = (tables_belong g valid st.settled n tables.made tabled.0).1

        by : (o : Option (ℕ × Tree)) → element_of (node_at g st.settled n) ≡ o → IsOver g st.settled fuel
        by None e = absurd (false≢true (ap is_some (sym e) ∙ tabled.1))
        by (Some x) e =
            let run : run_for g t.remembered (what.Element n tables) ≡ unwrap_or (next_body g t.remembered tables.made (inner n) (Some x)) (fail type_digest fresh) =
            ap (λ z. unwrap_or (next_body g t.remembered tables.made (inner n) z) (fail type_digest fresh)) (ap element_of same ∙ e) in
            let here : body_at g st.settled (inner n) ≡ next_body g st.settled tables.made (inner n) (Some x) =
            body_with-tables g st.settled n ∙ (ap (λ z. next_body g st.settled z (inner n) (element_of (node_at g st.settled n))) (sym tabled.0.1) ∙ ap (next_body g st.settled tables.made (inner n)) e) in
            let less = body_dearer g t.remembered st.settled grows tables.made x.0 x.1 (inner n) in
            inr (record { value = r.0; met = r.1; job = element n; is_job = r.2; here = _; is_body = here; more = omega (arith, subst (λ (z : Run Tree). fuel < z.after.cost) run h, less) })

-- ---- the bodies in which tasks wait

WaitsAt : ℕ → Status → Type 0
WaitsAt i (status.Waiting j) = i ≡ j
WaitsAt i s = ⊥

-- a body that waits for what still is not settled is as it was
body_stays : (g : Ground) (few many : List Bool) → Grows few many → (j : Job) (b c : Run Tree) → job_body g few j ≡ Some b → Stays many b.step → job_body g many j ≡ Some c → c ≡ b
body_stays g few many gr the_root b c x w y = same_Some c b (sym y ∙ body_at-keeps g few many gr [] b x w)
body_stays g few many gr (element n) b c x w y = same_Some c b (sym y ∙ body_at-keeps g few many gr (inner n) b x w)
body_stays g few many gr (outcome i) b c x w y = absurd (none-some b x)
body_stays g few many gr (known i) b c x w y = absurd (none-some b x)
body_stays g few many gr blank b c x w y = absurd (none-some b x)

-- a body of a job, before more settled
body_before : (g : Ground) (s : List Bool) (j : Job) (h : End) → comes g s j ≡ Some h → (address : List ℕ) → address_of j ≡ Some address → (b : Run Tree) × (job_body g s j ≡ Some b) × (b.step ≡ h)
unfolding comes
body_before g s the_root h by a e = bodied g s [] h by
body_before g s (element n) h by a e = bodied g s (inner n) h by
body_before g s (outcome i) h by a e = absurd (none-some a e)
body_before g s (known i) h by a e = absurd (none-some a e)
body_before g s blank h by a e = absurd (none-some a e)

-- what an attempt with its own tables runs is the body of its job, where that stays
attempt_body : (g : Ground) → IsValidGround g → (few many : List Bool) → Grows few many → (w : What) → IsTabled g many w → Stays many (run_for g few w).step → (b : Run Tree) → job_body g many (job_for g w) ≡ Some b → b ≡ run_for g few w
unfolding body_at
attempt_body g valid few many gr what.Root tabled stays b h = sym (same_Some _ b h) ∙ root-keeps g few many gr stays
attempt_body g valid few many gr (what.Promise a) tabled stays b h = absurd (none-some b h)
attempt_body g valid few many gr (what.Known a) tabled stays b h = absurd (none-some b h)
attempt_body g valid few many gr (what.Item stream index) tabled stays b h = absurd (item_none g many (slice_get g.script.streams stream) index b h)
  where
    source_none : (g : Ground) (s : List Bool) (o : Option ℕ) (b : Run Tree) → job_body g s (source_job o) ≡ Some b → ⊥
    source_none g s None b h = none-some b h
    source_none g s (Some i) b h = none-some b h

    item_none : (g : Ground) (s : List Bool) (o : Option Flowing) (index : ℕ) (b : Run Tree) → job_body g s (item_job o index) ≡ Some b → ⊥
    item_none g s None index b h = none-some b h
    item_none g s (Some f) index b h = source_none g s (slice_get f.items index) b h
attempt_body g valid few many gr (what.Last stream) tabled stays b h = absurd (end_none g many (slice_get g.script.streams stream) b h)
  where
    last_none : (g : Ground) (s : List Bool) (o : Option ℕ) (b : Run Tree) → job_body g s (last_job o) ≡ Some b → ⊥
    last_none g s None b h = none-some b h
    last_none g s (Some i) b h = none-some b h

    end_none : (g : Ground) (s : List Bool) (o : Option Flowing) (b : Run Tree) → job_body g s (end_job o) ≡ Some b → ⊥
    end_none g s None b h = none-some b h
    end_none g s (Some f) b h = last_none g s f.last b h
attempt_body g valid few many gr (what.Element n tables) tabled stays b h = by (element_of (node_at g many n)) refl
  where
    same : made_in tables.made n ≡ node_at g many n
    same = (tables_belong g valid many n tables.made tabled.0).1

    by : (o : Option (ℕ × Tree)) → element_of (node_at g many n) ≡ o → b ≡ run_for g few (what.Element n tables)
    by None e = absurd (false≢true (ap is_some (sym e) ∙ tabled.1))
    by (Some x) e =
        let run : run_for g few (what.Element n tables) ≡ unwrap_or (next_body g few tables.made (inner n) (Some x)) (fail type_digest fresh) =
        ap (λ z. unwrap_or (next_body g few tables.made (inner n) z) (fail type_digest fresh)) (ap element_of same ∙ e) in
        let here : body_at g many (inner n) ≡ next_body g many tables.made (inner n) (Some x) =
        body_with-tables g many n ∙ (ap (λ z. next_body g many z (inner n) (element_of (node_at g many n))) (sym tabled.0.1) ∙ ap (next_body g many tables.made (inner n)) e) in
        same_Some b _ (sym h ∙ here) ∙ (body-keeps g few many gr tables.made x.0 x.1 (inner n) (subst (λ (z : Run Tree). Stays many z.step) run stays) ∙ sym run)

pub within_wait : (g : Ground) → IsValidGround g → (old new : State) (task source fuel : ℕ) → Fits g old → (w : WaitStep g old new task source) → (run_for g w.task.remembered w.task.what).after.cost ≤ fuel → WaitsWithin g old fuel → WaitsWithin g new fuel
unfolding WaitsAt
within_wait g valid old new task source fuel f w low h =
    subst (λ z. WaitsWithin g z fuel) (sym w.now)
    (λ u s i e b is. ⊎_elim
    (λ q. go (is_settled old.settled source) refl s (sym (ap (λ (z : Task). z.status) q) ∙ e) b (ap (λ (z : Task). job_body g old.settled (job_at g z)) (sym q) ∙ is))
    (λ k. h u s k e b is) (set_back old.tasks task (stopped_at old.settled source w.task) u i))
  where
    i : In w.task old.tasks
    i = at_in old.tasks task w.task w.is_task

    go : (c : Bool) → is_settled old.settled source ≡ c → (s : ℕ) → waiting_for c source ≡ status.Waiting s → (b : Run Tree) → job_body g old.settled (job_at g w.task) ≡ Some b → b.after.cost ≤ fuel
    go true off s e b is = absurd (subst (WaitsAt s) (sym e) refl)
    go false off s e b is =
        let same = attempt_body g valid w.task.remembered old.settled (f.remembered w.task w.turn i w.was) w.task.what (f.tabled w.task i) (subst (Stays old.settled) (sym w.finds) off) b is in
        subst (λ (z : Run Tree). z.after.cost ≤ fuel) (sym same) low

pub within_ping : (g : Ground) (old new : State) (source fuel : ℕ) → Fits g old → PingStep old new source → WaitsWithin g old fuel → WaitsWithin g new fuel
within_ping g old new source fuel f w h =
    subst (λ z. WaitsWithin g z fuel) (sym w.now)
    (λ u s i e b is.
    let x = map_in (woken source) old.tasks u i in
    go x.0 x.1 s (woken_waiting source s x.0.status (ap (λ (z : Task). z.status) (sym x.2) ∙ e)) b (ap (λ (z : Task). job_body g (slice_set old.settled source true) (job_at g z)) (sym x.2) ∙ is))
  where
    go : (t : Task) → In t old.tasks → (s : ℕ) → (t.status ≡ status.Waiting s) × (s ≡ source → ⊥) → (b : Run Tree) → job_body g (slice_set old.settled source true) (job_at g t) ≡ Some b → b.after.cost ≤ fuel
    go t i s e b is =
        let waits = f.waiting t s i e.0 in
        let a = addressed g (slice_set old.settled source true) (job_at g t) b is in
        let c = body_before g old.settled (job_at g t) _ waits.0 a.0 a.1 in
        let off : is_settled (slice_set old.settled source true) s ≡ false = other_at old.settled source s e.1 ∙ waits.1 in
        let same = body_stays g old.settled (slice_set old.settled source true) (grows_at old.settled source) (job_at g t) c.0 b c.1 (subst (Stays (slice_set old.settled source true)) (sym c.2) off) is in
        subst (λ (z : Run Tree). z.after.cost ≤ fuel) (sym same) (h t s i e.0 c.0 c.1)

pub within_take : (g : Ground) (old new : State) (task fuel : ℕ) → TakeStep old new task → WaitsWithin g old fuel → WaitsWithin g new fuel
unfolding WaitsAt
within_take g old new task fuel w h =
    subst (λ z. WaitsWithin g z fuel) (sym w.now)
    (λ u s i e b is. ⊎_elim (λ q. absurd (subst (WaitsAt s) (sym (sym (ap (λ (z : Task). z.status) q) ∙ e)) refl)) (λ k. h u s k e b is) (set_back old.tasks task (taken old.settled w.task) u i))

pub within_done : (g : Ground) (old new : State) (task fuel : ℕ) → DoneStep g old new task → WaitsWithin g old fuel → WaitsWithin g new fuel
unfolding WaitsAt
within_done g old new task fuel w h u s i e b is =
    ⊎_elim (λ q. absurd (subst (WaitsAt s) (sym (sym (ap (λ (z : Task). z.status) q) ∙ e)) refl))
    (λ x. ⊎_elim (λ k. h u s k e b (subst (λ z. job_body g z (job_at g u) ≡ Some b) (settled_is g old new task w) is)) (λ k. absurd (subst (WaitsAt s) (sym (sym (w.are_ready u k) ∙ e)) refl)) x) (step_only g old new task w u i)
