-- The steps that change tasks and settled sources alone keep the facts of a state.
use Rattle.std.proofs.Common.{◌≡◌, ◌≢◌, ℕ, zero, suc, Bool, true, false, cond, ◌||◌, eqb, ◌⊎◌, inl, inr, ⊎_elim, List, [], ◌∷◌, map, Some, refl, sym, ap, ◌∙◌, subst, append-nil}
use Rattle.std.proofs.lemmas.Option.{none-some, same_Some}
use Rattle.std.proofs.lemmas.Bool.{false≢true, eqb-false}
use Rattle.std.specs.Prelude.{slice_get, slice_set}
use Rattle.flight_value.specs.Store.{Paired}
use Rattle.flight_value.specs.declared.key.Key.TheVariants as key
use Rattle.flight_render.specs.declared.root.Ground.{Ground}
use Rattle.flight_render.specs.declared.job.What.{What}
use Rattle.flight_render.specs.Run.{End, waits}
use Rattle.flight_render.specs.Values.{is_settled}
use Rattle.flight_render.specs.Bodies.{Finishes}
use Rattle.flight_render.specs.Jobs.{comes}
use Rattle.flight_value.specs.Listed.{In, Distinct}
use Rattle.flight_render.specs.Attempt.{run_for}
use Rattle.flight_render.specs.Laws.{Grows, Stays}
use Rattle.flight_render.specs.Valid.{IsValidGround}
use Rattle.flight_render.proofs.Attempted.{run_gives}
use Rattle.flight_render.proofs.Larger.{comes-keeps, finishes-stays}
use Rattle.flight_meaning.specs.Linked.{rows_of, standing_of, FollowOn, place_at}
use Rattle.flight_meaning.specs.Meaning.{Identity, stream_of}
use Rattle.flight_state.specs.declared.status.Status.{Status}
use Rattle.flight_state.specs.declared.status.Status.TheVariants as status
use Rattle.flight_state.specs.State.{State, Task, IsLive, is_live, stream_for, is_alone, owns_id, own_ids, job_at}
use Rattle.flight_state.specs.Spells.{HomeAt}
use Rattle.flight_state.specs.Fits.{OpenFor, WaitsFor, Fits}
use Rattle.flight_state.specs.Steps.{with_task, taken, TakeStep, waiting_for, stopped_at, WaitStep, woken_status, woken, PingStep}
use Rattle.flight_state.proofs.Lists.{in_map, map_in, at_in, set_in, set_forth, set_back}
use Rattle.flight_state.proofs.Moves.{Kept, Moves, Lives, NextLives, stream_on, stream_home, Adds, fits_on}

-- ---- live or not

pub live_true : (s : Status) → IsLive s → is_live s ≡ true
live_true status.Ready l = refl
live_true (status.Running n) l = refl
live_true (status.Waiting n) l = refl
live_true status.Done l = absurd l

pub true_live : (s : Status) → is_live s ≡ true → IsLive s
true_live status.Ready l = tt
true_live (status.Running n) l = tt
true_live (status.Waiting n) l = tt
true_live status.Done l = absurd (false≢true l)

pub done_or : (s : Status) → is_live s ≡ false → s ≡ status.Done
done_or status.Ready l = absurd (false≢true (sym l))
done_or (status.Running n) l = absurd (false≢true (sym l))
done_or (status.Waiting n) l = absurd (false≢true (sym l))
done_or status.Done l = refl

-- ---- the ids that tasks own

owned : Bool → ℕ → List ℕ → List ℕ
owned b id ids = cond b (id ∷ ids) ids

pub ids_set : (ts : List Task) (n : ℕ) (t u : Task) → slice_get ts n ≡ Some t → u.id ≡ t.id → owns_id u ≡ owns_id t → own_ids (slice_set ts n u) ≡ own_ids ts
unfolding owned
ids_set [] n t u at id owns = absurd (none-some t at)
ids_set (x ∷ ts) zero t u at id owns =
    let same = same_Some x t at in
    ap (λ z. owned z u.id (own_ids ts)) (owns ∙ ap owns_id (sym same)) ∙ ap (λ z. owned (owns_id x) z (own_ids ts)) (id ∙ ap (λ (z : Task). z.id) (sym same))
ids_set (x ∷ ts) (suc n) t u at id owns = ap (owned (owns_id x) x.id) (ids_set ts n t u at id owns)

ids_map : (f : Task → Task) → ((t : Task) → ((f t).id ≡ t.id) × (owns_id (f t) ≡ owns_id t)) → (ts : List Task) → own_ids (map f ts) ≡ own_ids ts
unfolding owned
ids_map f h [] = refl
ids_map f h (x ∷ ts) =
    ap (λ z. owned z (f x).id (own_ids (map f ts))) (h x).1 ∙ (ap (λ z. owned (owns_id x) z (own_ids (map f ts))) (h x).0 ∙ ap (owned (owns_id x) x.id) (ids_map f h ts))

-- ---- a step that changes tasks and settled sources alone

-- the task, and what it was
pub record Was (st : State) (u : Task) : Type 0 where
  pub task : Task
  pub is_task : In task st.tasks
  pub same_id : u.id ≡ task.id
  pub same_what : u.what ≡ task.what
  pub same_live : is_live u.status ≡ is_live task.status

pub record Retasks (g : Ground) (old new : State) : Type 0 where
  pub grows : Grows old.settled new.settled
  pub rest : new ≡ record old { settled = new.settled; tasks = new.tasks }
  pub forth : (t : Task) → In t old.tasks → (k : Kept new t) × (IsLive t.status → IsLive k.task.status)
  pub back : (u : Task) → In u new.tasks → Was old u
  pub ids : own_ids new.tasks ≡ own_ids old.tasks
  pub remembered : (u : Task) (turn : ℕ) → In u new.tasks → u.status ≡ status.Running turn → Grows u.remembered new.settled
  pub waiting : (u : Task) (source : ℕ) → In u new.tasks → u.status ≡ status.Waiting source → WaitsFor g new.settled (job_at g u) source

pub retasked : (g : Ground) (old new : State) → Fits g old → Retasks g old new → Fits g new
retasked g old new f w = fits_on g old new f moves lives adds
  where
    rows : new.rows ≡ old.rows
    rows = ap (λ (z : State). z.rows) w.rest

    homes : new.homes ≡ old.homes
    homes = ap (λ (z : State). z.homes) w.rest

    others : new.others ≡ old.others
    others = ap (λ (z : State). z.others) w.rest

    counted : new.counted ≡ old.counted
    counted = ap (λ (z : State). z.counted) w.rest

    ended : new.ended ≡ old.ended
    ended = ap (λ (z : State). z.ended) w.rest

    was_live : (u : Task) (x : Was old u) → IsLive u.status → IsLive x.task.status
    was_live u x l = true_live x.task.status (sym x.same_live ∙ live_true u.status l)

    moves : Moves g old new
    moves =
        record {
          grows = w.grows;
          more = [];
          rows = rows ∙ sym (append-nil old.rows);
          homes = λ k i p. subst (λ z. Paired z k i) (sym homes) p;
          counted = λ a c i. subst (In (a, c)) (sym counted) i;
          ended = λ p i. subst (In p) (sym ended) i;
          tasks = λ t i. (w.forth t i).0;
        }

    lives : Lives g old new
    lives t i l alone = let k = w.forth t i in inl (record { kept = k.0; live = k.1 l; no_row = ap (rows_of t.id) rows ∙ f.unwritten t i l alone })

    next_lives : (id : ℕ) → NextLives old new id
    next_lives id t i same l = let k = w.forth t i in record { kept = k.0; live = k.1 l }

    streams : (stream : ℕ) (i : Identity) → Paired new.homes (key.Stream stream) i → HomeAt g new (key.Stream stream) i
    streams stream i p =
        let before = f.homes (key.Stream stream) i (subst (λ z. Paired z (key.Stream stream) i) homes p) in
        let id = stream_home g old stream i before in
        subst (HomeAt g new (key.Stream stream)) (sym id.1)
        (stream_on g old new f moves lives stream id.0 (subst (HomeAt g old (key.Stream stream)) id.1 before) (ap (rows_of id.0) rows) (next_lives id.0))

    adds : Adds g old new
    adds =
        record {
          follow_on = subst FollowOn (sym rows) f.follow_on;
          known = λ at h. inl (h.0, subst (λ z. place_at z h.0 ≡ Some at) rows h.1);
          one_home = λ k i j p q. f.one_home k i j (subst (λ z. Paired z k i) homes p) (subst (λ z. Paired z k j) homes q);
          one_key = λ k l i p q. f.one_key k l i (subst (λ z. Paired z k i) homes p) (subst (λ z. Paired z l i) homes q);
          homes = λ k i lasting p. inl (subst (λ z. Paired z k i) homes p);
          streams = streams;
          others = λ k id i. inl (subst (In (k, id)) others i);
          one_row = λ k a b i j. f.one_row k a b (subst (In (k, a)) others i) (subst (In (k, b)) others j);
          one_row_key = λ k l id i j. f.one_row_key k l id (subst (In (k, id)) others i) (subst (In (l, id)) others j);
          one_task = subst Distinct (sym w.ids) f.one_task;
          tasks = λ u i. let x = w.back u i in inl (x.task, x.is_task, sym x.same_what);
          remembered = w.remembered;
          waiting = w.waiting;
          unwritten = λ u i l alone. let x = w.back u i in
              ap (rows_of u.id) rows ∙ (ap (λ z. rows_of z old.rows) x.same_id ∙ f.unwritten x.task x.is_task (was_live u x l) (sym (ap stream_for x.same_what) ∙ alone));
          finished = λ u i d alone. let x = w.back u i in
              inl (x.task, x.is_task, sym x.same_id, sym x.same_what, done_or x.task.status (sym x.same_live ∙ ap is_live d));
          open_for = λ u stream i l e.
              let x = w.back u i in
              let o = f.open_for x.task stream x.is_task (was_live u x l) (sym (ap stream_for x.same_what) ∙ e) in
              subst (λ z. OpenFor new z stream) (sym x.same_id)
              (record { home = subst (λ z. Paired z (key.Stream stream) (stream_of x.task.id)) (sym homes) o.home; goes_on = ap (standing_of x.task.id) rows ∙ o.goes_on });
          counted_once = subst (λ z. Distinct (map (λ p. p.0) z)) (sym counted) f.counted_once;
          counted = λ a c i. inl (subst (In (a, c)) counted i);
        }

-- ---- one task changes, and stays live

pub record Retold (g : Ground) (old : State) (t u : Task) : Type 0 where
  pub same_id : u.id ≡ t.id
  pub same_what : u.what ≡ t.what
  pub was : IsLive t.status
  pub is : IsLive u.status
  pub remembered : (turn : ℕ) → u.status ≡ status.Running turn → Grows u.remembered old.settled
  pub waiting : (source : ℕ) → u.status ≡ status.Waiting source → WaitsFor g old.settled (job_at g u) source

retold : (g : Ground) (old : State) (n : ℕ) (t u : Task) → Fits g old → slice_get old.tasks n ≡ Some t → Retold g old t u → Fits g (with_task old n u)
retold g old n t u f at w = retasked g old (with_task old n u) f retasks
  where
    is_in : In u (slice_set old.tasks n u)
    is_in = set_in old.tasks n t u at

    same_live : is_live u.status ≡ is_live t.status
    same_live = live_true u.status w.is ∙ sym (live_true t.status w.was)

    forth : (x : Task) → (x ≡ t) ⊎ In x (slice_set old.tasks n u) → (k : Kept (with_task old n u) x) × (IsLive x.status → IsLive k.task.status)
    forth x (inl e) = (record { task = u; is_task = is_in; same_id = w.same_id ∙ ap (λ (z : Task). z.id) (sym e); same_what = w.same_what ∙ ap (λ (z : Task). z.what) (sym e) }, λ l. w.is)
    forth x (inr i) = (record { task = x; is_task = i; same_id = refl; same_what = refl }, λ l. l)

    back : (x : Task) → (x ≡ u) ⊎ In x old.tasks → Was old x
    back x (inl e) =
        record { task = t; is_task = at_in old.tasks n t at; same_id = ap (λ (z : Task). z.id) e ∙ w.same_id; same_what = ap (λ (z : Task). z.what) e ∙ w.same_what; same_live = ap (λ (z : Task). is_live z.status) e ∙ same_live }
    back x (inr i) = record { task = x; is_task = i; same_id = refl; same_what = refl; same_live = refl }

    alone : (w w' : What) → w ≡ w' → (s s' : Status) → is_live s ≡ is_live s' → (is_alone w || is_live s) ≡ (is_alone w' || is_live s')
    alone w w' e s s' l = ap (λ z. is_alone z || is_live s) e ∙ ap (λ z. is_alone w' || z) l

    retasks : Retasks g old (with_task old n u)
    retasks =
        record {
          grows = λ s h. h;
          rest = refl;
          forth = λ x i. forth x (set_forth old.tasks n t u x at i);
          back = λ x i. back x (set_back old.tasks n u x i);
          ids = ids_set old.tasks n t u at w.same_id (alone u.what t.what w.same_what u.status t.status same_live);
          remembered = λ x turn i e. ⊎_elim (λ q. subst (λ (z : Task). Grows z.remembered old.settled) (sym q) (w.remembered turn (ap (λ (z : Task). z.status) (sym q) ∙ e))) (λ k. f.remembered x turn k e) (set_back old.tasks n u x i);
          waiting = λ x s i e. ⊎_elim (λ q. subst (λ z. WaitsFor g old.settled (job_at g z) s) (sym q) (w.waiting s (ap (λ (z : Task). z.status) (sym q) ∙ e))) (λ k. f.waiting x s k e) (set_back old.tasks n u x i);
        }

IsRunning : Status → Type 0
IsRunning (status.Running n) = Unit {0}
IsRunning s = ⊥

WaitsAt : ℕ → Status → Type 0
WaitsAt i (status.Waiting j) = i ≡ j
WaitsAt i s = ⊥

pub take_fits : (g : Ground) (old new : State) (n : ℕ) → Fits g old → TakeStep old new n → Fits g new
unfolding WaitsAt
take_fits g old new n f w =
    subst (Fits g) (sym w.now)
    (retold g old n w.task (taken old.settled w.task) f w.is_task
    (record {
      same_id = refl;
      same_what = refl;
      was = subst IsLive (sym w.was) tt;
      is = tt;
      remembered = λ turn e s h. h;
      waiting = λ s e. absurd (subst (WaitsAt s) (sym e) refl);
    }))

-- what a task's attempt finds under the sources that it remembers, its job comes to under all that are settled
pub finds_now : (g : Ground) → IsValidGround g → (st : State) (n : ℕ) (t : Task) (turn : ℕ) → Fits g st → slice_get st.tasks n ≡ Some t → t.status ≡ status.Running turn → Stays st.settled (run_for g t.remembered t.what).step → comes g st.settled (job_at g t) ≡ Some (run_for g t.remembered t.what).step
finds_now g valid st n t turn f at is stays =
    let i = at_in st.tasks n t at in
    run_gives g valid t.remembered st.settled (f.remembered t turn i is) t.what (f.tabled t i) stays

pub gives_now : (g : Ground) → IsValidGround g → (st : State) (n : ℕ) (t : Task) (turn : ℕ) (end : End) → Fits g st → slice_get st.tasks n ≡ Some t → t.status ≡ status.Running turn → (run_for g t.remembered t.what).step ≡ end → Finishes end → comes g st.settled (job_at g t) ≡ Some end
gives_now g valid st n t turn end f at is finds ends =
    finds_now g valid st n t turn f at is (subst (Stays st.settled) (sym finds) (finishes-stays st.settled end ends)) ∙ ap Some finds

pub wait_fits : (g : Ground) → IsValidGround g → (old new : State) (n source : ℕ) → Fits g old → WaitStep g old new n source → Fits g new
unfolding WaitsAt IsRunning
wait_fits g valid old new n source f w =
    subst (Fits g) (sym w.now)
    (retold g old n w.task (stopped_at old.settled source w.task) f w.is_task
    (record {
      same_id = refl;
      same_what = refl;
      was = subst IsLive (sym w.was) tt;
      is = live (is_settled old.settled source);
      remembered = λ turn e. absurd (runs (is_settled old.settled source) turn e);
      waiting = λ s e. waiting (is_settled old.settled source) refl s e;
    }))
  where
    live : (b : Bool) → IsLive (waiting_for b source)
    live true = tt
    live false = tt

    runs : (b : Bool) (turn : ℕ) → waiting_for b source ≡ status.Running turn → ⊥
    runs true turn e = subst IsRunning (sym e) tt
    runs false turn e = subst IsRunning (sym e) tt

    waiting : (b : Bool) → is_settled old.settled source ≡ b → (s : ℕ) → waiting_for b source ≡ status.Waiting s → WaitsFor g old.settled (job_at g w.task) s
    waiting true off s e = absurd (subst (WaitsAt s) (sym e) refl)
    waiting false off s e =
        let same : s ≡ source = subst (WaitsAt s) (sym e) refl in
        let stays : Stays old.settled (run_for g w.task.remembered w.task.what).step = subst (Stays old.settled) (sym w.finds) off in
        subst (WaitsFor g old.settled (job_at g w.task)) (sym same) (finds_now g valid old n w.task w.turn f w.is_task w.was stays ∙ ap Some w.finds, off)

-- ---- a source settles

pub grows_at : (bs : List Bool) (s : ℕ) → Grows bs (slice_set bs s true)
grows_at [] s i h = h
grows_at (b ∷ bs) zero zero h = refl
grows_at (b ∷ bs) zero (suc i) h = h
grows_at (b ∷ bs) (suc s) zero h = h
grows_at (b ∷ bs) (suc s) (suc i) h = grows_at bs s i h

pub other_at : (bs : List Bool) (s i : ℕ) → i ≢ s → is_settled (slice_set bs s true) i ≡ is_settled bs i
other_at [] s i ne = refl
other_at (b ∷ bs) zero zero ne = absurd (ne refl)
other_at (b ∷ bs) zero (suc i) ne = refl
other_at (b ∷ bs) (suc s) zero ne = refl
other_at (b ∷ bs) (suc s) (suc i) ne = other_at bs s i (λ e. ne (ap suc e))

woken_live : (source : ℕ) (s : Status) → is_live (woken_status source s) ≡ is_live s
woken_live source status.Ready = refl
woken_live source (status.Running n) = refl
woken_live source status.Done = refl
woken_live source (status.Waiting n) = go (eqb n source)
  where
    go : (b : Bool) → is_live (cond b status.Ready (status.Waiting n)) ≡ true
    go true = refl
    go false = refl

woken_running : (source n : ℕ) (s : Status) → woken_status source s ≡ status.Running n → s ≡ status.Running n
unfolding IsRunning
woken_running source n status.Ready e = e
woken_running source n (status.Running m) e = e
woken_running source n status.Done e = e
woken_running source n (status.Waiting m) e = absurd (go (eqb m source) e)
  where
    go : (b : Bool) → cond b status.Ready (status.Waiting m) ≡ status.Running n → ⊥
    go true q = subst IsRunning (sym q) tt
    go false q = subst IsRunning (sym q) tt

pub woken_waiting : (source i : ℕ) (s : Status) → woken_status source s ≡ status.Waiting i → (s ≡ status.Waiting i) × (i ≢ source)
unfolding WaitsAt
woken_waiting source i status.Ready e = absurd (subst (WaitsAt i) (sym e) refl)
woken_waiting source i (status.Running n) e = absurd (subst (WaitsAt i) (sym e) refl)
woken_waiting source i status.Done e = absurd (subst (WaitsAt i) (sym e) refl)
woken_waiting source i (status.Waiting j) e = go (eqb j source) refl e
  where
    go : (b : Bool) → eqb j source ≡ b → cond b status.Ready (status.Waiting j) ≡ status.Waiting i → (status.Waiting j ≡ status.Waiting i) × (i ≢ source)
    go true q x = absurd (subst (WaitsAt i) (sym x) refl)
    go false q x = let same : i ≡ j = subst (WaitsAt i) (sym x) refl in (x, λ r. eqb-false j source q (sym same ∙ r))

pub ping_fits : (g : Ground) (old new : State) (source : ℕ) → Fits g old → PingStep old new source → Fits g new
ping_fits g old new source f w = subst (Fits g) (sym w.now) (retasked g old now f retasks)
  where
    now : State
    now = record old { settled = slice_set old.settled source true; tasks = map (woken source) old.tasks }

    grows : Grows old.settled (slice_set old.settled source true)
    grows = grows_at old.settled source

    same_live : (t : Task) → is_live (woken_status source t.status) ≡ is_live t.status
    same_live t = woken_live source t.status

    waits_on : (t : Task) (i : ℕ) → In t old.tasks → (t.status ≡ status.Waiting i) × (i ≢ source) → WaitsFor g (slice_set old.settled source true) (job_at g t) i
    waits_on t i k x =
        let before = f.waiting t i k x.0 in
        let off : is_settled (slice_set old.settled source true) i ≡ false = other_at old.settled source i x.1 ∙ before.1 in
        (comes-keeps g old.settled (slice_set old.settled source true) grows (job_at g t) (waits i) before.0 off, off)

    retasks : Retasks g old now
    retasks =
        record {
          grows = grows;
          rest = refl;
          forth = λ t i. (record { task = woken source t; is_task = in_map (woken source) old.tasks t i; same_id = refl; same_what = refl }, λ l. true_live (woken_status source t.status) (same_live t ∙ live_true t.status l));
          back = λ u i. let x = map_in (woken source) old.tasks u i in
              record { task = x.0; is_task = x.1; same_id = ap (λ (z : Task). z.id) x.2; same_what = ap (λ (z : Task). z.what) x.2; same_live = ap (λ (z : Task). is_live z.status) x.2 ∙ same_live x.0 };
          ids = ids_map (woken source) (λ t. (refl, ap (λ z. is_alone t.what || z) (same_live t))) old.tasks;
          remembered = λ u turn i e. let x = map_in (woken source) old.tasks u i in
              λ k h. grows k (f.remembered x.0 turn x.1 (woken_running source turn x.0.status (ap (λ (z : Task). z.status) (sym x.2) ∙ e)) k (subst (λ (z : Task). is_settled z.remembered k ≡ true) x.2 h));
          waiting = λ u i k e. let x = map_in (woken source) old.tasks u k in
              subst (λ z. WaitsFor g (slice_set old.settled source true) (job_at g z) i) (sym x.2)
              (waits_on x.0 i x.1 (woken_waiting source i x.0.status (ap (λ (z : Task). z.status) (sym x.2) ∙ e)));
        }

-- ---- where no task is live, more sources settle

abbrev pub with_settled : State → List Bool → State
with_settled st settled = record st { settled = settled }

pub more_settled : (g : Ground) (st : State) (settled : List Bool) → Fits g st → ((t : Task) → In t st.tasks → t.status ≡ status.Done) → Grows st.settled settled → Fits g (with_settled st settled)
unfolding IsRunning WaitsAt
more_settled g st settled f closed grows =
    retasked g st (with_settled st settled) f
    (record {
      grows = grows;
      rest = refl;
      forth = λ t i. (record { task = t; is_task = i; same_id = refl; same_what = refl }, λ l. l);
      back = λ t i. record { task = t; is_task = i; same_id = refl; same_what = refl; same_live = refl };
      ids = refl;
      remembered = λ t turn i e. absurd (subst IsRunning (sym e ∙ closed t i) tt);
      waiting = λ t s i e. absurd (subst (WaitsAt s) (sym e ∙ closed t i) refl);
    })
