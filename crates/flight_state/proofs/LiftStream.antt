-- The step of a stream's task, from what its writer and the request do.
use Rattle.std.proofs.Common.{◌≡◌, ℕ, zero, suc, ◌≤◌, Bool, true, false, cond, ◌||◌, eqb, eqb-true, eq-eqb, ◌⊎◌, inl, inr, ⊎_elim, List, [], ◌∷◌, ◌++◌, map, length, Option, Some, None, option_map, option_and_then, refl, sym, ap, ◌∙◌, subst, arith}
use Rattle.std.proofs.lemmas.Option.{none-some, same_Some}
use Rattle.std.proofs.lemmas.Bool.{eqb-false}
use Rattle.std.specs.Prelude.{slice_get, slice_set}
use Rattle.flight_value.specs.Store.{Paired, node_at}
use Rattle.flight_value.specs.declared.key.Key.{Key}
use Rattle.flight_value.specs.declared.key.Key.TheVariants as key
use Rattle.flight_value.specs.declared.made.Tree.{Tree}
use Rattle.flight_row.specs.declared.row.RowKind.{RowKind}
use Rattle.flight_row.specs.declared.row.RowKind.TheVariants as row
use Rattle.flight_render.specs.declared.root.Ground.{Ground}
use Rattle.flight_render.specs.declared.job.What.{What}
use Rattle.flight_render.specs.declared.job.What.TheVariants as what
use Rattle.flight_render.specs.Run.{gave}
use Rattle.flight_render.specs.Jobs.{outcome, Value, of_job, shown, comes, IsTarget}
use Rattle.flight_render.specs.Plain.{last_job, next_job, flow, flow_last, flow_item, flow_slots, final_slots, flow_shape}
use Rattle.flight_value.specs.Listed.{In, Distinct}
use Rattle.flight_render.specs.Costs.{Reached, through, in_slot}
use Rattle.flight_render.specs.Attempt.{job_for, IsTabled}
use Rattle.flight_render.specs.Valid.{IsValidGround}
use Rattle.flight_meaning.specs.declared.place.Place.{Place}
use Rattle.flight_meaning.specs.declared.place.PlaceTree.{PlaceTree}
use Rattle.flight_meaning.specs.declared.place.PlacedRow.{PlacedRow}
use Rattle.flight_meaning.specs.Linked.{rows_of, Standing, absent, streaming, ended, goes, next, after, Spot, place_at}
use Rattle.flight_meaning.specs.Meaning.{stream_of}
use Rattle.flight_meaning.specs.Good.{IsHeld}
use Rattle.flight_meaning.proofs.MoreRows.{rows_of-same, rows_of-other, after-append}
use Rattle.flight_state.specs.State.{State, Task, IsLive, own_ids, owns_id, job_at, stream_for, is_alone, next_by, next_what}
use Rattle.flight_state.specs.Spells.{StreamAt, values_of}
use Rattle.flight_state.specs.Fits.{ReachedBy, ReachedFor, OpenFor, Fits}
use Rattle.flight_state.specs.Steps.{close, DoneStep}
use Rattle.flight_state.specs.Emits.{IsWritten, IsPlain, IsItem, Grown, next_row, final_row, broken_row, StreamStep, grown, EmitsWell}
use Rattle.flight_state.specs.Local.{Homes, value_seen, Tied, Below, RowHere, an_item, its_final, its_failure, follower_of, row_of, StreamsOn, all_meant}
use Rattle.flight_state.proofs.Lists.{in_front, in_behind, in_either, in_map, map_in, at_in}
use Rattle.flight_state.proofs.Flows.{flow-split, next_is, slice_get-behind}
use Rattle.flight_state.proofs.Owned.{Owns, id_in, live_owns, distinct_rest}
use Rattle.flight_state.proofs.Tasks.{gives_now}
use Rattle.flight_state.proofs.Emitting.{settled_is, finish_fits, is_next}
use Rattle.flight_state.proofs.Alike.{Apart}
use Rattle.flight_state.proofs.Lift.{Lifting, some_rows, fresh_none, old_only, as_base, old_home, born_new, born_live}
use Rattle.flight_state.proofs.Written.{written}
use Rattle.flight_state.proofs.Lifted.{follows_at, one_task_by, not_born, streaming_rows, Rest, emits_by, tied_new, below_new}

-- ---- what a stream gives next is reached

next_slot : (g : Ground) (s : List Bool) (left : List ℕ) (last : Option ℕ) (t : Tree) → comes g s (next_job left last) ≡ Some (gave t) → In (of_job (next_job left last)) (flow_slots (flow g s left last))
next_slot g s [] last t h = subst (λ z. In (of_job (last_job last)) (flow_slots z)) (sym (ap (flow_last (last_job last)) h)) (inl refl)
next_slot g s (i ∷ left) last t h = subst (λ z. In (of_job (outcome i)) (flow_slots z)) (sym (ap (λ z. flow_item (outcome i) z (flow g s left last)) h)) (inl refl)

next_reached : (g : Ground) (st : State) → Fits g st → (t : Task) → In t st.tasks → IsLive t.status → (stream : ℕ) → stream_for t.what ≡ Some stream → (x : StreamAt g st stream t.id) → t.what ≡ next_what stream x.flows.items (length x.written) → (value : Tree) → comes g st.settled (job_at g t) ≡ Some (gave value) → Reached g st.settled (shown value)
next_reached g st f t i live stream of x is value by = go (stream_for t.what) of (f.reached t i)
  where
    job : job_at g t ≡ next_job x.left x.flows.last
    job = ap (job_for g) is ∙ next_is g stream x.flows x.written x.left x.is_stream x.split

    gives : comes g st.settled (next_job x.left x.flows.last) ≡ Some (gave value)
    gives = ap (comes g st.settled) (sym job) ∙ by

    among : In (of_job (next_job x.left x.flows.last)) (flow_shape g st.settled x.flows).slots
    among =
        subst (λ z. In (of_job (next_job x.left x.flows.last)) (flow_slots z)) (sym (ap (λ z. flow g st.settled z x.flows.last) x.split ∙ flow-split g st.settled x.written x.left x.flows.last x.gave))
        (⊎_elim
        (λ k. in_front (values_of x.written ++ (flow g st.settled x.left x.flows.last).items) (final_slots (flow g st.settled x.left x.flows.last).end) _ (in_behind (values_of x.written) (flow g st.settled x.left x.flows.last).items _ k))
        (λ k. in_behind (values_of x.written ++ (flow g st.settled x.left x.flows.last).items) (final_slots (flow g st.settled x.left x.flows.last).end) _ k)
        (in_either (flow g st.settled x.left x.flows.last).items (final_slots (flow g st.settled x.left x.flows.last).end) _ (next_slot g st.settled x.left x.flows.last value gives)))

    go : (o : Option ℕ) → o ≡ Some stream → ReachedBy g st.settled (job_at g t) o → Reached g st.settled (shown value)
    go None e r = absurd (none-some stream e)
    go (Some n) e r =
        let target = subst (λ z. IsTarget g st.settled r.0 (node_at (key.Stream z))) (same_Some n stream e) r.3 in
        through (in_slot r.1 r.2 target (ap (option_map (flow_shape g st.settled)) x.is_stream) among) refl gives

-- ---- where a task that does not own its id stands, its id is owned no more

drop_in : (ts : List Task) (n : ℕ) (t u : Task) → Distinct (own_ids ts) → slice_get ts n ≡ Some t → Owns t → owns_id u ≡ false → (x : ℕ) → In x (own_ids (slice_set ts n u)) → In x (own_ids ts) × (x ≡ t.id → ⊥)
drop_in [] n t u d at owns off x i = absurd i
drop_in (y ∷ ts) zero t u d at owns off x i =
    let is : y ≡ t = same_Some y t at in
    let k : In x (own_ids ts) = subst (λ b. In x (cond b (u.id ∷ own_ids ts) (own_ids ts))) off i in
    let on : owns_id y ≡ true = ap owns_id is ∙ owns in
    let d' : Distinct (y.id ∷ own_ids ts) = subst (λ b. Distinct (cond b (y.id ∷ own_ids ts) (own_ids ts))) on d in
    (subst (λ b. In x (cond b (y.id ∷ own_ids ts) (own_ids ts))) (sym on) (inr k), λ e. d'.0 (subst (λ z. In z (own_ids ts)) (e ∙ sym (ap (λ (z : Task). z.id) is)) k))
drop_in (y ∷ ts) (suc n) t u d at owns off x i = go (owns_id y) refl d i (drop_in ts n t u (distinct_rest y ts d) at owns off x)
  where
    go : (b : Bool) → owns_id y ≡ b → Distinct (cond b (y.id ∷ own_ids ts) (own_ids ts)) → In x (cond b (y.id ∷ own_ids (slice_set ts n u)) (own_ids (slice_set ts n u))) → (In x (own_ids (slice_set ts n u)) → In x (own_ids ts) × (x ≡ t.id → ⊥))
        → In x (cond b (y.id ∷ own_ids ts) (own_ids ts)) × (x ≡ t.id → ⊥)
    go true e d' (inl q) rest = (inl q, λ s. d'.0 (subst (λ z. In z (own_ids ts)) (sym s ∙ q) (id_in ts t (at_in ts n t at) owns)))
    go true e d' (inr k) rest = let y = rest k in (inr y.0, y.1)
    go false e d' k rest = rest k

drop_distinct : (ts : List Task) (n : ℕ) (t u : Task) → Distinct (own_ids ts) → slice_get ts n ≡ Some t → Owns t → owns_id u ≡ false → Distinct (own_ids (slice_set ts n u))
drop_distinct [] n t u d at owns off = tt
drop_distinct (y ∷ ts) zero t u d at owns off = subst (λ b. Distinct (cond b (u.id ∷ own_ids ts) (own_ids ts))) (sym off) (distinct_rest y ts d)
drop_distinct (y ∷ ts) (suc n) t u d at owns off = go (owns_id y) d (drop_distinct ts n t u (distinct_rest y ts d) at owns off)
  where
    go : (b : Bool) → Distinct (cond b (y.id ∷ own_ids ts) (own_ids ts)) → Distinct (own_ids (slice_set ts n u)) → Distinct (cond b (y.id ∷ own_ids (slice_set ts n u)) (own_ids (slice_set ts n u)))
    go true d' rest = ((λ i. d'.0 (drop_in ts n t u (distinct_rest y ts d) at owns off y.id i).0), rest)
    go false d' rest = rest

stream_not_alone : (v : What) (n : ℕ) → stream_for v ≡ Some n → is_alone v ≡ false
stream_not_alone what.Root n e = absurd (none-some n e)
stream_not_alone (what.Element a b) n e = absurd (none-some n e)
stream_not_alone (what.Promise a) n e = absurd (none-some n e)
stream_not_alone (what.Known a) n e = absurd (none-some n e)
stream_not_alone (what.Item a b) n e = refl
stream_not_alone (what.Last a) n e = refl

next_stream : (stream count : ℕ) (o : Option ℕ) → stream_for (next_by stream count o) ≡ Some stream
next_stream stream count None = refl
next_stream stream count (Some i) = refl

next_tabled : (g : Ground) (s : List Bool) (stream count : ℕ) (o : Option ℕ) → IsTabled g s (next_by stream count o)
next_tabled g s stream count None = tt
next_tabled g s stream count (Some i) = tt

-- ---- one row behind rows

get_last : {A : Type 0} (xs : List A) (y : A) (n : ℕ) (z : A) → slice_get (xs ++ y ∷ []) n ≡ Some z → (slice_get xs n ≡ Some z) ⊎ ((n ≡ length xs) × (y ≡ z))
get_last [] y zero z h = inr (refl, same_Some y z h)
get_last [] y (suc n) z h = absurd (none-some z h)
get_last (x ∷ xs) y zero z h = inl h
get_last (x ∷ xs) y (suc n) z h = ⊎_elim (λ a. inl a) (λ a. inr (ap suc a.0, a.1)) (get_last xs y n z h)

key_or : Key → ℕ → ℕ
key_or (key.Stream n) d = n
key_or k d = d

same_stream : (m n : ℕ) → key.Stream m ≡ key.Stream n → m ≡ n
unfolding key_or
same_stream m n e = ap (λ z. key_or z m) e

eqb-off : (a b : ℕ) → (b ≡ a → ⊥) → eqb a b ≡ false
eqb-off a b h = go (eqb a b) refl
  where
    go : (c : Bool) → eqb a b ≡ c → c ≡ false
    go true e = absurd (h (sym (eqb-true a b e)))
    go false e = refl

eqb-on : (a : ℕ) → eqb a a ≡ true
eqb-on a = eq-eqb a a refl

-- ---- the step

record Streaming (g : Ground) (old new : State) (number start next : ℕ) (before behind : Homes) : Type 0 where
  valid : IsValidGround g
  fits : Fits g old
  tied : Tied g old before
  low : Below old start
  on : StreamsOn g old new number start next before behind

gives : (g : Ground) (old new : State) (number start next : ℕ) (before behind : Homes) (w : Streaming g old new number start next before behind) → comes g old.settled (job_at g w.on.step.task) ≡ Some w.on.step.end
gives g old new number start next before behind w =
    let d = w.on.step in gives_now g w.valid old number d.task d.turn d.end w.fits d.is_task d.was d.finds d.finishes

task_in : (g : Ground) (old new : State) (number start next : ℕ) (before behind : Homes) (w : Streaming g old new number start next before behind) → In w.on.step.task old.tasks
task_in g old new number start next before behind w = at_in old.tasks number w.on.step.task w.on.step.is_task

task_live : (g : Ground) (old new : State) (number start next : ℕ) (before behind : Homes) (w : Streaming g old new number start next before behind) → IsLive w.on.step.task.status
task_live g old new number start next before behind w = subst IsLive (sym w.on.step.was) tt

opened : (g : Ground) (old new : State) (number start next : ℕ) (before behind : Homes) (w : Streaming g old new number start next before behind) → OpenFor old w.on.step.task.id w.on.stream
opened g old new number start next before behind w =
    w.fits.open_for w.on.step.task w.on.stream (task_in g old new number start next before behind w) (task_live g old new number start next before behind w) w.on.of_stream

stream_at : (g : Ground) (old new : State) (number start next : ℕ) (before behind : Homes) (w : Streaming g old new number start next before behind) → StreamAt g old w.on.stream w.on.step.task.id
stream_at g old new number start next before behind w = w.fits.homes (key.Stream w.on.stream) (stream_of w.on.step.task.id) (opened g old new number start next before behind w).home

task_next : (g : Ground) (old new : State) (number start next : ℕ) (before behind : Homes) (w : Streaming g old new number start next before behind) → (x : StreamAt g old w.on.stream w.on.step.task.id) → w.on.step.task.what ≡ next_what w.on.stream x.flows.items (length x.written)
task_next g old new number start next before behind w x =
    is_next g old w.fits w.on.step.task (task_in g old new number start next before behind w) (task_live g old new number start next before behind w) w.on.stream w.on.step.task.id x refl (opened g old new number start next before behind w).goes_on

abbrev base_of : (g : Ground) (old new : State) (number start next : ℕ) (before behind : Homes) → StreamsOn g old new number start next before behind → List PlacedRow
base_of g old new number start next before behind w = old.rows ++ row_of w.step.task.id w.tree ∷ []

other_base : (g : Ground) (old new : State) (number start next : ℕ) (before behind : Homes) (w : StreamsOn g old new number start next before behind) (n : ℕ) → (n ≡ w.step.task.id → ⊥) → rows_of n (base_of g old new number start next before behind w) ≡ rows_of n old.rows
other_base g old new number start next before behind w n h = rows_of-other n old.rows (row_of w.step.task.id w.tree) (eqb-off w.step.task.id n h)

own_base : (g : Ground) (old new : State) (number start next : ℕ) (before behind : Homes) (w : StreamsOn g old new number start next before behind) → rows_of w.step.task.id (base_of g old new number start next before behind w) ≡ rows_of w.step.task.id old.rows ++ w.tree ∷ []
own_base g old new number start next before behind w = rows_of-same w.step.task.id old.rows (row_of w.step.task.id w.tree) (eqb-on w.step.task.id)

apart : (g : Ground) (old new : State) (number start next : ℕ) (before behind : Homes) (w : Streaming g old new number start next before behind) → Apart (base_of g old new number start next before behind w.on) w.on.rows
apart g old new number start next before behind w n = go (rows_of n w.on.rows) refl
  where
    fresh : start ≤ n → rows_of n (base_of g old new number start next before behind w.on) ≡ []
    fresh h =
        other_base g old new number start next before behind w.on n (λ e. absurd (omega (arith, h, e, w.low.tasks w.on.step.task (task_in g old new number start next before behind w))))
        ∙ fresh_none old start w.low n h

    go : (ts : List PlaceTree) → rows_of n w.on.rows ≡ ts → (rows_of n (base_of g old new number start next before behind w.on) ≡ []) ⊎ (rows_of n w.on.rows ≡ [])
    go [] e = inr e
    go (t ∷ ts) e = inl (⊎_elim (λ q. absurd q) (λ f. fresh f.0) (w.on.local.adds.row_fresh n (λ q. some_rows t ts (sym e ∙ q))))

first_reached : (g : Ground) (old new : State) (number start next : ℕ) (before behind : Homes) (w : Streaming g old new number start next before behind) (id : ℕ) (v : What) → In (id, v) w.on.births
    → Reached g new.settled (value_seen g w.on.seen (job_at g w.on.step.task) w.on.step.end)
first_reached g old new number start next before behind w id v i =
    subst (λ z. Reached g z (value_seen g w.on.seen (job_at g d.task) d.end)) (sym (settled_is g old new number d)) (go w.on.follower w.on.local.is_row)
  where
    d : DoneStep g old new number
    d = w.on.step

    reached : (value : Tree) → d.end ≡ gave value → Reached g old.settled (value_seen g w.on.seen (job_at g d.task) d.end)
    reached value e =
        let x = stream_at g old new number start next before behind w in
        subst (λ z. Reached g old.settled (value_seen g w.on.seen (job_at g d.task) z)) (sym e)
        (next_reached g old w.fits d.task (task_in g old new number start next before behind w) (task_live g old new number start next before behind w) w.on.stream w.on.of_stream x (task_next g old new number start next before behind w x) value
        (gives g old new number start next before behind w ∙ ap Some e))

    go : (o : Option What) → RowHere g d.end d.task.what w.on.tree w.on.there w.on.births o → Reached g old.settled (value_seen g w.on.seen (job_at g d.task) d.end)
    go _ (an_item f stream index value is_f is_what is_end kind k) = reached value is_end
    go _ (its_final stream value is_what is_end kind k) = reached value is_end
    go _ (its_failure digest is_end kind is_digest none) = absurd (subst (In (id, v)) none i)

follower_is : (id : ℕ) (o : Option What) (u : ℕ) (v : What) → In (u, v) (follower_of id o) → (u ≡ id) × (o ≡ Some v)
follower_is id None u v i = absurd i
follower_is id (Some x) u v (inl e) = (ap (λ z. z.0) e, sym (ap (λ z. Some z.1) e))
follower_is id (Some x) u v (inr i) = absurd i

abbrev lifting : (g : Ground) (old new : State) (number start next : ℕ) (before behind : Homes) → Streaming g old new number start next before behind → Lifting
lifting g old new number start next before behind w =
    record {
      g = g;
      old = old;
      new = new;
      number = number;
      seen = w.on.seen;
      start = start;
      below_next = next;
      before = before;
      behind = behind;
      rows = w.on.rows;
      births = w.on.births;
      meant = w.on.meant;
      fits = w.fits;
      step = w.on.step;
      gives = gives g old new number start next before behind w;
      tied = w.tied;
      low = w.low;
      shows = w.on.shows;
      own = None;
      own_id = λ n e. absurd e;
      front = row_of w.on.step.task.id w.on.tree ∷ [];
      ahead = follower_of w.on.step.task.id w.on.follower;
      base = base_of g old new number start next before behind w.on;
      is_base = refl;
      base_same = other_base g old new number start next before behind w.on;
      apart = apart g old new number start next before behind w;
      all = all_meant w.on.step.task.id (length (rows_of w.on.step.task.id old.rows)) w.on.there w.on.meant;
      among = λ s v i. in_behind (map (λ (p : ℕ × Value). (record { id = w.on.step.task.id; nth = length (rows_of w.on.step.task.id old.rows); at = p.0 }, p.1)) w.on.there) w.on.meant (s, v) i;
      ahead_low = λ id v i. let e = follower_is w.on.step.task.id w.on.follower id v i in omega (arith, e.0, w.low.tasks w.on.step.task (task_in g old new number start next before behind w), w.on.local.adds.up);
      first = value_seen g w.on.seen (job_at g w.on.step.task) w.on.step.end;
      first_reached = first_reached g old new number start next before behind w;
      local = w.on.local.adds;
      adopts = w.on.adopts;
    }

-- what is known of the task that follows
record Follows (g : Ground) (old new : State) (number start next : ℕ) (before behind : Homes) (w : Streaming g old new number start next before behind) (v : What) : Type 0 where
  items : List ℕ
  count : ℕ
  is_what : v ≡ next_what w.on.stream items count
  is_item : IsItem w.on.tree.kind

follows : (g : Ground) (old new : State) (number start next : ℕ) (before behind : Homes) (w : Streaming g old new number start next before behind) (v : What) → w.on.follower ≡ Some v → Follows g old new number start next before behind w v
follows g old new number start next before behind w v e = go w.on.follower e w.on.local.is_row
  where
    d : DoneStep g old new number
    d = w.on.step

    go : (o : Option What) → o ≡ Some v → RowHere g d.end d.task.what w.on.tree w.on.there w.on.births o → Follows g old new number start next before behind w v
    go _ q (an_item f stream index value is_f is_what is_end kind k) =
        let same : stream ≡ w.on.stream = same_Some stream w.on.stream (sym (ap stream_for is_what) ∙ w.on.of_stream) in
        record { items = f.items; count = suc index; is_what = sym (same_Some (next_what stream f.items (suc index)) v q) ∙ ap (λ z. next_what z f.items (suc index)) same; is_item = kind }
    go _ q (its_final stream value is_what is_end kind k) = absurd (none-some v q)
    go _ q (its_failure digest is_end kind is_digest none) = absurd (none-some v q)

item_goes_on : (k : RowKind) → IsItem k → next streaming k ≡ goes streaming
item_goes_on row.Model x = refl
item_goes_on row.Text x = refl
item_goes_on row.Error x = absurd x
item_goes_on row.Close x = absurd x
item_goes_on row.Import x = absurd x
item_goes_on (row.Open f) x = absurd x

rest : (g : Ground) (old new : State) (number start next : ℕ) (before behind : Homes) (w : Streaming g old new number start next before behind) → Rest (lifting g old new number start next before behind w)
rest g old new number start next' before behind w =
    record {
      follow_on = λ n. follows_at l n (follow n (eqb n id) refl);
      value_row = λ alone. absurd (none-some w.on.stream (sym alone ∙ w.on.of_stream));
      places = λ s v i. ⊎_elim (λ k. inr (own_place s v (map_in (λ (p : ℕ × Value). (record { id = id; nth = nth; at = p.0 }, p.1)) w.on.there (s, v) k))) (λ k. inl k) (in_either (map (λ (p : ℕ × Value). (record { id = id; nth = nth; at = p.0 }, p.1)) w.on.there) w.on.meant (s, v) i);
      held = held;
      own_step = own_step;
      one_task = one_task_by l (drop_distinct old.tasks number d.task (close d.task) w.fits.one_task d.is_task owns off) born_distinct apart_ids;
      reached = λ u i. let e = follower_is id w.on.follower u.id u.what i in reached u.what (follows g old new number start next' before behind w u.what e.1);
      tabled = λ u i. let x = follows g old new number start next' before behind w u.what (follower_is id w.on.follower u.id u.what i).1 in
          subst (IsTabled g new.settled) (sym x.is_what) (next_tabled g new.settled w.on.stream x.count (slice_get x.items x.count));
      not_alone = λ u i alone. let x = follows g old new number start next' before behind w u.what (follower_is id w.on.follower u.id u.what i).1 in
          none-some w.on.stream (sym alone ∙ (ap stream_for x.is_what ∙ next_stream w.on.stream x.count (slice_get x.items x.count)));
      open_for = λ u n i e. open_next u n (follower_is id w.on.follower u.id u.what i).0 (follows g old new number start next' before behind w u.what (follower_is id w.on.follower u.id u.what i).1) e;
    }
  where
    d : DoneStep g old new number
    d = w.on.step

    id : ℕ
    id = w.on.step.task.id

    nth : ℕ
    nth = length (rows_of w.on.step.task.id old.rows)

    l : Lifting
    l = lifting g old new number start next' before behind w

    o : OpenFor old w.on.step.task.id w.on.stream
    o = opened g old new number start next' before behind w

    owns : Owns w.on.step.task
    owns = live_owns w.on.step.task (task_live g old new number start next' before behind w)

    off : owns_id (close w.on.step.task) ≡ false
    off = ap (λ b. b || false) (stream_not_alone w.on.step.task.what w.on.stream w.on.of_stream)

    -- the rows of the stream
    own_rows : rows_of w.on.step.task.id new.rows ≡ rows_of w.on.step.task.id old.rows ++ w.on.tree ∷ []
    own_rows = as_base l w.on.step.task.id (old_only l w.on.step.task.id (streaming_rows old.rows w.on.step.task.id o.goes_on)) ∙ own_base g old new number start next' before behind w.on

    after_row : (f : Option What) → RowHere g d.end d.task.what w.on.tree w.on.there w.on.births f → (s : Standing) × (after (next streaming w.on.tree.kind) [] ≡ Some s)
    after_row _ (an_item f stream index value is_f is_what is_end kind i) = (streaming, ap (λ z. after z []) (item_goes_on w.on.tree.kind kind))
    after_row _ (its_final stream value is_what is_end kind i) = (ended, ap (λ z. after (next streaming z) []) kind)
    after_row _ (its_failure digest is_end kind is_digest none) = (ended, ap (λ z. after (next streaming z) []) kind)

    follow : (n : ℕ) (b : Bool) → eqb n w.on.step.task.id ≡ b → (s : Standing) × (after (goes absent) (rows_of n (base_of g old new number start next' before behind w.on)) ≡ Some s)
    follow n false e = let s = w.fits.follow_on n in (s.0, ap (after (goes absent)) (other_base g old new number start next' before behind w.on n (eqb-false n w.on.step.task.id e)) ∙ s.1)
    follow n true e =
        let same = eqb-true n w.on.step.task.id e in
        let s = after_row w.on.follower w.on.local.is_row in (
          s.0,
          ap (λ z. after (goes absent) (rows_of z (base_of g old new number start next' before behind w.on))) same
              ∙ (ap (after (goes absent)) (own_base g old new number start next' before behind w.on)
              ∙ (after-append (goes absent) streaming (rows_of w.on.step.task.id old.rows) (w.on.tree ∷ []) o.goes_on ∙ s.1)),
        )

    place_there : (n : ℕ) (at : Place) → slice_get w.on.tree.places n ≡ Some at → place_at new.rows (record { id = w.on.step.task.id; nth = length (rows_of w.on.step.task.id old.rows); at = n }) ≡ Some at
    place_there n at h =
        ap (λ ts. option_and_then (λ (t : PlaceTree). slice_get t.places n) (slice_get ts (length (rows_of w.on.step.task.id old.rows)))) own_rows
        ∙ (ap (option_and_then (λ (t : PlaceTree). slice_get t.places n)) (slice_get-behind (rows_of w.on.step.task.id old.rows) (w.on.tree ∷ [])) ∙ h)

    own_place : (s : Spot) (v : Value) → (p : ℕ × Value) × In p w.on.there × (◌≡◌ {A = Spot × Value} (s, v) (record { id = w.on.step.task.id; nth = length (rows_of w.on.step.task.id old.rows); at = p.0 }, p.1)) → IsWritten g new s v
    own_place s v x =
        let y = w.on.local.places x.0.0 x.0.1 x.1 in
        subst (λ z. IsWritten g new z v) (sym (ap (λ z. z.0) x.2))
        (subst (IsWritten g new (record { id = w.on.step.task.id; nth = length (rows_of w.on.step.task.id old.rows); at = x.0.0 })) (sym (ap (λ z. z.1) x.2))
        (written l None (record { id = w.on.step.task.id; nth = length (rows_of w.on.step.task.id old.rows); at = x.0.0 }) y.0 x.0.1 (λ t e. absurd (none-some t e)) (place_there x.0.0 y.0 y.1) y.2))

    in_all : (n : ℕ) (v : Value) → In (n, v) w.on.there → In (record { id = w.on.step.task.id; nth = length (rows_of w.on.step.task.id old.rows); at = n }, v) (all_meant w.on.step.task.id (length (rows_of w.on.step.task.id old.rows)) w.on.there w.on.meant)
    in_all n v i =
        in_front (map (λ (p : ℕ × Value). (record { id = w.on.step.task.id; nth = length (rows_of w.on.step.task.id old.rows); at = p.0 }, p.1)) w.on.there) w.on.meant _
        (in_map (λ (p : ℕ × Value). (record { id = w.on.step.task.id; nth = length (rows_of w.on.step.task.id old.rows); at = p.0 }, p.1)) w.on.there (n, v) i)

    held : (s : Spot) (at : Place) → place_at (base_of g old new number start next' before behind w.on) s ≡ Some at → IsHeld old.rows at ⊎ (IsPlain at ⊎ ((v : Value) × In (s, v) (all_meant w.on.step.task.id (length (rows_of w.on.step.task.id old.rows)) w.on.there w.on.meant)))
    held s at h = go (eqb s.id w.on.step.task.id) refl
      where
        by : (ts : List PlaceTree) → rows_of s.id (base_of g old new number start next' before behind w.on) ≡ ts → option_and_then (λ (t : PlaceTree). slice_get t.places s.at) (slice_get ts s.nth) ≡ Some at
        by ts e = sym (ap (λ ts. option_and_then (λ (t : PlaceTree). slice_get t.places s.at) (slice_get ts s.nth)) e) ∙ h

        spot : s.id ≡ w.on.step.task.id → s.nth ≡ length (rows_of w.on.step.task.id old.rows) → s ≡ record { id = w.on.step.task.id; nth = length (rows_of w.on.step.task.id old.rows); at = s.at }
        spot e f = ap (λ z. record { id = z; nth = s.nth; at = s.at }) e ∙ ap (λ z. record { id = w.on.step.task.id; nth = z; at = s.at }) f

        in_tree : s.id ≡ w.on.step.task.id → (tree : PlaceTree) → (slice_get (rows_of w.on.step.task.id old.rows) s.nth ≡ Some tree) ⊎ ((s.nth ≡ length (rows_of w.on.step.task.id old.rows)) × (w.on.tree ≡ tree)) → slice_get tree.places s.at ≡ Some at
            → IsHeld old.rows at ⊎ (IsPlain at ⊎ ((v : Value) × In (s, v) (all_meant w.on.step.task.id (length (rows_of w.on.step.task.id old.rows)) w.on.there w.on.meant)))
        in_tree e tree (inl q) p = inl (s, ap (λ z. option_and_then (λ (t : PlaceTree). slice_get t.places s.at) (slice_get (rows_of z old.rows) s.nth)) e ∙ (ap (option_and_then (λ (t : PlaceTree). slice_get t.places s.at)) q ∙ p))
        in_tree e tree (inr q) p =
            inr (⊎_elim (λ x. inl x)
            (λ x. inr (x.0, subst (λ z. In (z, x.0) (all_meant w.on.step.task.id (length (rows_of w.on.step.task.id old.rows)) w.on.there w.on.meant)) (sym (spot e q.0)) (in_all s.at x.0 x.1)))
            (w.on.local.held s.at at (subst (λ (z : PlaceTree). slice_get z.places s.at ≡ Some at) (sym q.1) p)))

        own : s.id ≡ w.on.step.task.id → (x : Option PlaceTree) → slice_get (rows_of w.on.step.task.id old.rows ++ w.on.tree ∷ []) s.nth ≡ x → option_and_then (λ (t : PlaceTree). slice_get t.places s.at) x ≡ Some at
            → IsHeld old.rows at ⊎ (IsPlain at ⊎ ((v : Value) × In (s, v) (all_meant w.on.step.task.id (length (rows_of w.on.step.task.id old.rows)) w.on.there w.on.meant)))
        own e None q p = absurd (none-some at p)
        own e (Some tree) q p = in_tree e tree (get_last (rows_of w.on.step.task.id old.rows) w.on.tree s.nth tree q) p

        go : (b : Bool) → eqb s.id w.on.step.task.id ≡ b → IsHeld old.rows at ⊎ (IsPlain at ⊎ ((v : Value) × In (s, v) (all_meant w.on.step.task.id (length (rows_of w.on.step.task.id old.rows)) w.on.there w.on.meant)))
        go false e = inl (s, by (rows_of s.id old.rows) (other_base g old new number start next' before behind w.on s.id (eqb-false s.id w.on.step.task.id e)))
        go true e =
            let same = eqb-true s.id w.on.step.task.id e in
            own same (slice_get (rows_of w.on.step.task.id old.rows ++ w.on.tree ∷ []) s.nth) refl
            (by (rows_of w.on.step.task.id old.rows ++ w.on.tree ∷ []) (ap (λ z. rows_of z (base_of g old new number start next' before behind w.on)) same ∙ own_base g old new number start next' before behind w.on))

    -- what the row adds to the stream
    follower_task : (v : What) → w.on.follower ≡ Some v → (u : Task) × In u w.on.step.born × (u.id ≡ w.on.step.task.id) × (u.what ≡ v)
    follower_task v e =
        let i : In (w.on.step.task.id, v) (follower_of w.on.step.task.id w.on.follower ++ w.on.births) = in_front (follower_of w.on.step.task.id w.on.follower) w.on.births (w.on.step.task.id, v) (subst (λ z. In (w.on.step.task.id, v) (follower_of w.on.step.task.id z)) (sym e) (inl refl)) in
        let x = map_in (λ (t : Task). (t.id, t.what)) w.on.step.born (w.on.step.task.id, v) (subst (In (w.on.step.task.id, v)) (sym w.on.adopts.same_births) i) in
        (x.0, x.1, sym (ap (λ z. z.0) x.2), sym (ap (λ z. z.1) x.2))

    grows : (n : ℕ) → n ≡ w.on.stream → (f : Option What) → w.on.follower ≡ f → RowHere g d.end d.task.what w.on.tree w.on.there w.on.births f → Grown g new d.task d.end (all_meant w.on.step.task.id (length (rows_of w.on.step.task.id old.rows)) w.on.there w.on.meant) n w.on.step.task.id (length (rows_of w.on.step.task.id old.rows)) w.on.tree
    grows n is_n _ fo (an_item f stream index value is_f is_what is_end kind i) =
        let same : stream ≡ n = same_Some stream w.on.stream (sym (ap stream_for is_what) ∙ w.on.of_stream) ∙ sym is_n in
        let u = follower_task (next_what stream f.items (suc index)) fo in
        next_row f index value (ap (slice_get g.script.streams) (sym same) ∙ is_f) (is_what ∙ ap (λ z. what.Item z index) same) is_end kind (in_all 0 (shown value) i)
        (record { task = u.0; is_task = born_new l u.0 u.1; same_id = u.2; live = born_live l u.0 u.1; is_next = u.3 ∙ ap (λ z. next_what z f.items (suc index)) same })
    grows n is_n _ fo (its_final stream value is_what is_end kind i) =
        let same : stream ≡ n = same_Some stream w.on.stream (sym (ap stream_for is_what) ∙ w.on.of_stream) ∙ sym is_n in
        final_row value (is_what ∙ ap what.Last same) is_end kind (in_all 0 (shown value) i)
    grows n is_n _ fo (its_failure digest is_end kind is_digest none) = broken_row digest is_end kind is_digest

    own_step : (n : ℕ) → Paired old.homes (key.Stream n) (stream_of w.on.step.task.id) → StreamStep g old new w.on.step.task w.on.step.end (all_meant w.on.step.task.id (length (rows_of w.on.step.task.id old.rows)) w.on.there w.on.meant) n w.on.step.task.id
    own_step n p =
        let same : n ≡ w.on.stream = same_stream n w.on.stream (w.fits.one_key (key.Stream n) (key.Stream w.on.stream) (stream_of w.on.step.task.id) p o.home) in
        grown p refl (w.on.of_stream ∙ ap Some (sym same)) w.on.tree own_rows (grows n same w.on.follower refl w.on.local.is_row)

    -- the tasks
    own_fresh : In w.on.step.task.id (map (λ (b : ℕ × What). b.0) w.on.births) → ⊥
    own_fresh i =
        let b = map_in (λ (b : ℕ × What). b.0) w.on.births w.on.step.task.id i in
        omega (arith, b.2, (w.on.local.adds.born_fresh b.0.0 b.0.1 b.1).0, w.low.tasks w.on.step.task (task_in g old new number start next' before behind w))

    born_distinct : Distinct (map (λ (b : ℕ × What). b.0) (follower_of w.on.step.task.id w.on.follower ++ w.on.births))
    born_distinct = go w.on.follower
      where
        go : (f : Option What) → Distinct (map (λ (b : ℕ × What). b.0) (follower_of w.on.step.task.id f ++ w.on.births))
        go None = w.on.local.adds.born_once
        go (Some v) = (own_fresh, w.on.local.adds.born_once)

    apart_ids : (x : ℕ) → In x (own_ids (slice_set old.tasks number (close w.on.step.task))) → In x (map (λ (b : ℕ × What). b.0) (follower_of w.on.step.task.id w.on.follower ++ w.on.births)) → ⊥
    apart_ids x i j = go w.on.follower j
      where
        left : In x (own_ids old.tasks) × (x ≡ w.on.step.task.id → ⊥)
        left = drop_in old.tasks number w.on.step.task (close w.on.step.task) w.fits.one_task w.on.step.is_task owns off x i

        go : (f : Option What) → In x (map (λ (b : ℕ × What). b.0) (follower_of w.on.step.task.id f ++ w.on.births)) → ⊥
        go None k = not_born l x left.0 k
        go (Some v) (inl e) = left.1 e
        go (Some v) (inr k) = not_born l x left.0 k

    reached : (v : What) → Follows g old new number start next' before behind w v → ReachedFor g new.settled v
    reached v x =
        subst (ReachedBy g new.settled (job_for g v)) (sym (ap stream_for x.is_what ∙ next_stream w.on.stream x.count (slice_get x.items x.count)))
        (subst (λ z. ReachedBy g z (job_for g v) (Some w.on.stream)) (sym (settled_is g old new number d))
        (go (stream_for w.on.step.task.what) w.on.of_stream (w.fits.reached w.on.step.task (task_in g old new number start next' before behind w))))
      where
        go : (f : Option ℕ) → f ≡ Some w.on.stream → ReachedBy g old.settled (job_at g w.on.step.task) f → ReachedBy g old.settled (job_for g v) (Some w.on.stream)
        go None e r = absurd (none-some w.on.stream e)
        go (Some n) e r = subst (λ z. ReachedBy g old.settled (job_for g v) z) e r

    open_next : (u : Task) (n : ℕ) → u.id ≡ w.on.step.task.id → Follows g old new number start next' before behind w u.what → stream_for u.what ≡ Some n → OpenFor new u.id n
    open_next u n same x e =
        let stream : n ≡ w.on.stream = same_Some n w.on.stream (sym e ∙ (ap stream_for x.is_what ∙ next_stream w.on.stream x.count (slice_get x.items x.count))) in
        subst (λ z. OpenFor new z n) (sym same) (subst (OpenFor new w.on.step.task.id) (sym stream)
        (record {
          home = old_home l (key.Stream w.on.stream) (stream_of w.on.step.task.id) o.home;
          goes_on = ap (after (goes absent)) own_rows ∙ (after-append (goes absent) streaming (rows_of w.on.step.task.id old.rows) (w.on.tree ∷ []) o.goes_on ∙ ap (λ z. after z []) (item_goes_on w.on.tree.kind x.is_item));
        }))

pub stream_well : (g : Ground) → IsValidGround g → (old new : State) (number start next : ℕ) (before behind : Homes) → Fits g old → Tied g old before → Below old start → (w : StreamsOn g old new number start next before behind)
    → EmitsWell g old new w.step.task w.step.born w.step.end (all_meant w.step.task.id (length (rows_of w.step.task.id old.rows)) w.there w.meant)
stream_well g valid old new number start next before behind f tied low w =
    let a : Streaming g old new number start next before behind = record { valid = valid; fits = f; tied = tied; low = low; on = w } in
    emits_by (lifting g old new number start next before behind a) (rest g old new number start next before behind a)

pub stream_fits : (g : Ground) → IsValidGround g → (old new : State) (number start next : ℕ) (before behind : Homes) → Fits g old → Tied g old before → Below old start → StreamsOn g old new number start next before behind → Fits g new
stream_fits g valid old new number start next before behind f tied low w =
    finish_fits g valid old new number (all_meant w.step.task.id (length (rows_of w.step.task.id old.rows)) w.there w.meant) f w.step (stream_well g valid old new number start next before behind f tied low w)

pub stream_tied : (g : Ground) → IsValidGround g → (old new : State) (number start next : ℕ) (before behind : Homes) → Fits g old → Tied g old before → Below old start → StreamsOn g old new number start next before behind → Tied g new behind
stream_tied g valid old new number start next before behind f tied low w = tied_new (lifting g old new number start next before behind (record { valid = valid; fits = f; tied = tied; low = low; on = w }))

pub stream_below : (g : Ground) → IsValidGround g → (old new : State) (number start next : ℕ) (before behind : Homes) → Fits g old → Tied g old before → Below old start → StreamsOn g old new number start next before behind → Below new next
stream_below g valid old new number start next before behind f tied low w = below_new (lifting g old new number start next before behind (record { valid = valid; fits = f; tied = tied; low = low; on = w }))
