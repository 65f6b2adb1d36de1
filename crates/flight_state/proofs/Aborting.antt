-- An abort keeps the facts of a state, and the first one in a quiet state leaves the aborted state.
use Rattle.std.proofs.Common.{◌≡◌, ℕ, zero, suc, Bool, true, false, cond, eqb, eqb-true, eq-eqb, ◌⊎◌, inl, inr, List, [], ◌∷◌, ◌++◌, map, length, Option, Some, None, option_and_then, option_map, refl, sym, ap, ◌∙◌, subst, append-nil}
use Rattle.std.proofs.lemmas.Option.{none-some, same_Some}
use Rattle.std.proofs.lemmas.Bool.{eqb-false}
use Rattle.std.specs.Prelude.{slice_get}
use Rattle.std.specs.List.{AllZip}
use Rattle.flight_value.specs.Store as store
use Rattle.flight_value.specs.Store.{Shape, Paired}
use Rattle.flight_value.specs.declared.key.Key.TheVariants as key
use Rattle.flight_row.specs.declared.row.RowKind.{RowKind}
use Rattle.flight_row.specs.declared.row.RowKind.TheVariants as row
use Rattle.flight_render.specs.declared.root.Ground.{Ground}
use Rattle.flight_render.specs.declared.job.What.{What}
use Rattle.flight_render.specs.declared.job.What.TheVariants as what
use Rattle.flight_render.specs.Run.{waits}
use Rattle.flight_render.specs.Values.{is_settled}
use Rattle.flight_render.specs.Jobs.{of_job, comes}
use Rattle.flight_render.specs.Plain.{flow, flow_shape}
use Rattle.flight_value.specs.Listed.{In, Distinct}
use Rattle.flight_meaning.specs.declared.place.Place.{Place}
use Rattle.flight_meaning.specs.declared.place.PlaceTree.{PlaceTree}
use Rattle.flight_meaning.specs.declared.place.PlacedRow.{PlacedRow}
use Rattle.flight_meaning.specs.Linked.{rows_of, Standing, absent, defined, streaming, ended, goes, after, standing_of, FollowOn, first_place}
use Rattle.flight_meaning.specs.Resolve.{to, found, Ends}
use Rattle.flight_meaning.specs.Meaning as wire
use Rattle.flight_meaning.specs.Meaning.{Written, Identity, stream_of, FlowEnd, flowing, closed_with, broken_by, Flowed, flowed, with_row, opened}
use Rattle.flight_meaning.specs.Good.{IsHeld}
use Rattle.flight_meaning.proofs.MoreRows.{rows_of-append, standing-append}
use Rattle.flight_state.specs.declared.status.Status.{Status}
use Rattle.flight_state.specs.declared.status.Status.TheVariants as status
use Rattle.flight_state.specs.State.{State, Task, IsLive, is_live, stream_for, IsAlone, is_alone, own_ids, next_by, next_what, job_at, IsQuiet}
use Rattle.flight_state.specs.Spells.{Spells, SpelledBy, IsErrorRow, EndsAt, is_going, is_closed, is_broken, is_ended, StreamAt, HomeAt}
use Rattle.flight_state.specs.Fits.{IsFollowed, IsKnown, Fits}
use Rattle.flight_state.specs.Steps.{close, RefersTo, error_tree, reference_tree, last_tree, last_rows, ends_of, AbortStep}
use Rattle.flight_state.specs.Ended.{ended_label, EndedHome, IsAborted}
use Rattle.flight_state.proofs.Lists.{zip-map, in_front, in_behind, in_map, map_in, at_in}
use Rattle.flight_state.proofs.Flows.{at_rest, quiet_flow}
use Rattle.flight_state.proofs.Tasks.{true_live, done_or}
use Rattle.flight_state.proofs.Owned.{live_owns, alone_owns, alone_true, one_of}
use Rattle.flight_state.proofs.Moves.{Moves, Lives, IsOver, spells_on, ends_still, stream_with, stream_home, Adds, fits_on}
use Rattle.flight_state.proofs.Emitting.{added_row}
use Rattle.flight_state.proofs.LastRows.{rows_of-cons, each_tree, last_tree_of, NoneLive, none_last, one_last, live_or_none, ends_forth, ends_from, closed_distinct, error_turn, reference_walk}

-- ---- the rows after the step

abbrev pub error_row : (old new : State) → AbortStep old new → PlacedRow
error_row old new w = record { id = w.error; tree = error_tree w.digest }

abbrev pub added : (old new : State) → AbortStep old new → List PlacedRow
added old new w = error_row old new w ∷ last_rows w.digest w.reference old.tasks

rows_now : (old new : State) (w : AbortStep old new) → new.rows ≡ old.rows ++ added old new w
rows_now old new w = ap (λ (z : State). z.rows) w.now

tasks_now : (old new : State) (w : AbortStep old new) → new.tasks ≡ map close old.tasks
tasks_now old new w = ap (λ (z : State). z.tasks) w.now

pub of_id : (old new : State) (w : AbortStep old new) (id : ℕ) → rows_of id new.rows ≡ rows_of id old.rows ++ rows_of id (added old new w)
of_id old new w id = ap (rows_of id) (rows_now old new w) ∙ rows_of-append id old.rows (added old new w)

-- the error row alone is of its id
error_added : (old new : State) (w : AbortStep old new) → rows_of w.error (added old new w) ≡ error_tree w.digest ∷ []
error_added old new w =
    rows_of-cons w.error (error_row old new w) (last_rows w.digest w.reference old.tasks)
    ∙ (ap (λ b. cond b (error_tree w.digest ∷ rows_of w.error (last_rows w.digest w.reference old.tasks)) (rows_of w.error (last_rows w.digest w.reference old.tasks))) (eq-eqb w.error w.error refl)
    ∙ ap (λ z. error_tree w.digest ∷ z) (none_last w.digest w.reference old.tasks w.error (λ t i l e. w.no_task t i e)))

not_error : (id error : ℕ) → (id ≡ error → ⊥) → eqb error id ≡ false
not_error id error h = go (eqb error id) refl
  where
    go : (b : Bool) → eqb error id ≡ b → b ≡ false
    go true e = absurd (h (sym (eqb-true error id e)))
    go false e = refl

pub other_added : (old new : State) (w : AbortStep old new) (id : ℕ) → (id ≡ w.error → ⊥) → rows_of id (added old new w) ≡ rows_of id (last_rows w.digest w.reference old.tasks)
other_added old new w id h =
    rows_of-cons id (error_row old new w) (last_rows w.digest w.reference old.tasks)
    ∙ ap (λ b. cond b (error_tree w.digest ∷ rows_of id (last_rows w.digest w.reference old.tasks)) (rows_of id (last_rows w.digest w.reference old.tasks))) (not_error id w.error h)

task_added : (g : Ground) (old new : State) → Fits g old → (w : AbortStep old new) → (t : Task) → In t old.tasks → IsLive t.status → rows_of t.id (added old new w) ≡ last_tree (is_alone t.what) w.digest w.reference ∷ []
task_added g old new f w t i live = other_added old new w t.id (w.no_task t i) ∙ one_last w.digest w.reference old.tasks f.one_task t i live

error_rows : (old new : State) (w : AbortStep old new) → rows_of w.error new.rows ≡ error_tree w.digest ∷ []
error_rows old new w = of_id old new w w.error ∙ (ap (λ z. z ++ rows_of w.error (added old new w)) w.is_free ∙ error_added old new w)

is_error : (old new : State) (w : AbortStep old new) → IsErrorRow new.rows w.error w.digest
is_error old new w = (error_turn new.rows w.error w.digest (error_rows old new w)).0

error_walk : (old new : State) (w : AbortStep old new) → Ends new.rows (to w.error []) (found (first_place w.error))
error_walk old new w = (error_turn new.rows w.error w.digest (error_rows old new w)).1

-- the row of a task that was live leads to the error row
live_walk : (g : Ground) (old new : State) → Fits g old → (w : AbortStep old new) → (t : Task) → In t old.tasks → IsLive t.status → IsAlone t.what → Ends new.rows (to t.id []) (found (first_place w.error))
live_walk g old new f w t i live alone =
    reference_walk new.rows t.id w.error w.reference w.refers
    (of_id old new w t.id ∙ (ap (λ z. z ++ rows_of t.id (added old new w)) (f.unwritten t i live alone) ∙ (task_added g old new f w t i live ∙ ap (λ b. last_tree b w.digest w.reference ∷ []) (alone_true t.what alone))))
    (found (first_place w.error)) (error_walk old new w)

-- ---- the tasks after the step

now_in : (old new : State) (w : AbortStep old new) (t : Task) → In t old.tasks → In (close t) new.tasks
now_in old new w t i = subst (In (close t)) (sym (tasks_now old new w)) (in_map close old.tasks t i)

before : (old new : State) (w : AbortStep old new) (u : Task) → In u new.tasks → (t : Task) × In t old.tasks × (u ≡ close t)
before old new w u i = map_in close old.tasks u (subst (In u) (tasks_now old new w) i)

moves_of : (g : Ground) (old new : State) → AbortStep old new → Moves g old new
moves_of g old new w =
    record {
      grows = λ s h. subst (λ (z : State). is_settled z.settled s ≡ true) (sym w.now) h;
      more = added old new w;
      rows = rows_now old new w;
      homes = λ k i p. subst (λ (z : State). Paired z.homes k i) (sym w.now) p;
      counted = λ a c i. subst (λ (z : State). In (a, c) z.counted) (sym w.now) i;
      ended = λ p i. subst (λ (z : State). In p z.ended) (sym w.now) (in_front old.ended (ends_of w.error old.tasks) p i);
      tasks = λ t i. record { task = close t; is_task = now_in old new w t i; same_id = refl; same_what = refl };
    }

ended_now : (old new : State) (w : AbortStep old new) (t : Task) → In t old.tasks → IsLive t.status → In (t.id, w.error) new.ended
ended_now old new w t i l = subst (λ (z : State). In (t.id, w.error) z.ended) (sym w.now) (in_behind old.ended (ends_of w.error old.tasks) (t.id, w.error) (ends_forth w.error old.tasks t i l))

spelled : (g : Ground) (old new : State) → Fits g old → (w : AbortStep old new) → (t : Task) → In t old.tasks → IsLive t.status → IsAlone t.what → Spells g new (wire.value_of t.id) (of_job (job_at g t))
spelled g old new f w t i live alone =
    inr (inr (record {
      jobs = [];
      last = of_job (job_at g t);
      task = close t;
      error = w.error;
      digest = w.digest;
      leads = refl;
      counted = tt;
      begins = refl;
      is_task = now_in old new w t i;
      alone = alone;
      is_ended = ended_now old new w t i live;
      is_error = is_error old new w;
      walks = live_walk g old new f w t i live alone;
    }))

lives_of : (g : Ground) (old new : State) → Fits g old → AbortStep old new → Lives g old new
lives_of g old new f w t i live alone = inr (spelled g old new f w t i live alone)

-- ---- streams

-- a stream that has ended stays as it was
flowed-over : (id n : ℕ) (ts us : List PlaceTree) → IsOver (flowed id n ts).end → flowed id n (ts ++ us) ≡ flowed id n ts
flowed-over id n [] us over = absurd over
flowed-over id n (t ∷ ts) us over = go t.kind over (flowed-over id (suc n) ts us)
  where
    go : (k : RowKind) → IsOver (with_row id n k t (flowed id (suc n) ts)).end → (IsOver (flowed id (suc n) ts).end → flowed id (suc n) (ts ++ us) ≡ flowed id (suc n) ts) → with_row id n k t (flowed id (suc n) (ts ++ us)) ≡ with_row id n k t (flowed id (suc n) ts)
    go row.Error o rest = refl
    go row.Close o rest = refl
    go row.Model o rest = ap (with_row id n row.Model t) (rest o)
    go row.Text o rest = ap (with_row id n row.Text t) (rest o)
    go row.Import o rest = ap (with_row id n row.Import t) (rest o)
    go (row.Open flow) o rest = rest o

not_alone : (stream count : ℕ) (o : Option ℕ) → is_alone (next_by stream count o) ≡ false
not_alone stream count None = refl
not_alone stream count (Some source) = refl

-- the rows of a stream that a live task goes on with
going_rows : (g : Ground) (old new : State) → Fits g old → (w : AbortStep old new) → (stream id : ℕ) (x : StreamAt g old stream id) → (t : Task) → In t old.tasks → t.id ≡ id → IsLive t.status → t.what ≡ next_what stream x.flows.items (length x.written)
    → rows_of id new.rows ≡ x.opener ∷ (x.behind ++ error_tree w.digest ∷ [])
going_rows g old new f w stream id x t i same live is =
    of_id old new w id
    ∙ (ap (λ z. z ++ rows_of id (added old new w)) x.rows
    ∙ ap (λ z. x.opener ∷ (x.behind ++ z)) (subst (λ n. rows_of n (added old new w) ≡ last_tree (is_alone t.what) w.digest w.reference ∷ []) same (task_added g old new f w t i live)
    ∙ ap (λ b. last_tree b w.digest w.reference ∷ []) (ap is_alone is ∙ not_alone stream (length x.written) (slice_get x.flows.items (length x.written)))))

going_flow : (id : ℕ) (behind : List PlaceTree) (digest : List ℕ) → (flowed id 1 behind).end ≡ flowing → flowed id 1 (behind ++ error_tree digest ∷ []) ≡ record { items = (flowed id 1 behind).items ++ []; end = broken_by digest }
going_flow id behind digest going = added_row id behind (error_tree digest) going

-- what a stream's rows are after the step
record After (g : Ground) (old new : State) (w : AbortStep old new) (stream id : ℕ) (x : StreamAt g old stream id) : Type 0 where
  behind : List PlaceTree
  rows : rows_of id new.rows ≡ x.opener ∷ behind
  items : (flowed id 1 behind).items ≡ (flowed id 1 x.behind).items
  ends : EndsAt g new stream id x.flows (length x.written) x.left (flowed id 1 behind).end
  slots : (flowed id 1 behind).items ++ wire.final_slots (flowed id 1 behind).end ≡ (flowed id 1 x.behind).items ++ wire.final_slots (flowed id 1 x.behind).end
  label : ended_label w.digest (store.stream x.flows.flow (wire.state_of (flowed id 1 x.behind).end)) ≡ store.stream x.flows.flow (wire.state_of (flowed id 1 behind).end)

stream_after : (g : Ground) (old new : State) → Fits g old → (w : AbortStep old new) → (stream id : ℕ) (x : StreamAt g old stream id) → After g old new w stream id x
stream_after g old new f w stream id x = go (flowed id 1 x.behind).end refl x.ends
  where
    mv : Moves g old new
    mv = moves_of g old new w

    lv : Lives g old new
    lv = lives_of g old new f w

    kept : (e : FlowEnd) → IsOver e → ended_label w.digest (store.stream x.flows.flow (wire.state_of e)) ≡ store.stream x.flows.flow (wire.state_of e)
    kept flowing o = absurd o
    kept (closed_with m) o = refl
    kept (broken_by d) o = refl

    over : (e : FlowEnd) → (flowed id 1 x.behind).end ≡ e → IsOver e → EndsAt g old stream id x.flows (length x.written) x.left e → After g old new w stream id x
    over e is o y =
        let same : flowed id 1 (x.behind ++ rows_of id (added old new w)) ≡ flowed id 1 x.behind = flowed-over id 1 x.behind (rows_of id (added old new w)) (subst IsOver (sym is) o) in
        record {
          behind = x.behind ++ rows_of id (added old new w);
          rows = of_id old new w id ∙ ap (λ z. z ++ rows_of id (added old new w)) x.rows;
          items = ap (λ (z : Flowed). z.items) same;
          ends = subst (λ (z : Flowed). EndsAt g new stream id x.flows (length x.written) x.left z.end) (sym same)
              (subst (EndsAt g new stream id x.flows (length x.written) x.left) (sym is) (ends_still g old new f mv lv stream id x.flows (length x.written) x.left e o y));
          slots = ap (λ (z : Flowed). z.items ++ wire.final_slots z.end) same;
          label = kept (flowed id 1 x.behind).end (subst IsOver (sym is) o) ∙ ap (λ (z : Flowed). store.stream x.flows.flow (wire.state_of z.end)) (sym same);
        }

    go : (e : FlowEnd) → (flowed id 1 x.behind).end ≡ e → EndsAt g old stream id x.flows (length x.written) x.left e → After g old new w stream id x
    go _ is (is_closed m t empty by s) = over (closed_with m) is tt (is_closed m t empty by s)
    go _ is (is_broken d h) = over (broken_by d) is tt (is_broken d h)
    go _ is (is_ended d e i y) = over (broken_by d) is tt (is_ended d e i y)
    go _ is (is_going t i same live what_is) =
        let now : flowed id 1 (x.behind ++ error_tree w.digest ∷ []) ≡ record { items = (flowed id 1 x.behind).items ++ []; end = broken_by w.digest } = going_flow id x.behind w.digest is in
        record {
          behind = x.behind ++ error_tree w.digest ∷ [];
          rows = going_rows g old new f w stream id x t i same live what_is;
          items = ap (λ (z : Flowed). z.items) now ∙ append-nil (flowed id 1 x.behind).items;
          ends = subst (λ (z : Flowed). EndsAt g new stream id x.flows (length x.written) x.left z.end) (sym now)
              (is_ended w.digest w.error (subst (λ z. In (z, w.error) new.ended) same (ended_now old new w t i live)) (is_error old new w));
          slots = ap (λ (z : Flowed). z.items ++ wire.final_slots z.end) now
              ∙ (append-nil ((flowed id 1 x.behind).items ++ []) ∙ ap (λ e. (flowed id 1 x.behind).items ++ wire.final_slots e) (sym is));
          label = ap (λ e. ended_label w.digest (store.stream x.flows.flow (wire.state_of e))) is ∙ ap (λ (z : Flowed). store.stream x.flows.flow (wire.state_of z.end)) (sym now);
        }

stream_on : (g : Ground) (old new : State) → Fits g old → (w : AbortStep old new) → (stream id : ℕ) → StreamAt g old stream id → StreamAt g new stream id
stream_on g old new f w stream id x =
    let a = stream_after g old new f w stream id x in
    stream_with g old new f (moves_of g old new w) (lives_of g old new f w) stream id x a.behind a.rows a.items a.ends

-- ---- the rows follow one another, and what they hold is known

follows : (g : Ground) (old new : State) → Fits g old → AbortStep old new → FollowOn new.rows
follows g old new f w id = go (live_or_none old.tasks id)
  where
    s : Standing
    s = (f.follow_on id).0

    stands : standing_of id old.rows ≡ Some s
    stands = (f.follow_on id).1

    step : (more : List PlaceTree) → rows_of id (added old new w) ≡ more → (z : Standing) → after (goes s) more ≡ Some z → (z : Standing) × (standing_of id new.rows ≡ Some z)
    step more e z h = (z, ap (standing_of id) (rows_now old new w) ∙ (standing-append id old.rows (added old new w) s stands ∙ (ap (after (goes s)) e ∙ h)))

    absent_is : rows_of id old.rows ≡ [] → s ≡ absent
    absent_is none = same_Some s absent (sym stands ∙ ap (after (goes absent)) none)

    task : (t : Task) → In t old.tasks → IsLive t.status → t.id ≡ id → (o : Option ℕ) → stream_for t.what ≡ o → (z : Standing) × (standing_of id new.rows ≡ Some z)
    task t i live same None alone =
        let none : rows_of id old.rows ≡ [] = subst (λ n. rows_of n old.rows ≡ []) same (f.unwritten t i live alone) in
        let rows : rows_of id (added old new w) ≡ reference_tree w.reference ∷ [] =
        subst (λ n. rows_of n (added old new w) ≡ last_tree (is_alone t.what) w.digest w.reference ∷ []) same (task_added g old new f w t i live) ∙ ap (λ b. last_tree b w.digest w.reference ∷ []) (alone_true t.what alone) in
        step (reference_tree w.reference ∷ []) rows defined (ap (λ z. after (goes z) (reference_tree w.reference ∷ [])) (absent_is none))
    task t i live same (Some stream) of =
        let opens : s ≡ streaming = same_Some s streaming (sym stands ∙ subst (λ n. standing_of n old.rows ≡ Some streaming) same (f.open_for t stream i live of).goes_on) in
        let rows : rows_of id (added old new w) ≡ error_tree w.digest ∷ [] =
        subst (λ n. rows_of n (added old new w) ≡ last_tree (is_alone t.what) w.digest w.reference ∷ []) same (task_added g old new f w t i live) ∙ ap (λ b. last_tree b w.digest w.reference ∷ []) (stream_false t.what stream of) in
        step (error_tree w.digest ∷ []) rows ended (ap (λ z. after (goes z) (error_tree w.digest ∷ [])) opens)
      where
        stream_false : (v : What) (n : ℕ) → stream_for v ≡ Some n → is_alone v ≡ false
        stream_false what.Root n e = absurd (none-some n e)
        stream_false (what.Element a b) n e = absurd (none-some n e)
        stream_false (what.Promise a) n e = absurd (none-some n e)
        stream_false (what.Known a) n e = absurd (none-some n e)
        stream_false (what.Item a b) n e = refl
        stream_false (what.Last a) n e = refl

    other : NoneLive old.tasks id → (b : Bool) → eqb id w.error ≡ b → (z : Standing) × (standing_of id new.rows ≡ Some z)
    other none true e =
        let same = eqb-true id w.error e in
        let free : rows_of id old.rows ≡ [] = ap (λ n. rows_of n old.rows) same ∙ w.is_free in
        let rows : rows_of id (added old new w) ≡ error_tree w.digest ∷ [] = ap (λ n. rows_of n (added old new w)) same ∙ error_added old new w in
        step (error_tree w.digest ∷ []) rows defined (ap (λ z. after (goes z) (error_tree w.digest ∷ [])) (absent_is free))
    other none false e = step [] (other_added old new w id (eqb-false id w.error e) ∙ none_last w.digest w.reference old.tasks id none) s refl

    go : ((t : Task) × In t old.tasks × IsLive t.status × (t.id ≡ id)) ⊎ NoneLive old.tasks id → (z : Standing) × (standing_of id new.rows ≡ Some z)
    go (inl t) = task t.0 t.1 t.2 t.3 (stream_for t.0.what) refl
    go (inr none) = other none (eqb id w.error) refl

-- an item of two lists one behind the other
get_either : {A : Type 0} (xs ys : List A) (n : ℕ) (x : A) → slice_get (xs ++ ys) n ≡ Some x → (slice_get xs n ≡ Some x) ⊎ In x ys
get_either [] ys n x h = inr (at_in ys n x h)
get_either (y ∷ xs) ys zero x h = inl h
get_either (y ∷ xs) ys (suc n) x h = get_either xs ys n x h

known_added : (old new : State) (w : AbortStep old new) (at : Place) → IsHeld new.rows at → IsHeld old.rows at ⊎ IsKnown new at
known_added old new w at (s, h) = go (slice_get (rows_of s.id new.rows) s.nth) refl h
  where
    IsAdded : PlaceTree → Type 0
    IsAdded tree = (alone : Bool) × (tree ≡ last_tree alone w.digest w.reference)

    each : (r : PlacedRow) → In r (added old new w) → IsAdded r.tree
    each r (inl e) = (false, ap (λ (z : PlacedRow). z.tree) e)
    each r (inr i) = last_tree_of w.digest w.reference old.tasks r i

    followed : IsFollowed new (to w.error [])
    followed = (found (first_place w.error), error_walk old new w, tt)

    reference : (p : Place) → RefersTo w.error p → IsKnown new p
    reference p (inl e) = subst (IsKnown new) (sym e) followed
    reference p (inr e) = subst (IsKnown new) (sym e) followed

    in_tree : (alone : Bool) (n : ℕ) → slice_get (last_tree alone w.digest w.reference).places n ≡ Some at → IsKnown new at
    in_tree true zero e = subst (IsKnown new) (same_Some w.reference at e) (reference w.reference w.refers)
    in_tree true (suc n) e = absurd (none-some at e)
    in_tree false zero e = subst (IsKnown new) (same_Some _ at e) tt
    in_tree false (suc n) e = absurd (none-some at e)

    by : (tree : PlaceTree) → slice_get tree.places s.at ≡ Some at → (slice_get (rows_of s.id old.rows) s.nth ≡ Some tree) ⊎ In tree (rows_of s.id (added old new w)) → IsHeld old.rows at ⊎ IsKnown new at
    by tree e (inl q) = inl (s, ap (option_and_then (λ (t : PlaceTree). slice_get t.places s.at)) q ∙ e)
    by tree e (inr i) =
        let a = each_tree IsAdded (added old new w) each s.id tree i in
        inr (in_tree a.0 s.at (subst (λ (z : PlaceTree). slice_get z.places s.at ≡ Some at) a.1 e))

    go : (o : Option PlaceTree) → slice_get (rows_of s.id new.rows) s.nth ≡ o → option_and_then (λ (t : PlaceTree). slice_get t.places s.at) o ≡ Some at → IsHeld old.rows at ⊎ IsKnown new at
    go None e q = absurd (none-some at q)
    go (Some tree) e q = by tree q (get_either (rows_of s.id old.rows) (rows_of s.id (added old new w)) s.nth tree (sym (ap (λ z. slice_get z s.nth) (of_id old new w s.id)) ∙ e))

-- ---- the facts of the state

IsRunning : Status → Type 0
IsRunning (status.Running n) = Unit {0}
IsRunning s = ⊥

IsWaiting : Status → Type 0
IsWaiting (status.Waiting n) = Unit {0}
IsWaiting s = ⊥

pub abort_fits : (g : Ground) (old new : State) → Fits g old → AbortStep old new → Fits g new
unfolding IsRunning IsWaiting
abort_fits g old new f w = fits_on g old new f (moves_of g old new w) (lives_of g old new f w) adds
  where
    homes : new.homes ≡ old.homes
    homes = ap (λ (z : State). z.homes) w.now

    others : new.others ≡ old.others
    others = ap (λ (z : State). z.others) w.now

    counted : new.counted ≡ old.counted
    counted = ap (λ (z : State). z.counted) w.now

    dead : (u : Task) → In u new.tasks → u.status ≡ status.Done
    dead u i = ap (λ (z : Task). z.status) (before old new w u i).2

    finished : (u : Task) → In u new.tasks → u.status ≡ status.Done → IsAlone u.what → ((t : Task) × In t old.tasks × (t.id ≡ u.id) × (t.what ≡ u.what) × (t.status ≡ status.Done)) ⊎ Spells g new (wire.value_of u.id) (of_job (job_at g u))
    finished u i d alone = go (is_live t.status) refl
      where
        t : Task
        t = (before old new w u i).0

        is : u ≡ close t
        is = (before old new w u i).2

        go : (b : Bool) → is_live t.status ≡ b → ((t : Task) × In t old.tasks × (t.id ≡ u.id) × (t.what ≡ u.what) × (t.status ≡ status.Done)) ⊎ Spells g new (wire.value_of u.id) (of_job (job_at g u))
        go true e = inr (subst (λ (z : Task). Spells g new (wire.value_of z.id) (of_job (job_at g z))) (sym is) (spelled g old new f w t (before old new w u i).1 (true_live t.status e) (ap (λ (z : Task). stream_for z.what) (sym is) ∙ alone)))
        go false e = inl (t, (before old new w u i).1, ap (λ (z : Task). z.id) (sym is), ap (λ (z : Task). z.what) (sym is), done_or t.status e)

    streams : (stream : ℕ) (i : Identity) → Paired new.homes (key.Stream stream) i → HomeAt g new (key.Stream stream) i
    streams stream i p =
        let h = f.homes (key.Stream stream) i (subst (λ z. Paired z (key.Stream stream) i) homes p) in
        let id = stream_home g old stream i h in
        subst (HomeAt g new (key.Stream stream)) (sym id.1) (stream_on g old new f w stream id.0 (subst (HomeAt g old (key.Stream stream)) id.1 h))

    adds : Adds g old new
    adds =
        record {
          follow_on = follows g old new f w;
          known = known_added old new w;
          one_home = λ k i j p q. f.one_home k i j (subst (λ z. Paired z k i) homes p) (subst (λ z. Paired z k j) homes q);
          one_key = λ k l i p q. f.one_key k l i (subst (λ z. Paired z k i) homes p) (subst (λ z. Paired z l i) homes q);
          homes = λ k i lasting p. inl (subst (λ z. Paired z k i) homes p);
          streams = streams;
          others = λ k id i. inl (subst (In (k, id)) others i);
          one_row = λ k a b i j. f.one_row k a b (subst (In (k, a)) others i) (subst (In (k, b)) others j);
          one_row_key = λ k l id i j. f.one_row_key k l id (subst (In (k, id)) others i) (subst (In (l, id)) others j);
          one_task = subst (λ z. Distinct (own_ids z)) (sym (tasks_now old new w)) (closed_distinct old.tasks f.one_task);
          tasks = λ u i. let x = before old new w u i in inl (x.0, x.1, ap (λ (z : Task). z.what) (sym x.2));
          remembered = λ u n i e. absurd (subst IsRunning (sym e ∙ dead u i) tt);
          waiting = λ u n i e. absurd (subst IsWaiting (sym e ∙ dead u i) tt);
          unwritten = λ u i l alone. absurd (subst IsLive (dead u i) l);
          finished = finished;
          open_for = λ u n i l e. absurd (subst IsLive (dead u i) l);
          counted_once = subst (λ z. Distinct (map (λ p. p.0) z)) (sym counted) f.counted_once;
          counted = λ a c i. inl (subst (In (a, c)) counted i);
        }

-- ---- the first abort, in a quiet state

ended_stream : (g : Ground) (old new : State) → Fits g old → IsQuiet old → old.ended ≡ [] → (w : AbortStep old new) → (stream id : ℕ) → StreamAt g old stream id → EndedHome g new w.digest (key.Stream stream) (stream_of id)
ended_stream g old new f quiet none w stream id x =
    let a = quiet_flow g old f quiet none stream id x in
    let s = stream_after g old new f w stream id x in
    record {
      here = flow_shape g new.settled x.flows;
      there = record { label = store.stream x.flows.flow (wire.state_of (flowed id 1 s.behind).end); slots = (flowed id 1 s.behind).items ++ wire.final_slots (flowed id 1 s.behind).end };
      is_here = ap (option_map (flow_shape g new.settled)) x.is_stream;
      is_there = ap (wire.stream_shape id) s.rows ∙ ap (λ k. opened k (flowed id 1 s.behind)) x.opens;
      labels = ap (λ z. ended_label w.digest (flow_shape g z x.flows).label) settled ∙ (ap (λ z. ended_label w.digest (store.stream x.flows.flow z)) a.0 ∙ s.label);
      slots = subst (λ z. AllZip (SpelledBy g new) (flow_shape g z x.flows).slots ((flowed id 1 s.behind).items ++ wire.final_slots (flowed id 1 s.behind).end)) (sym settled)
          (subst (AllZip (SpelledBy g new) (flow_shape g old.settled x.flows).slots) (sym s.slots)
          (zip-map (SpelledBy g old) (SpelledBy g new) (λ e m. spells_on g old new f (moves_of g old new w) (lives_of g old new f w) m e) (flow_shape g old.settled x.flows).slots ((flowed id 1 x.behind).items ++ wire.final_slots (flowed id 1 x.behind).end) a.1));
    }
  where
    settled : new.settled ≡ old.settled
    settled = ap (λ (z : State). z.settled) w.now

pub first_aborted : (g : Ground) (old new : State) → Fits g old → IsQuiet old → old.ended ≡ [] → (w : AbortStep old new) → IsAborted g new w.digest
first_aborted g old new f quiet none w =
    record {
      closed = λ u i. ap (λ (z : Task). z.status) (before old new w u i).2;
      waited = waited;
      errors = λ id e i. subst (λ z. IsErrorRow new.rows z w.digest) (sym (only id e i).4) (is_error old new w);
      streams = λ stream id p. ended_stream g old new f quiet none w stream id (f.homes (key.Stream stream) (stream_of id) (subst (λ (z : State). Paired z.homes (key.Stream stream) (stream_of id)) w.now p));
    }
  where
    only : (id e : ℕ) → In {A = ℕ × ℕ} (id, e) new.ended → (t : Task) × In t old.tasks × IsLive t.status × (t.id ≡ id) × (e ≡ w.error)
    only id e i = ends_from w.error old.tasks id e (subst (λ z. In {A = ℕ × ℕ} (id, e) (z ++ ends_of w.error old.tasks)) none (subst (λ (z : State). In {A = ℕ × ℕ} (id, e) z.ended) w.now i))

    waited : (u : Task) (e : ℕ) → In u new.tasks → IsAlone u.what → In (u.id, e) new.ended → (s : ℕ) × (comes g new.settled (job_at g u) ≡ Some (waits s))
    waited u e i alone k =
        let b = before old new w u i in
        let t = only u.id e k in
        let same : t.0 ≡ b.0 = one_of old.tasks f.one_task t.0 b.0 t.1 b.1 (live_owns t.0 t.2) (alone_owns b.0 (ap (λ (z : Task). stream_for z.what) (sym b.2) ∙ alone)) (t.3 ∙ ap (λ (z : Task). z.id) b.2) in
        let s = at_rest g old f t.0 t.1 t.2 (quiet t.0 t.1) in
        let job : job_at g u ≡ job_at g t.0 = ap (job_at g) b.2 ∙ ap (job_at g) (sym same) in
        (s.0, subst (λ (z : State). comes g z.settled (job_at g u) ≡ Some (waits s.0)) (sym w.now) (ap (comes g old.settled) job ∙ s.1.0))

-- an abort leaves no live task
pub abort_closed : (old new : State) → AbortStep old new → (u : Task) → In u new.tasks → u.status ≡ status.Done
abort_closed old new w u i = ap (λ (z : Task). z.status) (before old new w u i).2
