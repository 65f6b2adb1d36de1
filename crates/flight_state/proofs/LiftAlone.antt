-- The step of a task with a row of its own, from what its writer and the request do.
use Rattle.std.proofs.Common.{◌≡◌, ℕ, ◌⊎◌, inl, inr, ⊎_elim, List, [], ◌∷◌, Option, Some, None, refl, sym, ap, ◌∙◌, subst, append-nil}
use Rattle.std.proofs.lemmas.Option.{none-some}
use Rattle.std.specs.Prelude.{slice_set}
use Rattle.flight_value.specs.declared.key.Key.TheVariants as key
use Rattle.flight_render.specs.declared.root.Ground.{Ground}
use Rattle.flight_render.specs.Jobs.{value_of, comes}
use Rattle.flight_value.specs.Listed.{In, Distinct}
use Rattle.flight_render.specs.Costs.{Reached, through}
use Rattle.flight_render.specs.Valid.{IsValidGround}
use Rattle.flight_meaning.specs.declared.place.PlaceTree.{PlaceTree}
use Rattle.flight_meaning.specs.Linked.{rows_of, first_place}
use Rattle.flight_meaning.specs.Meaning.{stream_of}
use Rattle.flight_state.specs.State.{State, IsLive, own_ids, job_at, stream_for}
use Rattle.flight_state.specs.Fits.{ReachedBy, Fits}
use Rattle.flight_state.specs.Steps.{close, DoneStep}
use Rattle.flight_state.specs.Emits.{EmitsWell}
use Rattle.flight_state.specs.Local.{Homes, value_seen, Tied, Below, WritesHere}
use Rattle.flight_state.proofs.Lists.{at_in}
use Rattle.flight_state.proofs.Owned.{alone_owns}
use Rattle.flight_state.proofs.Tasks.{ids_set, gives_now}
use Rattle.flight_state.proofs.Emitting.{settled_is, finish_fits}
use Rattle.flight_state.proofs.Alike.{Apart}
use Rattle.flight_state.proofs.Joined.{value_same}
use Rattle.flight_state.proofs.Lift.{Lifting, some_rows, fresh_none, value_row_new}
use Rattle.flight_state.proofs.Lifted.{follows_at, one_task_by, not_born, Rest, emits_by, tied_new, below_new}

-- what the writer and the request do, with what holds before
record Alone (g : Ground) (old new : State) (number start next : ℕ) (before behind : Homes) : Type 0 where
  valid : IsValidGround g
  fits : Fits g old
  tied : Tied g old before
  low : Below old start
  writes : WritesHere g old new number start next before behind

gives : (g : Ground) (old new : State) (number start next : ℕ) (before behind : Homes) (w : Alone g old new number start next before behind) → comes g old.settled (job_at g w.writes.step.task) ≡ Some w.writes.step.end
gives g old new number start next before behind w =
    let d = w.writes.step in gives_now g w.valid old number d.task d.turn d.end w.fits d.is_task d.was d.finds d.finishes

no_row : (g : Ground) (old new : State) (number start next : ℕ) (before behind : Homes) (w : Alone g old new number start next before behind) → rows_of w.writes.step.task.id old.rows ≡ []
no_row g old new number start next before behind w =
    let d = w.writes.step in w.fits.unwritten d.task (at_in old.tasks number d.task d.is_task) (subst IsLive (sym d.was) tt) w.writes.alone

apart : (g : Ground) (old new : State) (number start next : ℕ) (before behind : Homes) (w : Alone g old new number start next before behind) → Apart old.rows w.writes.rows
apart g old new number start next before behind w n = go (rows_of n w.writes.rows) refl
  where
    go : (ts : List PlaceTree) → rows_of n w.writes.rows ≡ ts → (rows_of n old.rows ≡ []) ⊎ (rows_of n w.writes.rows ≡ [])
    go [] e = inr e
    go (t ∷ ts) e =
        inl (⊎_elim (λ q. ap (λ z. rows_of z old.rows) q ∙ no_row g old new number start next before behind w) (λ f. fresh_none old start w.low n f.0)
        (w.writes.local.adds.row_fresh n (λ q. some_rows t ts (sym e ∙ q))))

-- the value is reached
end_reached : (g : Ground) (old new : State) (number start next : ℕ) (before behind : Homes) (w : Alone g old new number start next before behind) → Reached g new.settled (value_seen g w.writes.seen (job_at g w.writes.step.task) w.writes.step.end)
end_reached g old new number start next before behind w =
    subst (λ z. Reached g z (value_seen g w.writes.seen (job_at g d.task) d.end)) (sym (settled_is g old new number d))
    (subst (Reached g old.settled) (value_same g old.settled [] (job_at g d.task) d.end) (go (stream_for d.task.what) w.writes.alone (w.fits.reached d.task (at_in old.tasks number d.task d.is_task))))
  where
    d : DoneStep g old new number
    d = w.writes.step

    go : (o : Option ℕ) → o ≡ None → ReachedBy g old.settled (job_at g d.task) o → Reached g old.settled (value_of g old.settled (job_at g d.task) d.end)
    go None e r = through r.1 r.2 (gives g old new number start next before behind w)
    go (Some n) e r = absurd (none-some n (sym e))

abbrev lifting : (g : Ground) (old new : State) (number start next : ℕ) (before behind : Homes) → Alone g old new number start next before behind → Lifting
lifting g old new number start next before behind w =
    record {
      g = g;
      old = old;
      new = new;
      number = number;
      seen = w.writes.seen;
      start = start;
      below_next = next;
      before = before;
      behind = behind;
      rows = w.writes.rows;
      births = w.writes.births;
      meant = w.writes.meant;
      fits = w.fits;
      step = w.writes.step;
      gives = gives g old new number start next before behind w;
      tied = w.tied;
      low = w.low;
      shows = w.writes.shows;
      own = Some w.writes.step.task.id;
      own_id = λ n e. e;
      front = [];
      ahead = [];
      base = old.rows;
      is_base = sym (append-nil old.rows);
      base_same = λ n h. refl;
      apart = apart g old new number start next before behind w;
      all = w.writes.meant;
      among = λ s v i. i;
      ahead_low = λ id v i. absurd i;
      first = value_seen g w.writes.seen (job_at g w.writes.step.task) w.writes.step.end;
      first_reached = λ id v i. end_reached g old new number start next before behind w;
      local = w.writes.local.adds;
      adopts = w.writes.adopts;
    }

rest : (g : Ground) (old new : State) (number start next : ℕ) (before behind : Homes) (w : Alone g old new number start next before behind) → Rest (lifting g old new number start next before behind w)
rest g old new number start next before behind w =
    record {
      follow_on = λ n. follows_at l n (w.fits.follow_on n);
      value_row = λ alone. (value_row_new l d.task.id w.writes.local.own.0, subst (λ v. In (first_place d.task.id, v) w.writes.meant) (value_same g [] new.settled (job_at g d.task) d.end) w.writes.local.own.1);
      places = λ s v i. inl i;
      held = λ s at h. inl (s, h);
      own_step = λ n p. let x = w.fits.homes (key.Stream n) (stream_of d.task.id) p in absurd (some_rows x.opener x.behind (sym x.rows ∙ no_row g old new number start next before behind w));
      one_task = one_task_by l (subst Distinct (sym same) w.fits.one_task) w.writes.local.adds.born_once (λ x i j. not_born l x (subst (In x) same i) j);
      reached = λ u i. absurd i;
      tabled = λ u i. absurd i;
      not_alone = λ u i a. i;
      open_for = λ u n i e. absurd i;
    }
  where
    d : DoneStep g old new number
    d = w.writes.step

    l : Lifting
    l = lifting g old new number start next before behind w

    same : own_ids (slice_set old.tasks number (close w.writes.step.task)) ≡ own_ids old.tasks
    same = ids_set old.tasks number w.writes.step.task (close w.writes.step.task) w.writes.step.is_task refl
        (alone_owns (close w.writes.step.task) w.writes.alone ∙ sym (alone_owns w.writes.step.task w.writes.alone))

pub lift_well : (g : Ground) → IsValidGround g → (old new : State) (number start next : ℕ) (before behind : Homes) → Fits g old → Tied g old before → Below old start → (w : WritesHere g old new number start next before behind) → EmitsWell g old new w.step.task w.step.born w.step.end w.meant
lift_well g valid old new number start next before behind f tied low w =
    let a : Alone g old new number start next before behind = record { valid = valid; fits = f; tied = tied; low = low; writes = w } in
    emits_by (lifting g old new number start next before behind a) (rest g old new number start next before behind a)

pub lift_fits : (g : Ground) → IsValidGround g → (old new : State) (number start next : ℕ) (before behind : Homes) → Fits g old → Tied g old before → Below old start → WritesHere g old new number start next before behind → Fits g new
lift_fits g valid old new number start next before behind f tied low w = finish_fits g valid old new number w.meant f w.step (lift_well g valid old new number start next before behind f tied low w)

pub lift_tied : (g : Ground) → IsValidGround g → (old new : State) (number start next : ℕ) (before behind : Homes) → Fits g old → Tied g old before → Below old start → WritesHere g old new number start next before behind → Tied g new behind
lift_tied g valid old new number start next before behind f tied low w = tied_new (lifting g old new number start next before behind (record { valid = valid; fits = f; tied = tied; low = low; writes = w }))

pub lift_below : (g : Ground) → IsValidGround g → (old new : State) (number start next : ℕ) (before behind : Homes) → Fits g old → Tied g old before → Below old start → WritesHere g old new number start next before behind → Below new next
lift_below g valid old new number start next before behind f tied low w = below_new (lifting g old new number start next before behind (record { valid = valid; fits = f; tied = tied; low = low; writes = w }))
