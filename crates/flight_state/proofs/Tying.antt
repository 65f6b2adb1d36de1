-- The steps that write no value keep the writer's homes and next id those of the state.
use Rattle.std.proofs.Common.{◌≡◌, ◌≢◌, ℕ, suc, ◌<◌, Bool, true, false, eqb, eqb-true, ◌⊎◌, inl, inr, ⊎_elim, [], ◌++◌, map, Some, refl, sym, ap, ◌∙◌, subst, append-nil, arith}
use Rattle.std.proofs.lemmas.Bool.{eqb-false}
use Rattle.std.specs.Prelude.{slice_get, slice_set}
use Rattle.flight_value.specs.Store.{Paired}
use Rattle.flight_value.specs.declared.key.Key.{Key}
use Rattle.flight_value.specs.declared.key.Key.TheVariants as key
use Rattle.flight_text.specs.declared.mark.Ref.{Ref}
use Rattle.flight_render.specs.declared.root.Ground.{Ground}
use Rattle.flight_value.specs.Listed.{In}
use Rattle.flight_render.specs.Values.{is_settled}
use Rattle.flight_render.specs.Laws.{Grows}
use Rattle.flight_render.proofs.Larger.{node-keeps}
use Rattle.flight_meaning.specs.Linked.{rows_of}
use Rattle.flight_meaning.specs.Resolve.{found, Ends}
use Rattle.flight_meaning.specs.Meaning.{Identity, stream_of}
use Rattle.flight_meaning.proofs.MoreRows.{end-more}
use Rattle.flight_state.specs.State.{State, Task, IsLive}
use Rattle.flight_state.specs.Steps.{close, woken, taken, stopped_at, with_task, Extends, TakeStep, WaitStep, PingStep, AbortStep, opening}
use Rattle.flight_state.specs.Local as local
use Rattle.flight_state.specs.Local.{Homes, TiedTo, Tied, id_of, Below}
use Rattle.flight_state.proofs.Lists.{map_in, at_in, set_back}
use Rattle.flight_state.proofs.Tasks.{grows_at}
use Rattle.flight_state.proofs.Joined.{names_at_on}
use Rattle.flight_state.proofs.LastRows.{NoneLive, none_last, live_or_none}
use Rattle.flight_state.proofs.Aborting.{added, of_id, other_added}

-- ---- homes

tie_kept : (g : Ground) (old new : State) → Grows old.settled new.settled → Extends old.rows new.rows → new.homes ≡ old.homes → new.others ≡ old.others → (k : Key) (a : Ref) → TiedTo g old k a → TiedTo g new k a
tie_kept g old new grows more homes others k a (local.node_tie shape i lasting at p names) =
    local.node_tie shape i lasting (node-keeps g old.settled new.settled grows k shape lasting at) (subst (λ z. Paired z k i) (sym homes) p)
    (names_at_on shape.label old.rows new.rows (λ s t h. subst (λ z. Ends z s (found t)) (sym more.1) (end-more old.rows more.0 s (found t) tt h)) a i names)
tie_kept g old new grows more homes others k a (local.stream_tie n p) = local.stream_tie n (subst (λ z. Paired z (key.Stream n) (stream_of a.id)) (sym homes) p)
tie_kept g old new grows more homes others k a (local.row_tie is i) = local.row_tie is (subst (In (k, a.id)) (sym others) i)

tied_kept : (g : Ground) (old new : State) (homes : Homes) → Grows old.settled new.settled → Extends old.rows new.rows → new.homes ≡ old.homes → new.others ≡ old.others → Tied g old homes → Tied g new homes
tied_kept g old new homes grows more same others t =
    record { tie = λ k a i. tie_kept g old new grows more same others k a (t.tie k a i); back = λ k i p. t.back k i (subst (λ z. Paired z k i) same p); back_row = λ k id i. t.back_row k id (subst (In (k, id)) others i) }

pub tied_take : (g : Ground) (old new : State) (task : ℕ) (homes : Homes) → TakeStep old new task → Tied g old homes → Tied g new homes
tied_take g old new task homes w t = subst (λ z. Tied g z homes) (sym w.now) (tied_kept g old (with_task old task (taken old.settled w.task)) homes (λ i h. h) ([], sym (append-nil old.rows)) refl refl t)

pub tied_wait : (g : Ground) (old new : State) (task source : ℕ) (homes : Homes) → WaitStep g old new task source → Tied g old homes → Tied g new homes
tied_wait g old new task source homes w t = subst (λ z. Tied g z homes) (sym w.now) (tied_kept g old (with_task old task (stopped_at old.settled source w.task)) homes (λ i h. h) ([], sym (append-nil old.rows)) refl refl t)

pub tied_ping : (g : Ground) (old new : State) (source : ℕ) (homes : Homes) → PingStep old new source → Tied g old homes → Tied g new homes
tied_ping g old new source homes w t =
    subst (λ z. Tied g z homes) (sym w.now)
    (tied_kept g old (record old { settled = slice_set old.settled source true; tasks = map (woken source) old.tasks }) homes (grows_at old.settled source) ([], sym (append-nil old.rows)) refl refl t)

pub tied_abort : (g : Ground) (old new : State) (homes : Homes) → AbortStep old new → Tied g old homes → Tied g new homes
tied_abort g old new homes w t =
    tied_kept g old new homes (λ i h. subst (λ (z : State). is_settled z.settled i ≡ true) (sym w.now) h) (_, ap (λ (z : State). z.rows) w.now) (ap (λ (z : State). z.homes) w.now) (ap (λ (z : State). z.others) w.now) t

-- ---- ids

below_set : (old : State) (n start : ℕ) (t u : Task) → slice_get old.tasks n ≡ Some t → u.id ≡ t.id → Below old start → Below (with_task old n u) start
below_set old n start t u at same b =
    record { rows = b.rows; homes = b.homes; others = b.others; tasks = λ x i. ⊎_elim (λ e. omega (arith, ap (λ (z : Task). z.id) e, same, b.tasks t (at_in old.tasks n t at))) (λ k. b.tasks x k) (set_back old.tasks n u x i) }

pub below_take : (old new : State) (task start : ℕ) → TakeStep old new task → Below old start → Below new start
below_take old new task start w b = subst (λ z. Below z start) (sym w.now) (below_set old task start w.task (taken old.settled w.task) w.is_task refl b)

pub below_wait : (g : Ground) (old new : State) (task source start : ℕ) → WaitStep g old new task source → Below old start → Below new start
below_wait g old new task source start w b = subst (λ z. Below z start) (sym w.now) (below_set old task start w.task (stopped_at old.settled source w.task) w.is_task refl b)

pub below_ping : (old new : State) (source start : ℕ) → PingStep old new source → Below old start → Below new start
below_ping old new source start w b =
    subst (λ z. Below z start) (sym w.now)
    (record { rows = b.rows; homes = b.homes; others = b.others; tasks = λ u i. let x = map_in (woken source) old.tasks u i in omega (arith, ap (λ (z : Task). z.id) x.2, b.tasks x.0 x.1) })

-- an abort takes the next id for its error row
pub below_abort : (old new : State) (w : AbortStep old new) → Below old w.error → Below new (suc w.error)
below_abort old new w b =
    record {
      rows = λ n h. row n h (eqb n w.error) refl (live_or_none old.tasks n);
      tasks = λ u i. let x = map_in close old.tasks u (subst (λ (z : State). In u z.tasks) w.now i) in omega (arith, ap (λ (z : Task). z.id) x.2, b.tasks x.0 x.1);
      homes = λ k i p. omega (arith, b.homes k i (subst (λ (z : State). Paired z.homes k i) w.now p));
      others = λ k id i. omega (arith, b.others k id (subst (λ (z : State). In (k, id) z.others) w.now i));
    }
  where
    row : (n : ℕ) → rows_of n new.rows ≢ [] → (c : Bool) → eqb n w.error ≡ c → ((t : Task) × In t old.tasks × IsLive t.status × (t.id ≡ n)) ⊎ NoneLive old.tasks n → n < suc w.error
    row n h true e y = let same = eqb-true n w.error e in omega (arith, same)
    row n h false e (inl t) = omega (arith, b.tasks t.0 t.1, t.3)
    row n h false e (inr none) =
        omega (arith, b.rows n (λ q. h (of_id old new w n ∙ (ap (λ z. z ++ rows_of n (added old new w)) q ∙ (other_added old new w n (eqb-false n w.error e) ∙ none_last w.digest w.reference old.tasks n none)))))

-- ---- the opening state

no_pair : (k : Key) (i : Identity) → Paired [] k i → ⊥
no_pair k i p = omega (arith, p.1)

pub tied_opening : (g : Ground) → Tied g (opening g) []
tied_opening g = record { tie = λ k a i. absurd i; back = λ k i p. absurd (no_pair k i p); back_row = λ k id i. absurd i }

pub below_opening : (g : Ground) → Below (opening g) 1
below_opening g =
    record {
      rows = λ n h. absurd (h refl);
      tasks = λ t i. ⊎_elim (λ e. let same : t.id ≡ 0 = ap (λ (z : Task). z.id) e in omega (arith, same)) (λ k. absurd k) i;
      homes = λ k i p. absurd (no_pair k i p);
      others = λ k id i. absurd i;
    }
