-- A stream at its home: in a quiet state its rows have just what sequential rendering has of it.
use Rattle.std.proofs.Common.{◌≡◌, ℕ, Bool, List, [], ◌∷◌, ◌++◌, length, Option, Some, None, option_map, refl, sym, ap, ◌∙◌, subst, append-nil}
use Rattle.std.proofs.lemmas.Option.{none-some, same_Some}
use Rattle.std.specs.Prelude.{slice_get}
use Rattle.std.specs.List.{AllZip}
use Rattle.flight_value.specs.declared.key.Key.{Key}
use Rattle.flight_value.specs.declared.key.Key.TheVariants as key
use Rattle.flight_value.specs.declared.made.Tree.{Tree}
use Rattle.flight_syntax.specs.declared.script.Flowing.{Flowing}
use Rattle.flight_render.specs.declared.root.Ground.{Ground}
use Rattle.flight_render.specs.Run.{gave, threw, waits}
use Rattle.flight_render.specs.Jobs.{outcome, Value, of_job, comes}
use Rattle.flight_render.specs.Plain as plain
use Rattle.flight_render.specs.Plain.{last_job, next_job, flow, flow_last, flow_item, flow_shape, flow_slots}
use Rattle.flight_value.specs.Listed.{In}
use Rattle.flight_render.specs.Attempt.{source_job, item_job, end_job, job_for}
use Rattle.flight_meaning.specs.Linked.{rows_of}
use Rattle.flight_row.specs.declared.row.RowKind.TheVariants as row
use Rattle.flight_value.specs.Store as store
use Rattle.flight_meaning.specs.Meaning as wire
use Rattle.flight_meaning.specs.Meaning.{Written, Identity, made_at, promise_of, stream_of, action_of, FlowEnd, flowing, closed_with, broken_by, Flowed, flowed, stream_shape, opened}
use Rattle.flight_state.specs.declared.status.Status.{Status}
use Rattle.flight_state.specs.declared.status.Status.TheVariants as status
use Rattle.flight_state.specs.State.{State, Task, IsLive, next_by, next_what, job_at, IsAtRest, IsQuiet}
use Rattle.flight_state.specs.Spells.{SpelledBy, AtHome, AllGive, values_of, EndsAt, is_going, is_closed, is_broken, is_ended, StreamAt, HomeAt}
use Rattle.flight_state.specs.Fits.{WaitsFor, Fits}
use Rattle.flight_state.proofs.Lists.{zip-append}

-- ---- what rendering has of a stream

pub flow-split : (g : Ground) (s : List Bool) (written left : List ℕ) (last : Option ℕ) → AllGive g s written → flow g s (written ++ left) last ≡ record { items = values_of written ++ (flow g s left last).items; end = (flow g s left last).end }
flow-split g s [] left last a = refl
flow-split g s (i ∷ written) left last a =
    ap (λ z. flow_item (outcome i) z (flow g s (written ++ left) last)) a.0.1
    ∙ ap (flow_item (outcome i) (Some (gave a.0.0))) (flow-split g s written left last a.1)

flow-waits : (g : Ground) (s : List Bool) (left : List ℕ) (last : Option ℕ) (n : ℕ) → comes g s (next_job left last) ≡ Some (waits n) → flow g s left last ≡ record { items = []; end = plain.going }
flow-waits g s [] last n h = ap (flow_last (last_job last)) h
flow-waits g s (i ∷ rest) last n h = ap (λ z. flow_item (outcome i) z (flow g s rest last)) h

flow-throws : (g : Ground) (s : List Bool) (left : List ℕ) (last : Option ℕ) (d : List ℕ) → comes g s (next_job left last) ≡ Some (threw d) → flow g s left last ≡ record { items = []; end = plain.broken d }
flow-throws g s [] last d h = ap (flow_last (last_job last)) h
flow-throws g s (i ∷ rest) last d h = ap (λ z. flow_item (outcome i) z (flow g s rest last)) h

flow-closes : (g : Ground) (s : List Bool) (left : List ℕ) (last : Option ℕ) (x : Tree) → left ≡ [] → comes g s (last_job last) ≡ Some (gave x) → flow g s left last ≡ record { items = []; end = plain.closed (of_job (last_job last)) }
flow-closes g s left last x none h = ap (λ z. flow g s z last) none ∙ ap (flow_last (last_job last)) h

-- ---- the job of a stream's next task

pub slice_get-behind : {A : Type 0} (xs ys : List A) → slice_get (xs ++ ys) (length xs) ≡ slice_get ys 0
slice_get-behind [] ys = refl
slice_get-behind (x ∷ xs) ys = slice_get-behind xs ys

-- of a stream's source
job_of-next : (g : Ground) (stream : ℕ) (f : Flowing) (count : ℕ) (o : Option ℕ) → slice_get g.script.streams stream ≡ Some f → slice_get f.items count ≡ o → (left : List ℕ) → slice_get left 0 ≡ o → job_for g (next_by stream count o) ≡ next_job left f.last
job_of-next g stream f count None is at [] e = ap (λ z. end_job z) is
job_of-next g stream f count None is at (i ∷ left) e = absurd (none-some i (sym e))
job_of-next g stream f count (Some i) is at [] e = absurd (none-some i e)
job_of-next g stream f count (Some i) is at (k ∷ left) e =
    ap (λ z. item_job z count) is ∙ (ap source_job at ∙ ap outcome (sym (same_Some k i e)))

-- the next task is for the first of the sources that are left
pub next_is : (g : Ground) (stream : ℕ) (f : Flowing) (written left : List ℕ) → slice_get g.script.streams stream ≡ Some f → f.items ≡ written ++ left → job_for g (next_what stream f.items (length written)) ≡ next_job left f.last
next_is g stream f written left is split =
    job_of-next g stream f (length written) (slice_get f.items (length written)) is refl left (sym (slice_get-behind written left) ∙ sym (ap (λ z. slice_get z (length written)) split))

-- ---- in a quiet state

-- what a stream has in sequential rendering fits what its rows have
abbrev pub Agrees : Ground → State → plain.Flowed Value → Flowed → Type 0
Agrees g st a b = (plain.state_of a.end ≡ wire.state_of b.end) × AllZip (SpelledBy g st) (flow_slots a) (b.items ++ wire.final_slots b.end)

plus_nothing : (g : Ground) (st : State) (xs : List Value) (ys : List Written) → AllZip (SpelledBy g st) xs ys → AllZip (SpelledBy g st) ((xs ++ []) ++ []) (ys ++ [])
plus_nothing g st xs ys a = zip-append (SpelledBy g st) (xs ++ []) [] ys [] (subst (λ z. AllZip (SpelledBy g st) z ys) (sym (append-nil xs)) a) tt

-- a live task at rest waits
pub at_rest : (g : Ground) (st : State) → Fits g st → (t : Task) → In t st.tasks → IsLive t.status → IsAtRest t.status → (source : ℕ) × WaitsFor g st.settled (job_at g t) source
at_rest g st f t i live rest = go t.status refl live rest
  where
    go : (s : Status) → t.status ≡ s → IsLive s → IsAtRest s → (source : ℕ) × WaitsFor g st.settled (job_at g t) source
    go status.Ready e l r = absurd r
    go (status.Running turn) e l r = absurd r
    go (status.Waiting source) e l r = (source, f.waiting t source i e)
    go status.Done e l r = absurd l

pub quiet_flow : (g : Ground) (st : State) → Fits g st → IsQuiet st → st.ended ≡ [] → (stream id : ℕ) → (x : StreamAt g st stream id) → Agrees g st (flow g st.settled x.flows.items x.flows.last) (flowed id 1 x.behind)
quiet_flow g st fits quiet none stream id x =
    subst (λ z. Agrees g st z (flowed id 1 x.behind)) (sym (ap (λ z. flow g st.settled z x.flows.last) x.split ∙ flow-split g st.settled x.written x.left x.flows.last x.gave))
    (go (flowed id 1 x.behind).end x.ends)
  where
    items : List Written
    items = (flowed id 1 x.behind).items

    by : (e : FlowEnd) (a : plain.Flowed Value) → flow g st.settled x.left x.flows.last ≡ a → Agrees g st (record { items = values_of x.written ++ a.items; end = a.end }) (record { items = items; end = e })
        → Agrees g st (record { items = values_of x.written ++ (flow g st.settled x.left x.flows.last).items; end = (flow g st.settled x.left x.flows.last).end }) (record { items = items; end = e })
    by e a same h = subst (λ z. Agrees g st (record { items = values_of x.written ++ z.items; end = z.end }) (record { items = items; end = e })) (sym same) h

    go : (e : FlowEnd) → EndsAt g st stream id x.flows (length x.written) x.left e
        → Agrees g st (record { items = values_of x.written ++ (flow g st.settled x.left x.flows.last).items; end = (flow g st.settled x.left x.flows.last).end }) (record { items = items; end = e })
    go _ (is_going t i same live is) =
        let w = at_rest g st fits t i live (quiet t i) in
        let job : job_at g t ≡ next_job x.left x.flows.last = ap (job_for g) is ∙ next_is g stream x.flows x.written x.left x.is_stream x.split in
        by flowing (record { items = []; end = plain.going }) (flow-waits g st.settled x.left x.flows.last w.0 (ap (comes g st.settled) (sym job) ∙ w.1.0)) (refl, plus_nothing g st (values_of x.written) items x.items)
    go _ (is_closed w t empty by_last spelled) =
        by (closed_with w) (record { items = []; end = plain.closed (of_job (last_job x.flows.last)) }) (flow-closes g st.settled x.left x.flows.last t empty by_last)
        (refl, zip-append (SpelledBy g st) (values_of x.written ++ []) (of_job (last_job x.flows.last) ∷ []) items (w ∷ []) (subst (λ z. AllZip (SpelledBy g st) z items) (sym (append-nil (values_of x.written))) x.items) (spelled, tt))
    go _ (is_broken d h) =
        by (broken_by d) (record { items = []; end = plain.broken d }) (flow-throws g st.settled x.left x.flows.last d h) (refl, plus_nothing g st (values_of x.written) items x.items)
    go _ (is_ended d e among error) = absurd (subst (λ z. In {A = ℕ × ℕ} (id, e) z) none among)

pub stream_there : (g : Ground) (st : State) (stream id : ℕ) (x : StreamAt g st stream id) → stream_shape id (rows_of id st.rows) ≡ opened (row.Open x.flows.flow) (flowed id 1 x.behind)
stream_there g st stream id x = ap (stream_shape id) x.rows ∙ ap (λ z. opened z (flowed id 1 x.behind)) x.opens

pub quiet_stream : (g : Ground) (st : State) → Fits g st → IsQuiet st → st.ended ≡ [] → (stream id : ℕ) → StreamAt g st stream id → AtHome g st (key.Stream stream) (stream_of id)
quiet_stream g st fits quiet none stream id x =
    let a = quiet_flow g st fits quiet none stream id x in
    record {
      here = flow_shape g st.settled x.flows;
      there = record { label = store.stream x.flows.flow (wire.state_of (flowed id 1 x.behind).end); slots = (flowed id 1 x.behind).items ++ wire.final_slots (flowed id 1 x.behind).end };
      is_here = ap (option_map (flow_shape g st.settled)) x.is_stream;
      is_there = stream_there g st stream id x;
      labels = ap (store.stream x.flows.flow) a.0;
      slots = a.1;
    }

pub quiet_home : (g : Ground) (st : State) → Fits g st → IsQuiet st → st.ended ≡ [] → (k : Key) (i : Identity) → HomeAt g st k i → AtHome g st k i
quiet_home g st f quiet none (key.Stream stream) (stream_of id) x = quiet_stream g st f quiet none stream id x
quiet_home g st f quiet none (key.Stream stream) (made_at s) x = absurd x
quiet_home g st f quiet none (key.Stream stream) (promise_of id) x = absurd x
quiet_home g st f quiet none (key.Stream stream) (action_of id) x = absurd x
quiet_home g st f quiet none (key.Made n) i x = x.1
quiet_home g st f quiet none (key.Source source n) i x = x.1
quiet_home g st f quiet none (key.Settled source) i x = x.1
quiet_home g st f quiet none (key.Action action) i x = x.1
quiet_home g st f quiet none (key.Client client) i x = x.1
quiet_home g st f quiet none (key.Symbol name) i x = x.1
quiet_home g st f quiet none (key.Server n) i x = x.1
