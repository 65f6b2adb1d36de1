-- A step that only adds keeps what the slots spell.
use Rattle.std.proofs.Common.{◌≡◌, ℕ, Bool, true, ◌⊎◌, inl, inr, ⊎_elim, List, [], ◌∷◌, ◌++◌, map, length, Option, Some, None, is_some, refl, sym, ap, ◌∙◌, subst}
use Rattle.std.proofs.lemmas.Option.{none-some, same_Some}
use Rattle.std.specs.List.{AllZip}
use Rattle.flight_value.specs.Store as target
use Rattle.flight_value.specs.Store.{Target, Shape, TargetsFit, Paired}
use Rattle.flight_value.specs.declared.key.Key.{Key}
use Rattle.flight_value.specs.declared.key.Key.TheVariants as key
use Rattle.flight_value.specs.declared.made.Tree.TheVariants as tree
use Rattle.flight_syntax.specs.declared.script.Flowing.{Flowing}
use Rattle.flight_render.specs.declared.root.Ground.{Ground}
use Rattle.flight_render.specs.declared.job.What.{What}
use Rattle.flight_render.specs.declared.job.What.TheVariants as what
use Rattle.flight_render.specs.Run.{gave, threw}
use Rattle.flight_render.specs.Bodies.{element_of}
use Rattle.flight_render.specs.Jobs.{Job, the_root, outcome, Value, of_job, shown, failed, stopped, job_of, Leads, IsTarget, target_of}
use Rattle.flight_render.specs.Plain.{last_job, next_job}
use Rattle.flight_value.specs.Listed.{In, Distinct}
use Rattle.flight_render.specs.Costs.{Rendered, address_of}
use Rattle.flight_render.specs.Attempt.{IsTabled, job_for}
use Rattle.flight_render.specs.Laws.{Grows, IsLasting, IsThere}
use Rattle.flight_render.proofs.Larger.{there_by-shape, job_of-keeps, job_of-none, leads-keeps, has_job-final, node-keeps, node_at-keeps, tabled-keeps, node-final, comes-keeps, reached-keeps, rendered-keeps}
use Rattle.flight_meaning.specs.declared.place.Place.{Place}
use Rattle.flight_meaning.specs.declared.place.Place.TheVariants as place
use Rattle.flight_meaning.specs.declared.place.PlaceTree.{PlaceTree}
use Rattle.flight_meaning.specs.declared.place.PlacedRow.{PlacedRow}
use Rattle.flight_meaning.specs.Linked.{rows_of, FollowOn, Spot, place_at, first_place}
use Rattle.flight_meaning.specs.Resolve.{Stand, to, Found, found, not_yet, nowhere, Ends, IsEnd, Path}
use Rattle.flight_meaning.specs.Resolve as resolve
use Rattle.flight_meaning.specs.Meaning as wire
use Rattle.flight_meaning.specs.Meaning.{Written, Identity, made_at, promise_of, stream_of, action_of, HasShape, HasShapeHere, node_here, action_shape, Reference, reference_of, FlowEnd, flowing, closed_with, broken_by, flowed, stand_of}
use Rattle.flight_meaning.specs.Good.{IsHeld, IsDefined}
use Rattle.flight_meaning.specs.Lasting.{HasEnded}
use Rattle.flight_meaning.proofs.MoreRows.{waited-more, end-more, place-more}
use Rattle.flight_meaning.proofs.MoreMeaning.{leads-more, shape-more, defined-more}
use Rattle.flight_state.specs.declared.status.Status.TheVariants as status
use Rattle.flight_state.specs.State.{State, Task, IsLive, stream_for, IsAlone, own_ids, job_at}
use Rattle.flight_state.specs.Spells.{CountedAt, AllCounted, SpellsNow, SpellsLater, SpellsEnded, Spells, SpelledBy, AtHome, AllGive, values_of, EndsAt, is_going, is_closed, is_broken, is_ended, StreamAt, IsLone, HomeAt}
use Rattle.flight_state.specs.Fits.{IsFollowed, IsKnown, IsAtomRow, RowAt, ReachedBy, ReachedFor, OpenFor, WaitsFor, Fits}
use Rattle.flight_state.proofs.Lists.{zip-map}
use Rattle.flight_state.proofs.AnyOrder.{absent_walk, spells_followed}
use Rattle.flight_state.proofs.Spelled.{final_by, sure_there, through_row}

-- ---- a step that only adds

-- the task is there, perhaps in another condition
pub record Kept (st : State) (t : Task) : Type 0 where
  pub task : Task
  pub is_task : In task st.tasks
  pub same_id : task.id ≡ t.id
  pub same_what : task.what ≡ t.what

pub record Moves (g : Ground) (old new : State) : Type 0 where
  pub grows : Grows old.settled new.settled
  pub more : List PlacedRow
  pub rows : new.rows ≡ old.rows ++ more
  pub homes : (k : Key) (i : Identity) → Paired old.homes k i → Paired new.homes k i
  pub counted : (address : List ℕ) (cost : ℕ) → In (address, cost) old.counted → In (address, cost) new.counted
  pub ended : (p : ℕ × ℕ) → In p old.ended → In p new.ended
  pub tasks : (t : Task) → In t old.tasks → Kept new t

-- the task is there and live, and has no row
pub record StillLive (st : State) (t : Task) : Type 0 where
  pub kept : Kept st t
  pub live : IsLive kept.task.status
  pub no_row : rows_of t.id st.rows ≡ []

-- a live task stays so, or its row spells its job's value by now
abbrev pub Lives : Ground → State → State → Type 0
Lives g old new = (t : Task) → In t old.tasks → IsLive t.status → IsAlone t.what → StillLive new t ⊎ Spells g new (wire.value_of t.id) (of_job (job_at g t))

counted_more : (old new : State) → ((a : List ℕ) (c : ℕ) → In (a, c) old.counted → In (a, c) new.counted) → (o : Option (List ℕ)) → CountedAt old o → CountedAt new o
counted_more old new m None c = tt
counted_more old new m (Some a) c = (c.0, m a c.0 c.1)

all_counted-more : (old new : State) → ((a : List ℕ) (c : ℕ) → In (a, c) old.counted → In (a, c) new.counted) → (js : List Job) → AllCounted old js → AllCounted new js
all_counted-more old new m [] c = tt
all_counted-more old new m (j ∷ js) c = (counted_more old new m (address_of j) c.0, all_counted-more old new m js c.1)

fit-more : (old new : State) → ((k : Key) (i : Identity) → Paired old.homes k i → Paired new.homes k i) → (a : Target Key) (b : Target Identity) → TargetsFit (Paired old.homes) a b → TargetsFit (Paired new.homes) a b
fit-more old new m (target.atom a) (target.atom b) f = f
fit-more old new m (target.atom a) (target.node_at h) f = f
fit-more old new m (target.node_at k) (target.atom b) f = f
fit-more old new m (target.node_at k) (target.node_at h) f = m k h f

-- the node at the end of a chain is there
ends_there : (g : Ground) (st : State) → Fits g st → (x : Value) (b : Target Identity) → TargetsFit (Paired st.homes) (target_of x) b → IsThere g st.settled x
ends_there g st f (shown (tree.Made n)) (target.node_at h) fit =
    let home = (f.homes (key.Made n) h fit).1 in there_by-shape g st.settled (shown (tree.Made n)) (key.Made n) home.here refl home.is_here
ends_there g st f (shown (tree.Made n)) (target.atom a) fit = absurd fit
ends_there g st f (shown (tree.Atom a)) b fit = tt
ends_there g st f (shown (tree.FromSource i q)) b fit = tt
ends_there g st f (shown (tree.Promise i)) b fit = tt
ends_there g st f (shown (tree.Stream i)) b fit = tt
ends_there g st f (shown (tree.Action i)) b fit = tt
ends_there g st f (of_job j) b fit = tt
ends_there g st f (failed d) b fit = tt
ends_there g st f (stopped i) b fit = tt

-- ---- what a slot spells

pub end_on : (old new : State) (more : List PlacedRow) → new.rows ≡ old.rows ++ more → (s : Stand) (f : Found) → IsEnd f → Ends old.rows s f → Ends new.rows s f
end_on old new more e s f is w = subst (λ z. Ends z s f) (sym e) (end-more old.rows more s f is w)

pub place_on : (old new : State) (more : List PlacedRow) → new.rows ≡ old.rows ++ more → (s : Spot) (at : Place) → place_at old.rows s ≡ Some at → place_at new.rows s ≡ Some at
place_on old new more e s at h = subst (λ z. place_at z s ≡ Some at) (sym e) (place-more old.rows more s at h)

-- a walk that waited for an id goes on as from there
pub waited_on : (old new : State) (more : List PlacedRow) → new.rows ≡ old.rows ++ more → (s : Stand) (id : ℕ) (path : Path) → Ends old.rows s (not_yet id path) → (f : Found) → Ends new.rows (to id path) f → Ends new.rows s f
waited_on old new more e s id path w f h = subst (λ z. Ends z s f) (sym e) ((waited-more old.rows more s id path w).back f (subst (λ z. Ends z (to id path) f) e h))

pub now_on : (g : Ground) (old new : State) → Fits g old → Moves g old new → (m : Written) (x : Value) → SpellsNow g old m x → SpellsNow g new m x
now_on g old new f mv m x now =
    record {
      jobs = now.jobs;
      last = now.last;
      leads = leads-keeps g old.settled new.settled mv.grows x now.jobs now.last now.leads (final_by g old.settled now.last now.here now.is_here now.certain);
      no_job = job_of-none g old.settled new.settled mv.grows now.last (ends_there g old f now.last now.there (subst (λ z. TargetsFit (Paired old.homes) z now.there) now.is_here now.fit)) now.no_job;
      counted = all_counted-more old new mv.counted now.jobs now.counted;
      here = now.here;
      there = now.there;
      is_here = now.is_here;
      is_there = subst (λ z. wire.Leads z m now.there) (sym mv.rows) (leads-more old.rows mv.more m now.there (sure_there g old m x now) now.is_there);
      certain = now.certain;
      fit = fit-more old new mv.homes now.here now.there now.fit;
    }

job_kept : (g : Ground) (st : State) (t : Task) (k : Kept st t) → job_at g k.task ≡ job_at g t
job_kept g st t k = ap (job_for g) k.same_what

pub ended_on : (g : Ground) (old new : State) → Moves g old new → (m : Written) (x : Value) → SpellsEnded g old m x → SpellsEnded g new m x
ended_on g old new mv m x e =
    let u = mv.tasks e.task e.is_task in
    record {
      jobs = e.jobs;
      last = e.last;
      task = u.task;
      error = e.error;
      digest = e.digest;
      leads = leads-keeps g old.settled new.settled mv.grows x e.jobs e.last e.leads (has_job-final g old.settled e.last (job_at g e.task) e.begins);
      counted = all_counted-more old new mv.counted e.jobs e.counted;
      begins = job_of-keeps g old.settled new.settled mv.grows e.last (job_at g e.task) e.begins ∙ ap Some (sym (job_kept g new e.task u));
      is_task = u.is_task;
      alone = ap stream_for u.same_what ∙ e.alone;
      is_ended = subst (λ z. In (z, e.error) new.ended) (sym u.same_id) (mv.ended (e.task.id, e.error) e.is_ended);
      is_error = place_on old new mv.more mv.rows (first_place e.error) _ e.is_error;
      walks = end_on old new mv.more mv.rows (stand_of m) (found (first_place e.error)) tt e.walks;
    }

-- by what became of the live task that it leads to
pub later_on : (g : Ground) (old new : State) → Moves g old new → (m : Written) (x : Value) → (later : SpellsLater g old m x)
    → StillLive new later.task ⊎ Spells g new (wire.value_of later.task.id) (of_job (job_at g later.task)) → Spells g new m x
later_on g old new mv m x later = go
  where
    leads : Leads g new.settled x later.jobs later.last
    leads = leads-keeps g old.settled new.settled mv.grows x later.jobs later.last later.leads (has_job-final g old.settled later.last (job_at g later.task) later.begins)

    begins : job_of g new.settled later.last ≡ Some (job_at g later.task)
    begins = job_of-keeps g old.settled new.settled mv.grows later.last (job_at g later.task) later.begins

    counted : AllCounted new later.jobs
    counted = all_counted-more old new mv.counted later.jobs later.counted

    walk : (h : Found) → Ends new.rows (to later.task.id []) h → Ends new.rows (stand_of m) h
    walk h e = waited_on old new mv.more mv.rows (stand_of m) later.task.id [] later.walks h e

    go : StillLive new later.task ⊎ Spells g new (wire.value_of later.task.id) (of_job (job_at g later.task)) → Spells g new m x
    go (inl u) =
        inr (inl (record {
          jobs = later.jobs;
          last = later.last;
          task = u.kept.task;
          leads = leads;
          counted = counted;
          begins = begins ∙ ap Some (sym (job_kept g new later.task u.kept));
          is_task = u.kept.is_task;
          live = u.live;
          alone = ap stream_for u.kept.same_what ∙ later.alone;
          walks = subst (λ z. Ends new.rows (stand_of m) (not_yet z [])) (sym u.kept.same_id) (walk (not_yet later.task.id []) (absent_walk new.rows later.task.id u.no_row));
        }))
    go (inr w) = through_row g new m (wire.value_of later.task.id) x later.jobs later.last (job_at g later.task) leads counted begins walk w

pub spells_on : (g : Ground) (old new : State) → Fits g old → Moves g old new → Lives g old new → (m : Written) (x : Value) → Spells g old m x → Spells g new m x
spells_on g old new f mv lv m x (inl now) = inl (now_on g old new f mv m x now)
spells_on g old new f mv lv m x (inr (inl later)) = later_on g old new mv m x later (lv later.task later.is_task later.live later.alone)
spells_on g old new f mv lv m x (inr (inr e)) = inr (inr (ended_on g old new mv m x e))

-- ---- references

followed_on : (g : Ground) (old new : State) → Moves g old new → Lives g old new → (s : Stand) → IsFollowed old s → IsFollowed new s
followed_on g old new mv lv s (found p, w, d) = (found p, end_on old new mv.more mv.rows s (found p) tt w, tt)
followed_on g old new mv lv s (resolve.stream id, w, d) = (resolve.stream id, end_on old new mv.more mv.rows s (resolve.stream id) tt w, tt)
followed_on g old new mv lv s (nowhere, w, d) = absurd d
followed_on g old new mv lv s (not_yet id path, w, d) = go (lv d.1.task d.1.is_task d.1.live d.1.alone)
  where
    t : Task
    t = d.1.task

    before : Ends old.rows s (not_yet t.id [])
    before = subst (λ z. Ends old.rows s (not_yet z [])) (sym d.1.same_id) (subst (λ z. Ends old.rows s (not_yet id z)) d.0 w)

    go : StillLive new t ⊎ Spells g new (wire.value_of t.id) (of_job (job_at g t)) → IsFollowed new s
    go (inl u) = (
      not_yet t.id [],
      waited_on old new mv.more mv.rows s t.id [] before (not_yet t.id []) (absent_walk new.rows t.id u.no_row),
      (refl, record { task = u.kept.task; is_task = u.kept.is_task; same_id = u.kept.same_id; live = u.live; alone = ap stream_for u.kept.same_what ∙ d.1.alone }),
    )
    go (inr x) = let y = spells_followed g new (wire.value_of t.id) (of_job (job_at g t)) x in (y.0, waited_on old new mv.more mv.rows s t.id [] before y.0 y.1, y.2)

known_on : (g : Ground) (old new : State) → Moves g old new → Lives g old new → (at : Place) → IsKnown old at → IsKnown new at
known_on g old new mv lv (place.Lazy id) k = followed_on g old new mv lv (to id []) k
known_on g old new mv lv (place.Promise id) k = followed_on g old new mv lv (to id []) k
known_on g old new mv lv (place.Value at) k = followed_on g old new mv lv (to at.id at.path) k
known_on g old new mv lv (place.Map at) k = subst (λ z. IsDefined z (place.Map at)) (sym mv.rows) (defined-more old.rows mv.more (place.Map at) k)
known_on g old new mv lv (place.Set at) k = subst (λ z. IsDefined z (place.Set at)) (sym mv.rows) (defined-more old.rows mv.more (place.Set at) k)
known_on g old new mv lv (place.Action id) k = subst (λ z. IsDefined z (place.Action id)) (sym mv.rows) (defined-more old.rows mv.more (place.Action id) k)
known_on g old new mv lv (place.Atom a) k = tt
known_on g old new mv lv (place.Array ns) k = tt
known_on g old new mv lv (place.Object ps) k = tt
known_on g old new mv lv (place.Element a b c) k = tt

-- ---- homes

-- a node that is no stream goes on no more
pub lone_ended : (rows : List PlacedRow) (i : Identity) (shape : Shape Written) → IsLone i → HasShape rows i shape → HasEnded shape.label
lone_ended rows (stream_of id) shape lone h = absurd lone
lone_ended rows (promise_of id) shape lone h = subst (λ (z : Shape Written). HasEnded z.label) (sym h) tt
lone_ended rows (action_of id) shape lone h = go (reference_of rows id) h
  where
    go : (o : Option Reference) → action_shape o ≡ Some shape → HasEnded shape.label
    go None e = absurd (none-some shape e)
    go (Some r) e = subst (λ (z : Shape Written). HasEnded z.label) (same_Some _ shape e) tt
lone_ended rows (made_at s) shape lone h = go (place_at rows s) h
  where
    by : (a : Shape Written) → HasEnded a.label → Some a ≡ Some shape → HasEnded shape.label
    by a ended e = subst (λ (z : Shape Written). HasEnded z.label) (same_Some a shape e) ended

    go : (o : Option Place) → HasShapeHere rows s o shape → HasEnded shape.label
    go None e = absurd (none-some shape e)
    go (Some (place.Map r)) e = subst (λ (z : Shape Written). HasEnded z.label) (sym e.2) tt
    go (Some (place.Set r)) e = subst (λ (z : Shape Written). HasEnded z.label) (sym e.2) tt
    go (Some (place.Array ns)) e = by _ tt e
    go (Some (place.Object ps)) e = by _ tt e
    go (Some (place.Element a b c)) e = by _ tt e
    go (Some (place.Atom a)) e = absurd (none-some shape e)
    go (Some (place.Lazy id)) e = absurd (none-some shape e)
    go (Some (place.Promise id)) e = absurd (none-some shape e)
    go (Some (place.Value at)) e = absurd (none-some shape e)
    go (Some (place.Action id)) e = absurd (none-some shape e)

pub home_on : (g : Ground) (old new : State) → Fits g old → Moves g old new → Lives g old new → (k : Key) (i : Identity) → IsLasting k → IsLone i → AtHome g old k i → AtHome g new k i
home_on g old new f mv lv k i lasting lone a =
    record {
      here = a.here;
      there = a.there;
      is_here = node-keeps g old.settled new.settled mv.grows k a.here lasting a.is_here;
      is_there = subst (λ z. HasShape z i a.there) (sym mv.rows) (shape-more old.rows mv.more i a.there (lone_ended old.rows i a.there lone a.is_there) a.is_there);
      labels = a.labels;
      slots = zip-map (SpelledBy g old) (SpelledBy g new) (λ x m. spells_on g old new f mv lv m x) a.here.slots a.there.slots a.slots;
    }

-- ---- streams

pub all_give-keeps : (g : Ground) (few many : List Bool) → Grows few many → (is : List ℕ) → AllGive g few is → AllGive g many is
all_give-keeps g few many gr [] a = tt
all_give-keeps g few many gr (i ∷ is) a = ((a.0.0, comes-keeps g few many gr (outcome i) (gave a.0.0) a.0.1 tt), all_give-keeps g few many gr is a.1)

-- the task is there and live
pub record StillNext (st : State) (t : Task) : Type 0 where
  pub kept : Kept st t
  pub live : IsLive kept.task.status

-- the live tasks of an id stay so
abbrev pub NextLives : State → State → ℕ → Type 0
NextLives old new id = (t : Task) → In t old.tasks → t.id ≡ id → IsLive t.status → StillNext new t

abbrev pub IsOver : FlowEnd → Type 0
IsOver flowing = ⊥
IsOver e = Unit {0}

pub ends_still : (g : Ground) (old new : State) → Fits g old → Moves g old new → Lives g old new → (stream id : ℕ) (f : Flowing) (count : ℕ) (left : List ℕ) (e : FlowEnd) → IsOver e → EndsAt g old stream id f count left e → EndsAt g new stream id f count left e
ends_still g old new fits mv lv stream id f count left _ over (is_going t i same live is) = absurd over
ends_still g old new fits mv lv stream id f count left _ over (is_closed w t empty by s) = is_closed w t empty (comes-keeps g old.settled new.settled mv.grows (last_job f.last) (gave t) by tt) (spells_on g old new fits mv lv w (of_job (last_job f.last)) s)
ends_still g old new fits mv lv stream id f count left _ over (is_broken d h) = is_broken d (comes-keeps g old.settled new.settled mv.grows (next_job left f.last) (threw d) h tt)
ends_still g old new fits mv lv stream id f count left _ over (is_ended d e i w) = is_ended d e (mv.ended (id, e) i) (place_on old new mv.more mv.rows (first_place e) _ w)

pub ends_on : (g : Ground) (old new : State) → Fits g old → Moves g old new → Lives g old new → (stream id : ℕ) (f : Flowing) (count : ℕ) (left : List ℕ) (e : FlowEnd) → NextLives old new id → EndsAt g old stream id f count left e → EndsAt g new stream id f count left e
ends_on g old new fits mv lv stream id f count left _ lives (is_going t i same live is) =
    let u = lives t i same live in is_going u.kept.task u.kept.is_task (u.kept.same_id ∙ same) u.live (u.kept.same_what ∙ is)
ends_on g old new fits mv lv stream id f count left _ lives (is_closed w t empty by s) = ends_still g old new fits mv lv stream id f count left (closed_with w) tt (is_closed w t empty by s)
ends_on g old new fits mv lv stream id f count left _ lives (is_broken d h) = ends_still g old new fits mv lv stream id f count left (broken_by d) tt (is_broken d h)
ends_on g old new fits mv lv stream id f count left _ lives (is_ended d e i w) = ends_still g old new fits mv lv stream id f count left (broken_by d) tt (is_ended d e i w)

-- with its items as they were, and this end
pub stream_with : (g : Ground) (old new : State) → Fits g old → Moves g old new → Lives g old new → (stream id : ℕ) → (x : StreamAt g old stream id) → (behind : List PlaceTree) → rows_of id new.rows ≡ x.opener ∷ behind → (flowed id 1 behind).items ≡ (flowed id 1 x.behind).items
    → EndsAt g new stream id x.flows (length x.written) x.left (flowed id 1 behind).end → StreamAt g new stream id
stream_with g old new fits mv lv stream id x behind rows same by =
    record {
      flows = x.flows;
      is_stream = x.is_stream;
      opener = x.opener;
      behind = behind;
      rows = rows;
      opens = x.opens;
      written = x.written;
      left = x.left;
      split = x.split;
      gave = all_give-keeps g old.settled new.settled mv.grows x.written x.gave;
      items = subst (AllZip (SpelledBy g new) (values_of x.written)) (sym same)
          (zip-map (SpelledBy g old) (SpelledBy g new) (λ e m. spells_on g old new fits mv lv m e) (values_of x.written) (flowed id 1 x.behind).items x.items);
      ends = by;
    }

-- with its rows as they were
pub stream_on : (g : Ground) (old new : State) → Fits g old → Moves g old new → Lives g old new → (stream id : ℕ) → (x : StreamAt g old stream id) → rows_of id new.rows ≡ rows_of id old.rows → NextLives old new id → StreamAt g new stream id
stream_on g old new fits mv lv stream id x same lives =
    stream_with g old new fits mv lv stream id x x.behind (same ∙ x.rows) refl (ends_on g old new fits mv lv stream id x.flows (length x.written) x.left (flowed id 1 x.behind).end lives x.ends)

-- a stream's home is that of a stream
pub stream_home : (g : Ground) (st : State) (stream : ℕ) (i : Identity) → HomeAt g st (key.Stream stream) i → (id : ℕ) × (i ≡ stream_of id)
stream_home g st stream (stream_of id) h = (id, refl)
stream_home g st stream (made_at s) h = absurd h
stream_home g st stream (promise_of id) h = absurd h
stream_home g st stream (action_of id) h = absurd h

-- ---- what a task is for

pub is_tabled-keeps : (g : Ground) (few many : List Bool) → Grows few many → (w : What) → IsTabled g few w → IsTabled g many w
is_tabled-keeps g few many gr (what.Element n tables) t =
    (tabled-keeps g few many gr n tables.made t.0, subst (λ z. is_some (element_of z) ≡ true) (t.0.0.1 ∙ sym (node_at-keeps g few many gr n t.0.0.0 t.0.0.1)) t.1)
is_tabled-keeps g few many gr what.Root t = tt
is_tabled-keeps g few many gr (what.Promise source) t = tt
is_tabled-keeps g few many gr (what.Known slot) t = tt
is_tabled-keeps g few many gr (what.Item stream index) t = tt
is_tabled-keeps g few many gr (what.Last stream) t = tt

IsNodeAt : Key → Target Key → Type 0
IsNodeAt k (target.atom a) = ⊥
IsNodeAt k (target.node_at l) = l ≡ k

IsMade : Key → Type 0
IsMade (key.Made n) = Unit {0}
IsMade k = ⊥

there_stream : (g : Ground) (s : List Bool) (v : Value) (stream : ℕ) → IsTarget g s v (target.node_at (key.Stream stream)) → IsThere g s v
unfolding IsNodeAt IsMade
there_stream g s (shown (tree.Made n)) f h = absurd (subst IsMade (subst (IsNodeAt (key.Stream f)) h refl) tt)
there_stream g s (shown (tree.Atom a)) f h = tt
there_stream g s (shown (tree.FromSource i q)) f h = tt
there_stream g s (shown (tree.Promise i)) f h = tt
there_stream g s (shown (tree.Stream i)) f h = tt
there_stream g s (shown (tree.Action i)) f h = tt
there_stream g s (of_job j) f h = tt
there_stream g s (failed d) f h = tt
there_stream g s (stopped i) f h = tt

reached_by-keeps : (g : Ground) (few many : List Bool) → Grows few many → (j : Job) (o : Option ℕ) → ReachedBy g few j o → ReachedBy g many j o
reached_by-keeps g few many gr j None x = (x.0, reached-keeps g few many gr x.0 x.1 (has_job-final g few x.0 j x.2), job_of-keeps g few many gr x.0 j x.2)
reached_by-keeps g few many gr j (Some f) x = (x.0, reached-keeps g few many gr x.0 x.1 (node-final x.0 (key.Stream f) x.3), job_of-none g few many gr x.0 (there_stream g few x.0 f x.3) x.2, x.3)

-- ---- rows of keys that are no nodes

pub atom_row-more : (old new : State) (more : List PlacedRow) → new.rows ≡ old.rows ++ more → (id : ℕ) (a : _) → IsAtomRow old.rows id a → IsAtomRow new.rows id a
atom_row-more old new more e id a w = (end_on old new more e (to id []) (found (first_place id)) tt w.0, place_on old new more e (first_place id) _ w.1)

pub row_on : (g : Ground) (old new : State) → Moves g old new → (k : Key) (id : ℕ) → RowAt g old k id → RowAt g new k id
row_on g old new mv (key.Server n) id r = let u = mv.tasks r.0 r.1 in (u.task, u.is_task, u.same_id ∙ r.2, job_kept g new r.0 u ∙ r.3)
row_on g old new mv (key.Client c) id r = atom_row-more old new mv.more mv.rows id _ r
row_on g old new mv (key.Symbol n) id r = atom_row-more old new mv.more mv.rows id _ r
row_on g old new mv (key.Made n) id r = absurd r
row_on g old new mv (key.Source a b) id r = absurd r
row_on g old new mv (key.Settled a) id r = absurd r
row_on g old new mv (key.Stream a) id r = absurd r
row_on g old new mv (key.Action a) id r = absurd r

-- ---- the facts of a state, after a step that only adds

-- what is to be shown of the parts that are new
pub record Adds (g : Ground) (old new : State) : Type 0 where
  pub follow_on : FollowOn new.rows
  pub known : (at : Place) → IsHeld new.rows at → IsHeld old.rows at ⊎ IsKnown new at
  pub one_home : (k : Key) (i j : Identity) → Paired new.homes k i → Paired new.homes k j → i ≡ j
  pub one_key : (k l : Key) (i : Identity) → Paired new.homes k i → Paired new.homes l i → k ≡ l
  pub homes : (k : Key) (i : Identity) → IsLasting k → Paired new.homes k i → Paired old.homes k i ⊎ (IsLone i × AtHome g new k i)
  pub streams : (stream : ℕ) (i : Identity) → Paired new.homes (key.Stream stream) i → HomeAt g new (key.Stream stream) i
  pub others : (k : Key) (id : ℕ) → In (k, id) new.others → In (k, id) old.others ⊎ RowAt g new k id
  pub one_row : (k : Key) (a b : ℕ) → In (k, a) new.others → In (k, b) new.others → a ≡ b
  pub one_row_key : (k l : Key) (id : ℕ) → In (k, id) new.others → In (l, id) new.others → k ≡ l
  pub one_task : Distinct (own_ids new.tasks)
  pub tasks : (t : Task) → In t new.tasks → ((u : Task) × In u old.tasks × (u.what ≡ t.what)) ⊎ (ReachedFor g new.settled t.what × IsTabled g new.settled t.what)
  pub remembered : (t : Task) (turn : ℕ) → In t new.tasks → t.status ≡ status.Running turn → Grows t.remembered new.settled
  pub waiting : (t : Task) (source : ℕ) → In t new.tasks → t.status ≡ status.Waiting source → WaitsFor g new.settled (job_at g t) source
  pub unwritten : (t : Task) → In t new.tasks → IsLive t.status → IsAlone t.what → rows_of t.id new.rows ≡ []
  pub finished : (t : Task) → In t new.tasks → t.status ≡ status.Done → IsAlone t.what
      → ((u : Task) × In u old.tasks × (u.id ≡ t.id) × (u.what ≡ t.what) × (u.status ≡ status.Done)) ⊎ Spells g new (wire.value_of t.id) (of_job (job_at g t))
  pub open_for : (t : Task) (stream : ℕ) → In t new.tasks → IsLive t.status → stream_for t.what ≡ Some stream → OpenFor new t.id stream
  pub counted_once : Distinct (map (λ p. p.0) new.counted)
  pub counted : (address : List ℕ) (cost : ℕ) → In (address, cost) new.counted → In (address, cost) old.counted ⊎ Rendered g new.settled address cost

lone_on : (g : Ground) (old new : State) → Fits g old → Moves g old new → Lives g old new → Adds g old new → (k : Key) (i : Identity) → IsLasting k → (HomeAt g old k i → IsLone i × AtHome g old k i) → Paired new.homes k i → IsLone i × AtHome g new k i
lone_on g old new f mv lv ad k i lasting split p = ⊎_elim (λ x. let y = split (f.homes k i x) in (y.0, home_on g old new f mv lv k i lasting y.0 y.1)) (λ x. x) (ad.homes k i lasting p)

homes_on : (g : Ground) (old new : State) → Fits g old → Moves g old new → Lives g old new → Adds g old new → (k : Key) (i : Identity) → Paired new.homes k i → HomeAt g new k i
homes_on g old new f mv lv ad (key.Stream stream) i p = ad.streams stream i p
homes_on g old new f mv lv ad (key.Made n) i p = lone_on g old new f mv lv ad (key.Made n) i tt (λ x. x) p
homes_on g old new f mv lv ad (key.Source s n) i p = lone_on g old new f mv lv ad (key.Source s n) i tt (λ x. x) p
homes_on g old new f mv lv ad (key.Settled s) i p = lone_on g old new f mv lv ad (key.Settled s) i tt (λ x. x) p
homes_on g old new f mv lv ad (key.Action a) i p = lone_on g old new f mv lv ad (key.Action a) i tt (λ x. x) p
homes_on g old new f mv lv ad (key.Client c) i p = lone_on g old new f mv lv ad (key.Client c) i tt (λ x. x) p
homes_on g old new f mv lv ad (key.Symbol n) i p = lone_on g old new f mv lv ad (key.Symbol n) i tt (λ x. x) p
homes_on g old new f mv lv ad (key.Server n) i p = lone_on g old new f mv lv ad (key.Server n) i tt (λ x. x) p

pub fits_on : (g : Ground) (old new : State) → Fits g old → Moves g old new → Lives g old new → Adds g old new → Fits g new
fits_on g old new f mv lv ad =
    record {
      follow_on = ad.follow_on;
      known = λ at h. ⊎_elim (λ q. known_on g old new mv lv at (f.known at q)) (λ x. x) (ad.known at h);
      root = spells_on g old new f mv lv (wire.value_of 0) (of_job the_root) f.root;
      homes = homes_on g old new f mv lv ad;
      one_home = ad.one_home;
      one_key = ad.one_key;
      others = λ k id i. ⊎_elim (λ q. row_on g old new mv k id (f.others k id q)) (λ x. x) (ad.others k id i);
      one_row = ad.one_row;
      one_row_key = ad.one_row_key;
      one_task = ad.one_task;
      reached = λ t i. ⊎_elim
          (λ u. subst (ReachedFor g new.settled) u.2 (reached_by-keeps g old.settled new.settled mv.grows (job_for g u.0.what) (stream_for u.0.what) (f.reached u.0 u.1)))
          (λ x. x.0) (ad.tasks t i);
      tabled = λ t i. ⊎_elim (λ u. subst (IsTabled g new.settled) u.2 (is_tabled-keeps g old.settled new.settled mv.grows u.0.what (f.tabled u.0 u.1))) (λ x. x.1) (ad.tasks t i);
      remembered = ad.remembered;
      waiting = ad.waiting;
      unwritten = ad.unwritten;
      finished = λ t i d alone. ⊎_elim
          (λ u. subst (λ z. Spells g new (wire.value_of z) (of_job (job_at g t))) u.2 (subst (λ z. Spells g new (wire.value_of u.0.id) (of_job (job_for g z))) u.3
          (spells_on g old new f mv lv (wire.value_of u.0.id) (of_job (job_at g u.0)) (f.finished u.0 u.1 u.4 (ap stream_for u.3 ∙ alone)))))
          (λ x. x) (ad.finished t i d alone);
      open_for = ad.open_for;
      counted_once = ad.counted_once;
      counted_only = λ a c i. ⊎_elim (λ x. rendered-keeps g old.settled new.settled mv.grows a c (f.counted_only a c x)) (λ x. x) (ad.counted a c i);
    }
