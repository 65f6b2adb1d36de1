-- What holds of every state of a request.
use Rattle.std.specs.Prelude.{ℕ, ◌≤◌, ◌≡◌, Bool, false, List, [], map, Option, Some, None}
use Rattle.flight_value.specs.Store as target
use Rattle.flight_value.specs.Store.{Paired}
use Rattle.flight_value.specs.declared.graph.Atom.{Atom}
use Rattle.flight_value.specs.declared.graph.Atom.TheVariants as atom
use Rattle.flight_value.specs.declared.key.Key.{Key}
use Rattle.flight_value.specs.declared.key.Key.TheVariants as key
use Rattle.flight_value.specs.declared.made.Tree.{Tree}
use Rattle.flight_render.specs.declared.root.Ground.{Ground}
use Rattle.flight_render.specs.declared.job.What.{What}
use Rattle.flight_render.specs.Run.{waits, Run}
use Rattle.flight_render.specs.Values.{is_settled, import_at}
use Rattle.flight_render.specs.Jobs.{Job, the_root, element, Value, of_job, job_of, job_body, comes, IsTarget}
use Rattle.flight_value.specs.Listed.{In, Distinct}
use Rattle.flight_render.specs.Costs.{Reached, Rendered}
use Rattle.flight_render.specs.Attempt.{job_for, IsTabled}
use Rattle.flight_render.specs.Laws.{Grows}
use Rattle.flight_meaning.specs.declared.place.Place.{Place}
use Rattle.flight_meaning.specs.declared.place.Place.TheVariants as place
use Rattle.flight_meaning.specs.declared.place.PlacedRow.{PlacedRow}
use Rattle.flight_meaning.specs.Linked.{rows_of, standing_of, streaming, FollowOn, place_at, first_place}
use Rattle.flight_meaning.specs.Resolve.{Stand, to, Found, found, not_yet, nowhere, Ends}
use Rattle.flight_meaning.specs.Meaning.{Identity, stream_of, map_token, set_token, Reference, reference_of, value_of}
use Rattle.flight_meaning.specs.Good.{IsHeld, IsTokenDefined}
use Rattle.flight_state.specs.declared.status.Status.TheVariants as status
use Rattle.flight_state.specs.State.{State, Task, IsLive, stream_for, IsAlone, own_ids, job_at, LiveTask}
use Rattle.flight_state.specs.Spells.{Spells, HomeAt}

-- ---- references

-- where a walk may end: at a place, at a stream, or at the row that a live task is to write
abbrev pub IsEndOrLive : State → Found → Type 0
IsEndOrLive st (not_yet id path) = (path ≡ []) × LiveTask st id
IsEndOrLive st nowhere = ⊥
IsEndOrLive st f = Unit {0}

abbrev pub IsFollowed : State → Stand → Type 0
IsFollowed st s = (f : Found) × Ends st.rows s f × IsEndOrLive st f

-- a reference is followed; what is no reference asks for nothing
abbrev pub IsKnown : State → Place → Type 0
IsKnown st (place.Lazy id) = IsFollowed st (to id [])
IsKnown st (place.Promise id) = IsFollowed st (to id [])
IsKnown st (place.Value at) = IsFollowed st (to at.id at.path)
IsKnown st (place.Map at) = IsTokenDefined st.rows map_token at
IsKnown st (place.Set at) = IsTokenDefined st.rows set_token at
IsKnown st (place.Action id) = (r : Reference) × (reference_of st.rows id ≡ Some r)
IsKnown st at = Unit {0}

-- ---- rows of keys that are no nodes

-- the row of an id is this atom
abbrev pub IsAtomRow : List PlacedRow → ℕ → Atom → Type 0
IsAtomRow rows id a = Ends rows (to id []) (found (first_place id)) × (place_at rows (first_place id) ≡ Some (place.Atom a))

abbrev pub RowAt : Ground → State → Key → ℕ → Type 0
RowAt g st (key.Server n) id = (t : Task) × In t st.tasks × (t.id ≡ id) × (job_at g t ≡ element n)
RowAt g st (key.Client client) id = IsAtomRow st.rows id (atom.Import (import_at g client))
RowAt g st (key.Symbol name) id = IsAtomRow st.rows id (atom.Symbol name)
RowAt g st k id = ⊥

-- ---- tasks

-- what a task is for is reached: the job of a value, or a stream
abbrev pub ReachedBy : Ground → List Bool → Job → Option ℕ → Type 0
ReachedBy g settled j None = (v : Value) × Reached g settled v × (job_of g settled v ≡ Some j)
ReachedBy g settled j (Some stream) = (v : Value) × Reached g settled v × (job_of g settled v ≡ None) × IsTarget g settled v (target.node_at (key.Stream stream))

abbrev pub ReachedFor : Ground → List Bool → What → Type 0
ReachedFor g settled w = ReachedBy g settled (job_for g w) (stream_for w)

-- the stream has a home under an id, and goes on
pub record OpenFor (st : State) (id stream : ℕ) : Type 0 where
  pub home : Paired st.homes (key.Stream stream) (stream_of id)
  pub goes_on : standing_of id st.rows ≡ Some streaming

-- a source that is not settled is what a job waits for
abbrev pub WaitsFor : Ground → List Bool → Job → ℕ → Type 0
WaitsFor g settled j source = (comes g settled j ≡ Some (waits source)) × (is_settled settled source ≡ false)

-- ---- the facts

pub record Fits (g : Ground) (st : State) : Type 0 where
  -- the rows
  pub follow_on : FollowOn st.rows
  pub known : (at : Place) → IsHeld st.rows at → IsKnown st at
  -- what they spell
  pub root : Spells g st (value_of 0) (of_job the_root)
  pub homes : (k : Key) (i : Identity) → Paired st.homes k i → HomeAt g st k i
  pub one_home : (k : Key) (i j : Identity) → Paired st.homes k i → Paired st.homes k j → i ≡ j
  pub one_key : (k l : Key) (i : Identity) → Paired st.homes k i → Paired st.homes l i → k ≡ l
  pub others : (k : Key) (id : ℕ) → In (k, id) st.others → RowAt g st k id
  pub one_row : (k : Key) (a b : ℕ) → In (k, a) st.others → In (k, b) st.others → a ≡ b
  pub one_row_key : (k l : Key) (id : ℕ) → In (k, id) st.others → In (l, id) st.others → k ≡ l
  -- the tasks
  pub one_task : Distinct (own_ids st.tasks)
  pub reached : (t : Task) → In t st.tasks → ReachedFor g st.settled t.what
  pub tabled : (t : Task) → In t st.tasks → IsTabled g st.settled t.what
  pub remembered : (t : Task) (turn : ℕ) → In t st.tasks → t.status ≡ status.Running turn → Grows t.remembered st.settled
  pub waiting : (t : Task) (source : ℕ) → In t st.tasks → t.status ≡ status.Waiting source → WaitsFor g st.settled (job_at g t) source
  pub unwritten : (t : Task) → In t st.tasks → IsLive t.status → IsAlone t.what → rows_of t.id st.rows ≡ []
  pub finished : (t : Task) → In t st.tasks → t.status ≡ status.Done → IsAlone t.what → Spells g st (value_of t.id) (of_job (job_at g t))
  pub open_for : (t : Task) (stream : ℕ) → In t st.tasks → IsLive t.status → stream_for t.what ≡ Some stream → OpenFor st t.id stream
  -- the costs
  pub counted_once : Distinct (map (λ p. p.0) st.counted)
  pub counted_only : (address : List ℕ) (cost : ℕ) → In (address, cost) st.counted → Rendered g st.settled address cost

-- each body in which a task waits cost no more than the fuel
abbrev pub WaitsWithin : Ground → State → ℕ → Type 0
WaitsWithin g st fuel = (t : Task) (source : ℕ) → In t st.tasks → t.status ≡ status.Waiting source → (b : Run Tree) → job_body g st.settled (job_at g t) ≡ Some b → b.after.cost ≤ fuel
