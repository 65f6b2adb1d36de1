-- What the step of a finished task is to write, so that the facts of a state stay: each place of the new rows is
-- written as what is meant there.
use Rattle.std.specs.Prelude.{ℕ, suc, ◌≡◌, ◌⊎◌, List, [], ◌∷◌, ◌++◌, map, length, Some, None, slice_get}
use Rattle.std.specs.List.{AllZip}
use Rattle.flight_value.specs.Store as target
use Rattle.flight_value.specs.Store.{Target, Shape, TargetsFit, Paired}
use Rattle.flight_value.specs.declared.graph.Atom.TheVariants as atom
use Rattle.flight_value.specs.declared.key.Key.{Key}
use Rattle.flight_value.specs.declared.key.Key.TheVariants as key
use Rattle.flight_value.specs.declared.made.Tree.{Tree}
use Rattle.flight_syntax.specs.declared.script.Flowing.{Flowing}
use Rattle.flight_row.specs.declared.row.RowKind.{RowKind}
use Rattle.flight_row.specs.declared.row.RowKind.TheVariants as row
use Rattle.flight_render.specs.declared.root.Ground.{Ground}
use Rattle.flight_render.specs.declared.job.What.TheVariants as what
use Rattle.flight_render.specs.Run.{gave, threw, End}
use Rattle.flight_render.specs.Jobs.{Job, Value, shown, job_of, comes, value_of, IsTarget}
use Rattle.flight_render.specs.Plain.{NodeIs}
use Rattle.flight_value.specs.Listed.{In, Distinct}
use Rattle.flight_render.specs.Costs.{address_of, Rendered}
use Rattle.flight_render.specs.Attempt.{IsTabled}
use Rattle.flight_render.specs.Laws.{IsLasting}
use Rattle.flight_meaning.specs.declared.place.Place.{Place}
use Rattle.flight_meaning.specs.declared.place.Place.TheVariants as place
use Rattle.flight_meaning.specs.declared.place.PlaceTree.{PlaceTree}
use Rattle.flight_meaning.specs.declared.place.PlacedRow.{PlacedRow}
use Rattle.flight_meaning.specs.Linked.{rows_of, FollowOn, Spot, place_at, first_place}
use Rattle.flight_meaning.specs.Resolve.{to, here, on, turn}
use Rattle.flight_meaning.specs.Meaning as wire
use Rattle.flight_meaning.specs.Meaning.{Written, at_place, Identity, stream_of, HasShape, digest_at}
use Rattle.flight_meaning.specs.Good.{IsHeld}
use Rattle.flight_state.specs.State.{State, Task, IsLive, stream_for, IsAlone, own_ids, next_what, job_at}
use Rattle.flight_state.specs.Spells.{CountedAt, IsLone}
use Rattle.flight_state.specs.Fits.{RowAt, ReachedFor, OpenFor}

-- ---- what is meant

-- the values that are meant at places
abbrev pub Meant : Type 0
Meant = List (Spot × Value)

-- the value of an id is that of the root place of its first row
abbrev pub HasValueRow : List PlacedRow → ℕ → Type 0
HasValueRow rows id = turn rows (to id []) ≡ on (here (first_place id) [])

-- How what is meant is written at a place: it leads to what the value stands for; or it refers to the row of a task
-- for the value; or what the value's job gives is written there, and the job is counted.
pub data IsWritten (g : Ground) (st : State) (s : Spot) : Value → Type 0 where
  as_itself : {v : Value} → (at_key : Target Key) (at_rows : Target Identity) → job_of g st.settled v ≡ None → IsTarget g st.settled v at_key → ¬ (at_key ≡ target.atom atom.Pending)
      → wire.Leads st.rows (at_place s) at_rows → TargetsFit (Paired st.homes) at_key at_rows → IsWritten g st s v
  as_task : {v : Value} → (t : Task) → In t st.tasks → IsAlone t.what → job_of g st.settled v ≡ Some (job_at g t) → turn st.rows (here s []) ≡ on (to t.id []) → IsWritten g st s v
  as_given : {v : Value} → (j : Job) (end : End) → job_of g st.settled v ≡ Some j → comes g st.settled j ≡ Some end → CountedAt st (address_of j) → IsWritten g st s (value_of g st.settled j end) → IsWritten g st s v

-- a slot of a new node: a place where its value is meant, the value of a row where it is, or that of a task for it
pub data MeantBy (g : Ground) (st : State) (meant : Meant) (v : Value) : Written → Type 0 where
  by_place : (s : Spot) → In (s, v) meant → MeantBy g st meant v (at_place s)
  by_row : (id : ℕ) → HasValueRow st.rows id → In (first_place id, v) meant → MeantBy g st meant v (wire.value_of id)
  by_task : (t : Task) → In t st.tasks → IsAlone t.what → job_of g st.settled v ≡ Some (job_at g t) → MeantBy g st meant v (wire.value_of t.id)

-- a node is written at its new home
pub record NewHome (g : Ground) (st : State) (meant : Meant) (k : Key) (i : Identity) : Type 0 where
  pub lone : IsLone i
  pub here : Shape Value
  pub there : Shape Written
  pub is_here : NodeIs g st.settled k here
  pub is_there : HasShape st.rows i there
  pub labels : here.label ≡ there.label
  pub slots : AllZip (MeantBy g st meant) here.slots there.slots

-- no reference
abbrev pub IsPlain : Place → Type 0
IsPlain (place.Atom a) = Unit {0}
IsPlain (place.Array numbers) = Unit {0}
IsPlain (place.Object props) = Unit {0}
IsPlain (place.Element tag key props) = Unit {0}
IsPlain at = ⊥

-- ---- streams

abbrev pub IsItem : RowKind → Type 0
IsItem row.Model = Unit {0}
IsItem row.Text = Unit {0}
IsItem kind = ⊥

-- the root place of a row of an id
abbrev pub root_of : ℕ → ℕ → Spot
root_of id nth = record { id = id; nth = nth; at = 0 }

-- a live task of an id, for what comes next of a stream
pub record NextTask (st : State) (stream id : ℕ) (items : List ℕ) (count : ℕ) : Type 0 where
  pub task : Task
  pub is_task : In task st.tasks
  pub same_id : task.id ≡ id
  pub live : IsLive task.status
  pub is_next : task.what ≡ next_what stream items count

-- what the finished task of a stream adds to the rows before: an item, after which another task goes on; the final
-- value; or a failure
pub data Grown (g : Ground) (new : State) (t : Task) (end : End) (meant : Meant) (stream id nth : ℕ) (tree : PlaceTree) : Type 0 where
  next_row : (f : Flowing) (index : ℕ) (value : Tree) → slice_get g.script.streams stream ≡ Some f → t.what ≡ what.Item stream index → end ≡ gave value → IsItem tree.kind
      → In (root_of id nth, shown value) meant → NextTask new stream id f.items (suc index) → Grown g new t end meant stream id nth tree
  final_row : (value : Tree) → t.what ≡ what.Last stream → end ≡ gave value → tree.kind ≡ row.Close → In (root_of id nth, shown value) meant → Grown g new t end meant stream id nth tree
  broken_row : (digest : List ℕ) → end ≡ threw digest → tree.kind ≡ row.Error → digest_at (slice_get tree.places 0) ≡ digest → Grown g new t end meant stream id nth tree

-- a stream's rows are as they were, or its own task adds one, or it is opened
pub data StreamStep (g : Ground) (old new : State) (t : Task) (end : End) (meant : Meant) (stream id : ℕ) : Type 0 where
  unchanged : Paired old.homes (key.Stream stream) (stream_of id) → ¬ (id ≡ t.id) → rows_of id new.rows ≡ rows_of id old.rows → StreamStep g old new t end meant stream id
  grown : Paired old.homes (key.Stream stream) (stream_of id) → id ≡ t.id → stream_for t.what ≡ Some stream → (tree : PlaceTree) → rows_of id new.rows ≡ rows_of id old.rows ++ tree ∷ []
      → Grown g new t end meant stream id (length (rows_of id old.rows)) tree → StreamStep g old new t end meant stream id
  opened : (f : Flowing) (tree : PlaceTree) → slice_get g.script.streams stream ≡ Some f → rows_of id new.rows ≡ tree ∷ [] → tree.kind ≡ row.Open f.flow → NextTask new stream id f.items 0 → StreamStep g old new t end meant stream id

-- ---- the whole

-- The step of a finished task writes what its end asks for.
pub record EmitsWell (g : Ground) (old new : State) (t : Task) (born : List Task) (end : End) (meant : Meant) : Type 0 where
  -- the rows
  pub follow_on : FollowOn new.rows
  pub own : IsAlone t.what → HasValueRow new.rows t.id × In (first_place t.id, value_of g new.settled (job_at g t) end) meant
  pub places : (s : Spot) (v : Value) → In (s, v) meant → IsWritten g new s v
  pub held : (s : Spot) (at : Place) → place_at new.rows s ≡ Some at → IsHeld old.rows at ⊎ (IsPlain at ⊎ ((v : Value) × In (s, v) meant))
  -- the homes
  pub one_home : (k : Key) (i j : Identity) → Paired new.homes k i → Paired new.homes k j → i ≡ j
  pub one_key : (k l : Key) (i : Identity) → Paired new.homes k i → Paired new.homes l i → k ≡ l
  pub new_homes : (k : Key) (i : Identity) → IsLasting k → Paired new.homes k i → Paired old.homes k i ⊎ NewHome g new meant k i
  pub streams : (stream : ℕ) (i : Identity) → Paired new.homes (key.Stream stream) i → (id : ℕ) × (i ≡ stream_of id) × StreamStep g old new t end meant stream id
  pub others : (k : Key) (id : ℕ) → In (k, id) new.others → In (k, id) old.others ⊎ RowAt g new k id
  pub one_row : (k : Key) (a b : ℕ) → In (k, a) new.others → In (k, b) new.others → a ≡ b
  pub one_row_key : (k l : Key) (id : ℕ) → In (k, id) new.others → In (l, id) new.others → k ≡ l
  -- the tasks
  pub one_task : Distinct (own_ids new.tasks)
  pub reached : (u : Task) → In u born → ReachedFor g new.settled u.what
  pub tabled : (u : Task) → In u born → IsTabled g new.settled u.what
  pub unwritten : (u : Task) → In u new.tasks → IsLive u.status → IsAlone u.what → rows_of u.id new.rows ≡ []
  pub open_for : (u : Task) (stream : ℕ) → In u new.tasks → IsLive u.status → stream_for u.what ≡ Some stream → OpenFor new u.id stream
  -- the costs
  pub own_counted : CountedAt new (address_of (job_at g t))
  pub counted_once : Distinct (map (λ p. p.0) new.counted)
  pub new_counted : (address : List ℕ) (cost : ℕ) → In (address, cost) new.counted → In (address, cost) old.counted ⊎ Rendered g new.settled address cost
