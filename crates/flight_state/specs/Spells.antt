-- When a slot as it is written spells a value, and when a node is written at its home.
use Rattle.std.specs.Prelude.{ℕ, ◌≡◌, ◌⊎◌, Bool, List, [], ◌∷◌, ◌++◌, map, length, Option, Some, None, slice_get}
use Rattle.std.specs.List.{AllZip}
use Rattle.flight_value.specs.Store as target
use Rattle.flight_value.specs.Store.{Target, Shape, TargetsFit, Paired}
use Rattle.flight_value.specs.declared.graph.Atom.TheVariants as atom
use Rattle.flight_value.specs.declared.key.Key.{Key}
use Rattle.flight_value.specs.declared.key.Key.TheVariants as key
use Rattle.flight_value.specs.declared.made.Tree.{Tree}
use Rattle.flight_syntax.specs.declared.script.Flowing.{Flowing}
use Rattle.flight_row.specs.declared.row.RowKind.TheVariants as row
use Rattle.flight_render.specs.declared.root.Ground.{Ground}
use Rattle.flight_render.specs.Run.{gave, threw}
use Rattle.flight_render.specs.Jobs.{Job, outcome, Value, of_job, job_of, comes, Leads, IsTarget}
use Rattle.flight_render.specs.Plain.{NodeIs, last_job, next_job}
use Rattle.flight_value.specs.Listed.{In}
use Rattle.flight_render.specs.Costs.{address_of}
use Rattle.flight_meaning.specs.declared.place.Place.TheVariants as place
use Rattle.flight_meaning.specs.declared.place.PlaceTree.{PlaceTree}
use Rattle.flight_meaning.specs.declared.place.PlacedRow.{PlacedRow}
use Rattle.flight_meaning.specs.Linked.{rows_of, place_at, first_place}
use Rattle.flight_meaning.specs.Resolve.{found, not_yet, Ends}
use Rattle.flight_meaning.specs.Meaning as wire
use Rattle.flight_meaning.specs.Meaning.{Written, Identity, made_at, promise_of, stream_of, action_of, HasShape, FlowEnd, flowing, closed_with, broken_by, Flowed, flowed, stand_of}
use Rattle.flight_state.specs.State.{State, Task, IsLive, IsAlone, next_what, job_at}

-- ---- counted jobs

abbrev pub CountedAt : State → Option (List ℕ) → Type 0
CountedAt st None = Unit {0}
CountedAt st (Some address) = (cost : ℕ) × In (address, cost) st.counted

-- each of these jobs is counted, where it has a body
abbrev pub AllCounted : State → List Job → Type 0
AllCounted st [] = Unit {0}
AllCounted st (j ∷ js) = CountedAt st (address_of j) × AllCounted st js

-- ---- a slot as it is written, and a value

-- it leads to what the value stands for
pub record SpellsNow (g : Ground) (st : State) (w : Written) (v : Value) : Type 0 where
  pub jobs : List Job
  pub last : Value
  pub leads : Leads g st.settled v jobs last
  pub no_job : job_of g st.settled last ≡ None
  pub counted : AllCounted st jobs
  pub here : Target Key
  pub there : Target Identity
  pub is_here : IsTarget g st.settled last here
  pub is_there : wire.Leads st.rows w there
  pub certain : ¬ (here ≡ target.atom atom.Pending)
  pub fit : TargetsFit (Paired st.homes) here there

-- it leads to the row that a live task is to write, whose job is on the way from the value
pub record SpellsLater (g : Ground) (st : State) (w : Written) (v : Value) : Type 0 where
  pub jobs : List Job
  pub last : Value
  pub task : Task
  pub leads : Leads g st.settled v jobs last
  pub counted : AllCounted st jobs
  pub begins : job_of g st.settled last ≡ Some (job_at g task)
  pub is_task : In task st.tasks
  pub live : IsLive task.status
  pub alone : IsAlone task.what
  pub walks : Ends st.rows (stand_of w) (not_yet task.id [])

-- the row of an id is an error row
abbrev pub IsErrorRow : List PlacedRow → ℕ → List ℕ → Type 0
IsErrorRow rows id digest = place_at rows (first_place id) ≡ Some (place.Atom (atom.Failed digest))

-- it leads to the error row of an abort, which ended a task whose job is on the way from the value
pub record SpellsEnded (g : Ground) (st : State) (w : Written) (v : Value) : Type 0 where
  pub jobs : List Job
  pub last : Value
  pub task : Task
  pub error : ℕ
  pub digest : List ℕ
  pub leads : Leads g st.settled v jobs last
  pub counted : AllCounted st jobs
  pub begins : job_of g st.settled last ≡ Some (job_at g task)
  pub is_task : In task st.tasks
  pub alone : IsAlone task.what
  pub is_ended : In (task.id, error) st.ended
  pub is_error : IsErrorRow st.rows error digest
  pub walks : Ends st.rows (stand_of w) (found (first_place error))

abbrev pub Spells : Ground → State → Written → Value → Type 0
Spells g st w v = SpellsNow g st w v ⊎ (SpellsLater g st w v ⊎ SpellsEnded g st w v)

abbrev pub SpelledBy : Ground → State → Value → Written → Type 0
SpelledBy g st v w = Spells g st w v

-- ---- a node and its home

-- the node of a key is written at its home
pub record AtHome (g : Ground) (st : State) (k : Key) (i : Identity) : Type 0 where
  pub here : Shape Value
  pub there : Shape Written
  pub is_here : NodeIs g st.settled k here
  pub is_there : HasShape st.rows i there
  pub labels : here.label ≡ there.label
  pub slots : AllZip (SpelledBy g st) here.slots there.slots

-- ---- a stream and its home

-- each of these sources gives a value
abbrev pub AllGive : Ground → List Bool → List ℕ → Type 0
AllGive g settled [] = Unit {0}
AllGive g settled (source ∷ sources) = ((t : Tree) × (comes g settled (outcome source) ≡ Some (gave t))) × AllGive g settled sources

abbrev pub values_of : List ℕ → List Value
values_of sources = map (λ source. of_job (outcome source)) sources

-- How the rows of a stream end, of whose items so many are written and these are left: they go on, and a live task
-- writes the next; or they end as rendering says, or as an abort ended them.
pub data EndsAt (g : Ground) (st : State) (stream id : ℕ) (f : Flowing) (count : ℕ) (left : List ℕ) : FlowEnd → Type 0 where
  is_going : (t : Task) → In t st.tasks → t.id ≡ id → IsLive t.status → t.what ≡ next_what stream f.items count → EndsAt g st stream id f count left flowing
  is_closed : (w : Written) (t : Tree) → left ≡ [] → comes g st.settled (last_job f.last) ≡ Some (gave t) → Spells g st w (of_job (last_job f.last)) → EndsAt g st stream id f count left (closed_with w)
  is_broken : (digest : List ℕ) → comes g st.settled (next_job left f.last) ≡ Some (threw digest) → EndsAt g st stream id f count left (broken_by digest)
  is_ended : (digest : List ℕ) (error : ℕ) → In (id, error) st.ended → IsErrorRow st.rows error digest → EndsAt g st stream id f count left (broken_by digest)

-- a stream is opened by the first row of its id, and the rows behind it have its first items
pub record StreamAt (g : Ground) (st : State) (stream id : ℕ) : Type 0 where
  pub flows : Flowing
  pub is_stream : slice_get g.script.streams stream ≡ Some flows
  pub opener : PlaceTree
  pub behind : List PlaceTree
  pub rows : rows_of id st.rows ≡ opener ∷ behind
  pub opens : opener.kind ≡ row.Open flows.flow
  pub written : List ℕ
  pub left : List ℕ
  pub split : flows.items ≡ written ++ left
  pub gave : AllGive g st.settled written
  pub items : AllZip (SpelledBy g st) (values_of written) (flowed id 1 behind).items
  pub ends : EndsAt g st stream id flows (length written) left (flowed id 1 behind).end

-- no stream
abbrev pub IsLone : Identity → Type 0
IsLone (stream_of id) = ⊥
IsLone i = Unit {0}

abbrev pub HomeAt : Ground → State → Key → Identity → Type 0
HomeAt g st (key.Stream stream) (stream_of id) = StreamAt g st stream id
HomeAt g st (key.Stream stream) i = ⊥
HomeAt g st k i = IsLone i × AtHome g st k i
