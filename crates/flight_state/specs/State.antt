-- The states of a request: its rows, its tasks, what is settled, where nodes are at home, and what is counted.
use Rattle.std.specs.Prelude.{ℕ, ◌≡◌, ◌||◌, Bool, true, false, if◌then◌else◌, List, [], ◌∷◌, Option, Some, None, slice_get}
use Rattle.flight_value.specs.declared.key.Key.{Key}
use Rattle.flight_render.specs.declared.root.Ground.{Ground}
use Rattle.flight_render.specs.declared.job.What.{What}
use Rattle.flight_render.specs.declared.job.What.TheVariants as what
use Rattle.flight_render.specs.Jobs.{Job}
use Rattle.flight_value.specs.Listed.{In}
use Rattle.flight_render.specs.Attempt.{job_for}
use Rattle.flight_meaning.specs.declared.place.PlacedRow.{PlacedRow}
use Rattle.flight_meaning.specs.Meaning.{Identity}
use Rattle.flight_state.specs.declared.status.Status.{Status}
use Rattle.flight_state.specs.declared.status.Status.TheVariants as status

-- ---- tasks

-- A task, by the id of the row that it writes: its own row, or the next row of a stream.
pub record Task : Type 0 where
  pub id : ℕ
  pub what : What
  pub status : Status
  pub turns : ℕ
  -- the sources that were settled when it was last taken
  pub remembered : List Bool

abbrev pub IsLive : Status → Type 0
IsLive status.Done = ⊥
IsLive s = Unit {0}

abbrev pub is_live : Status → Bool
is_live status.Done = false
is_live s = true

-- the stream of which a task writes the next row
abbrev pub stream_for : What → Option ℕ
stream_for (what.Item stream index) = Some stream
stream_for (what.Last stream) = Some stream
stream_for w = None

-- the task writes a row of its own
abbrev pub IsAlone : What → Type 0
IsAlone w = stream_for w ≡ None

abbrev pub is_alone : What → Bool
is_alone (what.Item stream index) = false
is_alone (what.Last stream) = false
is_alone w = true

-- the task alone has its id: the done tasks of a stream share theirs with the live one
abbrev pub owns_id : Task → Bool
owns_id t = is_alone t.what || is_live t.status

-- the ids that tasks have for themselves
abbrev pub own_ids : List Task → List ℕ
own_ids [] = []
own_ids (t ∷ ts) = if owns_id t then t.id ∷ own_ids ts else own_ids ts

-- what the next task of a stream is for, by its next source
abbrev pub next_by : ℕ → ℕ → Option ℕ → What
next_by stream count None = what.Last stream
next_by stream count (Some source) = what.Item stream count

-- what the next task of a stream is for, after so many items
abbrev pub next_what : ℕ → List ℕ → ℕ → What
next_what stream items count = next_by stream count (slice_get items count)

abbrev pub job_at : Ground → Task → Job
job_at g t = job_for g t.what

-- ---- states

pub record State : Type 0 where
  pub rows : List PlacedRow
  pub tasks : List Task
  -- which sources are settled
  pub settled : List Bool
  -- where the nodes of rendering are written
  pub homes : List (Key × Identity)
  -- the rows of keys that are no nodes: of server elements, imports and symbols
  pub others : List (Key × ℕ)
  -- the bodies that finished, by address, with their costs
  pub counted : List (List ℕ × ℕ)
  -- the ids of the tasks that an abort ended, each with that abort's error row
  pub ended : List (ℕ × ℕ)
  -- an answer was over fuel
  pub over : Bool

-- a task with this id writes a row of its own, and has not done so
pub record LiveTask (st : State) (id : ℕ) : Type 0 where
  pub task : Task
  pub is_task : In task st.tasks
  pub same_id : task.id ≡ id
  pub live : IsLive task.status
  pub alone : IsAlone task.what

-- no task is ready and none runs
abbrev pub IsAtRest : Status → Type 0
IsAtRest status.Done = Unit {0}
IsAtRest (status.Waiting source) = Unit {0}
IsAtRest s = ⊥

abbrev pub IsQuiet : State → Type 0
IsQuiet st = (t : Task) → In t st.tasks → IsAtRest t.status

-- every task is done
abbrev pub IsClosed : State → Type 0
IsClosed st = (t : Task) → In t st.tasks → t.status ≡ status.Done
