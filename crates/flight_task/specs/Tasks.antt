-- The tasks of a request, and what is done to them.
use Rattle.std.specs.Prelude.{ℕ, ◌+◌, ◌≡◌, ◌<◌, ◌≤◌, ◌^◌, ◌-◌, ◌⊎◌, List, Option, Some, None, slice_get, slice_set}
use Rattle.std.specs.Global.{Vec}
use Rattle.flight_render.specs.declared.job.What.{What}
use Rattle.flight_value.specs.Listed.{In}
use Rattle.flight_state.specs.declared.status.Status.TheVariants as status
use Rattle.flight_state.specs.Steps.{woken_status}
use Rattle.flight_task.specs.declared.task.Task.{Task}

-- ---- one task

abbrev pub born : ℕ → What → Task
born id what = record { id = id; what = what; status = status.Ready; turns = 0 }

abbrev pub start : Task → Task
start t = record t { status = status.Running (t.turns + 1); turns = t.turns + 1 }

abbrev pub stop_at : ℕ → Task → Task
stop_at source t = record t { status = status.Waiting source }

abbrev pub close : Task → Task
close t = record t { status = status.Done }

abbrev pub woken : ℕ → Task → Task
woken source t = record t { status = woken_status source t.status }

-- ---- tasks by their numbers

abbrev pub IsTaskAt : List Task → ℕ → (Task → Type 0) → Type 0
IsTaskAt tasks number P = (t : Task) × (slice_get tasks number ≡ Some t) × P t

-- the task of a number is changed, and no other
abbrev pub Changes : (Task → Task) → ℕ → List Task → List Task → Type 0
Changes f number old new = IsTaskAt old number (λ t. new ≡ slice_set old number (f t))

abbrev pub IsRunning : List Task → ℕ → Type 0
IsRunning tasks number = IsTaskAt tasks number (λ t. (turn : ℕ) × (t.status ≡ status.Running turn))

abbrev pub IsReadyAt : List Task → ℕ → Type 0
IsReadyAt tasks number = IsTaskAt tasks number (λ t. t.status ≡ status.Ready)

abbrev pub NoneReady : List Task → Type 0
NoneReady tasks = (number : ℕ) → IsReadyAt tasks number → ⊥

-- a task is the first that is ready, and it is started
pub record Takes (old : List Task) (number : ℕ) (new : List Task) : Type 0 where
  pub is_ready : IsReadyAt old number
  pub is_least : (other : ℕ) → IsReadyAt old other → number ≤ other
  pub now : Changes start number old new

-- a further turn of each task can be counted
abbrev pub HaveTurns : List Task → Type 0
HaveTurns tasks = (number : ℕ) → (t : Task) → slice_get tasks number ≡ Some t → t.turns < 2 ^ 64 - 1

-- ---- where the numbers are kept

-- the number of each ready task is in the queue
abbrev pub IsQueued : List Task → List ℕ → Type 0
IsQueued tasks queue = (number : ℕ) → IsReadyAt tasks number → In number queue

-- so it is but for one task
abbrev pub IsQueuedBut : Option ℕ → List Task → List ℕ → Type 0
IsQueuedBut one tasks queue = (number : ℕ) → IsReadyAt tasks number → (one ≡ Some number) ⊎ In number queue

-- the first task that is ready, if there is one
abbrev pub IsFirst : List Task → Option ℕ → Type 0
IsFirst tasks None = NoneReady tasks
IsFirst tasks (Some number) = IsReadyAt tasks number × ((other : ℕ) → IsReadyAt tasks other → number ≤ other)

abbrev pub IsWaiting : ℕ → List Task → ℕ → Type 0
IsWaiting source tasks number = IsTaskAt tasks number (λ t. t.status ≡ status.Waiting source)

abbrev pub IsIn : List (Vec ℕ) → ℕ → ℕ → Type 0
IsIn lists source number = (list : Vec ℕ) × (slice_get lists source ≡ Some list) × In number list.items

-- the number of each task that waits for a source is in the list of that source
abbrev pub IsListed : List Task → List (Vec ℕ) → Type 0
IsListed tasks lists = (number source : ℕ) → IsWaiting source tasks number → IsIn lists source number

-- nothing is lost from the lists
abbrev pub Holds : List (Vec ℕ) → List (Vec ℕ) → Type 0
Holds old new = (number source : ℕ) → IsIn old source number → IsIn new source number
