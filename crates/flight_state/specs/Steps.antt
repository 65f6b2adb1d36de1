-- The steps of a request, and its runs.
use Rattle.std.specs.Prelude.{ℕ, suc, ◌≡◌, ◌==◌, ◌⊎◌, Bool, true, false, if◌then◌else◌, List, [], ◌∷◌, ◌++◌, map, length, replicate, Some, slice_get, slice_set}
use Rattle.flight_value.specs.declared.graph.Atom.TheVariants as atom
use Rattle.flight_row.specs.declared.row.RowKind.TheVariants as row
use Rattle.flight_render.specs.declared.root.Ground.{Ground}
use Rattle.flight_render.specs.declared.job.What.TheVariants as what
use Rattle.flight_render.specs.Run.{waits, End}
use Rattle.flight_render.specs.Values.{is_settled}
use Rattle.flight_render.specs.Bodies.{Finishes}
use Rattle.flight_value.specs.Listed.{In}
use Rattle.flight_render.specs.Attempt.{run_for}
use Rattle.flight_meaning.specs.declared.place.Place.{Place}
use Rattle.flight_meaning.specs.declared.place.Place.TheVariants as place
use Rattle.flight_meaning.specs.declared.place.PlaceTree.{PlaceTree}
use Rattle.flight_meaning.specs.declared.place.PlacedRow.{PlacedRow}
use Rattle.flight_meaning.specs.Linked.{rows_of}
use Rattle.flight_state.specs.declared.status.Status.{Status}
use Rattle.flight_state.specs.declared.status.Status.TheVariants as status
use Rattle.flight_state.specs.declared.event.Event.{Event}
use Rattle.flight_state.specs.declared.event.Event.TheVariants as event
use Rattle.flight_state.specs.State.{State, Task, is_alone, is_live}
use Rattle.flight_state.specs.Fits.{Fits}

abbrev pub Extends : {A : Type 0} → List A → List A → Type 0
Extends {A} xs ys = (more : List A) × (ys ≡ xs ++ more)

-- the state with a task in another condition
abbrev pub with_task : State → ℕ → Task → State
with_task st number t = record st { tasks = slice_set st.tasks number t }

-- ---- a task is taken

abbrev pub taken : List Bool → Task → Task
taken settled t = record t { status = status.Running (suc t.turns); turns = suc t.turns; remembered = settled }

pub record TakeStep (old new : State) (number : ℕ) : Type 0 where
  pub task : Task
  pub is_task : slice_get old.tasks number ≡ Some task
  pub was : task.status ≡ status.Ready
  pub now : new ≡ with_task old number (taken old.settled task)

-- ---- a task is found to wait

-- for a source that is not settled; by now it may be
abbrev pub waiting_for : Bool → ℕ → Status
waiting_for true source = status.Ready
waiting_for false source = status.Waiting source

abbrev pub stopped_at : List Bool → ℕ → Task → Task
stopped_at settled source t = record t { status = waiting_for (is_settled settled source) source }

pub record WaitStep (g : Ground) (old new : State) (number source : ℕ) : Type 0 where
  pub task : Task
  pub is_task : slice_get old.tasks number ≡ Some task
  pub turn : ℕ
  pub was : task.status ≡ status.Running turn
  pub finds : (run_for g task.remembered task.what).step ≡ waits source
  pub now : new ≡ with_task old number (stopped_at old.settled source task)

-- ---- a source settles

abbrev pub woken_status : ℕ → Status → Status
woken_status source (status.Waiting waited) = if waited == source then status.Ready else status.Waiting waited
woken_status source s = s

abbrev pub woken : ℕ → Task → Task
woken source t = record t { status = woken_status source t.status }

pub record PingStep (old new : State) (source : ℕ) : Type 0 where
  pub was : slice_get old.settled source ≡ Some false
  pub now : new ≡ record old { settled = slice_set old.settled source true; tasks = map (woken source) old.tasks }

-- ---- a task finishes

abbrev pub close : Task → Task
close t = record t { status = status.Done }

pub record DoneStep (g : Ground) (old new : State) (number : ℕ) : Type 0 where
  pub task : Task
  pub is_task : slice_get old.tasks number ≡ Some task
  pub turn : ℕ
  pub was : task.status ≡ status.Running turn
  pub end : End
  pub finds : (run_for g task.remembered task.what).step ≡ end
  pub finishes : Finishes end
  pub rows : Extends old.rows new.rows
  pub homes : Extends old.homes new.homes
  pub others : Extends old.others new.others
  pub counted : Extends old.counted new.counted
  pub born : List Task
  pub tasks : new.tasks ≡ slice_set old.tasks number (close task) ++ born
  pub are_ready : (t : Task) → In t born → t.status ≡ status.Ready
  pub rest : new ≡ record old { rows = new.rows; tasks = new.tasks; homes = new.homes; others = new.others; counted = new.counted }

-- ---- what is left ends as a failure

-- how a row refers to the error row
abbrev pub RefersTo : ℕ → Place → Type 0
RefersTo id at = (at ≡ place.Lazy id) ⊎ (at ≡ place.Value (record { id = id; path = [] }))

abbrev pub error_tree : List ℕ → PlaceTree
error_tree digest = record { kind = row.Error; places = place.Atom (atom.Failed digest) ∷ [] }

abbrev pub reference_tree : Place → PlaceTree
reference_tree at = record { kind = row.Model; places = at ∷ [] }

-- a task's own row refers to the error row, and a stream ends as broken
abbrev pub last_tree : Bool → List ℕ → Place → PlaceTree
last_tree alone digest at = if alone then reference_tree at else error_tree digest

abbrev pub last_row : List ℕ → Place → Task → PlacedRow
last_row digest at t = record { id = t.id; tree = last_tree (is_alone t.what) digest at }

-- the last row of each live task
abbrev pub last_rows : List ℕ → Place → List Task → List PlacedRow
last_rows digest at [] = []
last_rows digest at (t ∷ ts) = if is_live t.status then last_row digest at t ∷ last_rows digest at ts else last_rows digest at ts

-- each live task, with the error row
abbrev pub ends_of : ℕ → List Task → List (ℕ × ℕ)
ends_of error [] = []
ends_of error (t ∷ ts) = if is_live t.status then (t.id, error) ∷ ends_of error ts else ends_of error ts

pub record AbortStep (old new : State) : Type 0 where
  pub digest : List ℕ
  pub error : ℕ
  pub is_free : rows_of error old.rows ≡ []
  pub no_task : (t : Task) → In t old.tasks → ¬ (t.id ≡ error)
  pub reference : Place
  pub refers : RefersTo error reference
  pub now : new ≡ record old {
    rows = old.rows ++ record { id = error; tree = error_tree digest } ∷ last_rows digest reference old.tasks;
    tasks = map close old.tasks;
    ended = old.ended ++ ends_of error old.tasks;
  }

-- ---- runs

abbrev pub Does : Ground → State → Event → State → Type 0
Does g old (event.Take task) new = TakeStep old new task
Does g old (event.Done task) new = DoneStep g old new task
Does g old (event.Wait task source) new = WaitStep g old new task source
Does g old (event.Ping source) new = PingStep old new source
Does g old event.Abort new = AbortStep old new

pub record Step (g : Ground) (old : State) (e : Event) (new : State) : Type 0 where
  pub does : Does g old e new
  pub fits : Fits g new

-- from one state to another, one step for each event of the journal
abbrev pub Run : Ground → List Event → State → State → Type 0
Run g [] old new = old ≡ new
Run g (e ∷ journal) old new = (between : State) × Step g old e between × Run g journal between new

abbrev pub first_task : Task
first_task = record { id = 0; what = what.Root; status = status.Ready; turns = 0; remembered = [] }

-- the task of the root alone, and nothing is settled
abbrev pub opening : Ground → State
opening g =
    record {
      rows = [];
      tasks = first_task ∷ [];
      settled = replicate (length g.script.sources) false;
      homes = [];
      others = [];
      counted = [];
      ended = [];
      over = false;
    }

abbrev pub IsAbort : Event → Type 0
IsAbort event.Abort = Unit {0}
IsAbort e = ⊥

abbrev pub NoAborts : List Event → Type 0
NoAborts [] = Unit {0}
NoAborts (e ∷ journal) = ¬ IsAbort e × NoAborts journal

-- only these sources settle in the journal
abbrev pub PingsWithin : List Bool → List Event → Type 0
PingsWithin settled [] = Unit {0}
PingsWithin settled (event.Ping source ∷ journal) = (is_settled settled source ≡ true) × PingsWithin settled journal
PingsWithin settled (e ∷ journal) = PingsWithin settled journal
