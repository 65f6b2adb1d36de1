-- The chain of a slot: how a walk follows it, and what it comes to.
use Rattle.std.specs.Prelude.{ℕ, ◌≡◌, Bool, List, Some, None, slice_get}
use Rattle.std.specs.List.{AllByRecursion}
use Rattle.flight_value.specs.declared.graph.Slot.{Slot}
use Rattle.flight_value.specs.declared.graph.Slot.TheVariants as slot
use Rattle.flight_value.specs.declared.key.Key.{Key}
use Rattle.flight_value.specs.declared.made.Made.{Made}
use Rattle.flight_value.specs.declared.made.Tables.{Tables}
use Rattle.flight_value.specs.Store as store
use Rattle.flight_value.specs.Store.{Target}
use Rattle.flight_render.specs.declared.root.Ground.{Ground}
use Rattle.flight_render.specs.Costs.{IsOver}
use Rattle.flight_render.specs.Jobs.{Job, Value, job_of, comes, Leads, target_of}
use Rattle.flight_eval.specs.declared.body.Gave.{Gave}
use Rattle.flight_seq.specs.declared.chain.Turn.{Turn}
use Rattle.flight_seq.specs.declared.chain.Turn.TheVariants as turn
use Rattle.flight_seq.specs.declared.held.End.{End}
use Rattle.flight_seq.specs.declared.known.Known.TheVariants as known
use Rattle.flight_seq.specs.declared.walk.Walk.{Walk}
use Rattle.flight_seq.specs.Held.{end_for, value_for}
use Rattle.flight_seq.specs.Walk.{Entry, known_at, IsMetJob, IsWalk, GoesOn}

-- ---- chains

-- a value leads to another by jobs that are met
pub record Comes (g : Ground) (settled : List Bool) (entries : List Entry) (v w : Value) : Type 0 where
  pub jobs : List Job
  pub leads : Leads g settled v jobs w
  pub met : AllByRecursion (IsMetJob entries) jobs

-- ---- slots

-- the atom, or the number of the key
abbrev pub Fits : List Key → Slot → Target Key → Type 0
Fits keys (slot.Atom a) (store.atom b) = a ≡ b
Fits keys (slot.Node n) (store.node_at k) = slice_get keys n ≡ Some k
Fits keys s t = ⊥

-- a slot has that for which the value stands
pub record Draws (g : Ground) (settled : List Bool) (entries : List Entry) (keys : List Key) (s : Slot) (v : Value) : Type 0 where
  pub last : Value
  pub comes : Comes g settled entries v last
  pub no_job : job_of g settled last ≡ None
  pub fits : Fits keys s (target_of last)

-- ---- the walk along a chain

-- the body at the address finished, with these tables for what it made
abbrev pub HasInside : List Entry → List ℕ → Tables → Type 0
HasInside entries address inside = (made : List Made) × (gave : Gave) × (cost : ℕ) × (known_at entries address ≡ Some (known.Finished made inside gave cost))

-- the value stands for itself, in the slot
pub record StandsFor (g : Ground) (settled : List Bool) (fuel : ℕ) (v : Value) (s : Slot) (old new : Walk) : Type 0 where
  pub walk : IsWalk g settled fuel new
  pub goes_on : GoesOn old new
  pub no_job : job_of g settled v ≡ None
  pub fits : Fits new.keys.keys s (target_of v)

-- the value is a job that comes to the end
pub record ComesOn (g : Ground) (settled : List Bool) (fuel : ℕ) (v : Value) (e : End) (old new : Walk) : Type 0 where
  pub walk : IsWalk g settled fuel new
  pub goes_on : GoesOn old new
  pub job : Job
  pub is_job : job_of g settled v ≡ Some job
  pub comes_to : comes g settled job ≡ Some (end_for e)
  pub met : IsMetJob new.bodies.entries job

abbrev pub IsTurn : Ground → List Bool → ℕ → Value → Walk → Walk → Turn → Type 0
IsTurn g settled fuel v old new (turn.Stands s) = StandsFor g settled fuel v s old new
IsTurn g settled fuel v old new (turn.On e) = ComesOn g settled fuel v e old new
IsTurn g settled fuel v old new turn.Over = IsOver g settled fuel

-- the value leads to what the end gives
pub record Begins (g : Ground) (settled : List Bool) (fuel : ℕ) (v : Value) (e : End) (old new : Walk) : Type 0 where
  pub walk : IsWalk g settled fuel new
  pub goes_on : GoesOn old new
  pub leads : Comes g settled new.bodies.entries v (value_for e)

-- the slot has that for which the value stands
pub record Follows (g : Ground) (settled : List Bool) (fuel : ℕ) (s : Slot) (v : Value) (old new : Walk) : Type 0 where
  pub walk : IsWalk g settled fuel new
  pub goes_on : GoesOn old new
  pub draws : Draws g settled new.bodies.entries new.keys.keys s v
