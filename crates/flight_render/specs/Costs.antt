-- What is reached from the root, where it stops, and what it costs.
use Rattle.std.specs.Prelude.{ℕ, ◌+◌, ◌<◌, ◌≡◌, ◌⊎◌, Bool, List, [], ◌∷◌, map, Option, Some, None, slice_get}
use Rattle.flight_value.specs.Store as target
use Rattle.flight_value.specs.Store.{Shape}
use Rattle.flight_value.specs.Listed.{In, Distinct}
use Rattle.flight_value.specs.declared.key.Key.{Key}
use Rattle.flight_value.specs.declared.key.Key.TheVariants as key
use Rattle.flight_value.specs.declared.made.Tree.{Tree}
use Rattle.flight_syntax.specs.declared.script.Flowing.{Flowing}
use Rattle.flight_render.specs.declared.root.Ground.{Ground}
use Rattle.flight_render.specs.Run.{gave, waits, Run, End}
use Rattle.flight_render.specs.Bodies.{inner, body_at, Finishes}
use Rattle.flight_render.specs.Jobs.{Job, the_root, element, outcome, Value, of_job, stopped, job_of, job_body, comes, value_of, IsTarget}
use Rattle.flight_render.specs.Plain.{NodeIs, last_job}

-- the values that rendering reaches: that of the root, what a job comes to, and the slots of nodes
pub data Reached (g : Ground) (settled : List Bool) : Value → Type 0 where
  at_root : Reached g settled (of_job the_root)
  through : {v : Value} {j : Job} {end : End} → Reached g settled v → job_of g settled v ≡ Some j → comes g settled j ≡ Some end → Reached g settled (value_of g settled j end)
  in_slot : {v w : Value} {k : Key} {shape : Shape Value} → Reached g settled v → job_of g settled v ≡ None → IsTarget g settled v (target.node_at k) → NodeIs g settled k shape → In w shape.slots → Reached g settled w

-- ---- what is not settled

-- the source at which an open stream stops
abbrev pub waits_at : Option End → Option ℕ → Option ℕ
waits_at (Some (gave t)) later = later
waits_at (Some (waits source)) later = Some source
waits_at _ later = None

abbrev pub flow_stop : Ground → List Bool → List ℕ → Option ℕ → Option ℕ
flow_stop g settled [] last = waits_at (comes g settled (last_job last)) None
flow_stop g settled (source ∷ others) last = waits_at (comes g settled (outcome source)) (flow_stop g settled others last)

-- a stream that is reached, and the source at which it stops
pub record StreamStops (g : Ground) (settled : List Bool) (source : ℕ) : Type 0 where
  pub number : ℕ
  pub flows : Flowing
  pub is_stream : slice_get g.script.streams number ≡ Some flows
  pub value : Value
  pub met : Reached g settled value
  pub no_job : job_of g settled value ≡ None
  pub leads : IsTarget g settled value (target.node_at (key.Stream number))
  pub stop : flow_stop g settled flows.items flows.last ≡ Some source

-- the source is what a pending slot or an open stream waits for
abbrev pub Stops : Ground → List Bool → ℕ → Type 0
Stops g settled source = Reached g settled (stopped source) ⊎ StreamStops g settled source

-- ---- costs

-- the address at which a job's body is counted
abbrev pub address_of : Job → Option (List ℕ)
address_of the_root = Some []
address_of (element n) = Some (inner n)
address_of _ = None

-- a body that is rendered and finishes, by its address and its cost
pub record Rendered (g : Ground) (settled : List Bool) (address : List ℕ) (cost : ℕ) : Type 0 where
  pub here : Run Tree
  pub is_body : body_at g settled address ≡ Some here
  pub finishes : Finishes here.step
  pub costs : here.after.cost ≡ cost
  pub job : Job
  pub addressed : address_of job ≡ Some address
  pub value : Value
  pub met : Reached g settled value
  pub is_job : job_of g settled value ≡ Some job

abbrev pub total_of : List (List ℕ × ℕ) → ℕ
total_of [] = 0
total_of (p ∷ ps) = p.1 + total_of ps

-- the sum of the costs of all bodies that are rendered and finish, each address once
pub record Total (g : Ground) (settled : List Bool) (total : ℕ) : Type 0 where
  pub counted : List (List ℕ × ℕ)
  pub once : Distinct (map (λ p. p.0) counted)
  pub only : (address : List ℕ) (cost : ℕ) → In (address, cost) counted → Rendered g settled address cost
  pub each : (address : List ℕ) (cost : ℕ) → Rendered g settled address cost → In (address, cost) counted
  pub is_total : total ≡ total_of counted

-- bodies that are rendered and finish, each address once, whose costs exceed the fuel together
pub record TotalOver (g : Ground) (settled : List Bool) (fuel : ℕ) : Type 0 where
  pub counted : List (List ℕ × ℕ)
  pub once : Distinct (map (λ p. p.0) counted)
  pub only : (address : List ℕ) (cost : ℕ) → In (address, cost) counted → Rendered g settled address cost
  pub more : fuel < total_of counted

-- one body that costs more than the fuel before its end or its wait
pub record BodyOver (g : Ground) (settled : List Bool) (fuel : ℕ) : Type 0 where
  pub value : Value
  pub met : Reached g settled value
  pub job : Job
  pub is_job : job_of g settled value ≡ Some job
  pub here : Run Tree
  pub is_body : job_body g settled job ≡ Some here
  pub more : fuel < here.after.cost

-- rendering costs more than the fuel
abbrev pub IsOver : Ground → List Bool → ℕ → Type 0
IsOver g settled fuel = TotalOver g settled fuel ⊎ BodyOver g settled fuel
