-- What a walk over a rendering has met: its bodies and its nodes.
use Rattle.std.specs.Prelude.{ℕ, ◌≡◌, ◌≤◌, ◌⊎◌, Bool, nat_eq, List, [], ◌∷◌, ◌++◌, map, Option, Some, None, slice_get, option_and_then}
use Rattle.std.specs.List.{AllByRecursion}
use Rattle.std.specs.Map.{lookup}
use Rattle.std.specs.Cmp.Lexicographic.{pointwise}
use Rattle.flight_value.specs.Store as target
use Rattle.flight_value.specs.declared.key.Key.{Key}
use Rattle.flight_value.specs.declared.made.Made.{Made}
use Rattle.flight_value.specs.declared.made.Tables.{Tables}
use Rattle.flight_value.specs.declared.made.Tree.{Tree}
use Rattle.flight_value.specs.declared.name.Name.{Name}
use Rattle.flight_render.specs.declared.root.Ground.{Ground}
use Rattle.flight_render.specs.declared.job.What.{What}
use Rattle.flight_render.specs.Run as run
use Rattle.flight_render.specs.Run.{waits, Run}
use Rattle.flight_render.specs.Bodies.{inner, body_at, tables_at}
use Rattle.flight_render.specs.Jobs.{Job, the_root, element, Value, job_of, comes, IsTarget}
use Rattle.flight_value.specs.Listed.{In, Distinct}
use Rattle.flight_render.specs.Costs.{Reached, address_of, total_of}
use Rattle.flight_render.specs.Attempt.{job_for, run_for}
use Rattle.flight_render.specs.Valid.{IsWhat}
use Rattle.flight_eval.specs.declared.body.Body.{Body}
use Rattle.flight_eval.specs.Attempted.{end_of, tables_of}
use Rattle.flight_seq.specs.declared.known.Known.{Known}
use Rattle.flight_seq.specs.declared.known.Known.TheVariants as known
use Rattle.flight_seq.specs.declared.walk.Walk.{Walk}

-- ---- bodies by their addresses

abbrev pub Entry : Type 0
Entry = List ℕ × Known

abbrev pub same_address : List ℕ → List ℕ → Bool
same_address = pointwise nat_eq

abbrev pub known_at : List Entry → List ℕ → Option Known
known_at entries address = lookup (same_address address) entries

abbrev pub IsKnownAt : List Entry → List ℕ → Type 0
IsKnownAt entries address = (k : Known) × (known_at entries address ≡ Some k)

abbrev pub known_made : Known → List Made
known_made (known.Finished made inside gave cost) = made
known_made (known.Waits source) = []

-- the node of a name
abbrev pub made_at : List Entry → Name → Option Made
made_at entries n = option_and_then (λ k. slice_get (known_made k) n.serial) (known_at entries n.render)

abbrev pub known_cost : Known → ℕ
known_cost (known.Finished made inside gave cost) = cost
known_cost (known.Waits source) = 0

-- the addresses and costs of the bodies that finished
abbrev pub counted : List Entry → List (List ℕ × ℕ)
counted [] = []
counted ((address, known.Finished made inside gave cost) ∷ entries) = (address, cost) ∷ counted entries
counted ((address, known.Waits source) ∷ entries) = counted entries

-- ---- what is known is so

-- a job whose body stands at the address, of a value that is reached
pub record IsCalled (g : Ground) (settled : List Bool) (address : List ℕ) : Type 0 where
  pub job : Job
  pub addressed : address_of job ≡ Some address
  pub value : Value
  pub met : Reached g settled value
  pub is_job : job_of g settled value ≡ Some job

abbrev pub IsKnownBody : Ground → List Bool → List ℕ → Known → Run Tree → Type 0
IsKnownBody g settled address (known.Finished made inside gave cost) here = (made ≡ here.after.made) × (inside.made ≡ tables_at g settled address ++ made ∷ []) × (here.step ≡ end_of gave) × (cost ≡ here.after.cost)
IsKnownBody g settled address (known.Waits source) here = here.step ≡ waits source

-- the body is that of its address, is called for and within the fuel
pub record IsEntry (g : Ground) (settled : List Bool) (fuel : ℕ) (e : Entry) : Type 0 where
  pub here : Run Tree
  pub is_body : body_at g settled e.0 ≡ Some here
  pub is_known : IsKnownBody g settled e.0 e.1 here
  pub within : here.after.cost ≤ fuel
  pub called : IsCalled g settled e.0

-- a value that is reached leads to the node at the key
pub record IsMet (g : Ground) (settled : List Bool) (k : Key) : Type 0 where
  pub value : Value
  pub met : Reached g settled value
  pub no_job : job_of g settled value ≡ None
  pub leads : IsTarget g settled value (target.node_at k)

-- all that is met is so, each body and each node once
pub record IsWalk (g : Ground) (settled : List Bool) (fuel : ℕ) (w : Walk) : Type 0 where
  pub bodies : AllByRecursion (IsEntry g settled fuel) w.bodies.entries
  pub once : Distinct (map (λ e. e.0) w.bodies.entries)
  pub is_spent : w.spent ≡ total_of (counted w.bodies.entries)
  pub within : w.spent ≤ fuel
  pub keys : AllByRecursion (IsMet g settled) w.keys.keys
  pub apart : Distinct w.keys.keys

-- a job whose body is known, or that has none
abbrev pub IsMetJob : List Entry → Job → Type 0
IsMetJob entries the_root = IsKnownAt entries []
IsMetJob entries (element n) = IsKnownAt entries (inner n)
IsMetJob entries j = Unit {0}

-- ---- what is added

-- the key is there, the last where it is new
abbrev pub Adds : List Key → Key → List Key → Type 0
Adds old key new = (new ≡ old) ⊎ ((new ≡ old ++ key ∷ []) × (In key old → ⊥))

-- more bodies and more keys may stand behind the old ones
pub record GoesOn (old new : Walk) : Type 0 where
  pub more_bodies : List Entry
  pub bodies : new.bodies.entries ≡ old.bodies.entries ++ more_bodies
  pub more_keys : List Key
  pub keys : new.keys.keys ≡ old.keys.keys ++ more_keys

-- ---- what is asked for

-- the task is that of the body at the address, which is called for
pub record IsAsked (g : Ground) (settled : List Bool) (address : List ℕ) (what : What) : Type 0 where
  pub is_what : IsWhat g address what
  pub is_body : body_at g settled address ≡ Some (run_for g settled what)
  pub tables : tables_of what ≡ tables_at g settled address
  pub addressed : address_of (job_for g what) ≡ Some address
  pub value : Value
  pub met : Reached g settled value
  pub is_job : job_of g settled value ≡ Some (job_for g what)

-- the body of an attempt, with the tables of the server elements that it made
abbrev pub IsFinished : Body → Known → Type 0
IsFinished b k = (inside : Tables) × (inside.made ≡ b.tables.made ++ b.made ∷ []) × (k ≡ known.Finished b.made inside b.gave b.cost)

-- the walk has gone on, and knows the body at the address
pub record Reaches (g : Ground) (settled : List Bool) (fuel : ℕ) (address : List ℕ) (old new : Walk) : Type 0 where
  pub walk : IsWalk g settled fuel new
  pub goes_on : GoesOn old new
  pub knows : IsKnownAt new.bodies.entries address

-- the walk has gone on, and the task's job comes to the end, its body being met
pub record Ends (g : Ground) (settled : List Bool) (fuel : ℕ) (what : What) (end : run.End) (old new : Walk) : Type 0 where
  pub walk : IsWalk g settled fuel new
  pub goes_on : GoesOn old new
  pub comes_to : comes g settled (job_for g what) ≡ Some end
  pub met : IsMetJob new.bodies.entries (job_for g what)
