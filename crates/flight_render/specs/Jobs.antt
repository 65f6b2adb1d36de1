-- What is rendered or waited for on its own, and what a slot stands for.
use Rattle.std.specs.Prelude.{ℕ, ◌≡◌, Bool, if◌then◌else◌, List, [], ◌∷◌, length, Option, Some, None, is_some, option_map}
use Rattle.flight_value.specs.Store.{Target}
use Rattle.flight_value.specs.Store as target
use Rattle.flight_value.specs.declared.graph.Atom.TheVariants as atom
use Rattle.flight_value.specs.declared.graph.Slot.{Slot}
use Rattle.flight_value.specs.declared.key.Key.{Key}
use Rattle.flight_value.specs.declared.key.Key.TheVariants as key
use Rattle.flight_value.specs.declared.made.Made.{Made}
use Rattle.flight_value.specs.declared.made.Tree.{Tree}
use Rattle.flight_value.specs.declared.made.Tree.TheVariants as tree
use Rattle.flight_value.specs.declared.name.Name.{Name}
use Rattle.flight_syntax.specs.declared.script.Outcome.{Outcome}
use Rattle.flight_render.specs.declared.root.Ground.{Ground}
use Rattle.flight_render.specs.Run.{gave, threw, waits, Run, End}
use Rattle.flight_render.specs.Values.{arguments, tree_of, source_end, undefined}
use Rattle.flight_render.specs.Bodies.{inner, element_of, body_at, node_at}

-- the root, a server element, the outcome of a source, a slot of the arguments that a promise there holds, and the
-- final value of a stream that has none
pub data Job : Type 0 where
  the_root : Job
  element : (name : Name) → Job
  outcome : (source : ℕ) → Job
  known : (slot : Slot) → Job
  blank : Job

-- what a slot holds: a tree, what a job comes to, or how a job ended without a value
pub data Value : Type 0 where
  shown : (value : Tree) → Value
  of_job : (job : Job) → Value
  failed : (digest : List ℕ) → Value
  stopped : (source : ℕ) → Value

-- nothing more is awaited
abbrev pub IsFinal : Value → Type 0
IsFinal (stopped source) = ⊥
IsFinal _ = Unit {0}

-- whether a node is a server element
abbrev pub is_server : Option Made → Bool
is_server o = is_some (element_of o)

-- the job that a value is: that which it waits for, or that of a server element
abbrev pub job_of : Ground → List Bool → Value → Option Job
job_of g settled (of_job j) = Some j
job_of g settled (shown (tree.Made n)) = if is_server (node_at g settled n) then Some (element n) else None
job_of g settled _ = None

-- a slot of the arguments
abbrev pub argument : List Outcome → ℕ → Slot → Tree
argument [] source slot = undefined
argument (o ∷ others) source slot = tree_of o source slot

abbrev pub argument_in : Ground → Slot → Tree
argument_in g slot = argument (arguments g.root) (length g.script.sources) slot

-- the body of a job, where it has one
abbrev pub job_body : Ground → List Bool → Job → Option (Run Tree)
job_body g settled the_root = body_at g settled []
job_body g settled (element n) = body_at g settled (inner n)
job_body g settled _ = None

-- how a job ends
unfoldable pub comes : Ground → List Bool → Job → Option End
comes g settled the_root = option_map (λ b. b.step) (body_at g settled [])
comes g settled (element n) = option_map (λ b. b.step) (body_at g settled (inner n))
comes g settled (outcome source) = Some (source_end g settled source)
comes g settled (known slot) = Some (gave (argument_in g slot))
comes g settled blank = Some (gave undefined)

-- what a job came to by an end
abbrev pub value_of : Ground → List Bool → Job → End → Value
value_of g settled j (gave t) = shown t
value_of g settled j (threw digest) = failed digest
value_of g settled j (waits source) = stopped source

-- the jobs that come one after another on the way from a value to another
abbrev pub Leads : Ground → List Bool → Value → List Job → Value → Type 0
Leads g settled v [] w = v ≡ w
Leads g settled v (j ∷ js) w = (job_of g settled v ≡ Some j) × ((end : End) × (comes g settled j ≡ Some end) × Leads g settled (value_of g settled j end) js w)

-- what is no job stands for itself; a throw for its failure, a wait for a pending slot
abbrev pub target_of : Value → Target Key
target_of (shown (tree.Atom a)) = target.atom a
target_of (shown (tree.Made n)) = target.node_at (key.Made n)
target_of (shown (tree.FromSource source n)) = target.node_at (key.Source source n)
target_of (shown (tree.Promise source)) = target.node_at (key.Settled source)
target_of (shown (tree.Stream stream)) = target.node_at (key.Stream stream)
target_of (shown (tree.Action action)) = target.node_at (key.Action action)
target_of (failed digest) = target.atom (atom.Failed digest)
target_of (stopped source) = target.atom atom.Pending
target_of (of_job j) = target.atom atom.Pending

abbrev pub IsTarget : Ground → List Bool → Value → Target Key → Type 0
IsTarget g settled v t = t ≡ target_of v

-- a value stands for the end of its chain
pub record Stands (g : Ground) (settled : List Bool) (v : Value) (t : Target Key) : Type 0 where
  pub jobs : List Job
  pub last : Value
  pub leads : Leads g settled v jobs last
  pub no_job : job_of g settled last ≡ None
  pub is_target : IsTarget g settled last t
