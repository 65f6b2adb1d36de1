-- What an attempt at a job finds, with the job's own tables.
use Rattle.std.specs.Prelude.{ℕ, Bool, List, Option, Some, None, slice_get, unwrap_or, is_some, true, ◌≡◌}
use Rattle.flight_value.specs.declared.made.Made.{Made}
use Rattle.flight_value.specs.declared.name.Name.{Name}
use Rattle.flight_syntax.specs.declared.script.Flowing.{Flowing}
use Rattle.flight_value.specs.declared.made.Tree.{Tree}
use Rattle.flight_render.specs.declared.root.Ground.{Ground}
use Rattle.flight_render.specs.declared.job.What.{What}
use Rattle.flight_render.specs.declared.job.What.TheVariants as what
use Rattle.flight_render.specs.Run.{gave, Run, End, ends, fail}
use Rattle.flight_render.specs.Values.{made_in, source_end, undefined}
use Rattle.flight_render.specs.Operators.{type_digest}
use Rattle.flight_render.specs.Body.{root_body, fresh}
use Rattle.flight_render.specs.Bodies.{inner, element_of, next_body, node_at, TabledFor}
use Rattle.flight_render.specs.Jobs.{Job, the_root, element, outcome, known, blank, argument_in}
use Rattle.flight_render.specs.Plain.{last_job}

-- the job of a stream's item
abbrev pub source_job : Option ℕ → Job
source_job None = blank
source_job (Some source) = outcome source

abbrev pub item_job : Option Flowing → ℕ → Job
item_job None index = blank
item_job (Some f) index = source_job (slice_get f.items index)

abbrev pub end_job : Option Flowing → Job
end_job None = blank
end_job (Some f) = last_job f.last

-- what a task is for, as a job
abbrev pub job_for : Ground → What → Job
job_for g what.Root = the_root
job_for g (what.Element n tables) = element n
job_for g (what.Promise source) = outcome source
job_for g (what.Known slot) = known slot
job_for g (what.Item stream index) = item_job (slice_get g.script.streams stream) index
job_for g (what.Last stream) = end_job (slice_get g.script.streams stream)

-- how a job ends that is no component's body
abbrev pub alone_end : Ground → List Bool → Job → End
alone_end g settled (outcome source) = source_end g settled source
alone_end g settled (known slot) = gave (argument_in g slot)
alone_end g settled _ = gave undefined

-- the body of a server element of these tables
abbrev pub element_run : Ground → List Bool → List (List Made) → Name → Run Tree
element_run g settled tables n = unwrap_or (next_body g settled tables (inner n) (element_of (made_in tables n))) (fail type_digest fresh)

-- the own body of a task under these sources; a job that is no component's body makes nothing and costs nothing
abbrev pub run_for : Ground → List Bool → What → Run Tree
run_for g settled what.Root = root_body g settled
run_for g settled (what.Element n tables) = element_run g settled tables.made n
run_for g settled w = ends (alone_end g settled (job_for g w)) fresh

-- a task of a server element has the tables of that element, which is there under these sources
abbrev pub IsTabled : Ground → List Bool → What → Type 0
IsTabled g settled (what.Element n tables) = TabledFor g settled n tables.made × (is_some (element_of (node_at g settled n)) ≡ true)
IsTabled g settled w = Unit {0}
