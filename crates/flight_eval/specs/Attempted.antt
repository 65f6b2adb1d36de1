-- What an attempt at a job comes to, by the meaning of the job's own body.
use Rattle.std.specs.Prelude.{ℕ, ◌≡◌, ◌≤◌, ◌<◌, List, [], ◌∷◌}
use Rattle.flight_value.specs.declared.made.Made.{Made}
use Rattle.flight_value.specs.declared.made.Tree.{Tree}
use Rattle.flight_render.specs.declared.root.Ground.{Ground}
use Rattle.flight_render.specs.declared.job.Job.{Job}
use Rattle.flight_render.specs.declared.job.What.{What}
use Rattle.flight_render.specs.declared.job.What.TheVariants as what
use Rattle.flight_render.specs.Run.{gave, threw, waits, Run, End}
use Rattle.flight_render.specs.Attempt.{run_for}
use Rattle.flight_eval.specs.declared.body.Gave.{Gave}
use Rattle.flight_eval.specs.declared.body.Gave.TheVariants as gives
use Rattle.flight_eval.specs.declared.body.Body.{Body}
use Rattle.flight_eval.specs.declared.body.Attempt.{Attempt}
use Rattle.flight_eval.specs.declared.body.Attempt.TheVariants as attempt

abbrev pub end_of : Gave → End
end_of (gives.Tree value) = gave value
end_of (gives.Threw digest) = threw digest

-- the tables of a job's address
abbrev pub tables_of : What → List (List Made)
tables_of (what.Element element tables) = tables.made
tables_of _ = []

-- a body that finished is the run, at that address with those tables
pub record IsBody (address : List ℕ) (tables : List (List Made)) (run : Run Tree) (b : Body) : Type 0 where
  pub is_address : b.address ≡ address
  pub are_tables : b.tables.made ≡ tables
  pub is_made : b.made ≡ run.after.made
  pub is_end : run.step ≡ end_of b.gave
  pub is_cost : b.cost ≡ run.after.cost

-- the run of the job's own body
abbrev pub own_run : Ground → Job → Run Tree
own_run g job = run_for g job.seen.settled job.what

abbrev pub IsAttempt : Ground → Job → ℕ → Attempt → Type 0
IsAttempt g job fuel (attempt.Finished bodies) =
    (b : Body) × (bodies ≡ b ∷ []) × IsBody job.address (tables_of job.what) (own_run g job) b × (b.cost ≤ fuel)
IsAttempt g job fuel (attempt.Waits source) = ((own_run g job).step ≡ waits source) × ((own_run g job).after.cost ≤ fuel)
IsAttempt g job fuel attempt.OverFuel = fuel < (own_run g job).after.cost
