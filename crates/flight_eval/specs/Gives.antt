-- How an answer of the code stands to the run that it is an answer of, with a limit on the cost.
use Rattle.std.specs.Prelude.{ℕ, ◌≡◌, ◌≤◌, ◌<◌, List, Result, Ok, Err}
use Rattle.flight_render.specs.Run.{Machine, Step, gave, threw, waits, Run, ends}
use Rattle.flight_render.specs.Eval.{Context}
use Rattle.flight_eval.specs.declared.stop.Stop.{Stop}
use Rattle.flight_eval.specs.declared.stop.Stop.TheVariants as stop
use Rattle.flight_eval.specs.declared.work.Work.{Work}
use Rattle.flight_eval.specs.declared.place.Place.{Place}

-- what the code has done, and where it evaluates
abbrev pub work_of : Work → Machine
work_of w = record { made = w.made.items; cost = w.cost }

abbrev pub context_of : Place → Context
context_of p = record { over = p.over.now; settled = p.seen.now.settled; address = p.address.now; tables = p.tables.now.made }

-- it stopped where the run stops, or where the cost of the run is over the limit
abbrev pub Stopped : {A : Type 0} → ℕ → Run A → Stop → Machine → Type 0
Stopped fuel run (stop.Threw digest) m = (run ≡ ends (threw digest) m) × (m.cost ≤ fuel)
Stopped fuel run (stop.Waits source) m = (run ≡ ends (waits source) m) × (m.cost ≤ fuel)
Stopped fuel run stop.OverFuel m = fuel < run.after.cost
Stopped fuel run stop.Memory m = Unit {0}

-- it gave what the run gives, within the limit, or it stopped
abbrev pub Gives : {A B : Type 0} → (B → A) → ℕ → Run A → Result B Stop → Machine → Type 0
Gives view fuel run (Ok b) m = (run ≡ ends (gave (view b)) m) × (m.cost ≤ fuel)
Gives view fuel run (Err s) m = Stopped fuel run s m

-- an answer that makes and costs nothing
abbrev pub Halts : {A : Type 0} → Step A → Stop → Type 0
Halts step (stop.Threw digest) = step ≡ threw digest
Halts step (stop.Waits source) = step ≡ waits source
Halts step stop.OverFuel = ⊥
Halts step stop.Memory = Unit {0}

abbrev pub Comes : {A : Type 0} → Step A → Result A Stop → Type 0
Comes step (Ok a) = step ≡ gave a
Comes step (Err s) = Halts step s

-- it threw the digest
abbrev pub Throws : List ℕ → Stop → Type 0
Throws digest (stop.Threw thrown) = digest ≡ thrown
Throws digest stop.Memory = Unit {0}
Throws digest _ = ⊥
