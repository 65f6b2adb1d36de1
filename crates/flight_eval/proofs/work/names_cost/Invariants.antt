use Rattle.std.proofs.Common.{◌≡◌, ◌+◌, ◌≤◌, drop}
use Rattle.flight_render.specs.Run.{names_cost}
use Rattle.flight_eval.proofs.work.names_cost.Given as goal

abbrev pub invariant-loop-name : goal.invariant-loop-name
invariant-loop-name l = (l.sum + names_cost (drop l.name-index l.names) ≡ names_cost l.names) × (l.sum ≤ l.limit) × (l.limit ≡ l.fuel)
