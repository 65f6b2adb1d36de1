use Rattle.std.proofs.Common.{◌≡◌, ◌+◌, ◌≤◌, drop}
use Rattle.flight_render.specs.Run.{slots_cost}
use Rattle.flight_eval.proofs.work.slots_cost.Given as goal

abbrev pub invariant-loop-slot : goal.invariant-loop-slot
invariant-loop-slot l = (l.sum + slots_cost (drop l.slot-index l.slots) ≡ slots_cost l.slots) × (l.sum ≤ l.limit) × (l.limit ≡ l.fuel)
