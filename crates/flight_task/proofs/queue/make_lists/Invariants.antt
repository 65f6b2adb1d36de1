use Rattle.std.proofs.Common.{◌≡◌, length}
use Rattle.flight_task.specs.Tasks.{Holds}
use Rattle.flight_task.proofs.queue.make_lists.Given as goal

abbrev pub invariant-loop : goal.invariant-loop
invariant-loop l = Holds l.fn.waiting.items l.waiting.items × (l.counter ≡ length l.waiting.items)
