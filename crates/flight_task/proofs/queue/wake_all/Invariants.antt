use Rattle.std.proofs.Common.{ℕ, ◌≡◌, map, drop}
use Rattle.flight_value.specs.Listed.{In}
use Rattle.flight_task.specs.Tasks.{woken, IsWaiting}
use Rattle.flight_task.proofs.queue.wake_all.Given as goal

abbrev pub invariant-loop-number : goal.invariant-loop-number
invariant-loop-number l = record {
  same : map (woken l.source) l.tasks.items ≡ map (woken l.source) l.fn.tasks.items;
  left : (number : ℕ) → IsWaiting l.source l.tasks.items number → In number (drop l.number-index l.numbers);
}
