use Rattle.std.proofs.Common.{ℕ, take}
use Rattle.flight_value.specs.Listed.{In}
use Rattle.flight_task.proofs.queue.queue.Given as goal

abbrev pub invariant-loop-number : goal.invariant-loop-number
invariant-loop-number l = record {
  kept : (number : ℕ) → In number l.fn.ready.keys → In number l.ready.keys;
  queued : (number : ℕ) → In number (take l.number-index l.numbers) → In number l.ready.keys;
}
