use Rattle.std.proofs.Common.{◌≡◌, ◌++◌, take}
use Rattle.flight_link.specs.Ordering.{keys_in}
use Rattle.flight_link.proofs.order.push_keys.Given as goal

abbrev pub invariant-loop-target : goal.invariant-loop-target
invariant-loop-target l = l.waiting.items ≡ l.initial.waiting.items ++ keys_in (take l.target-index l.targets)
