use Rattle.std.proofs.Common.{◌≡◌, ◌++◌, take}
use Rattle.flight_graph.specs.Walk.{named}
use Rattle.flight_graph.proofs.walk.push_slots.Given as goal

abbrev pub invariant-loop-slot : goal.invariant-loop-slot
invariant-loop-slot l = l.waiting.items ≡ l.initial.waiting.items ++ named (take l.slot-index l.slots)
