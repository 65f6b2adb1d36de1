use Rattle.std.proofs.Common.{◌≡◌, ◌++◌, take}
use Rattle.flight_link.specs.Drafted.{commas_parts, slot_parts}
use Rattle.flight_link.proofs.text.write_slots.Given as goal

abbrev pub invariant-loop-at : goal.invariant-loop-at
invariant-loop-at l = l.out ≡ l.initial.out ++ commas_parts slot_parts (take l.at l.targets)
