use Rattle.std.proofs.Common.{◌≡◌, ◌++◌, map, take}
use Rattle.flight_graph.specs.Text.{commas, slot_text}
use Rattle.flight_graph.specs.Walk.{placed}
use Rattle.flight_graph.proofs.print.write_slots.Given as goal

abbrev pub invariant-loop-at : goal.invariant-loop-at
invariant-loop-at l = l.out ≡ l.initial.out ++ commas slot_text (map (placed l.places) (take l.at l.slots))
