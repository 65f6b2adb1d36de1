use Rattle.std.proofs.Common.{◌≡◌, map, take}
use Rattle.flight_graph.specs.Walk.{placed}
use Rattle.flight_graph.proofs.rename.renamed_slots.Given as goal

abbrev pub invariant-loop-slot : goal.invariant-loop-slot
invariant-loop-slot l = l.new.items ≡ map (placed l.places) (take l.slot-index l.slots)
