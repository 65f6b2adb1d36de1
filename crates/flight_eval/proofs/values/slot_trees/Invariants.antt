use Rattle.std.proofs.Common.{◌≡◌, ◌++◌, drop, map}
use Rattle.flight_eval.specs.Seen.{slot_tree}
use Rattle.flight_eval.proofs.values.slot_trees.Given as goal

abbrev pub invariant-loop-slot : goal.invariant-loop-slot
invariant-loop-slot l = l.trees.items ++ map (slot_tree l.source) (drop l.slot-index l.slots) ≡ map (slot_tree l.source) l.slots
