use Rattle.std.proofs.Common.{◌≡◌, length}
use Rattle.flight_graph.specs.Canon.{visited_of}
use Rattle.flight_graph.specs.Walk.{IsKept, reached, turns_left}
use Rattle.flight_graph.proofs.walk.visit_all.Given as goal

abbrev pub invariant-loop-node : goal.invariant-loop-node
invariant-loop-node l = record {
  kept : IsKept (length l.nodes) l.walk;
  reached : reached l.nodes l.walk ≡ visited_of l.graph;
}

abbrev pub decreases-loop-node : goal.decreases-loop-node
decreases-loop-node l = turns_left l.nodes l.walk
