use Rattle.std.proofs.Common.{◌≡◌, ◌++◌, map, take}
use Rattle.flight_graph.specs.Canon.{map_slots, node_at}
use Rattle.flight_graph.specs.Text.{lines_from}
use Rattle.flight_graph.specs.Walk.{placed}
use Rattle.flight_graph.proofs.print.write_lines.Given as goal

abbrev pub invariant-loop-place : goal.invariant-loop-place
invariant-loop-place l = l.out ≡ l.initial.out ++ lines_from 0 (map (λ n. map_slots (placed l.places) (node_at l.nodes n)) (take l.place l.order))
