use Rattle.std.proofs.Common.{◌≡◌, map, take}
use Rattle.flight_graph.specs.Walk.{placed}
use Rattle.flight_graph.specs.Canon.{map_slots, node_at}
use Rattle.flight_graph.proofs.rename.renamed_nodes.Given as goal

abbrev pub invariant-loop-node : goal.invariant-loop-node
invariant-loop-node l = l.new.items ≡ map (λ n. map_slots (placed l.places) (node_at l.nodes n)) (take l.node-index l.order)
