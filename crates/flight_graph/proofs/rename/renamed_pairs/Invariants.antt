use Rattle.std.proofs.Common.{◌≡◌, map, take}
use Rattle.flight_graph.specs.Walk.{placed}
use Rattle.flight_graph.specs.Canon.{map_pair}
use Rattle.flight_graph.proofs.rename.renamed_pairs.Given as goal

abbrev pub invariant-loop-pair : goal.invariant-loop-pair
invariant-loop-pair l = l.new.items ≡ map (map_pair (placed l.places)) (take l.pair-index l.pairs)
