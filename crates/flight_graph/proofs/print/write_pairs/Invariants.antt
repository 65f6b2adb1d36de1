use Rattle.std.proofs.Common.{◌≡◌, ◌++◌, map, take}
use Rattle.flight_graph.specs.Canon.{map_pair}
use Rattle.flight_graph.specs.Text.{commas, pair_text}
use Rattle.flight_graph.specs.Walk.{placed}
use Rattle.flight_graph.proofs.print.write_pairs.Given as goal

abbrev pub invariant-loop-at : goal.invariant-loop-at
invariant-loop-at l = l.out ≡ l.initial.out ++ commas pair_text (map (map_pair (placed l.places)) (take l.at l.pairs))
