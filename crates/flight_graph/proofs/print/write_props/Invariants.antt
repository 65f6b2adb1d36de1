use Rattle.std.proofs.Common.{◌≡◌, ◌++◌, map, take}
use Rattle.flight_graph.specs.Canon.{map_prop}
use Rattle.flight_graph.specs.Text.{commas, prop_text}
use Rattle.flight_graph.specs.Walk.{placed}
use Rattle.flight_graph.proofs.print.write_props.Given as goal

abbrev pub invariant-loop-at : goal.invariant-loop-at
invariant-loop-at l = l.out ≡ l.initial.out ++ commas prop_text (map (map_prop (placed l.places)) (take l.at l.props))
