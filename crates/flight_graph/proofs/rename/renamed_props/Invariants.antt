use Rattle.std.proofs.Common.{◌≡◌, map, take}
use Rattle.flight_graph.specs.Walk.{placed}
use Rattle.flight_graph.specs.Canon.{map_prop}
use Rattle.flight_graph.proofs.rename.renamed_props.Given as goal

abbrev pub invariant-loop-prop : goal.invariant-loop-prop
invariant-loop-prop l = l.new.items ≡ map (map_prop (placed l.places)) (take l.prop-index l.props)
