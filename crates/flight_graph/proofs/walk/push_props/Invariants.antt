use Rattle.std.proofs.Common.{◌≡◌, ◌++◌, map, take}
use Rattle.flight_graph.specs.Walk.{named}
use Rattle.flight_graph.proofs.walk.push_props.Given as goal

abbrev pub invariant-loop-prop : goal.invariant-loop-prop
invariant-loop-prop l = l.waiting.items ≡ l.initial.waiting.items ++ named (map (λ p. p.slot) (take l.prop-index l.props))
