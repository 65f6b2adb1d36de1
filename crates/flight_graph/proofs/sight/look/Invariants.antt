use Rattle.std.proofs.Common.{◌≡◌, drop}
use Rattle.flight_graph.specs.Look.{slot_along}
use Rattle.flight_graph.proofs.sight.look.Given as goal

abbrev pub invariant-loop-number : goal.invariant-loop-number
invariant-loop-number l = slot_along l.graph.nodes l.slot (drop l.number-index l.path) ≡ slot_along l.graph.nodes l.graph.root l.path
