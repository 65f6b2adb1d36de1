use Rattle.std.proofs.Common.{◌≡◌, replicate, None}
use Rattle.flight_graph.proofs.walk.unvisited.Given as goal

abbrev pub invariant-loop : goal.invariant-loop
invariant-loop l = l.places.items ≡ replicate l.counter None
