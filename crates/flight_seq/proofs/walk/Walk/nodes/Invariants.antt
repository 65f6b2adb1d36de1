use Rattle.flight_seq.specs.Walk.{IsWalk, GoesOn}
use Rattle.flight_seq.specs.Drawing.{DrawEach}
use Rattle.flight_seq.proofs.walk.Walk.nodes.Given as goal

abbrev pub invariant-nodes : goal.invariant-nodes
invariant-nodes l = record {
  walk : IsWalk l.fn.ground l.fn.seen.settled l.fn.fuel l.self;
  goes_on : GoesOn l.fn.self l.self;
  each : DrawEach l.fn.ground l.fn.seen.settled l.self.bodies.entries l.self.keys.keys l.nodes.items;
}
