use Rattle.flight_seq.specs.Held.{value_for}
use Rattle.flight_seq.specs.Walk.{IsWalk, GoesOn}
use Rattle.flight_seq.specs.Chain.{Comes}
use Rattle.flight_seq.proofs.walk.Walk.last.Given as goal

abbrev pub invariant-turns : goal.invariant-turns
invariant-turns l = record {
  walk : IsWalk l.fn.ground l.fn.seen.settled l.fn.fuel l.self;
  goes_on : GoesOn l.fn.self l.self;
  comes : Comes l.fn.ground l.fn.seen.settled l.self.bodies.entries (value_for l.fn.end) (value_for l.end);
}
