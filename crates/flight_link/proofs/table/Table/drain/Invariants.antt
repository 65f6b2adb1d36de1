use Rattle.std.proofs.Common.{length, None}
use Rattle.flight_link.specs.Nodes.{AreStates}
use Rattle.flight_link.specs.Backlogs.{AreListed, HasRoom, to_do}
use Rattle.flight_link.proofs.table.Table.drain.Given as goal

abbrev pub invariant-loop-ended : goal.invariant-loop-ended
invariant-loop-ended l = record {
  states : AreStates l.self l.states;
  listed : AreListed (length l.states) None l.states l.backlog;
  room : HasRoom l.states l.backlog;
}

abbrev pub decreases-loop-ended : goal.decreases-loop-ended
decreases-loop-ended l = to_do l.states l.backlog
