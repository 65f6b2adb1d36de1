use Rattle.std.proofs.Common.{length}
use Rattle.flight_link.proofs.Advancing.{IsOnWay}
use Rattle.flight_link.proofs.table.Table.descend.Given as goal

abbrev pub invariant-loop-name : goal.invariant-loop-name
invariant-loop-name l = IsOnWay l.self l.fn.spot l.fn.names l.at l.rest

abbrev pub decreases-loop-name : goal.decreases-loop-name
decreases-loop-name l = length l.rest
