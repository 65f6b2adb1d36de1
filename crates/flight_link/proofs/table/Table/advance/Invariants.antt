use Rattle.std.proofs.Common.{length}
use Rattle.flight_link.proofs.Advancing.{IsBehind}
use Rattle.flight_link.proofs.table.Table.advance.Given as goal

abbrev pub invariant-walks : goal.invariant-walks
invariant-walks l = IsBehind l.self l.fn.node l.fn.names l.behind l.rest

abbrev pub decreases-walks : goal.decreases-walks
decreases-walks l = length l.rest
