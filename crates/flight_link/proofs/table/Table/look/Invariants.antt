use Rattle.std.proofs.Common.{length}
use Rattle.flight_link.specs.Slots.{IsOnTheWay}
use Rattle.flight_link.proofs.table.Table.look.Given as goal

abbrev pub invariant-way : goal.invariant-way
invariant-way l = IsOnTheWay l.self.rows.items l.fn.path l.rest l.target

abbrev pub decreases-way : goal.decreases-way
decreases-way l = length l.rest
