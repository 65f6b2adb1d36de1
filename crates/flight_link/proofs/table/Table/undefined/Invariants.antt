use Rattle.std.proofs.Common.{take}
use Rattle.flight_link.specs.Least.{IsLeastIn, IsInRows}
use Rattle.flight_link.proofs.table.Table.undefined.Given as goal

abbrev pub invariant-rows : goal.invariant-rows
invariant-rows l = IsLeastIn l.self.rows.items (IsInRows (take l.row-index l.self.rows.items)) l.least
