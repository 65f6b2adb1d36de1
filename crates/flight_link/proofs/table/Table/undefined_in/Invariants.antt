use Rattle.std.proofs.Common.{take}
use Rattle.flight_link.specs.Least.{IsLeastIn, IsIn}
use Rattle.flight_link.proofs.table.Table.undefined_in.Given as goal

abbrev pub invariant-places : goal.invariant-places
invariant-places l = IsLeastIn l.self.rows.items (IsIn (take l.place-index l.places)) l.least
