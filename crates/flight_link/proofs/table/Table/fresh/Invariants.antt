use Rattle.std.proofs.Common.{take}
use Rattle.flight_link.specs.Growth.{AreFresh}
use Rattle.flight_link.proofs.table.Table.fresh.Given as goal

abbrev pub invariant-loop-number : goal.invariant-loop-number
invariant-loop-number l = AreFresh l.self.starts.items l.row (take l.number l.places) l.fresh
