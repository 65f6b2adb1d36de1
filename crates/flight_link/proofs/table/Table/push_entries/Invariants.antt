use Rattle.std.proofs.Common.{take}
use Rattle.flight_link.specs.Nodes.{spot_of}
use Rattle.flight_link.specs.Laid.{AddsEntries}
use Rattle.flight_link.proofs.table.Table.push_entries.Given as goal

abbrev pub invariant-loop-number : goal.invariant-loop-number
invariant-loop-number l = AddsEntries l.self.rows.items (spot_of l.self.rows.items l.spot) (take l.number-index l.numbers) l.fn.targets.items l.targets.items
