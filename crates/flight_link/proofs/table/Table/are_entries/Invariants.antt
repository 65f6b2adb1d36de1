use Rattle.std.proofs.Common.{◌≡◌, drop}
use Rattle.std.specs.Prelude.{is_some}
use Rattle.flight_meaning.specs.Meaning.{entries}
use Rattle.flight_link.specs.Nodes.{spot_of}
use Rattle.flight_link.proofs.table.Table.are_entries.Given as goal

abbrev pub invariant-loop-number : goal.invariant-loop-number
invariant-loop-number l = is_some (entries l.self.rows.items (spot_of l.self.rows.items l.spot) l.numbers) ≡ is_some (entries l.self.rows.items (spot_of l.self.rows.items l.spot) (drop l.number-index l.numbers))
