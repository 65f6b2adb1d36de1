use Rattle.flight_link.specs.Marks.{mentioned}
use Rattle.flight_link.proofs.Marks.{IsNoneBefore}
use Rattle.flight_link.proofs.table.Table.first_mention.Given as goal

abbrev pub invariant-loop-row : goal.invariant-loop-row
invariant-loop-row l = IsNoneBefore l.self.rows.items (mentioned l.mention) l.row
