use Rattle.flight_link.proofs.PlainRows.{follow_on}
use Rattle.flight_link.proofs.table.Table.follow_on.Goals as goal

pub returns : goal.returns
returns c = follow_on c.args.self.now.rows.items c.requires.plain
