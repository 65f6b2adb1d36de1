use Rattle.flight_link.proofs.Defined.{least_of_all}
use Rattle.flight_link.proofs.table.Table.least_undefined.Goals as goal

pub returns : goal.returns
returns c = least_of_all c.args.self.now.rows.items c.undefined.result c.requires.table.plain c.undefined.ensures
