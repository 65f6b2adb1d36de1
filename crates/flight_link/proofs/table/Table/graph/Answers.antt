use Rattle.flight_link.proofs.Valid.{drawing_right}
use Rattle.flight_link.proofs.table.Table.graph.Goals as goal

pub returns : goal.returns
returns c = drawing_right c.args.self.now.rows.items c.in_ok-drawing.drawing c.new.result c.requires.linked.table.fine c.in_ok-drawing.ensures c.new.ensures
