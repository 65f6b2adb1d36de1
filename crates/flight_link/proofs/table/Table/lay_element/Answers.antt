use Rattle.flight_link.proofs.LaidOut.{element_laid}
use Rattle.flight_link.proofs.table.Table.lay_element.Goals as goal

pub returns : goal.returns
returns c = element_laid c.args.self.now.rows.items c.args.spot c.args.tag c.args.key c.args.props c.args.targets.now.items c.push_slots.new.targets.items c.requires.linked.table.plain c.requires.place c.requires.empty c.in_ok-push_slots.ensures
