use Rattle.flight_link.proofs.Slots.{node_below, node_past, node_place}
use Rattle.flight_link.proofs.table.Table.below_node.Goals as goal

pub slot-requires-clause-place : goal.slot-requires-clause-place
slot-requires-clause-place c = node_place c.args.self.now c.args.node c.requires.target.0 c.requires.linked.table c.requires.target.1

pub returns-in-Some : goal.returns-in-Some
returns-in-Some c = node_below c.args.self.now c.args.node c.in-Some.spot c.args.slot c.target_at.result c.requires.linked.table c.in-Some.ensures.slot c.target_at.ensures

pub returns-in-None : goal.returns-in-None
returns-in-None c = node_past c.args.self.now c.args.node c.args.slot c.requires.linked.table c.in-None.ensures.slot
