use Rattle.flight_link.proofs.Slots.{node_place}
use Rattle.flight_link.proofs.Sights.{node_seen}
use Rattle.flight_link.proofs.table.Table.seen_node.Goals as goal

pub number-requires-clause-place : goal.number-requires-clause-place
number-requires-clause-place c = node_place c.args.self.now c.args.spot c.requires.target.0 c.requires.table c.requires.target.1

pub returns : goal.returns
returns c = node_seen c.args.self.now c.args.spot c.kind.result c.number.result c.requires.table c.kind.ensures c.number.ensures.number
