use Rattle.flight_link.proofs.Targets.{ended_stop, ended_target, lost_target}
use Rattle.flight_link.proofs.table.Table.target_behind.Goals as goal

pub target_from-requires-clause-stop : goal.target_from-requires-clause-stop
target_from-requires-clause-stop c = ended_stop c.args.self.now c.args.states.now c.args.node c.in-Ended.end c.requires.node.0 c.requires.linked c.in-Ended.ensures c.requires.node.1

pub returns-in-Ended : goal.returns-in-Ended
returns-in-Ended c = ended_target c.args.self.now c.args.states.now c.args.node c.in-Ended.end c.target_from.result c.requires.linked c.in-Ended.ensures c.target_from.ensures

pub returns-in-Lost : goal.returns-in-Lost
returns-in-Lost c = lost_target c.args.self.now c.args.states.now c.args.node c.requires.linked c.in-Lost.ensures
