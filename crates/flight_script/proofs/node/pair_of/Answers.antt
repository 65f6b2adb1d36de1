use Rattle.flight_script.proofs.Nodes.{not_two}
use Rattle.flight_script.proofs.node.pair_of.Goals as goal

pub returns-in_default : goal.returns-in_default
returns-in_default c = not_two c.args.count c.args.items.now c.in_default.ensures
