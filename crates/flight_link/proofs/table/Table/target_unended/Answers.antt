use Rattle.flight_link.proofs.Targets.{awaiting_target, ring_target}
use Rattle.flight_link.proofs.table.Table.target_unended.Goals as goal

pub returns-in-Some : goal.returns-in-Some
returns-in-Some c = awaiting_target c.args.self.now c.args.node c.in-Some.id c.in-Some.ensures

pub returns-in-None : goal.returns-in-None
returns-in-None c = ring_target c.args.self.now c.args.node c.in-None.ensures
