use Rattle.flight_link.proofs.LaidOut.{promise_laid}
use Rattle.flight_link.proofs.table.Table.lay_promise.Goals as goal

pub returns : goal.returns
returns c = promise_laid c.args.self.now.rows.items c.args.id c.target_of.result c.args.targets.now.items c.push.new.self.items c.target_of.ensures c.requires.empty c.in_ok-push.ensures.items
