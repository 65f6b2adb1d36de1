use Rattle.std.proofs.Common.{sym}
use Rattle.flight_seq.proofs.Tasks.{reaches_here}
use Rattle.flight_seq.proofs.walk.Walk.reach.Goals as goal

pub returns-in-Some : goal.returns-in-Some
returns-in-Some c = reaches_here c.args.ground.now c.args.seen.now.settled c.args.fuel c.args.address.now c.in-Some.field-0.now c.args.self.now c.requires.walk (sym c.in-Some.ensures)
