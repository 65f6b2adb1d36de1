use Rattle.flight_seq.proofs.Tasks.{over_body}
use Rattle.flight_seq.proofs.task.tried.Goals as goal

pub returns : goal.returns
returns c = over_body c.args.ground.now c.args.job.now.seen.settled c.args.fuel c.args.job.now.address c.args.job.now.what c.requires.asked (rw c.in-OverFuel.is at c.in_ok-bodies.ensures)
