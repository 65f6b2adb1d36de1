use Rattle.std.proofs.Common.{sym}
use Rattle.flight_seq.specs.Held.{end_for}
use Rattle.flight_seq.proofs.Tasks.{ends_known}
use Rattle.flight_seq.proofs.walk.Walk.end_of.Goals as goal

pub returns-in_ok-end-in-Some : goal.returns-in_ok-end-in-Some
returns-in_ok-end-in-Some c =
    ends_known c.args.ground.now c.args.seen.now.settled c.args.fuel c.args.address.now c.args.what c.in-Some.known.now (end_for c.in_ok-end-in-Some.field-0) c.args.self.now c.reach.new.self c.requires.asked (rw c.if-not-branch.false at c.in_ok-reach.ensures) (sym c.in-Some.ensures) c.in_ok-end-in-Some.ensures
