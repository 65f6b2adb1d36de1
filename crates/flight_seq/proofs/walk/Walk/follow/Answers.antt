use Rattle.flight_seq.specs.Held.{value_for, value_held}
use Rattle.flight_seq.proofs.Chains.{reached_comes, follows_if}
use Rattle.flight_seq.proofs.walk.Walk.follow.Goals as goal

pub last-requires-clause-met : goal.last-requires-clause-met
last-requires-clause-met c =
    let begins = rw c.in-Some.is at c.in_ok-end.ensures in
    reached_comes c.args.ground.now c.args.seen.now.settled c.first.new.self.bodies.entries (value_held c.args.held) (value_for c.in-Some.end) c.requires.met begins.leads

pub returns-in-Some : goal.returns-in-Some
returns-in-Some c =
    let begins = rw c.in-Some.is at c.in_ok-end.ensures in
    follows_if c.args.ground.now c.args.seen.now.settled c.args.fuel (value_held c.args.held) c.in-Some.end c.args.self.now c.first.new.self c.last.new.self c.last.result begins c.last.ensures
