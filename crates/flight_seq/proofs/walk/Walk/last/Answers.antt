use Rattle.flight_seq.specs.Held.{value_for}
use Rattle.flight_seq.proofs.Pushing.{goes_none}
use Rattle.flight_seq.proofs.Chains.{comes_none, goes_on, reached_comes, turn_stands, turn_on}
use Rattle.flight_seq.proofs.walk.Walk.last.Goals as goal

pub turns-init : goal.turns-init
turns-init c = record {
  walk = c.requires.walk;
  goes_on = goes_none c.args.self.now;
  comes = comes_none c.args.ground.now c.args.seen.now.settled c.args.self.now.bodies.entries (value_for c.args.end);
}

pub turn-requires-clause-met : goal.turn-requires-clause-met
turn-requires-clause-met c =
    reached_comes c.args.ground.now c.args.seen.now.settled c.turns.self.bodies.entries (value_for c.args.end) (value_for c.turns.end) c.requires.met c.turns.invariant.comes

pub returns-in-Stands : goal.returns-in-Stands
returns-in-Stands c =
    turn_stands c.args.ground.now c.args.seen.now.settled c.args.fuel (value_for c.args.end) (value_for c.turns.end) c.in-Stands.slot c.args.self.now c.turns.self c.turn.new.self c.turns.invariant.goes_on c.turns.invariant.comes (rw c.in-Stands.is at c.in_ok-slot.ensures)

pub turns-preserved : goal.turns-preserved
turns-preserved c =
    let on = rw c.in-On.is at c.in_ok-slot.ensures in
    record {
      walk = on.walk;
      goes_on = goes_on c.args.self.now c.turns.self c.turn.new.self c.turns.invariant.goes_on on.goes_on;
      comes = turn_on c.args.ground.now c.args.seen.now.settled c.args.fuel (value_for c.args.end) (value_for c.turns.end) c.in-On.next c.turns.self c.turn.new.self c.turns.invariant.comes on;
    }
