use Rattle.std.proofs.Common.{◌++◌, ◌∷◌, [], sym, subst, rules}
use Rattle.std.specs.List.{AllZip}
use Rattle.std.specs.Vec.Iter.{into_iter_items}
use Rattle.flight_render.specs.Costs.{Reached}
use Rattle.flight_seq.specs.Chain.{Draws}
use Rattle.flight_seq.proofs.Pushing.{goes_none}
use Rattle.flight_seq.proofs.Chains.{goes_on}
use Rattle.flight_seq.proofs.Drawings.{met_at, done_more, slots_push}
use Rattle.flight_seq.proofs.walk.Walk.slots.Goals as goal

pub loop-slot-init : goal.loop-slot-init
loop-slot-init c = (
  [],
  search rules,
  c.requires.walk,
  goes_none c.args.self.now,
  subst (λ xs. AllZip (Draws c.args.ground.now c.args.seen.now.settled c.args.self.now.bodies.entries c.args.self.now.keys.keys) xs []) (sym c.new-slots.ensures.items) tt,
)

pub follow-requires-clause-met : goal.follow-requires-clause-met
follow-requires-clause-met c =
    let done = c.loop-slot.invariant in
    met_at (Reached c.args.ground.now c.args.seen.now.settled) c.args.held.items done.0 (into_iter_items c.loop-slot.slot-iterator) (into_iter_items c.next.new.self) c.in-Some.slot done.1 c.in-Some.ensures.steps.0 c.requires.met

pub loop-slot-preserved : goal.loop-slot-preserved
loop-slot-preserved c =
    let done = c.loop-slot.invariant in
    let follows = rw c.in-Some-2.is at c.in_ok-slot.ensures in (
      done.0 ++ c.in-Some.slot ∷ [],
      done_more c.args.held.items done.0 (into_iter_items c.loop-slot.slot-iterator) (into_iter_items c.next.new.self) c.in-Some.slot done.1 c.in-Some.ensures.steps.0,
      follows.walk,
      goes_on c.args.self.now c.loop-slot.self c.follow.new.self done.3 follows.goes_on,
      slots_push c.args.ground.now c.args.seen.now.settled c.args.fuel c.loop-slot.self c.follow.new.self c.loop-slot.slots.items c.push.new.self.items done.0 c.in-Some-2.slot c.in-Some.slot done.4 follows c.in_ok-push-in-Some-2.ensures.items,
    )
