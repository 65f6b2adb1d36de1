use Rattle.std.proofs.Common.{refl, sym, subst}
use Rattle.flight_value.specs.declared.graph.Atom.TheVariants as atom
use Rattle.flight_value.specs.declared.graph.Slot.TheVariants as slot
use Rattle.flight_render.specs.Jobs.{failed, stopped}
use Rattle.flight_seq.specs.Held.{value_for}
use Rattle.flight_seq.specs.Chain.{StandsFor}
use Rattle.flight_seq.proofs.Chains.{stands_here}
use Rattle.flight_seq.proofs.walk.Walk.turn.Goals as goal

pub returns-in-Threw : goal.returns-in-Threw
returns-in-Threw c =
    let g = c.args.ground.now in
    let s = c.args.seen.now.settled in
    let w = c.args.self.now in
    subst (λ e. StandsFor g s c.args.fuel (value_for e) (slot.Atom (atom.Failed c.in-Threw.digest)) w w) (sym c.in-Threw.is) (stands_here g s c.args.fuel (failed c.in-Threw.digest) (slot.Atom (atom.Failed c.in-Threw.digest)) w c.requires.walk refl refl)

pub returns-in-Waits : goal.returns-in-Waits
returns-in-Waits c =
    let g = c.args.ground.now in
    let s = c.args.seen.now.settled in
    let w = c.args.self.now in
    subst (λ e. StandsFor g s c.args.fuel (value_for e) (slot.Atom atom.Pending) w w) (sym c.in-Waits.is) (stands_here g s c.args.fuel (stopped c.in-Waits.source) (slot.Atom atom.Pending) w c.requires.walk refl refl)
