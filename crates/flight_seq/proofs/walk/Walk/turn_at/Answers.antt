use Rattle.std.proofs.Common.{refl, sym, subst}
use Rattle.flight_value.specs.declared.graph.Slot.TheVariants as slot
use Rattle.flight_value.specs.declared.made.Tree.TheVariants as tree
use Rattle.flight_render.specs.Jobs.{shown}
use Rattle.flight_seq.specs.Chain.{StandsFor}
use Rattle.flight_seq.proofs.Chains.{stands_here}
use Rattle.flight_seq.proofs.walk.Walk.turn_at.Goals as goal

pub returns-in-Atom : goal.returns-in-Atom
returns-in-Atom c =
    let g = c.args.ground.now in
    let s = c.args.seen.now.settled in
    let w = c.args.self.now in
    subst (λ t. StandsFor g s c.args.fuel (shown t) (slot.Atom c.in-Atom.atom) w w) (sym c.in-Atom.is) (stands_here g s c.args.fuel (shown (tree.Atom c.in-Atom.atom)) (slot.Atom c.in-Atom.atom) w c.requires.walk refl refl)
