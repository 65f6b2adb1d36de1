use Rattle.std.proofs.Common.{subst}
use Rattle.flight_link.specs.declared.node.State.TheVariants.{Absent, Ended, Behind}
use Rattle.flight_link.specs.Waiting.{IsResolved}
use Rattle.flight_link.proofs.Finds.{found_ended, found_absent, found_waits, found_ring}
use Rattle.flight_link.proofs.table.Table.find.Goals as goal

pub returns-in-Ended : goal.returns-in-Ended
returns-in-Ended c =
    found_ended c.args.self.now c.args.states.now c.args.reference.now c.in-Ended.spot c.requires.table
    (subst (λ p. IsResolved c.args.self.now c.args.states.now c.args.reference.now.id p (Ended c.in-Ended.spot)) c.as_slice.ensures c.in-Ended.ensures)

pub returns-in-Absent : goal.returns-in-Absent
returns-in-Absent c =
    found_absent c.args.self.now c.args.states.now c.args.reference.now
    (subst (λ p. IsResolved c.args.self.now c.args.states.now c.args.reference.now.id p Absent) c.as_slice.ensures c.in-Absent.ensures)

pub returns-in-Some : goal.returns-in-Some
returns-in-Some c =
    found_waits c.args.self.now c.args.states.now c.args.reference.now c.in-Behind.node c.in-Behind.left c.in-Some.id
    (subst (λ p. IsResolved c.args.self.now c.args.states.now c.args.reference.now.id p (Behind c.in-Behind.node c.in-Behind.left)) c.as_slice.ensures c.in-Behind.ensures) c.in-Some.ensures

pub returns-in-None : goal.returns-in-None
returns-in-None c =
    found_ring c.args.self.now c.args.states.now c.args.reference.now c.in-Behind.node c.in-Behind.left
    (subst (λ p. IsResolved c.args.self.now c.args.states.now c.args.reference.now.id p (Behind c.in-Behind.node c.in-Behind.left)) c.as_slice.ensures c.in-Behind.ensures) c.in-None.ensures
