use Rattle.std.proofs.Common.{sym, subst}
use Rattle.flight_link.specs.declared.below.Below.TheVariants as below
use Rattle.flight_link.specs.declared.target.Target.TheVariants as target
use Rattle.flight_link.specs.Slots.{IsBelowTarget}
use Rattle.flight_link.proofs.Slots.{action_below, action_past}
use Rattle.flight_link.proofs.table.Table.below_action.Goals as goal

pub returns-then-slot-ne0 : goal.returns-then-slot-ne0
returns-then-slot-ne0 c = action_past c.args.self.now.rows.items c.args.id c.args.slot c.if-slot-ne0.true

pub returns-in-Some : goal.returns-in-Some
returns-in-Some c = subst (λ n. IsBelowTarget c.args.self.now.rows.items (target.Action c.args.id) n (below.Slot c.target_at.result)) (sym c.if-slot-ne0.false) (action_below c.args.self.now c.args.id c.in-Some.spot c.target_at.result c.requires.table c.in-Some.ensures.bound c.target_at.ensures)
