use Rattle.std.proofs.Common.{sym, subst}
use Rattle.flight_link.specs.declared.below.Below.TheVariants as below
use Rattle.flight_link.specs.declared.target.Target.TheVariants as target
use Rattle.flight_link.specs.Slots.{IsBelowTarget}
use Rattle.flight_link.proofs.Slots.{promise_below}
use Rattle.flight_link.proofs.table.Table.below_promise.Goals as goal

pub returns-then-slot-eq0 : goal.returns-then-slot-eq0
returns-then-slot-eq0 c = subst (λ n. IsBelowTarget c.args.self.now.rows.items (target.Promise c.args.id) n (below.Slot c.target_of.result)) (sym c.if-slot-eq0.true) (promise_below c.args.self.now.rows.items c.args.id c.target_of.result c.target_of.ensures)
