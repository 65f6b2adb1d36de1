use Rattle.std.proofs.Common.{sym, subst}
use Rattle.flight_link.specs.Slots.{IsBelowTarget}
use Rattle.flight_link.proofs.table.Table.below.Goals as goal

pub returns-in-Node : goal.returns-in-Node
returns-in-Node c = subst (λ x. IsBelowTarget c.args.self.now.rows.items x c.args.slot c.below_node.result) (sym c.in-Node.is) c.below_node.ensures

pub returns-in-Promise : goal.returns-in-Promise
returns-in-Promise c = subst (λ x. IsBelowTarget c.args.self.now.rows.items x c.args.slot c.below_promise.result) (sym c.in-Promise.is) c.below_promise.ensures

pub returns-in-Action : goal.returns-in-Action
returns-in-Action c = subst (λ x. IsBelowTarget c.args.self.now.rows.items x c.args.slot c.below_action.result) (sym c.in-Action.is) c.below_action.ensures
