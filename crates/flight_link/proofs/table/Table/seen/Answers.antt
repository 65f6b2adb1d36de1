use Rattle.std.proofs.Common.{sym, subst}
use Rattle.flight_link.specs.Slots.{IsSeenTarget}
use Rattle.flight_link.proofs.table.Table.seen.Goals as goal

pub returns-in-Node : goal.returns-in-Node
returns-in-Node c = subst (λ x. IsSeenTarget c.args.self.now.rows.items x c.seen_node.result) (sym c.in-Node.is) c.seen_node.ensures

pub returns-in-Promise : goal.returns-in-Promise
returns-in-Promise c = subst (λ x. IsSeenTarget c.args.self.now.rows.items x c.seen_promise.result) (sym c.in-Promise.is) c.seen_promise.ensures

pub returns-in-Action : goal.returns-in-Action
returns-in-Action c = subst (λ x. IsSeenTarget c.args.self.now.rows.items x c.seen_action.result) (sym c.in-Action.is) c.seen_action.ensures
