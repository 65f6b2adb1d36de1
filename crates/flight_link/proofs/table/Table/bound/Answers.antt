use Rattle.std.proofs.Common.{◌≡◌, Some, subst, sym, rules}
use Rattle.flight_link.specs.Nodes.{IsKnown, IsRowOf}
use Rattle.flight_link.specs.Slots.{IsBound}
use Rattle.flight_link.proofs.Slots.{bound_of_row}
use Rattle.flight_link.proofs.table.Table.bound.Goals as goal

pub returns-in-Some-get-clause-bound : goal.returns-in-Some-get-clause-bound
returns-in-Some-get-clause-bound c =
    let is : c.in-Some.known.row ≡ Some c.in-Some-get.row = search rules in
    let known = subst (IsKnown c.args.self.now.rows.items c.args.self.now.starts.items c.args.id) (sym c.in-Some.ensures) (c.requires.known c.args.id) in
    subst (IsBound c.args.self.now.rows.items c.args.id) (sym c.property.ensures.property)
    (bound_of_row c.args.self.now c.args.id c.in-Some-get.row c.requires (subst (IsRowOf c.args.self.now.rows.items c.args.id) is known.1))
