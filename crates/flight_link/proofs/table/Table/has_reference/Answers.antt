use Rattle.std.proofs.Common.{◌≡◌, Some, subst, sym, rules}
use Rattle.flight_link.specs.Nodes.{IsKnown, IsRowOf}
use Rattle.flight_link.proofs.Defined.{has_one}
use Rattle.flight_link.proofs.table.Table.has_reference.Goals as goal

pub returns-in-Some-get : goal.returns-in-Some-get
returns-in-Some-get c =
    let is : c.in-Some.known.row ≡ Some c.in-Some-get.row = search rules in
    let known = subst (IsKnown c.args.self.now.rows.items c.args.self.now.starts.items c.args.id) (sym c.in-Some.ensures) (c.requires.known c.args.id) in
    has_one c.args.self.now c.args.id c.in-Some-get.row c.is_reference.result c.requires (subst (IsRowOf c.args.self.now.rows.items c.args.id) is known.1) c.is_reference.ensures
