use Rattle.std.proofs.Common.{sym, subst}
use Rattle.flight_link.specs.Nodes.{IsKnown}
use Rattle.flight_link.proofs.Waits.{resolves}
use Rattle.flight_link.proofs.table.Table.resolve.Goals as goal

pub returns-in-Some : goal.returns-in-Some
returns-in-Some c =
    let known = subst (IsKnown c.args.self.now.rows.items c.args.self.now.starts.items c.args.id) (sym c.in-Some.ensures) (c.requires.table.known c.args.id) in
    resolves c.args.self.now c.args.states.now c.args.id c.in-Some.known.node c.args.names.now c.advance.result c.requires known.0 c.advance.ensures.leads c.advance.ensures.quiet
