use Rattle.std.proofs.Common.{subst, sym}
use Rattle.flight_link.specs.Nodes.{IsKnown}
use Rattle.flight_link.proofs.Targets.{absent_target}
use Rattle.flight_link.proofs.table.Table.target_of.Goals as goal

pub returns-in-None : goal.returns-in-None
returns-in-None c =
    let known = subst (IsKnown c.args.self.now.rows.items c.args.self.now.starts.items c.args.id) (sym c.in-None.ensures) (c.requires.table.known c.args.id) in
    absent_target c.args.self.now.rows.items c.args.id known
