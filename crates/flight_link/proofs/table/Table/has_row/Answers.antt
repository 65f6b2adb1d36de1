use Rattle.std.proofs.Common.{◌≡◌, ◌∙◌, is_some, sym, subst, rules}
use Rattle.flight_link.specs.Nodes.{IsKnown}
use Rattle.flight_link.proofs.Standing.{row_known}
use Rattle.flight_link.proofs.table.Table.has_row.Goals as goal

pub returns-in-Some-clause-some : goal.returns-in-Some-clause-some
returns-in-Some-clause-some c =
    let known = subst (IsKnown c.args.self.now.rows.items c.args.self.now.starts.items c.args.id) (sym c.in-Some.ensures) (c.requires.known c.args.id) in
    let k = row_known c.args.self.now.rows.items c.args.id c.in-Some.known.row c.requires.plain known.1 in
    let same : c.is_some.result ≡ is_some c.in-Some.known.row = search rules in
    (λ e. k.0 (sym same ∙ e), λ ne. same ∙ k.1 ne)
