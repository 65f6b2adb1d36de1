use Rattle.std.proofs.Common.{arith}
use Rattle.flight_link.proofs.Marks.{number_fits}
use Rattle.flight_link.proofs.table.Table.numbered.Goals as goal

pub overflow_add-result : goal.overflow_add-result
overflow_add-result c =
    let fits = number_fits c.args.self.now.rows.items c.args.bases.before.now c.args.bases.total c.args.row c.base_at-base.result c.args.place c.requires.there.0 c.requires.bases c.requires.there.1 c.base_at-base.ensures c.requires.there.2 in
    let same = c.in-Ok.ensures in
    omega (arith, fits, same)

pub returns-in-Err : goal.returns-in-Err
returns-in-Err c =
    let fits = number_fits c.args.self.now.rows.items c.args.bases.before.now c.args.bases.total c.args.row c.base_at-base.result c.args.place c.requires.there.0 c.requires.bases c.requires.there.1 c.base_at-base.ensures c.requires.there.2 in
    let big = c.in-Err.ensures in
    let never : ⊥ = omega (arith, fits, big) in
    absurd never
