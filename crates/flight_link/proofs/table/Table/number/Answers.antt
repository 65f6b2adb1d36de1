use Rattle.std.proofs.Common.{◌+◌, ap, arith}
use Rattle.flight_link.proofs.Marks.{spot_fits, is_number}
use Rattle.flight_link.proofs.table.Table.number.Goals as goal

pub overflow_add-result : goal.overflow_add-result
overflow_add-result c = omega (arith, spot_fits c.args.self.now.rows.items c.args.bases.before.now c.args.bases.total c.base_at.result c.args.spot c.requires.place.0 c.requires.bases c.requires.place.1 c.base_at.ensures)

pub returns-clause-number : goal.returns-clause-number
returns-clause-number c = is_number c.args.self.now c.args.bases.before.now c.args.bases.total c.base_at.result c.args.spot c.requires.place.0 c.requires.table c.requires.bases c.requires.place.1 c.base_at.ensures

pub returns-clause-value : goal.returns-clause-value
returns-clause-value c = ap (λ x. x + c.args.spot.place) (c.requires.bases.before c.args.spot.row c.base_at.result c.base_at.ensures)
