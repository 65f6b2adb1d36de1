use Rattle.flight_resolve.proofs.Firsts.{of_parts}
use Rattle.flight_resolve.proofs.name_fault.first_of.Goals as goal

pub returns-clause-parts : goal.returns-clause-parts
returns-clause-parts c part rest f o = of_parts c.earlier.result c.args.first c.args.other part rest c.earlier.ensures f o
