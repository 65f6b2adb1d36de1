use Rattle.flight_resolve.proofs.Scopes.{placed_references}
use Rattle.flight_resolve.proofs.program.references.Goals as goal

pub returns : goal.returns
returns c = placed_references c.in_ok-out.out.items c.args.names.now c.in_ok-out.ensures
