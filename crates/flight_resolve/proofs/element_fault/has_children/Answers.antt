use Rattle.std.proofs.Common.{arith}
use Rattle.flight_resolve.proofs.Terms.{some_children}
use Rattle.flight_resolve.proofs.element_fault.has_children.Goals as goal

pub returns-in-len1-up : goal.returns-in-len1-up
returns-in-len1-up c names = some_children c.args.children.now names (omega arith)
