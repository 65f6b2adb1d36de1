use Rattle.flight_emit.proofs.Composites.{leaf_wrote, given_wrote, node_put}
use Rattle.flight_emit.proofs.law.values_are_written.Goals as goal

pub returns-clause-leaf : goal.returns-clause-leaf
returns-clause-leaf c = leaf_wrote

pub returns-clause-given : goal.returns-clause-given
returns-clause-given c = given_wrote

pub returns-clause-node : goal.returns-clause-node
returns-clause-node c = node_put
