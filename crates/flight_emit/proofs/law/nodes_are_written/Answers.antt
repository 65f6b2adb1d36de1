use Rattle.flight_emit.proofs.PartsOn.{parts_more}
use Rattle.flight_emit.proofs.Composites.{composite_node, token_node}
use Rattle.flight_emit.proofs.law.nodes_are_written.Goals as goal

pub returns-clause-part : goal.returns-clause-part
returns-clause-part c = parts_more

pub returns-clause-composite : goal.returns-clause-composite
returns-clause-composite c = composite_node

pub returns-clause-token : goal.returns-clause-token
returns-clause-token c = token_node
