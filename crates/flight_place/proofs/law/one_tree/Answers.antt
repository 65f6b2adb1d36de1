use Rattle.flight_place.proofs.Trees.{tree-one, first-one, have-no_fault}
use Rattle.flight_place.proofs.law.one_tree.Goals as goal

pub returns-clause-trees : goal.returns-clause-trees
returns-clause-trees c = tree-one

pub returns-clause-faults : goal.returns-clause-faults
returns-clause-faults c manner row j k f g = first-one manner _ j k f g

pub returns-clause-apart : goal.returns-clause-apart
returns-clause-apart c manner row t k h f = have-no_fault manner _ t.places k h.have f
