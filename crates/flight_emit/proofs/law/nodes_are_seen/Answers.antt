use Rattle.flight_emit.proofs.Slots.{source_shaped, made_shaped, slot_met}
use Rattle.flight_emit.proofs.law.nodes_are_seen.Goals as goal

pub returns-clause-made : goal.returns-clause-made
returns-clause-made c = made_shaped

pub returns-clause-source : goal.returns-clause-source
returns-clause-source c = source_shaped

pub returns-clause-slots : goal.returns-clause-slots
returns-clause-slots c = slot_met
