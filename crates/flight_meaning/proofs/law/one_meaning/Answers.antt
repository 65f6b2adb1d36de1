use Rattle.flight_meaning.proofs.OneMeaning as meaning
use Rattle.flight_meaning.proofs.Undefined.{one_least}
use Rattle.flight_meaning.proofs.law.one_meaning.Goals as goal

pub returns-clause-targets : goal.returns-clause-targets
returns-clause-targets c = meaning.leads_once

pub returns-clause-nodes : goal.returns-clause-nodes
returns-clause-nodes c = meaning.stands_once

pub returns-clause-slots : goal.returns-clause-slots
returns-clause-slots c = meaning.one_slots

pub returns-clause-failures : goal.returns-clause-failures
returns-clause-failures c = meaning.slots_or_failure

pub returns-clause-undefined : goal.returns-clause-undefined
returns-clause-undefined c = one_least
