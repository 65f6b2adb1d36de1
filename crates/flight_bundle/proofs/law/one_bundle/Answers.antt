use Rattle.flight_bundle.proofs.OneFault.{Laws, one_fault, apart}
use Rattle.flight_bundle.proofs.law.one_bundle.Goals as goal

pub returns-clause-faults : goal.returns-clause-faults
returns-clause-faults c = one_fault (record { one_outcome = c.one_outcome.ensures; one_fault = c.one_script.ensures.faults })

pub returns-clause-apart : goal.returns-clause-apart
returns-clause-apart c = apart (record { one_outcome = c.one_outcome.ensures; one_fault = c.one_script.ensures.faults }) c.one_script.ensures.apart
