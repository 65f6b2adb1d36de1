use Rattle.flight_script.proofs.Once.{one_script_of, one_fault, not_both}
use Rattle.flight_script.proofs.law.one_script.Goals as goal

pub returns-clause-scripts : goal.returns-clause-scripts
returns-clause-scripts c = one_script_of

pub returns-clause-faults : goal.returns-clause-faults
returns-clause-faults c text declared e f h k = one_fault _ e f h k

pub returns-clause-apart : goal.returns-clause-apart
returns-clause-apart c text declared s e h k = not_both _ e h.all_pass k
