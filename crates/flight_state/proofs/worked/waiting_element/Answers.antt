use Rattle.std.proofs.Common.{◌++◌}
use Rattle.flight_state.proofs.WorkedWait.{late_valid, late_waits, late_runs, late_quiet, late_closed, late_means, late_pends}
use Rattle.flight_state.proofs.Runs.{run_same, closed_quiet}
use Rattle.flight_state.specs.Worked.{late, late_events, late_rest, late_end}
use Rattle.flight_state.proofs.worked.waiting_element.Goals as goal

pub returns-clause-valid : goal.returns-clause-valid
returns-clause-valid c = late_valid

pub returns-clause-waits : goal.returns-clause-waits
returns-clause-waits c = late_waits

pub returns-clause-quiet : goal.returns-clause-quiet
returns-clause-quiet c = late_quiet

pub returns-clause-run : goal.returns-clause-run
returns-clause-run c = late_runs

pub returns-clause-closed : goal.returns-clause-closed
returns-clause-closed c = late_closed

pub returns-clause-graph : goal.returns-clause-graph
returns-clause-graph c = late_means

pub returns-clause-same : goal.returns-clause-same
returns-clause-same c = run_same late (late_events ++ late_rest) late_end late_runs ((λ h. h), ((λ h. h), ((λ h. h), ((λ h. h), ((λ h. h), ((λ h. h), ((λ h. h), tt))))))) (closed_quiet late_end late_closed)

pub returns-clause-so_far : goal.returns-clause-so_far
returns-clause-so_far c = late_pends
