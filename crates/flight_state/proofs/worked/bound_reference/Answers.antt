use Rattle.flight_state.proofs.WorkedBound.{bound_valid, bound_runs, bound_closed, bound_means}
use Rattle.flight_state.proofs.Runs.{run_same, closed_quiet}
use Rattle.flight_state.specs.Worked.{bound, bound_events, bound_end}
use Rattle.flight_state.proofs.worked.bound_reference.Goals as goal

pub returns-clause-valid : goal.returns-clause-valid
returns-clause-valid c = bound_valid

pub returns-clause-run : goal.returns-clause-run
returns-clause-run c = bound_runs

pub returns-clause-closed : goal.returns-clause-closed
returns-clause-closed c = bound_closed

pub returns-clause-graph : goal.returns-clause-graph
returns-clause-graph c = bound_means

pub returns-clause-same : goal.returns-clause-same
returns-clause-same c = run_same bound bound_events bound_end bound_runs ((λ h. h), ((λ h. h), tt)) (closed_quiet bound_end bound_closed)
