use Rattle.flight_state.proofs.WorkedSuspense.{boundary_valid, boundary_runs, boundary_closed, boundary_means}
use Rattle.flight_state.proofs.Runs.{run_same, closed_quiet}
use Rattle.flight_state.specs.Worked.{boundary, boundary_events, boundary_end}
use Rattle.flight_state.proofs.worked.suspense_boundary.Goals as goal

pub returns-clause-valid : goal.returns-clause-valid
returns-clause-valid c = boundary_valid

pub returns-clause-run : goal.returns-clause-run
returns-clause-run c = boundary_runs

pub returns-clause-closed : goal.returns-clause-closed
returns-clause-closed c = boundary_closed

pub returns-clause-graph : goal.returns-clause-graph
returns-clause-graph c = boundary_means

pub returns-clause-same : goal.returns-clause-same
returns-clause-same c = run_same boundary boundary_events boundary_end boundary_runs ((λ h. h), ((λ h. h), tt)) (closed_quiet boundary_end boundary_closed)
