use Rattle.flight_state.proofs.WorkedTwice.{twice_valid, twice_runs, twice_closed, twice_means}
use Rattle.flight_state.proofs.Runs.{run_same, closed_quiet}
use Rattle.flight_state.specs.Worked.{twice, twice_events, twice_end}
use Rattle.flight_state.proofs.worked.shared_object.Goals as goal

pub returns-clause-valid : goal.returns-clause-valid
returns-clause-valid c = twice_valid

pub returns-clause-run : goal.returns-clause-run
returns-clause-run c = twice_runs

pub returns-clause-closed : goal.returns-clause-closed
returns-clause-closed c = twice_closed

pub returns-clause-graph : goal.returns-clause-graph
returns-clause-graph c = twice_means

pub returns-clause-same : goal.returns-clause-same
returns-clause-same c = run_same twice twice_events twice_end twice_runs ((λ h. h), ((λ h. h), ((λ h. h), ((λ h. h), ((λ h. h), ((λ h. h), ((λ h. h), tt))))))) (closed_quiet twice_end twice_closed)
