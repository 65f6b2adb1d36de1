use Rattle.flight_state.proofs.WorkedNested.{nested_valid, nested_runs, nested_closed, nested_means}
use Rattle.flight_state.proofs.Runs.{run_same, closed_quiet}
use Rattle.flight_state.specs.Worked.{nested, nested_events, nested_end}
use Rattle.flight_state.proofs.worked.nested_element.Goals as goal

pub returns-clause-valid : goal.returns-clause-valid
returns-clause-valid c = nested_valid

pub returns-clause-run : goal.returns-clause-run
returns-clause-run c = nested_runs

pub returns-clause-closed : goal.returns-clause-closed
returns-clause-closed c = nested_closed

pub returns-clause-graph : goal.returns-clause-graph
returns-clause-graph c = nested_means

pub returns-clause-same : goal.returns-clause-same
returns-clause-same c = run_same nested nested_events nested_end nested_runs ((λ h. h), ((λ h. h), tt)) (closed_quiet nested_end nested_closed)
