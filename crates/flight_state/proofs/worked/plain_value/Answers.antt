use Rattle.flight_state.proofs.WorkedValue.{greeting_closed, greeting_valid, greeting_runs, greeting_means}
use Rattle.flight_state.proofs.Runs.{run_same, closed_quiet}
use Rattle.flight_state.proofs.worked.plain_value.Goals as goal
use Rattle.flight_state.specs.Worked.{greeting, greeting_events, greeting_end}

pub returns-clause-valid : goal.returns-clause-valid
returns-clause-valid c = greeting_valid

pub returns-clause-run : goal.returns-clause-run
returns-clause-run c = greeting_runs

pub returns-clause-graph : goal.returns-clause-graph
returns-clause-graph c = greeting_means

pub returns-clause-same : goal.returns-clause-same
returns-clause-same c = run_same greeting greeting_events greeting_end greeting_runs ((λ h. h), ((λ h. h), tt)) (closed_quiet greeting_end greeting_closed)

pub returns-clause-closed : goal.returns-clause-closed
returns-clause-closed c = greeting_closed
