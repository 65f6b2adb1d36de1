use Rattle.flight_state.proofs.WorkedMap.{mapped_valid, mapped_runs, mapped_closed, mapped_means}
use Rattle.flight_state.proofs.Runs.{run_same, closed_quiet}
use Rattle.flight_state.specs.Worked.{mapped, mapped_events, mapped_end}
use Rattle.flight_state.proofs.worked.map_of_one.Goals as goal

pub returns-clause-valid : goal.returns-clause-valid
returns-clause-valid c = mapped_valid

pub returns-clause-run : goal.returns-clause-run
returns-clause-run c = mapped_runs

pub returns-clause-closed : goal.returns-clause-closed
returns-clause-closed c = mapped_closed

pub returns-clause-graph : goal.returns-clause-graph
returns-clause-graph c = mapped_means

pub returns-clause-same : goal.returns-clause-same
returns-clause-same c = run_same mapped mapped_events mapped_end mapped_runs ((λ h. h), ((λ h. h), tt)) (closed_quiet mapped_end mapped_closed)
