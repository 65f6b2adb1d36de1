use Rattle.flight_state.proofs.WorkedStream.{streamed_valid, streamed_runs, streamed_closed, streamed_means}
use Rattle.flight_state.proofs.Runs.{run_same, closed_quiet}
use Rattle.flight_state.specs.Worked.{streamed, streamed_events, streamed_end}
use Rattle.flight_state.proofs.worked.stream_of_one.Goals as goal

pub returns-clause-valid : goal.returns-clause-valid
returns-clause-valid c = streamed_valid

pub returns-clause-run : goal.returns-clause-run
returns-clause-run c = streamed_runs

pub returns-clause-closed : goal.returns-clause-closed
returns-clause-closed c = streamed_closed

pub returns-clause-graph : goal.returns-clause-graph
returns-clause-graph c = streamed_means

pub returns-clause-same : goal.returns-clause-same
returns-clause-same c = run_same streamed streamed_events streamed_end streamed_runs ((λ h. h), ((λ h. h), ((λ h. h), ((λ h. h), ((λ h. h), ((λ h. h), ((λ h. h), tt))))))) (closed_quiet streamed_end streamed_closed)
