use Rattle.std.proofs.Common.{[], ◌∷◌, ◌++◌}
use Rattle.flight_state.specs.declared.event.Event.TheVariants as event
use Rattle.flight_state.specs.Worked.{streamed, feed_events, feed_waiting, feed_aborted}
use Rattle.flight_state.proofs.Runs.{run_good, run_aborted}
use Rattle.flight_state.proofs.WorkedBroken.{feed_waits, feed_quiet, breaks, broken_runs, broken_closed, broken_means}
use Rattle.flight_state.proofs.worked.aborted_stream.Goals as goal

pub returns-clause-waits : goal.returns-clause-waits
returns-clause-waits c = feed_waits

pub returns-clause-run : goal.returns-clause-run
returns-clause-run c = broken_runs

pub returns-clause-closed : goal.returns-clause-closed
returns-clause-closed c = broken_closed

pub returns-clause-good : goal.returns-clause-good
returns-clause-good c = run_good streamed (feed_events ++ event.Abort ∷ []) feed_aborted broken_runs broken_closed

pub returns-clause-graph : goal.returns-clause-graph
returns-clause-graph c = broken_means

pub returns-clause-ended : goal.returns-clause-ended
returns-clause-ended c = run_aborted streamed feed_events feed_waiting feed_aborted feed_waits ((λ h. h), ((λ h. h), ((λ h. h), ((λ h. h), tt)))) feed_quiet breaks
