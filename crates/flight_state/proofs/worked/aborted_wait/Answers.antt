use Rattle.flight_state.proofs.WorkedWait.{late_waits, late_quiet}
use Rattle.flight_state.proofs.WorkedAbort.{aborts, aborted_runs, aborted_closed, aborted_means}
use Rattle.flight_state.proofs.Runs.{run_good, run_aborted}
use Rattle.std.proofs.Common.{[], ◌∷◌, ◌++◌}
use Rattle.flight_state.specs.declared.event.Event.TheVariants as event
use Rattle.flight_state.specs.Worked.{late, late_events, late_waiting, late_aborted}
use Rattle.flight_state.proofs.worked.aborted_wait.Goals as goal

pub returns-clause-run : goal.returns-clause-run
returns-clause-run c = aborted_runs

pub returns-clause-closed : goal.returns-clause-closed
returns-clause-closed c = aborted_closed

pub returns-clause-good : goal.returns-clause-good
returns-clause-good c = run_good late (late_events ++ event.Abort ∷ []) late_aborted aborted_runs aborted_closed

pub returns-clause-graph : goal.returns-clause-graph
returns-clause-graph c = aborted_means

pub returns-clause-ended : goal.returns-clause-ended
returns-clause-ended c = run_aborted late late_events late_waiting late_aborted late_waits ((λ h. h), ((λ h. h), ((λ h. h), ((λ h. h), tt)))) late_quiet aborts
