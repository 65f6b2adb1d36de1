use Rattle.std.proofs.Common.{◌≡◌, take}
use Rattle.flight_emit.proofs.at.copy_path.Given as goal

abbrev pub invariant-loop-step : goal.invariant-loop-step
invariant-loop-step l = record { copied : l.copy.items ≡ take l.step-index l.path }
