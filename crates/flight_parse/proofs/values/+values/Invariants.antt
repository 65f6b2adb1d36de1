use Rattle.std.proofs.Common.{◌+◌, ◌*◌}
use Rattle.flight_parse.proofs.values.+values.Given as goal

abbrev pub decreases-value_at : goal.decreases-value_at
decreases-value_at l = 2 * l.depth

abbrev pub decreases-nested : goal.decreases-nested
decreases-nested l = 2 * l.below + 1
