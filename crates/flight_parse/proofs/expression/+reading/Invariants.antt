use Rattle.std.proofs.Common.{◌+◌, ◌*◌}
use Rattle.flight_parse.proofs.expression.+reading.Given as goal

abbrev pub decreases-reading : goal.decreases-reading
decreases-reading l = 2 * l.depth

abbrev pub decreases-one_more : goal.decreases-one_more
decreases-one_more l = 2 * l.below + 1
