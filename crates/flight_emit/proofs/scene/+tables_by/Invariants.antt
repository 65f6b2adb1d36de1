use Rattle.std.proofs.Common.{length}
use Rattle.flight_emit.proofs.scene.+tables_by.Given as goal

abbrev pub decreases-tables_by : goal.decreases-tables_by
decreases-tables_by l = length l.bodies.now
