use Rattle.std.proofs.Common.{length}
use Rattle.flight_emit.proofs.scene.+look.Given as goal

abbrev pub decreases-look : goal.decreases-look
decreases-look l = length l.bodies.now
