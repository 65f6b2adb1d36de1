-- What is known of a canon that is written; for private clauses.
use Rattle.std.specs.Prelude.{◌≡◌, length}
use Rattle.flight_reply_out.specs.declared.write.Drawn.{Drawn}
use Rattle.flight_reply_out.specs.Origins.{AreOrigins}
use Rattle.flight_reply_out.specs.Known.{AreGood}

-- its nodes can be sent, and each has its origin and a home
pub record IsDrawn (d : Drawn) : Type 0 where
  pub good : AreGood d.nodes.now
  pub origins : AreOrigins d.nodes.now d.origins.now
  pub homes : length d.homes.now ≡ length d.nodes.now
