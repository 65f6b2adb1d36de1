use Rattle.std.proofs.Common.{◌≡◌, replicate, None}
use Rattle.flight_reply_out.proofs.origin.unmet.Given as goal

abbrev pub invariant-loop : goal.invariant-loop
invariant-loop l = l.origins.items ≡ replicate l.counter None
