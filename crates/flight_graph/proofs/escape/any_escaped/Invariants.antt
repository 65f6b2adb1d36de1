use Rattle.std.proofs.Common.{◌≡◌, false, take}
use Rattle.std.specs.Prelude.{All}
use Rattle.flight_graph.specs.Writing.{is_escaped}
use Rattle.flight_graph.proofs.escape.any_escaped.Given as goal

abbrev pub invariant-loop-byte : goal.invariant-loop-byte
invariant-loop-byte l = l.found ≡ false → All (λ b. is_escaped b ≡ false) (take l.byte-index l.bytes)
