use Rattle.std.proofs.Common.{ℕ, ◌≡◌, ◌<◌, length, slice_index_or, None}
use Rattle.flight_reply_out.specs.Origins.{last_naming}
use Rattle.flight_reply_out.proofs.origin.origins.Given as goal

abbrev pub invariant-loop-n : goal.invariant-loop-n
invariant-loop-n l = record {
  each_one : length l.origins.items ≡ length l.nodes;
  each : (m : ℕ) → m < length l.nodes → slice_index_or l.origins.items m None ≡ last_naming l.nodes m l.n;
}
