use Rattle.std.proofs.Common.{ℕ, ◌<◌, ◌≤◌, slice_index}
use Rattle.flight_feed.proofs.begun.greatest.Given as goal

abbrev pub invariant-loop-byte : goal.invariant-loop-byte
invariant-loop-byte l = record {
  bound : (i : ℕ) → i < l.byte-index → slice_index l.bytes i ≤ l.most;
}
