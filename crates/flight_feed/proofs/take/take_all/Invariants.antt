use Rattle.std.proofs.Common.{◌≤◌, ◌-◌, ◌++◌, length, take}
use Rattle.flight_feed.specs.Begun.{IsBegun, bytes_of}
use Rattle.flight_feed.specs.Stream.{Advances}
use Rattle.flight_feed.proofs.take.take_all.Given as goal

abbrev pub invariant-loop-at : goal.invariant-loop-at
invariant-loop-at l = record {
  within : l.at ≤ length l.piece;
  begun : IsBegun l.begun;
  rows : Advances (bytes_of l.fn.begun ++ take l.at l.piece) l.fn.begun.number l.fn.out.items l.out.items (bytes_of l.begun) l.begun.number;
}

abbrev pub decreases-loop-at : goal.decreases-loop-at
decreases-loop-at l = length l.piece - l.at
