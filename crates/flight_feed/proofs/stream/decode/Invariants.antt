use Rattle.std.proofs.Common.{◌≡◌, [], None, take}
use Rattle.flight_feed.specs.Parts.{IsPart}
use Rattle.flight_feed.specs.Stream.{Advances, text_of}
use Rattle.flight_feed.proofs.stream.decode.Given as goal

abbrev pub invariant-loop-piece : goal.invariant-loop-piece
invariant-loop-piece l = record {
  fine : l.feed.fault ≡ None;
  part : IsPart l.feed.bytes;
  rows : Advances (text_of (take l.piece-index l.pieces)) 1 [] l.rows.items l.feed.bytes l.feed.number;
}
