use Rattle.std.proofs.Common.{◌≡◌, ◌++◌, [], take}
use Rattle.flight_feed.specs.Parts.{InId}
use Rattle.flight_feed.proofs.head.id_bytes.Given as goal

abbrev pub invariant-loop-at : goal.invariant-loop-at
invariant-loop-at l = record {
  digits : InId l.begun.head.items l.id;
  came : l.begun.head.items ≡ l.fn.begun.head.items ++ take l.at l.piece;
  payload : l.begun.payload.items ≡ [];
  number : l.begun.number ≡ l.fn.begun.number;
}
