use Rattle.std.proofs.Common.{take}
use Rattle.flight_link.specs.Nodes.{spot_of}
use Rattle.flight_link.specs.Numbering.{AreNumbered, Grows}
use Rattle.flight_link.specs.Drawing.{ArePairs}
use Rattle.flight_link.proofs.table.Table.pairs.Given as goal

abbrev pub invariant-loop-place : goal.invariant-loop-place
invariant-loop-place l = record {
  numbered : AreNumbered l.self.rows.items l.numbers;
  grows : Grows l.fn.numbers.keys.items l.numbers.keys.items;
  pairs : ArePairs l.self.rows.items l.numbers.keys.items (spot_of l.self.rows.items l.spot) l.pairs.items (take l.place-index l.places);
}
