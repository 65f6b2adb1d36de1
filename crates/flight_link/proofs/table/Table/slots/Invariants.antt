use Rattle.std.proofs.Common.{take}
use Rattle.flight_link.specs.Nodes.{spot_of}
use Rattle.flight_link.specs.Numbering.{AreNumbered, Grows}
use Rattle.flight_link.specs.Drawing.{AreSlots}
use Rattle.flight_link.proofs.table.Table.slots.Given as goal

abbrev pub invariant-loop-place : goal.invariant-loop-place
invariant-loop-place l = record {
  numbered : AreNumbered l.self.rows.items l.numbers;
  grows : Grows l.fn.numbers.keys.items l.numbers.keys.items;
  slots : AreSlots l.self.rows.items l.numbers.keys.items (spot_of l.self.rows.items l.spot) l.slots.items (take l.place-index l.places);
}
