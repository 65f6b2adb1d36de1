use Rattle.std.proofs.Common.{take}
use Rattle.flight_link.specs.Nodes.{spot_of}
use Rattle.flight_link.specs.Numbering.{AreNumbered, Grows}
use Rattle.flight_link.specs.Drawing.{AreProps}
use Rattle.flight_link.proofs.table.Table.props.Given as goal

abbrev pub invariant-loop-prop : goal.invariant-loop-prop
invariant-loop-prop l = record {
  numbered : AreNumbered l.self.rows.items l.numbers;
  grows : Grows l.fn.numbers.keys.items l.numbers.keys.items;
  props : AreProps l.self.rows.items l.numbers.keys.items (spot_of l.self.rows.items l.spot) l.props.items (take l.prop-index l.named);
}
