use Rattle.std.proofs.Common.{◌≡◌, ℕ, Some, slice_get}
use Rattle.flight_link.specs.Numbering.{AreNumbered, Grows}
use Rattle.flight_link.specs.declared.key.NodeKey.{NodeKey}
use Rattle.flight_value.specs.declared.graph.Node.{Node}
use Rattle.flight_link.specs.Drawing.{identity_of, DrawsNode}
use Rattle.flight_link.proofs.table.Table.nodes.Given as goal

abbrev pub invariant-nodes : goal.invariant-nodes
invariant-nodes l = record {
  numbered : AreNumbered l.self.rows.items l.numbers;
  grows : Grows l.fn.numbers.keys.items l.numbers.keys.items;
  each : (n : ℕ) (node : Node) → slice_get l.nodes.items n ≡ Some node → (key : NodeKey) × (slice_get l.numbers.keys.items n ≡ Some key) × DrawsNode l.self.rows.items l.numbers.keys.items (identity_of l.self.rows.items key) node;
}
