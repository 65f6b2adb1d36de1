use Rattle.std.proofs.Common.{◌≡◌, ◌∷◌, [], None, flat_map}
use Rattle.flight_graph.specs.Ordered.{in_order}
use Rattle.flight_reply_out.specs.Fields.{field, shown, node_fields}
use Rattle.flight_reply_out.proofs.field.write_fields.Given as goal

abbrev pub invariant-loop-n : goal.invariant-loop-n
invariant-loop-n l = record {
  empty : l.out ≡ [];
  fields : l.fields.items ≡ field 0 (shown l.drawn.nodes.now l.drawn.homes.now None l.root) ∷ flat_map (node_fields l.drawn.nodes.now l.drawn.homes.now) (in_order l.n);
}
