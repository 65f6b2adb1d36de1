use Rattle.std.proofs.Common.{◌≡◌, ◌++◌, map}
use Rattle.std.specs.Vec.Iter.{into_iter_items}
use Rattle.flight_seq.proofs.node.props.Given as goal

abbrev pub invariant-loop-slot : goal.invariant-loop-slot
invariant-loop-slot l = record {
  names : map (λ p. p.name) l.props.items ++ into_iter_items l.names ≡ l.fn.names;
  slots : map (λ p. p.slot) l.props.items ++ into_iter_items l.slot-iterator ≡ l.fn.slots.items;
}
