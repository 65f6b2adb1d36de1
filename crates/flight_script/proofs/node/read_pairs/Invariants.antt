use Rattle.std.proofs.Common.{map, drop}
use Rattle.serde_json.specs.View.{view}
use Rattle.flight_script.specs.Slots.{IsPair}
use Rattle.flight_script.proofs.Built.{Built}
use Rattle.flight_script.proofs.node.read_pairs.Given as goal

abbrev pub invariant-loop-item : goal.invariant-loop-item
invariant-loop-item l = Built (IsPair l.count) (map view l.items) (map view (drop l.item-index l.items)) l.pairs.items
