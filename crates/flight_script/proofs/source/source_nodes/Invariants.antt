use Rattle.std.proofs.Common.{map, drop}
use Rattle.serde_json.specs.View.{view}
use Rattle.flight_script.specs.Slots.{IsNode}
use Rattle.flight_script.specs.Sources.{node_tests}
use Rattle.flight_script.proofs.Built.{Built}
use Rattle.flight_script.proofs.Passing.{Passed}
use Rattle.flight_script.proofs.source.source_nodes.Given as goal

abbrev pub invariant-loop-number : goal.invariant-loop-number
invariant-loop-number l = record {
  built : Built (IsNode l.count) (map view l.values) (map view (drop l.number l.values)) l.nodes.items;
  passed : Passed (node_tests l.name l.count 0 (map view l.values)) (node_tests l.name l.count l.number (map view (drop l.number l.values)));
}
