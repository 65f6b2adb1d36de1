use Rattle.std.proofs.Common.{map, drop}
use Rattle.serde_json.specs.View.{view}
use Rattle.flight_script.specs.Streams.{name_test, IsNumberOf}
use Rattle.flight_script.proofs.Built.{Built}
use Rattle.flight_script.proofs.Passing.{Passed}
use Rattle.flight_script.proofs.stream.source_numbers.Given as goal

abbrev pub invariant-loop-item : goal.invariant-loop-item
invariant-loop-item l = record {
  built : Built (IsNumberOf (map (λ n. n.now) l.sources)) (map view l.items) (map view (drop l.item-index l.items)) l.numbers.items;
  passed : Passed (map (name_test (map (λ n. n.now) l.sources)) (map view l.items)) (map (name_test (map (λ n. n.now) l.sources)) (map view (drop l.item-index l.items)));
}
