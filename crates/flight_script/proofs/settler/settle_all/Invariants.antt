use Rattle.std.proofs.Common.{◌≡◌, [], length, map, drop}
use Rattle.std.specs.List.{flat_map}
use Rattle.serde_json.specs.View.{view}
use Rattle.flight_script.specs.Json.{list_of}
use Rattle.flight_script.specs.Settlers.{AreSettled}
use Rattle.flight_script.proofs.Built.{Built}
use Rattle.flight_script.proofs.Settling.{Settling}
use Rattle.flight_script.proofs.settler.settle_all.Given as goal

abbrev pub invariant-loop-settler : goal.invariant-loop-settler
invariant-loop-settler l = record {
  each : length l.settled.items ≡ length l.sources;
  settling : Settling (map (λ n. n.now) l.sources) [] (flat_map list_of (map view l.settlers)) (flat_map list_of (map view (drop l.settler-index l.settlers))) l.settled.items;
  built : Built (AreSettled (map (λ n. n.now) l.sources)) (map view l.settlers) (map view (drop l.settler-index l.settlers)) l.out.items;
}
