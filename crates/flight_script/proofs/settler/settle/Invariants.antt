use Rattle.std.proofs.Common.{◌≡◌, ℕ, List, length, map, drop}
use Rattle.serde_json.specs.View.{view}
use Rattle.flight_script.specs.Streams.{IsNumberOf}
use Rattle.flight_script.specs.Settlers.{marks}
use Rattle.flight_script.proofs.Built.{Built}
use Rattle.flight_script.proofs.Settling.{Settling}
use Rattle.flight_script.proofs.settler.settle.Given as goal

abbrev pub invariant-loop-item : goal.invariant-loop-item
invariant-loop-item l = record {
  each : length l.settled.items ≡ length l.sources;
  settling : (earlier : List (List ℕ)) → l.fn.settled.items ≡ marks (map (λ n. n.now) l.sources) earlier → Settling (map (λ n. n.now) l.sources) earlier (map view l.items) (map view (drop l.item-index l.items)) l.settled.items;
  built : Built (IsNumberOf (map (λ n. n.now) l.sources)) (map view l.items) (map view (drop l.item-index l.items)) l.numbers.items;
}
