use Rattle.std.proofs.Common.{◌≡◌, ◌++◌, [], map, drop}
use Rattle.flight_script.specs.Settlers.{marks}
use Rattle.flight_script.proofs.settler.unsettled.Given as goal

abbrev pub invariant-loop-source : goal.invariant-loop-source
invariant-loop-source l = l.out.items ++ marks (map (λ n. n.now) (drop l._source-index l.sources)) [] ≡ marks (map (λ n. n.now) l.sources) []
