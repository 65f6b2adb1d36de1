use Rattle.std.proofs.Common.{◌≡◌, ◌++◌, ◌∷◌, [], take}
use Rattle.std.specs.List.{flat_map}
use Rattle.flight_graph.specs.Walk.{named}
use Rattle.flight_graph.proofs.walk.push_pairs.Given as goal

abbrev pub invariant-loop-pair : goal.invariant-loop-pair
invariant-loop-pair l = l.waiting.items ≡ l.initial.waiting.items ++ named (flat_map (λ p. p.key ∷ p.value ∷ []) (take l.pair-index l.pairs))
