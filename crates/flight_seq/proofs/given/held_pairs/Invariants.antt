use Rattle.std.proofs.Common.{◌≡◌, ◌∷◌, [], map, flat_map, take}
use Rattle.flight_render.specs.Jobs.{shown}
use Rattle.flight_seq.specs.Held.{value_held}
use Rattle.flight_seq.specs.Sources.{from_source}
use Rattle.flight_seq.proofs.given.held_pairs.Given as goal

abbrev pub invariant-loop-pair : goal.invariant-loop-pair
invariant-loop-pair l = map value_held l.held.items ≡ map (λ slot. shown (from_source l.source slot)) (flat_map (λ p. p.key ∷ p.value ∷ []) (take l.pair-index l.pairs))
