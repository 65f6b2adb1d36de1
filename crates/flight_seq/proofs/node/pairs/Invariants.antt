use Rattle.std.proofs.Common.{◌≡◌, ◌++◌, ◌∷◌, [], flat_map}
use Rattle.std.specs.Vec.Iter.{into_iter_items}
use Rattle.flight_seq.proofs.node.pairs.Given as goal

abbrev pub invariant-pairs : goal.invariant-pairs
invariant-pairs l = flat_map (λ p. p.key ∷ p.value ∷ []) l.pairs.items ++ into_iter_items l.slots ≡ l.fn.slots.items
