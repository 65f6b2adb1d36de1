use Rattle.std.proofs.Common.{◌≡◌, ◌++◌, map}
use Rattle.flight_eval.specs.Object.{pair_of}
use Rattle.flight_eval.proofs.sorted.unzipped.Given as goal

abbrev pub invariant-loop-name : goal.invariant-loop-name
invariant-loop-name l =
    (l.names.items ++ map (λ p. p.0) (map pair_of l.name-iterator.rest.items) ≡ map (λ p. p.0) (map pair_of l.fn.props.items))
    × (l.values.items ++ map (λ p. p.1) (map pair_of l.name-iterator.rest.items) ≡ map (λ p. p.1) (map pair_of l.fn.props.items))
