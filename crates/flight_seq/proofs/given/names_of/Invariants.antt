use Rattle.std.proofs.Common.{◌≡◌, map, take}
use Rattle.flight_seq.proofs.given.names_of.Given as goal

abbrev pub invariant-loop-prop : goal.invariant-loop-prop
invariant-loop-prop l = l.names.items ≡ map (λ p. p.name) (take l.prop-index l.props)
