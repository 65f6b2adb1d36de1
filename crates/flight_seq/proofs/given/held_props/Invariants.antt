use Rattle.std.proofs.Common.{◌≡◌, map, take}
use Rattle.flight_render.specs.Jobs.{shown}
use Rattle.flight_seq.specs.Held.{value_held}
use Rattle.flight_seq.specs.Sources.{from_source}
use Rattle.flight_seq.proofs.given.held_props.Given as goal

abbrev pub invariant-loop-prop : goal.invariant-loop-prop
invariant-loop-prop l = map value_held l.held.items ≡ map (λ slot. shown (from_source l.source slot)) (map (λ p. p.slot) (take l.prop-index l.props))
