use Rattle.std.proofs.Common.{◌≡◌, drop, map}
use Rattle.flight_render.specs.Values.{named_slot}
use Rattle.flight_eval.specs.Seen.{slot_tree}
use Rattle.flight_eval.proofs.values.named_prop.Given as goal

abbrev pub invariant-loop-prop : goal.invariant-loop-prop
invariant-loop-prop l =
    named_slot l.name (map (λ p. p.name) (drop l.prop-index l.props)) (map (λ p. slot_tree l.source p.slot) (drop l.prop-index l.props))
    ≡ named_slot l.name (map (λ p. p.name) l.props) (map (λ p. slot_tree l.source p.slot) l.props)
