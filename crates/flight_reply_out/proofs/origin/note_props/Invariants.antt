use Rattle.std.proofs.Common.{drop, map}
use Rattle.flight_reply_out.specs.Noted.{Notes}
use Rattle.flight_reply_out.proofs.origin.note_props.Given as goal

abbrev pub invariant-props : goal.invariant-props
invariant-props l = Notes l.n l.i (map (λ p. p.slot) (drop l.i l.props)) l.fn.origins.items l.origins.items
