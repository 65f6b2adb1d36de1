use Rattle.std.proofs.Common.{◌*◌, ◌∷◌, [], drop, flat_map}
use Rattle.flight_reply_out.specs.Noted.{Notes}
use Rattle.flight_reply_out.proofs.origin.note_pairs.Given as goal

abbrev pub invariant-pairs : goal.invariant-pairs
invariant-pairs l = Notes l.n (2 * l.i) (flat_map (λ p. p.key ∷ p.value ∷ []) (drop l.i l.pairs)) l.fn.origins.items l.origins.items
