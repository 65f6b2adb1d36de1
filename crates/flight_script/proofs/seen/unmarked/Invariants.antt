use Rattle.std.proofs.Common.{◌≡◌, ◌++◌, map, drop, false}
use Rattle.flight_script.proofs.seen.unmarked.Given as goal

abbrev pub invariant-loop-item : goal.invariant-loop-item
invariant-loop-item g l = l.out.items ++ map (λ x. false) (drop l._item-index l.items) ≡ map (λ x. false) l.items
