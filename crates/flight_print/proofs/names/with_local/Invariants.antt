use Rattle.std.proofs.Common.{◌≡◌, map, take}
use Rattle.flight_print.proofs.names.with_local.Given as goal

abbrev pub invariant-loop-local : goal.invariant-loop-local
invariant-loop-local l = map (λ n. n.now) l.more.items ≡ map (λ n. n.now) (take l.local-index l.locals)
