use Rattle.std.proofs.Common.{◌≡◌, map, take}
use Rattle.flight_resolve.proofs.program.each.Given as goal

abbrev pub invariant-loop-name : goal.invariant-loop-name
invariant-loop-name l = map (λ n. n.now) l.out.items ≡ take l.name-index l.names
