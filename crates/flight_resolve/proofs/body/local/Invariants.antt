use Rattle.std.proofs.Common.{◌≡◌, map, take}
use Rattle.flight_resolve.specs.Names.{variable_number}
use Rattle.flight_resolve.proofs.body.local.Given as goal

abbrev pub invariant-loop-at : goal.invariant-loop-at
invariant-loop-at l = l.found ≡ variable_number (map (λ n. n.now.bytes) (take l.at l.locals)) l.name
