use Rattle.std.proofs.Common.{List, ℕ, ◌≡◌, map, take}
use Rattle.std.specs.Str.{bytes_eq}
use Rattle.std.specs.HashMap.{get}
use Rattle.flight_resolve.specs.Names.{variable_number}
use Rattle.flight_resolve.proofs.body.positions.Given as goal

abbrev pub invariant-loop-at : goal.invariant-loop-at
invariant-loop-at l = (q : List ℕ) → get bytes_eq l.numbers q ≡ variable_number (map (λ n. n.bytes) (take l.at l.params)) q
