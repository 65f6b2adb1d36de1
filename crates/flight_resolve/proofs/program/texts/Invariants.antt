use Rattle.std.proofs.Common.{◌≡◌, ◌≤◌, ◌+◌, ◌*◌, ◌++◌, ◌∷◌, [], ℕ, List, length, map, max, take, drop, false, Some}
use Rattle.flight_syntax.specs.Derives.{bytes_of}
use Rattle.flight_parse.specs.Code.{placed}
use Rattle.flight_resolve.proofs.program.texts.Given as goal

abbrev pub invariant-loop-name : goal.invariant-loop-name
invariant-loop-name l = l.texts.items ≡ bytes_of (map placed (take l.name-index l.names))
