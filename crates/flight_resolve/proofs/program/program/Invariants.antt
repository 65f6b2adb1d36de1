use Rattle.std.proofs.Common.{◌≡◌, ◌≤◌, ◌+◌, ◌*◌, ◌++◌, ◌∷◌, [], ℕ, List, length, map, max, take, drop, false, Some}
use Rattle.std.specs.List.{AllZip}
use Rattle.flight_syntax.specs.Derives.{said}
use Rattle.flight_parse.specs.Declarations.{declaration_of}
use Rattle.flight_resolve.specs.Kept.{IsKept}
use Rattle.flight_resolve.proofs.program.program.Given as goal

abbrev pub invariant-loop-declaration : goal.invariant-loop-declaration
invariant-loop-declaration l = AllZip (IsKept (map declaration_of l.declared)) (map declaration_of (take l.declaration-index l.declared)) (map said l.kept.items)
