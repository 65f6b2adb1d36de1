use Rattle.std.proofs.Common.{◌≡◌, ◌≤◌, ◌+◌, ◌*◌, ◌++◌, ◌∷◌, [], ℕ, List, length, map, max, take, drop, false, Some}
use Rattle.flight_syntax.specs.Faults as faults
use Rattle.flight_parse.specs.Declarations.{declaration_of}
use Rattle.flight_resolve.specs.Seen.{going}
use Rattle.flight_resolve.proofs.program.in_declarations.Given as goal

abbrev pub invariant-loop-declaration : goal.invariant-loop-declaration
invariant-loop-declaration l = going l.first (faults.each_faults (map declaration_of l.declared) (map declaration_of (drop l.declaration-index l.declared))) ≡ faults.first_fault (faults.each_faults (map declaration_of l.declared) (map declaration_of l.declared))
