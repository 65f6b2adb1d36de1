use Rattle.std.proofs.Common.{◌≡◌, ◌≤◌, ◌+◌, ◌*◌, ◌++◌, ◌∷◌, [], ℕ, List, length, map, max, take, drop, false, Some}
use Rattle.flight_syntax.specs.Faults as faults
use Rattle.flight_parse.specs.Code.{placed}
use Rattle.flight_parse.specs.Declarations.{declaration_of}
use Rattle.flight_resolve.proofs.program.components.Given as goal

abbrev pub invariant-loop-declaration : goal.invariant-loop-declaration
invariant-loop-declaration l = map (λ n. placed n.now) l.names.items ++ faults.components (map declaration_of (drop l.declaration-index l.declared)) ≡ faults.components (map declaration_of l.declared)
