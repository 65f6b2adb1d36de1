use Rattle.std.proofs.Common.{◌≡◌, map, drop}
use Rattle.flight_syntax.specs.Faults as faults
use Rattle.flight_parse.specs.Declarations.{declaration_of}
use Rattle.flight_resolve.proofs.program.has_app.Given as goal

abbrev pub invariant-loop-declaration : goal.invariant-loop-declaration
invariant-loop-declaration l = faults.has_app (map declaration_of (drop l.declaration-index l.declared)) ≡ faults.has_app (map declaration_of l.declared)
