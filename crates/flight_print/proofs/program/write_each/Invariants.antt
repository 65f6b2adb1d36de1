use Rattle.std.proofs.Common.{◌≡◌, ◌++◌, map, drop, string_bytes}
use Rattle.flight_syntax.specs.Derives.{said}
use Rattle.flight_print.specs.Text.{each_text}
use Rattle.flight_print.specs.Scope.{declared_names}
use Rattle.flight_print.proofs.program.write_each.Given as goal

abbrev pub invariant-loop-one : goal.invariant-loop-one
invariant-loop-one l =
    string_bytes l.out ++ each_text (declared_names l.declared) (map said (drop l.one-index l.declared)) ≡ string_bytes l.initial.out ++ each_text (declared_names l.declared) (map said l.declared)
