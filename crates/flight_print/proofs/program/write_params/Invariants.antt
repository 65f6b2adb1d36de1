use Rattle.std.proofs.Common.{◌≡◌, ◌++◌, drop, false, nat_lt, string_bytes}
use Rattle.flight_print.specs.Text.{params_text}
use Rattle.flight_print.proofs.program.write_params.Given as goal

abbrev pub invariant-loop-at : goal.invariant-loop-at
invariant-loop-at l = string_bytes l.out ++ params_text (nat_lt 0 l.at) (drop l.at l.params) ≡ string_bytes l.initial.out ++ params_text false l.params
