use Rattle.std.proofs.Common.{◌≡◌, ℕ, ◌+◌, drop, false}
use Rattle.std.specs.Prelude.{option_map}
use Rattle.flight_syntax.specs.Literal.{closing}
use Rattle.flight_syntax.proofs.string.closing_len.Given as goal

abbrev pub invariant-loop-i : goal.invariant-loop-i
invariant-loop-i l = closing false l.text ≡ option_map (λ (n : ℕ). l.i + n) (closing l.escaped (drop l.i l.text))
