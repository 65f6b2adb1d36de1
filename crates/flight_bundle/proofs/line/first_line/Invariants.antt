use Rattle.std.proofs.Common.{◌-◌, length}
use Rattle.std.specs.Prelude.{option_map}
use Rattle.flight_bundle.proofs.Passed.{Passed}
use Rattle.flight_bundle.proofs.line.first_line.Given as goal

abbrev pub invariant-lines : goal.invariant-lines
invariant-lines l = Passed l.mark l.text l.line (option_map (λ rest. rest.now) l.behind) l.at

abbrev pub decreases-lines : goal.decreases-lines
decreases-lines l = length l.text - l.at
