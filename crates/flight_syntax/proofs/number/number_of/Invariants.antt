use Rattle.std.proofs.Common.{◌≡◌, ◌≤◌, take}
use Rattle.flight_syntax.specs.Pieces.{decimal}
use Rattle.flight_syntax.proofs.number.number_of.Given as goal

abbrev pub invariant-loop-digit : goal.invariant-loop-digit
invariant-loop-digit l = record {
  value : l.number ≡ decimal (take l.digit-index l.digits);
  within : l.number ≤ l.most;
}
