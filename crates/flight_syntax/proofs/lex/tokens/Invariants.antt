use Rattle.std.proofs.Common.{◌≤◌, ◌-◌, length}
use Rattle.flight_syntax.specs.Tokens.{Reads}
use Rattle.flight_syntax.proofs.lex.tokens.Given as goal

abbrev pub invariant-loop-at : goal.invariant-loop-at
invariant-loop-at l = record {
  within : l.at ≤ length l.bytes;
  before : Reads l.bytes 0 l.tokens.items l.at;
}

abbrev pub decreases-loop-at : goal.decreases-loop-at
decreases-loop-at l = length l.bytes - l.at
