use Rattle.std.proofs.Common.{◌≡◌, ◌+◌, ◌++◌, ℕ, length}
use Rattle.flight_link.specs.Drafted.{in_twos, more_parts, pair_parts}
use Rattle.flight_link.proofs.text.write_more_entries.Given as goal

abbrev pub invariant-loop-rest : goal.invariant-loop-rest
invariant-loop-rest l = record {
  text : l.out ++ more_parts pair_parts (in_twos l.rest) ≡ l.initial.out ++ more_parts pair_parts (in_twos l.targets);
  count : (m : ℕ) × (length l.rest ≡ m + m);
}

abbrev pub decreases-loop-rest : goal.decreases-loop-rest
decreases-loop-rest l = length l.rest
