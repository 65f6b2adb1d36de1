use Rattle.std.proofs.Common.{ℕ, ◌<◌, ◌≢◌, Some, slice_get}
use Rattle.flight_link.specs.Marks.{mentioned}
use Rattle.flight_link.proofs.mention.first_in.Given as goal

abbrev pub invariant-loop-number : goal.invariant-loop-number
invariant-loop-number l = (m : ℕ) → m < l.number → slice_get l.places m ≢ Some (mentioned l.mention)
