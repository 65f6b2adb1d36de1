use Rattle.std.proofs.Common.{◌≤◌, length, drop}
use Rattle.flight_place.specs.Parsed.{members_data, IsBelowFirst}
use Rattle.flight_place.proofs.gathered.position.Given as goal

abbrev pub invariant-members : goal.invariant-members
invariant-members l = record {
  within : l.end ≤ length l.list;
  below : IsBelowFirst l.name (members_data (drop l.end l.list));
}

abbrev pub decreases-members : goal.decreases-members
decreases-members l = l.end
