use Rattle.std.proofs.Common.{◌≡◌, ◌++◌}
use Rattle.flight_place.proofs.gathered.listed.Given as goal

abbrev pub invariant-loop-member : goal.invariant-loop-member
invariant-loop-member l = l.list.items ++ l.member-iterator ≡ l.initial.member-iterator
