use Rattle.std.proofs.Common.{◌≡◌, take}
use Rattle.flight_seq.proofs.task.inside_of.Given as goal

abbrev pub invariant-loop-table : goal.invariant-loop-table
invariant-loop-table l = l.made.items ≡ take l.table-index l.tables.made
