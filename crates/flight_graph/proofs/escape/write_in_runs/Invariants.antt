use Rattle.std.proofs.Common.{◌≡◌, ◌++◌, length}
use Rattle.std.specs.List.{flat_map}
use denote.Text.{Utf8}
use denote.Shadow.{shadow}
use Rattle.flight_graph.specs.Text.{escaped}
use Rattle.flight_graph.proofs.escape.write_in_runs.Given as goal

abbrev pub invariant-loop-at : goal.invariant-loop-at
invariant-loop-at l = record {
  utf8 : shadow (Utf8 l.rest);
  so_far : l.out ++ flat_map escaped l.rest ≡ l.initial.out ++ flat_map escaped l.text;
}

abbrev pub decreases-loop-at : goal.decreases-loop-at
decreases-loop-at l = length l.rest
