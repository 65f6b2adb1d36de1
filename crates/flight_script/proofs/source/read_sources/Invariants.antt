use Rattle.std.specs.List.{flat_map}
use Rattle.flight_script.specs.Entries.{entries}
use Rattle.flight_script.specs.Sources.{source_tests, IsSource}
use Rattle.flight_script.proofs.Built.{Built}
use Rattle.flight_script.proofs.Passing.{Passed}
use Rattle.flight_script.proofs.source.read_sources.Given as goal

abbrev pub invariant-loop-name : goal.invariant-loop-name
invariant-loop-name l = record {
  built : Built IsSource (entries l.members.entries) (entries l.name-iterator) l.sources.items;
  passed : Passed (flat_map source_tests (entries l.members.entries)) (flat_map source_tests (entries l.name-iterator));
}
