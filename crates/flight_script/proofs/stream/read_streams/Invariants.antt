use Rattle.std.proofs.Common.{map}
use Rattle.std.specs.List.{flat_map}
use Rattle.flight_script.specs.Entries.{entries}
use Rattle.flight_script.specs.Streams.{stream_tests, IsStream}
use Rattle.flight_script.proofs.Built.{Built}
use Rattle.flight_script.proofs.Passing.{Passed}
use Rattle.flight_script.proofs.stream.read_streams.Given as goal

abbrev pub invariant-loop-name : goal.invariant-loop-name
invariant-loop-name l = record {
  built : Built (IsStream (map (λ n. n.now) l.sources)) (entries l.members.entries) (entries l.name-iterator) l.streams.items;
  passed : Passed (flat_map (stream_tests (map (λ n. n.now) l.sources)) (entries l.members.entries)) (flat_map (stream_tests (map (λ n. n.now) l.sources)) (entries l.name-iterator));
}
