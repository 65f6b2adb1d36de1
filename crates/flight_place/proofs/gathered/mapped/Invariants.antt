use Rattle.std.proofs.Common.{◌≡◌, length}
use Rattle.std.specs.Vec.Iter.{into_iter_items, into_iter_len}
use Rattle.flight_place.specs.Parsed.{members_data}
use Rattle.flight_place.proofs.Gathering.{put_each}
use Rattle.flight_place.proofs.gathered.mapped.Given as goal

abbrev pub invariant-loop-name : goal.invariant-loop-name
invariant-loop-name l = record {
  puts : put_each (into_iter_items l.name-iterator) (members_data l.map.entries) ≡ put_each (into_iter_items l.initial.name-iterator) (members_data l.initial.map.entries);
  left : into_iter_len l.name-iterator ≡ length (into_iter_items l.name-iterator);
}
