use Rattle.std.proofs.Common.{◌≡◌, ◌++◌, List, All}
use Rattle.std.specs.Vec.Iter.{into_iter_items}
use Rattle.flight_feed.specs.declared.arrived.Arrived.{Arrived}
use Rattle.flight_client.specs.Adding.{IsReadable, Adds}
use Rattle.flight_client.proofs.rows.link_all.Given as goal

abbrev pub invariant-loop-row : goal.invariant-loop-row
invariant-loop-row l = record {
  readable : All IsReadable (into_iter_items l.row-iterator);
  adds : (done : List Arrived) × (l.fn.arrived.items ≡ done ++ into_iter_items l.row-iterator) × Adds done l.fn.links l.links;
}
