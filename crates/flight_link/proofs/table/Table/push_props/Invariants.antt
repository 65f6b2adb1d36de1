use Rattle.std.proofs.Common.{◌+◌, ◌-◌, ◌≤◌, length, map, take}
use Rattle.std.specs.Prelude.{vec_capacity}
use Rattle.flight_meaning.specs.declared.place.Named.{Named}
use Rattle.flight_meaning.specs.Meaning.{at_places}
use Rattle.flight_link.specs.Nodes.{spot_of}
use Rattle.flight_link.specs.Laid.{Adds}
use Rattle.flight_link.proofs.table.Table.push_props.Given as goal

abbrev pub invariant-loop-prop : goal.invariant-loop-prop
invariant-loop-prop l = record {
  adds : Adds l.self.rows.items (at_places (spot_of l.self.rows.items l.spot) (map (λ (p : Named). p.place) (take l.prop-index l.named))) l.fn.targets.items l.targets.items;
  room : length l.targets.items + (length l.named - l.prop-index) ≤ vec_capacity l.targets;
}
