use Rattle.std.proofs.Common.{◌+◌, ◌-◌, ◌≤◌, length, take}
use Rattle.std.specs.Prelude.{vec_capacity}
use Rattle.flight_meaning.specs.Meaning.{at_places}
use Rattle.flight_link.specs.Nodes.{spot_of}
use Rattle.flight_link.specs.Laid.{Adds}
use Rattle.flight_link.proofs.table.Table.push_slots.Given as goal

abbrev pub invariant-loop-number : goal.invariant-loop-number
invariant-loop-number l = record {
  adds : Adds l.self.rows.items (at_places (spot_of l.self.rows.items l.spot) (take l.number-index l.numbers)) l.fn.targets.items l.targets.items;
  room : length l.targets.items + (length l.numbers - l.number-index) ≤ vec_capacity l.targets;
}
