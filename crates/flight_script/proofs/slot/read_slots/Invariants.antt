use Rattle.std.proofs.Common.{map, drop}
use Rattle.serde_json.specs.View.{view}
use Rattle.flight_script.specs.Slots.{IsSlot}
use Rattle.flight_script.proofs.Built.{Built}
use Rattle.flight_script.proofs.slot.read_slots.Given as goal

abbrev pub invariant-loop-item : goal.invariant-loop-item
invariant-loop-item l = Built (IsSlot l.count) (map view l.items) (map view (drop l.item-index l.items)) l.slots.items
