use Rattle.std.proofs.Common.{◌≡◌, map, take}
use Rattle.flight_render.specs.Jobs.{shown}
use Rattle.flight_seq.specs.Held.{value_held}
use Rattle.flight_seq.specs.Sources.{from_source}
use Rattle.flight_seq.proofs.given.held_slots.Given as goal

abbrev pub invariant-loop-slot : goal.invariant-loop-slot
invariant-loop-slot l = map value_held l.held.items ≡ map (λ slot. shown (from_source l.source slot)) (take l.slot-index l.slots)
