use Rattle.std.proofs.Common.{◌≡◌, drop}
use Rattle.flight_render.specs.Values.{named_slot}
use Rattle.flight_eval.proofs.values.named_slot.Given as goal

abbrev pub invariant-loop-other : goal.invariant-loop-other
invariant-loop-other l = named_slot l.name (drop l.other-index l.names) l.rest ≡ named_slot l.name l.names l.slots
