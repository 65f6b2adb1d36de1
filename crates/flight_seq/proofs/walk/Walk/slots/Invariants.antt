use Rattle.std.proofs.Common.{◌≡◌, ◌++◌, map, List}
use Rattle.std.specs.List.{AllZip}
use Rattle.std.specs.Vec.Iter.{into_iter_items}
use Rattle.flight_seq.specs.declared.held.Held.{Held}
use Rattle.flight_seq.specs.Held.{value_held}
use Rattle.flight_seq.specs.Walk.{IsWalk, GoesOn}
use Rattle.flight_seq.specs.Chain.{Draws}
use Rattle.flight_seq.proofs.walk.Walk.slots.Given as goal

abbrev pub invariant-loop-slot : goal.invariant-loop-slot
invariant-loop-slot l =
    (done : List Held) × (done ++ into_iter_items l.slot-iterator ≡ l.fn.held.items)
    × IsWalk l.fn.ground l.fn.seen.settled l.fn.fuel l.self
    × GoesOn l.fn.self l.self
    × AllZip (Draws l.fn.ground l.fn.seen.settled l.self.bodies.entries l.self.keys.keys) l.slots.items (map value_held done)
