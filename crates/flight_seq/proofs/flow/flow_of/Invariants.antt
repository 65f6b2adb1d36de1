use Rattle.std.proofs.Common.{◌≡◌, map, drop}
use Rattle.flight_render.specs.Plain.{flow}
use Rattle.flight_seq.specs.Held.{value_held}
use Rattle.flight_seq.specs.Sources.{behind}
use Rattle.flight_seq.proofs.flow.flow_of.Given as goal

abbrev pub invariant-loop-source : goal.invariant-loop-source
invariant-loop-source l =
    flow l.fn.ground l.fn.seen.settled l.fn.flowing.items l.fn.flowing.last ≡ behind (map value_held l.held.items) (flow l.fn.ground l.fn.seen.settled (drop l.source-index l.fn.flowing.items) l.fn.flowing.last)
