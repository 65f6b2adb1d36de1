use Rattle.std.proofs.Common.{◌≡◌, ◌++◌, drop}
use Rattle.flight_render.specs.Body.{params_of}
use Rattle.flight_eval.proofs.start.params_of.Given as goal

abbrev pub invariant-loop-name : goal.invariant-loop-name
invariant-loop-name l = l.env.items ++ params_of l.place.over.now l.place.tables.now.made l.props (drop l.name-index l.names) ≡ params_of l.place.over.now l.place.tables.now.made l.props l.names
