use Rattle.std.proofs.Common.{◌≡◌, map, take}
use Rattle.flight_link.specs.Drawing.{origin_in}
use Rattle.flight_link.proofs.origins.rows_of.Given as goal

abbrev pub invariant-loop-node : goal.invariant-loop-node
invariant-loop-node l = l.ids.items ≡ map (origin_in l.rows l.keys) (take l.node-index l.nodes)
