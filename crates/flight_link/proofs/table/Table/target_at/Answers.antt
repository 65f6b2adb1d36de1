use Rattle.std.proofs.Common.{sym, ◌∙◌}
use Rattle.flight_link.specs.declared.node.Start.TheVariants as start
use Rattle.flight_link.proofs.Targets.{indexed, not_indexed, stop_target}
use Rattle.flight_link.proofs.table.Table.target_at.Goals as goal

pub target_behind-requires-clause-node : goal.target_behind-requires-clause-node
target_behind-requires-clause-node c = (start.Place c.args.spot, indexed c.args.self.now c.args.spot c.requires.place.0 c.in-Some.node c.requires.linked.table c.requires.place.1 (sym c.node.ensures ∙ c.in-Some.is))

pub target_from-requires-clause-stop : goal.target_from-requires-clause-stop
target_from-requires-clause-stop c = not_indexed c.args.self.now c.args.spot c.requires.place.0 c.requires.linked.table c.requires.place.1 (sym c.node.ensures ∙ c.in-None.is)

pub returns-in-Some : goal.returns-in-Some
returns-in-Some c = c.target_behind.ensures (start.Place c.args.spot) (indexed c.args.self.now c.args.spot c.requires.place.0 c.in-Some.node c.requires.linked.table c.requires.place.1 (sym c.node.ensures ∙ c.in-Some.is))

pub returns-in-None : goal.returns-in-None
returns-in-None c =
    stop_target c.args.self.now c.args.spot c.target_from.result c.requires.linked.table
    (not_indexed c.args.self.now c.args.spot c.requires.place.0 c.requires.linked.table c.requires.place.1 (sym c.node.ensures ∙ c.in-None.is)) c.target_from.ensures
