use Rattle.std.proofs.Common.{rules, ◌<◌, ◌^◌, length, sym, subst}
use Rattle.flight_value.specs.declared.graph.Node.TheVariants as node
use Rattle.flight_meaning.specs.Meaning.{made_at}
use Rattle.flight_link.specs.Nodes.{spot_of}
use Rattle.flight_link.specs.Drawing.{DrawsNode}
use Rattle.flight_link.proofs.Drawing.{object_node}
use Rattle.flight_link.proofs.table.Table.object.Goals as goal

pub returns-clause-node : goal.returns-clause-node
returns-clause-node c =
    let few : length c.in_ok-props.props.items < 2 ^ 32 = search rules in
    subst (λ xs. DrawsNode c.args.self.now.rows.items c.props.new.numbers.keys.items (made_at (spot_of c.args.self.now.rows.items c.args.spot)) (node.Object xs)) (sym c.new.ensures)
    (object_node c.args.self.now.rows.items c.props.new.numbers.keys.items c.args.spot c.args.named.now c.in_ok-props.props.items c.requires.whole.linked.table.plain c.requires.place c.in_ok-props.ensures.props few)
