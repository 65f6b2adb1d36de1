use Rattle.std.proofs.Common.{rules, ◌<◌, ◌^◌, length, sym, subst}
use Rattle.flight_value.specs.declared.graph.Node.TheVariants as node
use Rattle.flight_meaning.specs.Meaning.{made_at}
use Rattle.flight_link.specs.Nodes.{spot_of}
use Rattle.flight_link.specs.Drawing.{DrawsNode}
use Rattle.flight_link.proofs.Drawing.{array_node}
use Rattle.flight_link.proofs.table.Table.array.Goals as goal

pub returns-clause-node : goal.returns-clause-node
returns-clause-node c =
    let few : length c.in_ok-slots.slots.items < 2 ^ 32 = search rules in
    subst (λ xs. DrawsNode c.args.self.now.rows.items c.slots.new.numbers.keys.items (made_at (spot_of c.args.self.now.rows.items c.args.spot)) (node.Array xs)) (sym c.new.ensures)
    (array_node c.args.self.now.rows.items c.slots.new.numbers.keys.items c.args.spot c.args.places.now c.in_ok-slots.slots.items c.requires.whole.linked.table.plain c.requires.place c.in_ok-slots.ensures.slots few)
