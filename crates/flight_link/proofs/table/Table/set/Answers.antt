use Rattle.std.proofs.Common.{rules, ◌≡◌, ◌<◌, ◌^◌, Some, length, sym, subst}
use Rattle.flight_value.specs.declared.graph.Node.TheVariants as node
use Rattle.flight_meaning.specs.declared.place.Place.TheVariants as place
use Rattle.flight_meaning.specs.Meaning.{made_at}
use Rattle.flight_link.specs.declared.node.State.TheVariants.{Ended}
use Rattle.flight_link.specs.Nodes.{place_in, spot_of}
use Rattle.flight_link.specs.Waiting.{IsResolved}
use Rattle.flight_link.specs.Drawing.{DrawsNode}
use Rattle.flight_link.proofs.Drawing.{set_node}
use Rattle.flight_link.proofs.table.Table.set.Goals as goal

pub returns-clause-node : goal.returns-clause-node
returns-clause-node c =
    let h = subst (λ p. IsResolved c.args.self.now c.args.whole.states.now c.args.reference.now.id p (Ended c.in-Ended.end)) c.as_slice.ensures c.in-Ended.ensures in
    let at : place_in c.args.self.now.rows.items c.in-Ended.end ≡ Some (place.Array c.as_slice-2.result.now) = search rules in
    let few : length c.in_ok-slots.slots.items < 2 ^ 32 = search rules in
    subst (λ xs. DrawsNode c.args.self.now.rows.items c.slots.new.numbers.keys.items (made_at (spot_of c.args.self.now.rows.items c.args.spot)) (node.Set xs)) (sym c.new.ensures)
    (set_node c.args.self.now.rows.items c.slots.new.numbers.keys.items c.args.spot c.in-Ended.end c.args.reference.now c.as_slice-2.result.now c.in_ok-slots.slots.items c.requires.whole.linked.table.plain c.requires.place h.0 at c.in_ok-slots.ensures.slots few)
