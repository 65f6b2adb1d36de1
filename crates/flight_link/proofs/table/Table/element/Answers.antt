use Rattle.flight_meaning.specs.Meaning.{at_place}
use Rattle.flight_meaning.specs.Linked.{beside}
use Rattle.flight_link.specs.Nodes.{spot_of}
use Rattle.flight_link.proofs.Drawing.{element_node, draws_grow, grows_on}
use Rattle.flight_link.proofs.table.Table.element.Goals as goal

pub returns-clause-node : goal.returns-clause-node
returns-clause-node c =
    let first = c.slot_beside.new.numbers.keys.items in
    let second = c.slot_beside-2.new.numbers.keys.items in
    let last = c.slot_beside-3.new.numbers.keys.items in
    let later = c.in_ok-props.ensures.grows in
    element_node c.args.self.now.rows.items last c.args.spot c.args.tag c.args.key c.args.props c.in_ok-tag.tag c.in_ok-key.key c.in_ok-props.props c.requires.whole.linked.table.plain c.requires.place
    (draws_grow c.args.self.now.rows.items first last c.in_ok-tag.tag (at_place (beside (spot_of c.args.self.now.rows.items c.args.spot) c.args.tag)) (grows_on first second last c.in_ok-key.ensures.grows later) c.in_ok-tag.ensures.slot)
    (draws_grow c.args.self.now.rows.items second last c.in_ok-key.key (at_place (beside (spot_of c.args.self.now.rows.items c.args.spot) c.args.key)) later c.in_ok-key.ensures.slot)
    c.in_ok-props.ensures.slot
