use Rattle.std.proofs.Common.{◌<◌, ◌^◌, List, length, ◌∷◌, ◌++◌, [], arith, rules, ap, sym, subst, ◌∙◌}
use Rattle.json.specs.Token as token
use Rattle.flight_value.specs.declared.graph.Prop.{Prop}
use Rattle.flight_value.specs.declared.graph.Pair.{Pair}
use Rattle.flight_value.specs.Graph.{slots_of}
use Rattle.flight_reply_out.specs.Known.{IsGoodSlot, AreGoodSlots, AreGoodProps, AreGoodPairs}
use Rattle.flight_reply_out.specs.Fields.{slot_tree, item_tree, prop_tree, pair_tree}
use Rattle.flight_reply_out.proofs.Good.{pair_slots, props_good, pairs_good, pair_count}
use Rattle.flight_reply_out.proofs.Writing.{items_next, props_next}
use Rattle.flight_reply_out.proofs.write.+writing.Goals as goal

pub write_items-items-preserved : goal.write_items-items-preserved
write_items-items-preserved t c =
    let show = slot_tree c.args.levels c.args.drawn.nodes.now c.args.drawn.homes.now in
    items_next (item_tree show c.args.n) c.args.items.now c.items.i c.index-items-i.result c.args.out.now c.items.out c.write_slot.new.out c.items-test.true c.index-items-i.is c.items.invariant c.in_ok-write_slot.ensures

pub write_pairs-pairs-preserved : goal.write_pairs-pairs-preserved
write_pairs-pairs-preserved t c =
    let show = slot_tree c.args.levels c.args.drawn.nodes.now c.args.drawn.homes.now in
    items_next (pair_tree show c.args.n) c.args.pairs.now c.pairs.i c.index-pairs-i.result c.args.out.now c.pairs.out c.write_pair.new.out c.pairs-test.true c.index-pairs-i.is c.pairs.invariant c.in_ok-write_pair.ensures

pub write_props-props-preserved : goal.write_props-props-preserved
write_props-props-preserved t c =
    let show = slot_tree c.args.levels c.args.drawn.nodes.now c.args.drawn.homes.now in
    let x = c.index-props-i.result in
    props_next (prop_tree show c.args.n) c.args.props.now c.props.i x c.args.out.now c.props.out c.name.new.self c.write_slot.new.out c.props-test.true c.index-props-i.is c.props.invariant (c.in_ok-name.ensures ∙ ap (λ text. c.props.out ++ token.key text ∷ []) c.as_str.ensures) c.in_ok-write_slot.ensures

pub write_pairs-write_pair-requires : goal.write_pairs-write_pair-requires
write_pairs-write_pair-requires t c =
    let count = pair_count c.args.pairs.now in
    let few = c.requires.few in
    let x = c.index-pairs-i.result in
    let n = length c.args.drawn.nodes.now in
    (search rules, (c.requires.drawn, (omega (arith, count, few, c.pairs-test.true), subst (λ (p : Pair). IsGoodSlot n p.key × IsGoodSlot n p.value) (sym c.index-pairs-i.is) (c.requires.good c.pairs.i x c.pairs-test.true))))

pub write_value-write_props-requires : goal.write_value-write_props-requires
write_value-write_props-requires t c =
    let n = length c.args.drawn.nodes.now in
    let slots = subst (λ node. AreGoodSlots n (slots_of node)) c.in-Object.is c.requires.good.slots in
    (search rules, (c.requires.drawn, subst (λ (ps : List Prop). AreGoodProps n ps) (sym c.as_slice.ensures) (props_good n c.in-Object.props slots)))

pub write_value-write_pairs-requires : goal.write_value-write_pairs-requires
write_value-write_pairs-requires t c =
    let n = length c.args.drawn.nodes.now in
    let slots = subst (λ node. AreGoodSlots n (slots_of node)) c.in-Map.is c.requires.good.slots in
    let few = subst (λ node. length (slots_of node) < 2 ^ 32) c.in-Map.is c.requires.good.few in
    (search rules, (c.requires.drawn, subst (λ (ps : List Pair). (length (pair_slots ps) < 2 ^ 32) × AreGoodPairs n ps) (sym c.as_slice-in-Map.ensures) (few, pairs_good n c.in-Map.pairs slots)))
