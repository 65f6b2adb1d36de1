use Rattle.std.proofs.Common.{◌∷◌, [], ◌<◌, ◌∙◌, ap, length, length-append, arith}
use Rattle.flight_link.specs.Nodes.{spot_of}
use Rattle.flight_link.proofs.LaidOut.{adds_none, props_more}
use Rattle.flight_link.proofs.table.Table.push_props.Goals as goal

pub loop-prop-init : goal.loop-prop-init
loop-prop-init c =
    let enough = c.in_ok-reserve.ensures.ok in
    record {
      adds = adds_none c.args.self.now.rows.items c.args.targets.now.items c.reserve.new.self.items c.reserve.ensures.items;
      room = omega (arith, enough);
    }

pub loop-prop-preserved : goal.loop-prop-preserved
loop-prop-preserved c =
    let less : c.loop-prop.prop-index < length c.args.named.now = c.loop-prop-test.true in
    let room = c.loop-prop.invariant.room in
    let more = ap length c.push_reserved.ensures.items ∙ length-append c.loop-prop.targets.items (c.in_ok-target.target ∷ []) in
    let same = c.push_reserved.ensures.capacity in
    record {
      adds = props_more c.args.self.now.rows.items (spot_of c.args.self.now.rows.items c.args.spot) c.args.named.now c.loop-prop.prop-index c.prop-item.result c.args.targets.now.items c.loop-prop.targets.items c.push_reserved.new.self.items c.in_ok-target.target less c.prop-item.is c.loop-prop.invariant.adds c.in_ok-target.ensures c.push_reserved.ensures.items;
      room = omega (arith, less, room, more, same);
    }
