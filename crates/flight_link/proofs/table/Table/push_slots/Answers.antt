use Rattle.std.proofs.Common.{◌∷◌, [], ◌<◌, ◌∙◌, ap, length, length-append, arith}
use Rattle.flight_link.specs.Nodes.{spot_of}
use Rattle.flight_link.proofs.LaidOut.{adds_none, slots_more}
use Rattle.flight_link.proofs.table.Table.push_slots.Goals as goal

pub loop-number-init : goal.loop-number-init
loop-number-init c =
    let enough = c.in_ok-reserve.ensures.ok in
    record {
      adds = adds_none c.args.self.now.rows.items c.args.targets.now.items c.reserve.new.self.items c.reserve.ensures.items;
      room = omega (arith, enough);
    }

pub loop-number-preserved : goal.loop-number-preserved
loop-number-preserved c =
    let less : c.loop-number.number-index < length c.args.numbers.now = c.loop-number-test.true in
    let room = c.loop-number.invariant.room in
    let more = ap length c.push_reserved.ensures.items ∙ length-append c.loop-number.targets.items (c.in_ok-target.target ∷ []) in
    let same = c.push_reserved.ensures.capacity in
    record {
      adds = slots_more c.args.self.now.rows.items (spot_of c.args.self.now.rows.items c.args.spot) c.args.numbers.now c.loop-number.number-index c.args.targets.now.items c.loop-number.targets.items c.push_reserved.new.self.items c.in_ok-target.target less c.loop-number.invariant.adds c.in_ok-target.ensures c.push_reserved.ensures.items;
      room = omega (arith, less, room, more, same);
    }
