use Rattle.std.proofs.Common.{rules, ◌+◌, ◌<◌, sym, subst, length, take}
use Rattle.flight_link.specs.Nodes.{spot_of}
use Rattle.flight_link.specs.Drawing.{AreProps}
use Rattle.flight_link.proofs.Drawing.{grows_on, props_more}
use Rattle.flight_link.proofs.table.Table.props.Goals as goal

pub loop-prop-preserved : goal.loop-prop-preserved
loop-prop-preserved c =
    let less : c.loop-prop.prop-index < length c.args.named.now = c.loop-prop-test.true in
    let old = c.loop-prop.numbers.keys.items in
    let new = c.slot_beside.new.numbers.keys.items in
    record {
      numbered = c.in_ok-slot.ensures.numbered;
      grows = grows_on c.args.numbers.now.keys.items old new c.loop-prop.invariant.grows c.in_ok-slot.ensures.grows;
      props = subst (λ xs. AreProps c.args.self.now.rows.items new (spot_of c.args.self.now.rows.items c.args.spot) xs (take (c.loop-prop.prop-index + 1) c.args.named.now)) (sym c.in_ok-push.ensures.items)
          (props_more c.args.self.now.rows.items old new (spot_of c.args.self.now.rows.items c.args.spot) c.loop-prop.props.items c.args.named.now c.loop-prop.prop-index (record { name = c.in_ok-name.name; slot = c.in_ok-slot.slot }) c.prop-item.result less c.prop-item.is c.in_ok-slot.ensures.grows c.loop-prop.invariant.props (search rules) c.in_ok-slot.ensures.slot);
    }
