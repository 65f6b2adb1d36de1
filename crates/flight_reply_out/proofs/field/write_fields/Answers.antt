use Rattle.std.proofs.Common.{None}
use Rattle.flight_reply_out.specs.Fields.{field, shown}
use Rattle.flight_reply_out.proofs.Gathering.{root_pushed, nodes_more}
use Rattle.flight_reply_out.proofs.field.write_fields.Goals as goal

pub loop-n-init : goal.loop-n-init
loop-n-init c =
    record {
      empty = c.in_ok-push_field.ensures.empty;
      fields = root_pushed c.args.drawn.nodes.now c.args.drawn.homes.now c.args.root.now c.new-fields.result.items c.push_field.new.fields.items c.args.out.now c.write_slot.new.out c.new-fields.ensures.items c.requires.empty c.in_ok-write_slot.ensures c.in_ok-push_field.ensures.fields;
    }

pub loop-n-preserved : goal.loop-n-preserved
loop-n-preserved c =
    let nodes = c.args.drawn.nodes.now in
    let homes = c.args.drawn.homes.now in
    record {
      empty = c.in_ok-push_parts.ensures.empty;
      fields = nodes_more nodes homes (field 0 (shown nodes homes None c.args.root.now)) c.loop-n.n c.loop-n.fields.items c.push_parts.new.fields.items c.loop-n.invariant.fields c.in_ok-push_parts.ensures.fields;
    }
