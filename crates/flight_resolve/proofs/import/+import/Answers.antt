use Rattle.std.proofs.Common.{◌∙◌, arith, rules, map}
use Rattle.serde_json.specs.Data as json_data
use Rattle.serde_json.specs.Read.{of_members}
use Rattle.serde_json.specs.View.{view, members_view}
use Rattle.flight_syntax.specs.Tree.{json_members_of}
use Rattle.flight_parse.specs.Values.{member_of}
use Rattle.flight_resolve.proofs.Importing.{values_read, values_whole, members_read, members_whole}
use Rattle.flight_resolve.proofs.import.+import.Goals as goal

pub values-loop-item-preserved : goal.values-loop-item-preserved
values-loop-item-preserved t c = record {
  read = values_read c.args.items.now c.loop-item.item-index c.item-item.result (omega arith) c.item-item.is c.loop-item.values.items c.push.new.self.items c.in_ok-value.value c.loop-item.invariant.read c.in_ok-value.ensures.is_read c.in_ok-push.ensures.items;
  whole = values_whole c.loop-item.values.items c.push.new.self.items c.in_ok-value.value c.loop-item.invariant.whole c.in_ok-value.ensures.whole c.in_ok-push.ensures.items;
}

pub object-loop-member-preserved : goal.object-loop-member-preserved
object-loop-member-preserved t c = record {
  read = members_read c.args.members.now c.loop-member.member-index c.member-item.result (omega arith) c.member-item.is (members_view c.loop-member.object.entries) (members_view c.put_in.new.object.entries) (view c.in_ok-value.value)
      (of_members (json_members_of (map member_of c.args.members.now)) json_data.no_members) c.loop-member.invariant.read c.in_ok-value.ensures.is_read c.in_ok-put_in.ensures;
  whole = members_whole (member_of c.member-item.result).0.bytes (view c.in_ok-value.value) (members_view c.loop-member.object.entries) (members_view c.put_in.new.object.entries) c.in_ok-value.ensures.whole c.loop-member.invariant.whole c.in_ok-put_in.ensures;
}
