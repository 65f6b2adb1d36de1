use Rattle.std.proofs.Common.{◌≡◌, ◌++◌, length, All}
use Rattle.std.specs.Vec.Iter.{into_iter_items}
use Rattle.serde_json.specs.View.{items_view, members_view}
use Rattle.flight_top.specs.Model.{are_plain, item_nodes, item_slots, are_members_plain, member_nodes, member_props}
use Rattle.flight_top.specs.Fine.{IsFine}
use Rattle.flight_top.proofs.model.+walk.Given as goal

abbrev pub invariant-walk_items-loop-item : goal.invariant-walk_items-loop-item
invariant-walk_items-loop-item l = record {
  plain : are_plain (items_view (into_iter_items l.item-iterator)) ≡ are_plain (items_view l.fn.items.items);
  slots : l.slots.items ++ item_slots (length l.out.items) (items_view (into_iter_items l.item-iterator)) ≡ item_slots (length l.fn.out.items) (items_view l.fn.items.items);
  nodes : l.out.items ++ item_nodes (length l.out.items) (items_view (into_iter_items l.item-iterator)) ≡ l.fn.out.items ++ item_nodes (length l.fn.out.items) (items_view l.fn.items.items);
  fine : All IsFine l.out.items;
}

abbrev pub invariant-walk_members-loop-name : goal.invariant-walk_members-loop-name
invariant-walk_members-loop-name l = record {
  plain : are_members_plain (members_view l.name-iterator) ≡ are_members_plain (members_view l.fn.members.entries);
  props : l.props.items ++ member_props (length l.out.items) (members_view l.name-iterator) ≡ member_props (length l.fn.out.items) (members_view l.fn.members.entries);
  nodes : l.out.items ++ member_nodes (length l.out.items) (members_view l.name-iterator) ≡ l.fn.out.items ++ member_nodes (length l.fn.out.items) (members_view l.fn.members.entries);
  fine : All IsFine l.out.items;
}
