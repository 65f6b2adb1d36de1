use Rattle.std.proofs.Common.{◌≡◌, ◌+◌, ◌++◌, drop, length}
use Rattle.flight_place.specs.Parsed.{items_data, members_data}
use Rattle.flight_place.specs.Places.{item_count, member_count, item_numbers, member_numbers, item_visits, member_visits}
use Rattle.flight_place.proofs.Adding.{Leads}
use Rattle.flight_place.proofs.walk.+walk.Given as goal

abbrev pub invariant-walk_items-loop-item : goal.invariant-walk_items-loop-item
invariant-walk_items-loop-item l = record {
  leads : Leads l.manner l.fn.out.items (item_visits l.manner (length l.fn.out.items) (items_data l.items)) l.out.items (item_visits l.manner (length l.out.items) (items_data (drop l.item-index l.items)));
  count : length l.out.items + item_count (items_data (drop l.item-index l.items)) ≡ length l.fn.out.items + item_count (items_data l.items);
  numbers : l.numbers.items ++ item_numbers (length l.out.items) (items_data (drop l.item-index l.items)) ≡ item_numbers (length l.fn.out.items) (items_data l.items);
}

abbrev pub invariant-walk_members-loop-member : goal.invariant-walk_members-loop-member
invariant-walk_members-loop-member l = record {
  leads : Leads l.manner l.fn.out.items (member_visits l.manner (length l.fn.out.items) (members_data l.members)) l.out.items (member_visits l.manner (length l.out.items) (members_data (drop l.member-index l.members)));
  count : length l.out.items + member_count (members_data (drop l.member-index l.members)) ≡ length l.fn.out.items + member_count (members_data l.members);
  numbers : l.numbers.items ++ member_numbers (length l.out.items) (members_data (drop l.member-index l.members)) ≡ member_numbers (length l.fn.out.items) (members_data l.members);
}
