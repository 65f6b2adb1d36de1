use Rattle.std.proofs.Common.{◌≡◌, ◌≤◌, ◌+◌, ◌*◌, ◌++◌, ◌∷◌, [], ℕ, List, length, map, max, take, drop, false, Some}
use denote.Param.Weighed.{most}
use Rattle.serde_json.specs.Data as json_data
use Rattle.serde_json.specs.Read.{of_items, of_members}
use Rattle.serde_json.specs.Written.{items_have_float, members_have_float}
use Rattle.serde_json.specs.View.{items_view, members_view}
use Rattle.flight_syntax.specs.Tree.{json_items_of, json_members_of}
use Rattle.flight_parse.specs.declared.json_value.Json.{size-Json}
use Rattle.flight_parse.specs.declared.json_value.Member.{size-Member}
use Rattle.flight_parse.specs.Values.{json_of, member_of}
use Rattle.flight_resolve.proofs.import.+import.Given as goal

abbrev pub decreases-value : goal.decreases-value
decreases-value l = 3 * size-Json l.read.now

abbrev pub decreases-value_in : goal.decreases-value_in
decreases-value_in l = 3 * size-Member l.member.now + 1

abbrev pub decreases-values : goal.decreases-values
decreases-values l = 3 * most size-Json l.items.now + 1

abbrev pub decreases-object : goal.decreases-object
decreases-object l = 3 * most size-Member l.members.now + 2

abbrev pub invariant-values-loop-item : goal.invariant-values-loop-item
invariant-values-loop-item l = record {
  read : of_items (json_items_of (map json_of (take l.item-index l.items))) ≡ Some (items_view l.values.items);
  whole : items_have_float (items_view l.values.items) ≡ false;
}

abbrev pub invariant-object-loop-member : goal.invariant-object-loop-member
invariant-object-loop-member l = record {
  read : of_members (json_members_of (map member_of (drop l.member-index l.members))) (members_view l.object.entries) ≡ of_members (json_members_of (map member_of l.members)) json_data.no_members;
  whole : members_have_float (members_view l.object.entries) ≡ false;
}
