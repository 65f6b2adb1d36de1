use Rattle.std.proofs.Common.{◌≡◌, drop}
use Rattle.serde_json.specs.View.{items_view, members_view}
use Rattle.flight_text.specs.Whole.{items_have_whole_numbers, members_have_whole_numbers}
use Rattle.flight_text.proofs.number.+whole.Given as goal

abbrev pub invariant-items_have_whole_numbers-loop-item : goal.invariant-items_have_whole_numbers-loop-item
invariant-items_have_whole_numbers-loop-item l = items_have_whole_numbers (items_view (drop l.item-index l.items)) ≡ items_have_whole_numbers (items_view l.items)

abbrev pub invariant-members_have_whole_numbers-loop-name : goal.invariant-members_have_whole_numbers-loop-name
invariant-members_have_whole_numbers-loop-name l = members_have_whole_numbers (members_view l._name-iterator) ≡ members_have_whole_numbers (members_view l.members.entries)
