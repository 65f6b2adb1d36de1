use Rattle.std.proofs.Common.{◌≡◌, ◌+◌, ◌-◌, ◌*◌, [], length, map}
use Rattle.serde_json.specs.Data.{no_members}
use Rattle.serde_json.specs.View.{view, members_view}
use Rattle.flight_top.specs.StaticReader.{items_by, members_by, attributes_by, value, words_from}
use Rattle.flight_top.proofs.static_read.+static_read.Given as goal

abbrev pub decreases-value : goal.decreases-value
decreases-value l = 8 * l.levels

abbrev pub decreases-begun : goal.decreases-begun
decreases-begun l = 8 * l.below + 7

abbrev pub decreases-array : goal.decreases-array
decreases-array l = 8 * l.below + 6

abbrev pub decreases-object : goal.decreases-object
decreases-object l = 8 * l.below + 6

abbrev pub decreases-property : goal.decreases-property
decreases-property l = 8 * l.below + 5

abbrev pub decreases-element : goal.decreases-element
decreases-element l = 8 * l.below + 6

abbrev pub decreases-attributes : goal.decreases-attributes
decreases-attributes l = 8 * l.below + 5

abbrev pub decreases-attribute : goal.decreases-attribute
decreases-attribute l = 8 * l.below + 4

abbrev pub decreases-attribute_value : goal.decreases-attribute_value
decreases-attribute_value l = 8 * l.below + 3

abbrev pub invariant-array-items : goal.invariant-array-items
invariant-array-items l = items_by (l.end - l.counter) (value l.below) (map view l.items.items) (words_from l.code l.next) ≡ items_by (length (words_from l.code l.fn.at)) (value l.below) [] (words_from l.code l.fn.at)

abbrev pub invariant-object-props : goal.invariant-object-props
invariant-object-props l =
    members_by (l.end - l.counter) (value l.below) (members_view l.members.entries) (words_from l.code l.next) ≡ members_by (length (words_from l.code l.fn.at)) (value l.below) no_members (words_from l.code l.fn.at)

abbrev pub invariant-attributes-attributes : goal.invariant-attributes-attributes
invariant-attributes-attributes l =
    attributes_by (l.end - l.counter) (value l.below) (members_view l.members.entries) (words_from l.code l.next)
    ≡ attributes_by (length (words_from l.code l.fn.at)) (value l.below) (members_view l.fn.members.entries) (words_from l.code l.fn.at)
