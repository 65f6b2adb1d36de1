use Rattle.std.proofs.Common.{◌≡◌, ◌++◌, ◌∷◌, ◌+◌, ◌*◌, take}
use Rattle.json.specs.Token as token
use Rattle.flight_payload.specs.Tree.{trees_of, props_of}
use Rattle.flight_payload.specs.Written.{tree_tokens, prop_tokens}
use Rattle.flight_reply_out.specs.Fields.{slot_tree, item_tree, prop_tree, pair_tree, numbered}
use Rattle.flight_reply_out.proofs.write.+writing.Given as goal

abbrev pub decreases-write_slot : goal.decreases-write_slot
decreases-write_slot l = 8 * l.levels + 3

abbrev pub decreases-write_node : goal.decreases-write_node
decreases-write_node l = 8 * l.levels + 2

abbrev pub decreases-write_in_place : goal.decreases-write_in_place
decreases-write_in_place l = 8 * l.levels + 7

abbrev pub decreases-write_value : goal.decreases-write_value
decreases-write_value l = 8 * l.levels + 6

abbrev pub decreases-write_items : goal.decreases-write_items
decreases-write_items l = 8 * l.levels + 5

abbrev pub decreases-write_props : goal.decreases-write_props
decreases-write_props l = 8 * l.levels + 5

abbrev pub decreases-write_pairs : goal.decreases-write_pairs
decreases-write_pairs l = 8 * l.levels + 5

abbrev pub decreases-write_pair : goal.decreases-write_pair
decreases-write_pair l = 8 * l.levels + 4

abbrev pub decreases-write_action : goal.decreases-write_action
decreases-write_action l = 8 * l.levels + 5

abbrev pub invariant-write_items-items : goal.invariant-write_items-items
invariant-write_items-items l = l.out ≡ l.fn.out ++ token.begin_array ∷ tree_tokens (trees_of (numbered (item_tree (slot_tree l.levels l.drawn.nodes.now l.drawn.homes.now) l.n) 0 (take l.i l.items)))

abbrev pub invariant-write_props-props : goal.invariant-write_props-props
invariant-write_props-props l = l.out ≡ l.fn.out ++ token.begin_object ∷ prop_tokens (props_of (numbered (prop_tree (slot_tree l.levels l.drawn.nodes.now l.drawn.homes.now) l.n) 0 (take l.i l.props)))

abbrev pub invariant-write_pairs-pairs : goal.invariant-write_pairs-pairs
invariant-write_pairs-pairs l = l.out ≡ l.fn.out ++ token.begin_array ∷ tree_tokens (trees_of (numbered (pair_tree (slot_tree l.levels l.drawn.nodes.now l.drawn.homes.now) l.n) 0 (take l.i l.pairs)))
