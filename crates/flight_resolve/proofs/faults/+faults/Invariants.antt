use Rattle.std.proofs.Common.{◌≡◌, ◌≤◌, ◌+◌, ◌*◌, ◌++◌, ◌∷◌, [], ℕ, List, length, map, max, take, drop, false, Some}
use denote.Param.Weighed.{most}
use Rattle.flight_syntax.specs.Tree.{trees_of, props_of, pairs_of}
use Rattle.flight_syntax.specs.Faults as faults
use Rattle.flight_parse.specs.declared.tree.Tree.{size-Tree}
use Rattle.flight_parse.specs.declared.tree.Property.{size-Property}
use Rattle.flight_parse.specs.declared.tree.Entry.{size-Entry}
use Rattle.flight_parse.specs.declared.tree.Post.{size-Post}
use Rattle.flight_parse.specs.Code.{placed, tree_of, property_of, entry_of, post_of}
use Rattle.flight_resolve.specs.Names.{all_of, scope_of}
use Rattle.flight_resolve.specs.Seen.{going}
use Rattle.flight_resolve.specs.Posts.{faults_posts}
use Rattle.flight_resolve.proofs.faults.+faults.Given as goal

abbrev pub decreases-in_tree : goal.decreases-in_tree
decreases-in_tree l = 4 * size-Tree l.tree.now

abbrev pub decreases-in_local : goal.decreases-in_local
decreases-in_local l = 4 * max (size-Tree l.value.now) (size-Tree l.then.now) + 1

abbrev pub decreases-in_two : goal.decreases-in_two
decreases-in_two l = 4 * max (size-Tree l.one.now) (size-Tree l.other.now) + 1

abbrev pub decreases-in_three : goal.decreases-in_three
decreases-in_three l = 4 * max (size-Tree l.one.now) (max (size-Tree l.two.now) (size-Tree l.three.now)) + 2

abbrev pub decreases-in_postfixed : goal.decreases-in_postfixed
decreases-in_postfixed l = 4 * max (size-Tree l.of.now) (most size-Post l.posts.now) + 3

abbrev pub decreases-in_posts : goal.decreases-in_posts
decreases-in_posts l = 4 * most size-Post l.posts.now + 2

abbrev pub decreases-in_post : goal.decreases-in_post
decreases-in_post l = 4 * size-Post l.post.now + 1

abbrev pub decreases-in_bound : goal.decreases-in_bound
decreases-in_bound l = 4 * most size-Tree l.bound.now + 2

abbrev pub decreases-in_object : goal.decreases-in_object
decreases-in_object l = 4 * most size-Property l.properties.now + 3

abbrev pub decreases-in_element : goal.decreases-in_element
decreases-in_element l = 4 * max (most size-Property l.attributes.now) (most size-Tree l.children.now) + 3

abbrev pub decreases-in_each : goal.decreases-in_each
decreases-in_each l = 4 * most size-Tree l.items.now + 1

abbrev pub decreases-in_properties : goal.decreases-in_properties
decreases-in_properties l = 4 * most size-Property l.properties.now + 2

abbrev pub decreases-in_property : goal.decreases-in_property
decreases-in_property l = 4 * size-Property l.property.now + 1

abbrev pub decreases-in_entries : goal.decreases-in_entries
decreases-in_entries l = 4 * most size-Entry l.entries.now + 3

abbrev pub decreases-in_entry : goal.decreases-in_entry
decreases-in_entry l = 4 * size-Entry l.entry.now + 2

abbrev pub invariant-in_each-loop-item : goal.invariant-in_each-loop-item
invariant-in_each-loop-item l = going l.first (faults.faults_each (all_of l.body) (scope_of l.body l.locals) (trees_of (map tree_of (drop l.item-index l.items)))) ≡ faults.first_fault (faults.faults_each (all_of l.body) (scope_of l.body l.locals) (trees_of (map tree_of l.items)))

abbrev pub invariant-in_posts-loop-post : goal.invariant-in_posts-loop-post
invariant-in_posts-loop-post l = going l.first (faults_posts (all_of l.body) (scope_of l.body l.locals) (map post_of (drop l.post-index l.posts))) ≡ faults.first_fault (faults_posts (all_of l.body) (scope_of l.body l.locals) (map post_of l.posts))

abbrev pub invariant-in_properties-loop-property : goal.invariant-in_properties-loop-property
invariant-in_properties-loop-property l = going l.first (faults.faults_props (all_of l.body) (scope_of l.body l.locals) (props_of (map property_of (drop l.property-index l.properties)))) ≡ faults.first_fault (faults.faults_props (all_of l.body) (scope_of l.body l.locals) (props_of (map property_of l.properties)))

abbrev pub invariant-in_entries-loop-entry : goal.invariant-in_entries-loop-entry
invariant-in_entries-loop-entry l = going l.first (faults.faults_pairs (all_of l.body) (scope_of l.body l.locals) (pairs_of (map entry_of (drop l.entry-index l.entries)))) ≡ faults.first_fault (faults.faults_pairs (all_of l.body) (scope_of l.body l.locals) (pairs_of (map entry_of l.entries)))
