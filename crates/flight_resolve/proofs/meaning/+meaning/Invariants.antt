use Rattle.std.proofs.Common.{◌≡◌, ◌≤◌, ◌+◌, ◌*◌, ◌++◌, ◌∷◌, [], ℕ, List, length, map, max, take, drop, false, Some}
use denote.Param.Weighed.{most}
use Rattle.flight_syntax.specs.Tree.{trees_of, props_of, pairs_of}
use Rattle.flight_syntax.specs.Term.{term, prop, pair}
use Rattle.flight_syntax.specs.Term as terms
use Rattle.flight_syntax.specs.Meaning.{meanings, meaning_props, meaning_pairs}
use Rattle.flight_parse.specs.declared.tree.Tree.{size-Tree}
use Rattle.flight_parse.specs.declared.tree.Property.{size-Property}
use Rattle.flight_parse.specs.declared.tree.Entry.{size-Entry}
use Rattle.flight_parse.specs.declared.tree.Post.{size-Post}
use Rattle.flight_parse.specs.Code.{placed, tree_of, property_of, entry_of, post_of}
use Rattle.flight_resolve.specs.Posts.{meaning_post}
use Rattle.flight_resolve.specs.Names.{all_of, names_of}
use Rattle.flight_resolve.proofs.meaning.+meaning.Given as goal

abbrev pub decreases-expr_of : goal.decreases-expr_of
decreases-expr_of l = 4 * size-Tree l.tree.now

abbrev pub decreases-local_of : goal.decreases-local_of
decreases-local_of l = 4 * max (size-Tree l.value.now) (size-Tree l.then.now) + 1

abbrev pub decreases-two_of : goal.decreases-two_of
decreases-two_of l = 4 * max (size-Tree l.one.now) (size-Tree l.other.now) + 1

abbrev pub decreases-exprs_of : goal.decreases-exprs_of
decreases-exprs_of l = 4 * most size-Tree l.items.now + 1

abbrev pub decreases-postfixed_of : goal.decreases-postfixed_of
decreases-postfixed_of l = 4 * max (size-Tree l.of.now) (most size-Post l.posts.now) + 3

abbrev pub decreases-postfixes_of : goal.decreases-postfixes_of
decreases-postfixes_of l = 4 * most size-Post l.posts.now + 2

abbrev pub decreases-postfix_of : goal.decreases-postfix_of
decreases-postfix_of l = 4 * size-Post l.post.now + 1

abbrev pub decreases-props_in : goal.decreases-props_in
decreases-props_in l = 4 * most size-Property l.properties.now + 2

abbrev pub decreases-prop_of : goal.decreases-prop_of
decreases-prop_of l = 4 * size-Property l.property.now + 1

abbrev pub decreases-pairs_in : goal.decreases-pairs_in
decreases-pairs_in l = 4 * most size-Entry l.entries.now + 3

abbrev pub decreases-pair_of : goal.decreases-pair_of
decreases-pair_of l = 4 * size-Entry l.entry.now + 2

abbrev pub invariant-exprs_of-loop-item : goal.invariant-exprs_of-loop-item
invariant-exprs_of-loop-item l = terms.terms_of (map term l.out) ≡ meanings (all_of l.body) (names_of l.body l.locals) (trees_of (map tree_of (take l.item-index l.items)))

abbrev pub invariant-postfixes_of-loop-post : goal.invariant-postfixes_of-loop-post
invariant-postfixes_of-loop-post l = map terms.post l.out ≡ map (meaning_post (all_of l.body) (names_of l.body l.locals)) (map post_of (take l.post-index l.posts))

abbrev pub invariant-props_in-loop-property : goal.invariant-props_in-loop-property
invariant-props_in-loop-property l = terms.props_of (map prop l.out) ≡ meaning_props (all_of l.body) (names_of l.body l.locals) (props_of (map property_of (take l.property-index l.properties)))

abbrev pub invariant-pairs_in-loop-entry : goal.invariant-pairs_in-loop-entry
invariant-pairs_in-loop-entry l = terms.pairs_of (map pair l.out) ≡ meaning_pairs (all_of l.body) (names_of l.body l.locals) (pairs_of (map entry_of (take l.entry-index l.entries)))
