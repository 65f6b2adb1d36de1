use Rattle.std.proofs.Common.{◌≡◌, ◌++◌, ◌∷◌, [], map, take, drop, codes, bytes_eq, refl, sym, ap, subst, ◌∙◌, arith, rules, if◌then◌else◌}
use Rattle.flight_syntax.specs.Faults as faults
use Rattle.flight_parse.specs.Code.{placed, tree_of, property_of, entry_of, post_of}
use Rattle.flight_syntax.specs.Tree.{trees_of, props_of, pairs_of}
use Rattle.flight_resolve.specs.Names.{IsFirst, all_of, params_of, scope_of, inside_out}
use Rattle.flight_resolve.proofs.Firsts.{steps, append_assoc, posted_faults}
use Rattle.flight_resolve.specs.Posts.{faults_post, faults_posts}
use Rattle.flight_resolve.proofs.Scopes.{inside_one}
use Rattle.flight_resolve.proofs.faults.+faults.Goals as goal

pub in_each-loop-item-preserved : goal.in_each-loop-item-preserved
in_each-loop-item-preserved t c =
    steps (λ xs. faults.faults_each (all_of c.args.body.now) (scope_of c.args.body.now c.args.locals.now) (trees_of (map tree_of xs))) (λ x. faults.faults (all_of c.args.body.now) (scope_of c.args.body.now c.args.locals.now) (tree_of x)) (λ x xs. refl)
    c.args.items.now c.loop-item.item-index c.item-item.result (omega arith) c.item-item.is c.loop-item.first c.first_of-first.result c.in_ok-fault.fault (faults.first_fault (faults.faults_each (all_of c.args.body.now) (scope_of c.args.body.now c.args.locals.now) (trees_of (map tree_of c.args.items.now))))
    c.loop-item.invariant c.in_ok-fault.ensures c.first_of-first.ensures.is

pub in_posts-loop-post-preserved : goal.in_posts-loop-post-preserved
in_posts-loop-post-preserved t c =
    steps (λ xs. faults_posts (all_of c.args.body.now) (scope_of c.args.body.now c.args.locals.now) (map post_of xs)) (λ x. faults_post (all_of c.args.body.now) (scope_of c.args.body.now c.args.locals.now) (post_of x)) (λ x xs. refl)
    c.args.posts.now c.loop-post.post-index c.post-item.result (omega arith) c.post-item.is c.loop-post.first c.first_of-first.result c.in_ok-fault.fault (faults.first_fault (faults_posts (all_of c.args.body.now) (scope_of c.args.body.now c.args.locals.now) (map post_of c.args.posts.now)))
    c.loop-post.invariant c.in_ok-fault.ensures c.first_of-first.ensures.is

pub in_postfixed-returns : goal.in_postfixed-returns
in_postfixed-returns t c =
    subst (IsFirst c.first_of.result) (sym (posted_faults (all_of c.args.body.now) (scope_of c.args.body.now c.args.locals.now) (tree_of c.args.of.now) (map post_of c.args.posts.now)))
    (c.first_of.ensures.parts (faults.faults (all_of c.args.body.now) (scope_of c.args.body.now c.args.locals.now) (tree_of c.args.of.now)) (faults_posts (all_of c.args.body.now) (scope_of c.args.body.now c.args.locals.now) (map post_of c.args.posts.now)) c.in_ok-first.ensures c.in_ok-others.ensures)

pub in_properties-loop-property-preserved : goal.in_properties-loop-property-preserved
in_properties-loop-property-preserved t c =
    steps (λ xs. faults.faults_props (all_of c.args.body.now) (scope_of c.args.body.now c.args.locals.now) (props_of (map property_of xs))) (λ x. faults.faults (all_of c.args.body.now) (scope_of c.args.body.now c.args.locals.now) (property_of x).1) (λ x xs. refl)
    c.args.properties.now c.loop-property.property-index c.property-item.result (omega arith) c.property-item.is c.loop-property.first c.first_of-first.result c.in_ok-fault.fault (faults.first_fault (faults.faults_props (all_of c.args.body.now) (scope_of c.args.body.now c.args.locals.now) (props_of (map property_of c.args.properties.now))))
    c.loop-property.invariant c.in_ok-fault.ensures c.first_of-first.ensures.is

pub in_entries-loop-entry-preserved : goal.in_entries-loop-entry-preserved
in_entries-loop-entry-preserved t c =
    steps (λ xs. faults.faults_pairs (all_of c.args.body.now) (scope_of c.args.body.now c.args.locals.now) (pairs_of (map entry_of xs))) (λ x. faults.faults (all_of c.args.body.now) (scope_of c.args.body.now c.args.locals.now) (entry_of x).0 ++ faults.faults (all_of c.args.body.now) (scope_of c.args.body.now c.args.locals.now) (entry_of x).1) (λ x xs. sym (append_assoc (faults.faults (all_of c.args.body.now) (scope_of c.args.body.now c.args.locals.now) (entry_of x).0) (faults.faults (all_of c.args.body.now) (scope_of c.args.body.now c.args.locals.now) (entry_of x).1) (faults.faults_pairs (all_of c.args.body.now) (scope_of c.args.body.now c.args.locals.now) (pairs_of (map entry_of xs)))))
    c.args.entries.now c.loop-entry.entry-index c.entry-item.result (omega arith) c.entry-item.is c.loop-entry.first c.first_of-first.result c.in_ok-fault.fault (faults.first_fault (faults.faults_pairs (all_of c.args.body.now) (scope_of c.args.body.now c.args.locals.now) (pairs_of (map entry_of c.args.entries.now))))
    c.loop-entry.invariant c.in_ok-fault.ensures c.first_of-first.ensures.is

pub in_local-returns : goal.in_local-returns
in_local-returns t c =
    let scope = ap (λ z. inside_out (params_of c.args.body.now) (map (λ n. placed n.now) z)) c.as_slice.ensures.value ∙ (ap (inside_out (params_of c.args.body.now)) c.in_ok-inner.ensures.placed ∙ inside_one (params_of c.args.body.now) (map (λ n. placed n.now) c.args.locals.now) (placed c.args.name.now)) in
    c.first_of.ensures.parts (faults.faults (all_of c.args.body.now) (scope_of c.args.body.now c.args.locals.now) (tree_of c.args.value.now)) (faults.faults (all_of c.args.body.now) (placed c.args.name.now ∷ scope_of c.args.body.now c.args.locals.now) (tree_of c.args.then.now))
    c.in_ok-first.ensures (subst (λ s. IsFirst c.in_ok-other.other (faults.faults (all_of c.args.body.now) s (tree_of c.args.then.now))) scope c.in_ok-other.ensures)
