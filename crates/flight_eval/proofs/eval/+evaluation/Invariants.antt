use Rattle.std.proofs.Common.{◌≡◌, ◌≤◌, ◌+◌, ◌*◌, ◌++◌, ◌∷◌, map, max, drop, []}
use denote.Param.Weighed.{most}
use Rattle.flight_syntax.specs.Term.{term, prop, pair, post, terms_of, props_of, pairs_of}
use Rattle.flight_syntax.specs.declared.expr.Expr.{size-Expr}
use Rattle.flight_syntax.specs.declared.expr.PropExpr.{size-PropExpr}
use Rattle.flight_syntax.specs.declared.expr.PairExpr.{size-PairExpr}
use Rattle.flight_syntax.specs.declared.expr.Postfix.{size-Postfix}
use Rattle.flight_render.specs.Eval.{eval, eval_all, eval_props, eval_pairs, eval_attrs, each}
use Rattle.flight_eval.specs.Gives.{work_of, context_of}
use Rattle.flight_eval.specs.Object.{pair_of, attributes_of}
use Rattle.flight_eval.specs.Productions.{no_attributes, posts_run}
use Rattle.flight_eval.proofs.eval.+evaluation.Given as goal

abbrev pub decreases-eval : goal.decreases-eval
decreases-eval l = 3 * size-Expr l.e.now

abbrev pub decreases-eval_let : goal.decreases-eval_let
decreases-eval_let l = 3 * max (size-Expr l.value.now) (size-Expr l.then.now) + 1

abbrev pub decreases-eval_if : goal.decreases-eval_if
decreases-eval_if l = 3 * max (size-Expr l.test.now) (max (size-Expr l.yes.now) (size-Expr l.no.now)) + 1

abbrev pub decreases-eval_for : goal.decreases-eval_for
decreases-eval_for l = 3 * max (size-Expr l.over.now) (size-Expr l.give.now) + 2

abbrev pub decreases-eval_each : goal.decreases-eval_each
decreases-eval_each l = 3 * size-Expr l.give.now + 1

abbrev pub decreases-eval_postfixed : goal.decreases-eval_postfixed
decreases-eval_postfixed l = 3 * max (size-Expr l.of.now) (most size-Postfix l.postfixes.now) + 2

abbrev pub decreases-eval_postfixes : goal.decreases-eval_postfixes
decreases-eval_postfixes l = 3 * most size-Postfix l.postfixes.now + 1

abbrev pub decreases-eval_postfix : goal.decreases-eval_postfix
decreases-eval_postfix l = 3 * size-Postfix l.postfix.now

abbrev pub decreases-eval_index : goal.decreases-eval_index
decreases-eval_index l = 3 * size-Expr l.at.now + 1

abbrev pub decreases-eval_and : goal.decreases-eval_and
decreases-eval_and l = 3 * max (size-Expr l.left.now) (size-Expr l.right.now) + 1

abbrev pub decreases-eval_or : goal.decreases-eval_or
decreases-eval_or l = 3 * max (size-Expr l.left.now) (size-Expr l.right.now) + 1

abbrev pub decreases-eval_operator : goal.decreases-eval_operator
decreases-eval_operator l = 3 * max (size-Expr l.left.now) (size-Expr l.right.now) + 2

abbrev pub decreases-eval_both : goal.decreases-eval_both
decreases-eval_both l = 3 * max (size-Expr l.left.now) (size-Expr l.right.now) + 1

abbrev pub decreases-eval_element : goal.decreases-eval_element
decreases-eval_element l = 3 * max (most size-PropExpr l.attrs.now) (most size-Expr l.children.now) + 2

abbrev pub decreases-eval_all : goal.decreases-eval_all
decreases-eval_all l = 3 * most size-Expr l.items.now + 1

abbrev pub decreases-eval_pairs : goal.decreases-eval_pairs
decreases-eval_pairs l = 3 * most size-PairExpr l.pairs.now + 1

abbrev pub decreases-eval_props : goal.decreases-eval_props
decreases-eval_props l = 3 * most size-PropExpr l.props.now + 1

abbrev pub decreases-eval_attrs : goal.decreases-eval_attrs
decreases-eval_attrs l = 3 * most size-PropExpr l.attrs.now + 1

abbrev pub invariant-eval_all-loop-item : goal.invariant-eval_all-loop-item
invariant-eval_all-loop-item l =
    (eval_all (context_of l.place) (terms_of (map term (drop l.item-index l.items))) l.env.items l.slots.items (work_of l.work) ≡ eval_all (context_of l.place) (terms_of (map term l.items)) l.fn.env.items [] (work_of l.fn.work))
    × (l.work.cost ≤ l.place.fuel) × (l.env.items ≡ l.fn.env.items)

abbrev pub invariant-eval_postfixes-loop-postfix : goal.invariant-eval_postfixes-loop-postfix
invariant-eval_postfixes-loop-postfix l =
    (posts_run (context_of l.place) (map post (drop l.postfix-index l.postfixes)) l.env.items l.value (work_of l.work) ≡ posts_run (context_of l.place) (map post l.postfixes) l.fn.env.items l.fn.value (work_of l.fn.work))
    × (l.work.cost ≤ l.place.fuel) × (l.env.items ≡ l.fn.env.items)

abbrev pub invariant-eval_pairs-loop-pair : goal.invariant-eval_pairs-loop-pair
invariant-eval_pairs-loop-pair l =
    (eval_pairs (context_of l.place) (pairs_of (map pair (drop l.pair-index l.pairs))) l.env.items l.slots.items (work_of l.work) ≡ eval_pairs (context_of l.place) (pairs_of (map pair l.pairs)) l.fn.env.items [] (work_of l.fn.work))
    × (l.work.cost ≤ l.place.fuel) × (l.env.items ≡ l.fn.env.items)

abbrev pub invariant-eval_props-loop-prop : goal.invariant-eval_props-loop-prop
invariant-eval_props-loop-prop l =
    (eval_props (context_of l.place) (props_of (map prop (drop l.prop-index l.props))) l.env.items (map pair_of l.values.items) (work_of l.work) ≡ eval_props (context_of l.place) (props_of (map prop l.props)) l.fn.env.items [] (work_of l.fn.work))
    × (l.work.cost ≤ l.place.fuel) × (l.env.items ≡ l.fn.env.items)

abbrev pub invariant-eval_attrs-loop-attr : goal.invariant-eval_attrs-loop-attr
invariant-eval_attrs-loop-attr l =
    (eval_attrs (context_of l.place) (props_of (map prop (drop l.attr-index l.attrs))) l.env.items (attributes_of l.so_far) (work_of l.work) ≡ eval_attrs (context_of l.place) (props_of (map prop l.attrs)) l.fn.env.items no_attributes (work_of l.fn.work))
    × (l.work.cost ≤ l.place.fuel) × (l.env.items ≡ l.fn.env.items)

abbrev pub invariant-eval_each-loop-item : goal.invariant-eval_each-loop-item
invariant-eval_each-loop-item l =
    (each (λ i k. eval (context_of l.place) (term l.give) (l.fn.env.items ++ i ∷ []) k) l.item-iterator.rest.items l.results.items (work_of l.work) ≡ each (λ i k. eval (context_of l.place) (term l.give) (l.fn.env.items ++ i ∷ []) k) l.fn.items.items [] (work_of l.fn.work))
    × (l.work.cost ≤ l.place.fuel) × (l.env.items ≡ l.fn.env.items)
