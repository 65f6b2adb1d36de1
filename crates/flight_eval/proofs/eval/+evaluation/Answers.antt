use Rattle.std.proofs.Common.{subst, sym, ap, ◌∙◌, ◌≡◌, [], drop, map, ◌∷◌, ◌++◌, ◌+◌, ◌*◌, ◌<◌, max, length, arith, append_assoc}
use Rattle.std.proofs.lemmas.List.{map-append, length-map}
use Rattle.std.proofs.lemmas.Result.{err_from_is_err_and}
use denote.Param.Weighed.{most}
use Rattle.flight_syntax.specs.declared.expr.Expr as expr
use Rattle.flight_syntax.specs.declared.expr.Expr.{size-Expr}
use Rattle.flight_syntax.specs.declared.expr.Postfix.{size-Postfix}
use Rattle.flight_syntax.specs.Term.{term, prop, pair, post, terms_of, props_of, pairs_of, for_in, binary, posted}
use Rattle.flight_syntax.proofs.Terms.{term-For, term-Binary, term-Postfixed}
use Rattle.flight_render.specs.Run.{gave, pay, ends}
use Rattle.flight_render.specs.Eval.{eval, each, eval_all, eval_props, eval_pairs, eval_attrs}
use Rattle.flight_eval.specs.Gives.{work_of, context_of, Stopped, Gives}
use Rattle.flight_eval.specs.Object.{pair_of, attributes_of}
use Rattle.flight_eval.specs.Productions.{charge, no_attributes, posts_run}
use Rattle.flight_eval.proofs.Charges.{charge-For, charge-Binary, charge-Postfixed, size-Postfixed}
use Rattle.flight_eval.proofs.Stopped.{over_charged, let_stopped, if_stopped, and_stopped, or_stopped, for_stopped, posted_stopped, number_stopped, both_stopped, element_stopped}
use Rattle.flight_eval.proofs.Steps.{for_begun, for_given, for_slots, binary_begun, posted_begun, posts_stop, posts_step, each_stop, all_stop, props_stop, props_step, key_stop, value_stop, pairs_step, attr_stop, named_stop, attrs_step, inside_stop}
use Rattle.flight_eval.proofs.eval.+evaluation.Goals as goal

pub eval-returns-in_err-pay-clause-gives : goal.eval-returns-in_err-pay-clause-gives
eval-returns-in_err-pay-clause-gives t c =
    let p = err_from_is_err_and c.from_residual.result c.from_residual.ensures.1 in
    rw (p.1, p.2) (rw c.in_err-pay.ensures.err.0 (over_charged c.args.place.now.fuel (context_of c.args.place.now) (term c.args.e.now) c.args.env.now.items (work_of c.args.work.now) (work_of c.pay.new.work) c.charge.result c.charge.ensures.least c.in_err-pay.ensures.err.1))

pub eval-returns-in-For-clause-gives : goal.eval-returns-in-For-clause-gives
eval-returns-in-For-clause-gives t c =
    let over = c.get-in-For.result.now in
    let each_one = c.get-in-For-2.result.now in
    let is = ap term c.in-For.is ∙ term-For c.in-For.name c.in-For.over c.in-For.give in
    let same = is ∙ ap (λ z. for_in c.in-For.name (term z) (term c.in-For.give)) (sym c.get-in-For.ensures) ∙ ap (λ z. for_in c.in-For.name (term over) (term z)) (sym c.get-in-For-2.ensures) in
    let paid = c.in_ok-pay.ensures.ok.0 ∙ ap (λ z. pay z (work_of c.args.work.now)) (c.charge.ensures.is ∙ (ap charge c.in-For.is ∙ charge-For c.in-For.name c.in-For.over c.in-For.give)) in
    subst (λ z. Gives (λ t. t) c.args.place.now.fuel (eval (context_of c.args.place.now) z c.args.env.now.items (work_of c.args.work.now)) c.eval_for.result (work_of c.eval_for.new.work)) (sym same)
    (for_begun c.args.place.now.fuel (context_of c.args.place.now) c.in-For.name (term over) (term each_one) c.args.env.now.items (work_of c.args.work.now) (work_of c.pay.new.work) c.eval_for.result (work_of c.eval_for.new.work) paid c.eval_for.ensures.gives)

pub eval-returns-in-Binary-clause-gives : goal.eval-returns-in-Binary-clause-gives
eval-returns-in-Binary-clause-gives t c =
    let left = c.get-in-Binary.result.now in
    let right = c.get-in-Binary-2.result.now in
    let is = ap term c.in-Binary.is ∙ term-Binary c.in-Binary.op c.in-Binary.left c.in-Binary.right in
    let same = is ∙ ap (λ z. binary c.in-Binary.op (term z) (term c.in-Binary.right)) (sym c.get-in-Binary.ensures) ∙ ap (λ z. binary c.in-Binary.op (term left) (term z)) (sym c.get-in-Binary-2.ensures) in
    let paid = c.in_ok-pay.ensures.ok.0 ∙ ap (λ z. pay z (work_of c.args.work.now)) (c.charge.ensures.is ∙ (ap charge c.in-Binary.is ∙ charge-Binary c.in-Binary.op c.in-Binary.left c.in-Binary.right)) in
    subst (λ z. Gives (λ t. t) c.args.place.now.fuel (eval (context_of c.args.place.now) z c.args.env.now.items (work_of c.args.work.now)) c.eval_operator.result (work_of c.eval_operator.new.work)) (sym same)
    (binary_begun c.args.place.now.fuel (context_of c.args.place.now) c.in-Binary.op (term left) (term right) c.args.env.now.items (work_of c.args.work.now) (work_of c.pay.new.work) c.eval_operator.result (work_of c.eval_operator.new.work) paid c.eval_operator.ensures.gives)

pub eval-returns-in-Postfixed-clause-gives : goal.eval-returns-in-Postfixed-clause-gives
eval-returns-in-Postfixed-clause-gives t c =
    let of = c.get-in-Postfixed.result.now in
    let posts = c.as_slice.result.now in
    let is = ap term c.in-Postfixed.is ∙ term-Postfixed c.in-Postfixed.of c.in-Postfixed.postfixes in
    let same = is ∙ (ap (λ z. posted (term z) (map post c.in-Postfixed.postfixes)) (sym c.get-in-Postfixed.ensures) ∙ ap (λ z. posted (term of) (map post z)) (sym c.as_slice.ensures)) in
    let charged = c.charge.ensures.is ∙ (ap charge c.in-Postfixed.is ∙ (charge-Postfixed c.in-Postfixed.of c.in-Postfixed.postfixes ∙ (ap length (sym c.as_slice.ensures) ∙ sym (length-map posts post)))) in
    let paid = c.in_ok-pay.ensures.ok.0 ∙ ap (λ z. pay z (work_of c.args.work.now)) charged in
    subst (λ z. Gives (λ t. t) c.args.place.now.fuel (eval (context_of c.args.place.now) z c.args.env.now.items (work_of c.args.work.now)) c.eval_postfixed.result (work_of c.eval_postfixed.new.work)) (sym same)
    (posted_begun c.args.place.now.fuel (context_of c.args.place.now) (term of) (map post posts) c.args.env.now.items (work_of c.args.work.now) (work_of c.pay.new.work) c.eval_postfixed.result (work_of c.eval_postfixed.new.work) paid c.eval_postfixed.ensures.gives)

pub eval-eval_postfixed-requires : goal.eval-eval_postfixed-requires
eval-eval_postfixed-requires t c =
    let of = c.in-Postfixed.of in
    let posts = c.in-Postfixed.postfixes in
    let below = subst (λ z. 3 * max (size-Expr c.get-in-Postfixed.result.now) (most size-Postfix c.as_slice.result.now) + 2 < 3 * size-Expr z) (sym c.in-Postfixed.is)
    (subst (λ z. 3 * max (size-Expr z) (most size-Postfix c.as_slice.result.now) + 2 < 3 * size-Expr (expr.Postfixed of posts)) (sym c.get-in-Postfixed.ensures)
    (subst (λ z. 3 * max (size-Expr of) (most size-Postfix z) + 2 < 3 * size-Expr (expr.Postfixed of posts)) (sym c.as_slice.ensures) (size-Postfixed of posts))) in
    (omega (arith, c.decreases, below), c.in_ok-pay.ensures.ok.1)

pub eval_let-returns-in_err-bound-clause-gives : goal.eval_let-returns-in_err-bound-clause-gives
eval_let-returns-in_err-bound-clause-gives t c =
    let p = err_from_is_err_and c.from_residual.result c.from_residual.ensures.1 in
    rw (p.1, p.2) (let_stopped c.args.place.now.fuel (context_of c.args.place.now) c.in_err-bound.field-0.0 (work_of c.eval.new.work) (term c.args.value.now) (term c.args.then.now) c.args.env.now.items (work_of c.args.work.now) c.in_err-bound.ensures.gives)

pub eval_if-returns-in_err-tested-clause-gives : goal.eval_if-returns-in_err-tested-clause-gives
eval_if-returns-in_err-tested-clause-gives t c =
    let p = err_from_is_err_and c.from_residual.result c.from_residual.ensures.1 in
    rw (p.1, p.2) (if_stopped c.args.place.now.fuel (context_of c.args.place.now) c.in_err-tested.field-0.0 (work_of c.eval.new.work) (term c.args.test.now) (term c.args.yes.now) (term c.args.no.now) c.args.env.now.items (work_of c.args.work.now) c.in_err-tested.ensures.gives)

pub eval_and-returns-in_err-tested-clause-gives : goal.eval_and-returns-in_err-tested-clause-gives
eval_and-returns-in_err-tested-clause-gives t c =
    let p = err_from_is_err_and c.from_residual.result c.from_residual.ensures.1 in
    rw (p.1, p.2) (and_stopped c.args.place.now.fuel (context_of c.args.place.now) c.in_err-tested.field-0.0 (work_of c.eval.new.work) (term c.args.left.now) (term c.args.right.now) c.args.env.now.items (work_of c.args.work.now) c.in_err-tested.ensures.gives)

pub eval_or-returns-in_err-tested-clause-gives : goal.eval_or-returns-in_err-tested-clause-gives
eval_or-returns-in_err-tested-clause-gives t c =
    let p = err_from_is_err_and c.from_residual.result c.from_residual.ensures.1 in
    rw (p.1, p.2) (or_stopped c.args.place.now.fuel (context_of c.args.place.now) c.in_err-tested.field-0.0 (work_of c.eval.new.work) (term c.args.left.now) (term c.args.right.now) c.args.env.now.items (work_of c.args.work.now) c.in_err-tested.ensures.gives)

pub eval_for-returns-in_err-array-clause-gives : goal.eval_for-returns-in_err-array-clause-gives
eval_for-returns-in_err-array-clause-gives t c =
    let p = err_from_is_err_and c.from_residual.result c.from_residual.ensures.1 in
    rw (p.1, p.2) (for_stopped c.args.place.now.fuel (context_of c.args.place.now) c.in_err-array.field-0.0 (work_of c.eval.new.work) (term c.args.over.now) (term c.args.give.now) c.args.env.now.items (work_of c.args.work.now) c.in_err-array.ensures.gives)

pub eval_postfixed-returns-in_err-value-clause-gives : goal.eval_postfixed-returns-in_err-value-clause-gives
eval_postfixed-returns-in_err-value-clause-gives t c =
    let p = err_from_is_err_and c.from_residual.result c.from_residual.ensures.1 in
    rw (p.1, p.2) (posted_stopped c.args.place.now.fuel (context_of c.args.place.now) c.in_err-value.field-0.0 (work_of c.eval.new.work) (term c.args.of.now) (map post c.args.postfixes.now) c.args.env.now.items (work_of c.args.work.now) c.in_err-value.ensures.gives)

pub eval_index-returns-in_err-number-clause-gives : goal.eval_index-returns-in_err-number-clause-gives
eval_index-returns-in_err-number-clause-gives t c =
    let p = err_from_is_err_and c.from_residual.result c.from_residual.ensures.1 in
    rw (p.1, p.2) (number_stopped c.args.place.now.fuel (context_of c.args.place.now) c.in_err-number.field-0.0 (work_of c.eval.new.work) c.args.array.now (term c.args.at.now) c.args.env.now.items (work_of c.args.work.now) c.in_err-number.ensures.gives)

pub eval_both-returns-in_err-x-clause-gives : goal.eval_both-returns-in_err-x-clause-gives
eval_both-returns-in_err-x-clause-gives t c =
    let p = err_from_is_err_and c.from_residual.result c.from_residual.ensures.1 in
    rw (p.1, p.2) (both_stopped c.args.place.now.fuel (context_of c.args.place.now) c.in_err-x.field-0.0 (work_of c.eval.new.work) c.args.op (term c.args.left.now) (term c.args.right.now) c.args.env.now.items (work_of c.args.work.now) c.in_err-x.ensures.gives)

pub eval_for-returns-in_err-slots-clause-gives : goal.eval_for-returns-in_err-slots-clause-gives
eval_for-returns-in_err-slots-clause-gives t c =
    let p = err_from_is_err_and c.from_residual-in_err-slots.result c.from_residual-in_err-slots.ensures.1 in
    rw (p.1, p.2)
    (for_slots c.args.place.now.fuel (context_of c.args.place.now) (term c.args.over.now) (term c.args.give.now) c.args.env.now.items (work_of c.args.work.now) (work_of c.eval.new.work) (work_of c.eval_each.new.work) c.in_ok-array.array c.in_ok-items.items.items c.in_err-slots.field-0.0 c.in_ok-array.ensures.gives.0 c.in_ok-items.ensures.0
    (subst (λ z. Stopped c.args.place.now.fuel (each (λ item l. eval (context_of c.args.place.now) (term c.args.give.now) (z ++ item ∷ []) l) c.in_ok-items.items.items [] (work_of c.eval.new.work)) c.in_err-slots.field-0.0 (work_of c.eval_each.new.work)) c.in_ok-array.ensures.env c.in_err-slots.ensures.gives))

pub eval_for-returns-clause-gives : goal.eval_for-returns-clause-gives
eval_for-returns-clause-gives t c =
    for_given c.args.place.now.fuel (context_of c.args.place.now) (term c.args.over.now) (term c.args.give.now) c.args.env.now.items (work_of c.args.work.now) (work_of c.eval.new.work) (work_of c.eval_each.new.work) c.in_ok-array.array c.in_ok-items.items.items c.in_ok-slots.slots.items c.make.result (work_of c.make.new.work) c.in_ok-array.ensures.gives.0 c.in_ok-items.ensures.0
    (subst (λ z. each (λ item l. eval (context_of c.args.place.now) (term c.args.give.now) (z ++ item ∷ []) l) c.in_ok-items.items.items [] (work_of c.eval.new.work) ≡ ends (gave c.in_ok-slots.slots.items) (work_of c.eval_each.new.work)) c.in_ok-array.ensures.env c.in_ok-slots.ensures.gives.0)
    c.make.ensures

pub eval_each-returns-in_err-result-clause-gives : goal.eval_each-returns-in_err-result-clause-gives
eval_each-returns-in_err-result-clause-gives t c =
    let p = err_from_is_err_and c.from_residual-in_err-result.result c.from_residual-in_err-result.ensures.1 in
    rw (p.1, p.2)
    (rw (← c.loop-item.invariant.0)
    (each_stop c.args.place.now.fuel (context_of c.args.place.now) c.in_err-result.field-0.0 (work_of c.eval.new.work) (term c.args.give.now) c.in-Some.item c.loop-item.item-iterator.rest.items c.next.new.self.rest.items c.loop-item.results.items c.args.env.now.items c.push.new.self.items (work_of c.loop-item.work) c.in-Some.ensures.steps.0 (c.in_ok-push.ensures.items ∙ ap (λ z. z ++ c.in-Some.item ∷ []) c.loop-item.invariant.2) c.in_err-result.ensures.gives))

pub eval_element-returns-in_err-attrs-clause-gives : goal.eval_element-returns-in_err-attrs-clause-gives
eval_element-returns-in_err-attrs-clause-gives t c =
    let p = err_from_is_err_and c.from_residual.result c.from_residual.ensures.1 in
    rw (p.1, p.2) (element_stopped c.args.place.now.fuel (context_of c.args.place.now) c.in_err-attrs.field-0.0 (work_of c.eval_attrs.new.work) c.args.tag.now (props_of (map prop c.args.attrs.now)) (terms_of (map term c.args.children.now)) c.args.env.now.items no_attributes (work_of c.args.work.now) c.in_err-attrs.ensures.gives)

pub eval_element-returns-in_err-inside-clause-gives : goal.eval_element-returns-in_err-inside-clause-gives
eval_element-returns-in_err-inside-clause-gives t c =
    let p = err_from_is_err_and c.from_residual-in_err-inside.result c.from_residual-in_err-inside.ensures.1 in
    rw (p.1, p.2)
    (inside_stop c.args.place.now.fuel (context_of c.args.place.now) c.in_err-inside.field-0.0 (work_of c.eval_all.new.work) c.args.tag.now c.args.attrs.now (terms_of (map term c.args.children.now)) (attributes_of c.in_ok-attrs.attrs) c.args.env.now.items (work_of c.args.work.now) (work_of c.eval_attrs.new.work) c.in_ok-attrs.ensures.gives.0
    (subst (λ z. Stopped c.args.place.now.fuel (eval_all (context_of c.args.place.now) (terms_of (map term c.args.children.now)) z [] (work_of c.eval_attrs.new.work)) c.in_err-inside.field-0.0 (work_of c.eval_all.new.work)) c.in_ok-attrs.ensures.env c.in_err-inside.ensures.gives))

pub eval_all-returns-in_err-value-clause-gives : goal.eval_all-returns-in_err-value-clause-gives
eval_all-returns-in_err-value-clause-gives t c =
    let p = err_from_is_err_and c.from_residual.result c.from_residual.ensures.1 in
    rw (p.1, p.2, ← c.loop-item.invariant.0)
    (all_stop c.args.place.now.fuel (context_of c.args.place.now) c.in_err-value.field-0.0 (work_of c.eval.new.work) c.args.items.now c.loop-item.item-index c.item-item.result c.loop-item.env.items c.loop-item.slots.items (work_of c.loop-item.work) (omega arith) c.item-item.is c.in_err-value.ensures.gives)

pub eval_postfixes-returns-in_err-value-clause-gives : goal.eval_postfixes-returns-in_err-value-clause-gives
eval_postfixes-returns-in_err-value-clause-gives t c =
    let p = err_from_is_err_and c.from_residual.result c.from_residual.ensures.1 in
    rw (p.1, p.2, ← c.loop-postfix.invariant.0)
    (posts_stop c.args.place.now.fuel (context_of c.args.place.now) c.in_err-value.field-0.0 (work_of c.eval_postfix.new.work) c.args.postfixes.now c.loop-postfix.postfix-index c.postfix-item.result c.loop-postfix.env.items c.loop-postfix.value (work_of c.loop-postfix.work) (omega arith) c.postfix-item.is c.in_err-value.ensures.gives)

pub eval_postfixes-loop-postfix-preserved : goal.eval_postfixes-loop-postfix-preserved
eval_postfixes-loop-postfix-preserved t c = (
  ap (λ z. posts_run (context_of c.args.place.now) (map post (drop (c.loop-postfix.postfix-index + 1) c.args.postfixes.now)) z c.in_ok-value.value (work_of c.eval_postfix.new.work)) c.in_ok-value.ensures.env
      ∙ posts_step (context_of c.args.place.now) c.args.postfixes.now c.loop-postfix.postfix-index c.postfix-item.result c.loop-postfix.value c.in_ok-value.value c.loop-postfix.env.items (work_of c.loop-postfix.work) (work_of c.eval_postfix.new.work) (omega arith) c.postfix-item.is c.in_ok-value.ensures.gives.0
      ∙ c.loop-postfix.invariant.0,
  c.in_ok-value.ensures.gives.1,
  c.in_ok-value.ensures.env ∙ c.loop-postfix.invariant.2,
)

pub eval_props-returns-in_err-value-clause-gives : goal.eval_props-returns-in_err-value-clause-gives
eval_props-returns-in_err-value-clause-gives t c =
    let p = err_from_is_err_and c.from_residual.result c.from_residual.ensures.1 in
    rw (p.1, p.2, ← c.loop-prop.invariant.0)
    (props_stop c.args.place.now.fuel (context_of c.args.place.now) c.in_err-value.field-0.0 (work_of c.eval.new.work) c.args.props.now c.loop-prop.prop-index c.prop-item.result c.loop-prop.env.items (map pair_of c.loop-prop.values.items) (work_of c.loop-prop.work) (omega arith) c.prop-item.is c.in_err-value.ensures.gives)

pub eval_pairs-returns-in_err-key-clause-gives : goal.eval_pairs-returns-in_err-key-clause-gives
eval_pairs-returns-in_err-key-clause-gives t c =
    let p = err_from_is_err_and c.from_residual.result c.from_residual.ensures.1 in
    rw (p.1, p.2, ← c.loop-pair.invariant.0)
    (key_stop c.args.place.now.fuel (context_of c.args.place.now) c.in_err-key.field-0.0 (work_of c.eval.new.work) c.args.pairs.now c.loop-pair.pair-index c.pair-item.result c.loop-pair.env.items c.loop-pair.slots.items (work_of c.loop-pair.work) (omega arith) c.pair-item.is c.in_err-key.ensures.gives)

pub eval_attrs-returns-in_err-value-clause-gives : goal.eval_attrs-returns-in_err-value-clause-gives
eval_attrs-returns-in_err-value-clause-gives t c =
    let p = err_from_is_err_and c.from_residual.result c.from_residual.ensures.1 in
    rw (p.1, p.2, ← c.loop-attr.invariant.0)
    (attr_stop c.args.place.now.fuel (context_of c.args.place.now) c.in_err-value.field-0.0 (work_of c.eval.new.work) c.args.attrs.now c.loop-attr.attr-index c.attr-item.result c.loop-attr.env.items (attributes_of c.loop-attr.so_far) (work_of c.loop-attr.work) (omega arith) c.attr-item.is c.in_err-value.ensures.gives)

pub eval_pairs-returns-in_err-value-clause-gives : goal.eval_pairs-returns-in_err-value-clause-gives
eval_pairs-returns-in_err-value-clause-gives t c =
    let p = err_from_is_err_and c.from_residual-in_err-value.result c.from_residual-in_err-value.ensures.1 in
    rw (p.1, p.2)
    (rw (← c.loop-pair.invariant.0)
    (value_stop c.args.place.now.fuel (context_of c.args.place.now) c.in_err-value.field-0.0 (work_of c.eval-in-loop-pair.new.work) c.args.pairs.now c.loop-pair.pair-index c.pair-item.result c.in_ok-key.key c.loop-pair.env.items c.loop-pair.slots.items (work_of c.loop-pair.work) (work_of c.eval.new.work) (omega arith) c.pair-item.is c.in_ok-key.ensures.gives.0
    (subst (λ z. Stopped c.args.place.now.fuel (eval (context_of c.args.place.now) (term c.pair-item.result.value) z (work_of c.eval.new.work)) c.in_err-value.field-0.0 (work_of c.eval-in-loop-pair.new.work)) c.in_ok-key.ensures.env c.in_err-value.ensures.gives)))

pub eval_pairs-loop-pair-preserved : goal.eval_pairs-loop-pair-preserved
eval_pairs-loop-pair-preserved t c =
    let same = c.in_ok-value.ensures.env ∙ c.in_ok-key.ensures.env in
    let pushed = c.in_ok-push-2.ensures.items ∙ ap (λ z. z ++ c.in_ok-value.value ∷ []) c.in_ok-push.ensures.items ∙ append_assoc c.loop-pair.slots.items (c.in_ok-key.key ∷ []) (c.in_ok-value.value ∷ []) in (
      ap (λ z. eval_pairs (context_of c.args.place.now) (pairs_of (map pair (drop (c.loop-pair.pair-index + 1) c.args.pairs.now))) z c.push-in-loop-pair.new.self.items (work_of c.eval-in-loop-pair.new.work)) same
          ∙ pairs_step (context_of c.args.place.now) c.args.pairs.now c.loop-pair.pair-index c.pair-item.result c.in_ok-key.key c.in_ok-value.value c.loop-pair.env.items c.loop-pair.slots.items c.push-in-loop-pair.new.self.items (work_of c.loop-pair.work) (work_of c.eval.new.work) (work_of c.eval-in-loop-pair.new.work) (omega arith) c.pair-item.is c.in_ok-key.ensures.gives.0 (subst (λ z. eval (context_of c.args.place.now) (term c.pair-item.result.value) z (work_of c.eval.new.work) ≡ ends (gave c.in_ok-value.value) (work_of c.eval-in-loop-pair.new.work)) c.in_ok-key.ensures.env c.in_ok-value.ensures.gives.0) pushed
          ∙ c.loop-pair.invariant.0,
      c.in_ok-value.ensures.gives.1,
      same ∙ c.loop-pair.invariant.2,
    )

pub eval_props-loop-prop-preserved : goal.eval_props-loop-prop-preserved
eval_props-loop-prop-preserved t c =
    let pushed = ap (map pair_of) c.in_ok-push.ensures.items ∙ map-append pair_of c.loop-prop.values.items _ ∙ ap (λ z. map pair_of c.loop-prop.values.items ++ (z, c.in_ok-value.value) ∷ []) c.in_ok-name.ensures.cases in (
      ap (λ z. eval_props (context_of c.args.place.now) (props_of (map prop (drop (c.loop-prop.prop-index + 1) c.args.props.now))) z (map pair_of c.push.new.self.items) (work_of c.eval.new.work)) c.in_ok-value.ensures.env
          ∙ props_step (context_of c.args.place.now) c.args.props.now c.loop-prop.prop-index c.prop-item.result c.in_ok-value.value c.loop-prop.env.items (map pair_of c.loop-prop.values.items) (map pair_of c.push.new.self.items) (work_of c.loop-prop.work) (work_of c.eval.new.work) (omega arith) c.prop-item.is c.in_ok-value.ensures.gives.0 pushed
          ∙ c.loop-prop.invariant.0,
      c.in_ok-value.ensures.gives.1,
      c.in_ok-value.ensures.env ∙ c.loop-prop.invariant.2,
    )

pub eval_attrs-returns-in_err-so_far-clause-gives : goal.eval_attrs-returns-in_err-so_far-clause-gives
eval_attrs-returns-in_err-so_far-clause-gives t c =
    let p = err_from_is_err_and c.from_residual-in_err-so_far.result c.from_residual-in_err-so_far.ensures.1 in
    rw (p.1, p.2)
    (rw (← c.loop-attr.invariant.0)
    (named_stop c.args.place.now.fuel (context_of c.args.place.now) c.in_err-so_far.field-0.0 c.args.attrs.now c.loop-attr.attr-index c.attr-item.result c.in_ok-value.value c.loop-attr.env.items (attributes_of c.loop-attr.so_far) (work_of c.loop-attr.work) (work_of c.eval.new.work) (omega arith) c.attr-item.is c.in_ok-value.ensures.gives.0 c.in_err-so_far.ensures))

pub eval_attrs-loop-attr-preserved : goal.eval_attrs-loop-attr-preserved
eval_attrs-loop-attr-preserved t c = (
  ap (λ z. eval_attrs (context_of c.args.place.now) (props_of (map prop (drop (c.loop-attr.attr-index + 1) c.args.attrs.now))) z (attributes_of c.in_ok-so_far.so_far) (work_of c.eval.new.work)) c.in_ok-value.ensures.env
      ∙ attrs_step (context_of c.args.place.now) c.args.attrs.now c.loop-attr.attr-index c.attr-item.result c.in_ok-value.value c.loop-attr.env.items (attributes_of c.loop-attr.so_far) (attributes_of c.in_ok-so_far.so_far) (work_of c.loop-attr.work) (work_of c.eval.new.work) (omega arith) c.attr-item.is c.in_ok-value.ensures.gives.0 c.in_ok-so_far.ensures.0
      ∙ c.loop-attr.invariant.0,
  c.in_ok-value.ensures.gives.1,
  c.in_ok-value.ensures.env ∙ c.loop-attr.invariant.2,
)
