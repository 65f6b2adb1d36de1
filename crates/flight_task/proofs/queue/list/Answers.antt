use Rattle.std.proofs.Common.{◌≡◌, sym, subst, ◌∷◌, [], Some, rules, arith}
use Rattle.std.specs.Prelude.{slice_get}
use Rattle.flight_value.specs.Listed.{In}
use Rattle.flight_task.proofs.Numbered.{holds_set, here_set, in_front, in_last, read_at}
use Rattle.flight_task.proofs.queue.list.Goals as goal

pub returns-in_err-push-clause-holds : goal.returns-in_err-push-clause-holds
returns-in_err-push-clause-holds c =
    let at : slice_get c.make_lists.new.waiting.items c.args.source ≡ Some c.in-Some.numbers.now = read_at c.make_lists.new.waiting.items c.args.source c.in-Some.numbers.now (search (rules, arith, c.in-Some.ensures.variant)) c.in-Some.ensures.value in
    holds_set c.args.waiting.now.items c.make_lists.new.waiting.items c.args.source c.in-Some.numbers.now c.push.new.self at
    (λ n h. subst (In n) (sym c.in_err-push.ensures.items) h) c.make_lists.ensures.holds

pub returns-clause-holds : goal.returns-clause-holds
returns-clause-holds c =
    let at : slice_get c.make_lists.new.waiting.items c.args.source ≡ Some c.in-Some.numbers.now = read_at c.make_lists.new.waiting.items c.args.source c.in-Some.numbers.now (search (rules, arith, c.in-Some.ensures.variant)) c.in-Some.ensures.value in
    holds_set c.args.waiting.now.items c.make_lists.new.waiting.items c.args.source c.in-Some.numbers.now c.push.new.self at
    (λ n h. subst (In n) (sym c.in_ok-push.ensures.items) (in_front n c.in-Some.numbers.now.items (c.args.number ∷ []) h)) c.make_lists.ensures.holds

pub returns-clause-listed : goal.returns-clause-listed
returns-clause-listed c =
    let at : slice_get c.make_lists.new.waiting.items c.args.source ≡ Some c.in-Some.numbers.now = read_at c.make_lists.new.waiting.items c.args.source c.in-Some.numbers.now (search (rules, arith, c.in-Some.ensures.variant)) c.in-Some.ensures.value in (
      c.push.new.self,
      here_set c.make_lists.new.waiting.items c.args.source c.in-Some.numbers.now c.push.new.self at,
      subst (In c.args.number) (sym c.in_ok-push.ensures.items) (in_last c.args.number c.in-Some.numbers.now.items),
    )
