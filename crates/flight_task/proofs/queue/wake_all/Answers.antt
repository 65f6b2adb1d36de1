use Rattle.std.proofs.Common.{◌≡◌, ◌∙◌, sym, subst, suc, drop, arith, ◌+◌}
use Rattle.flight_value.specs.Listed.{In}
use Rattle.flight_task.proofs.Numbered.{woken_none}
use Rattle.flight_task.proofs.Queues.{in_drop, none_left}
use Rattle.flight_task.proofs.queue.wake_all.Goals as goal

pub loop-number-preserved : goal.loop-number-preserved
loop-number-preserved c =
    let i = c.loop-number.number-index in
    let next : suc i ≡ i + 1 = omega arith in
    record {
      same = c.wake_one.ensures.same ∙ c.loop-number.invariant.same;
      left = λ number at. subst (λ k. In number (drop k c.args.numbers.now)) next
          (in_drop c.args.numbers.now i number 0 c.loop-number-test.true (c.wake_one.ensures.left number at).1 (c.loop-number.invariant.left number (c.wake_one.ensures.left number at).0));
    }

pub returns : goal.returns
returns c =
    sym (woken_none c.args.source c.loop-number.tasks.items (λ n at. none_left c.args.numbers.now c.loop-number.number-index n (omega (arith, c.loop-number-test.false)) (c.loop-number.invariant.left n at)))
    ∙ c.loop-number.invariant.same
