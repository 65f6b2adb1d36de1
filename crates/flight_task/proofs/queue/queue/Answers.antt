use Rattle.std.proofs.Common.{◌⊎◌, inl, inr, ◌≡◌, ℕ, sym, subst, take, get_or, arith, ◌+◌, suc}
use Rattle.std.specs.Ordering.{nat_cmp}
use Rattle.std.specs.BTreeSet.{insert_key}
use Rattle.flight_value.specs.Listed.{In}
use Rattle.flight_task.proofs.Queues.{kept, put, in_take, take_all}
use Rattle.flight_task.proofs.queue.queue.Goals as goal

pub returns-in_err-insert-clause-kept : goal.returns-in_err-insert-clause-kept
returns-in_err-insert-clause-kept c number h = subst (In number) (sym c.in_err-insert.ensures.err) (c.loop-number.invariant.kept number h)

pub loop-number-preserved : goal.loop-number-preserved
loop-number-preserved c =
    record {
      kept = λ number h. subst (In number) (sym c.in_ok-insert.ensures.keys) (kept c.loop-number.ready.keys item number (c.loop-number.invariant.kept number h));
      queued = λ number h. subst (In number) (sym c.in_ok-insert.ensures.keys) (one number (in_take c.args.numbers.now i number 0 c.loop-number-test.true (subst (λ k. In number (take k c.args.numbers.now)) next h)));
    }
  where
    i : ℕ
    i = c.loop-number.number-index

    item : ℕ
    item = get_or c.args.numbers.now i 0

    next : i + 1 ≡ suc i
    next = omega arith

    one : (number : ℕ) → In number (take i c.args.numbers.now) ⊎ (number ≡ item) → In number (insert_key nat_cmp c.loop-number.ready.keys item)
    one number (inl h) = kept c.loop-number.ready.keys item number (c.loop-number.invariant.queued number h)
    one number (inr e) = subst (λ k. In k (insert_key nat_cmp c.loop-number.ready.keys item)) (sym e) (put c.loop-number.ready.keys item)

pub returns-clause-queued : goal.returns-clause-queued
returns-clause-queued c number h = c.loop-number.invariant.queued number (subst (In number) (sym (take_all c.args.numbers.now c.loop-number.number-index (omega (arith, c.loop-number-test.false)))) h)
