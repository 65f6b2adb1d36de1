use Rattle.std.proofs.Common.{◌⊎◌, inl, inr, ◌≡◌, ◌∙◌, sym, ap, subst, Some, true≢false}
use Rattle.flight_value.specs.Listed.{In}
use Rattle.flight_task.specs.Tasks.{IsReadyAt}
use Rattle.flight_task.proofs.Queues.{least, queued_first, some_in}
use Rattle.flight_task.proofs.queue.next_ready.Goals as goal

pub returns-then-is_ready-clause-first : goal.returns-then-is_ready-clause-first
returns-then-is_ready-clause-first c = (
  c.is_ready.ensures.0 c.if-is_ready.true,
  λ other at. least c.in-Some.number c.pop_first.new.self.keys other c.in-Some.ensures.all_above (subst (In other) c.in-Some.ensures.removal (c.loop-number.invariant other at)),
)

pub returns-then-is_ready-clause-queued : goal.returns-then-is_ready-clause-queued
returns-then-is_ready-clause-queued c number at = but (queued_first c.in-Some.number number c.loop-number.ready.keys c.pop_first.new.self.keys c.in-Some.ensures.removal (c.loop-number.invariant number at))
  where
    but : (number ≡ c.in-Some.number) ⊎ In number c.pop_first.new.self.keys → (Some c.in-Some.number ≡ Some number) ⊎ In number c.pop_first.new.self.keys
    but (inl e) = inl (ap Some (sym e))
    but (inr h) = inr h

pub loop-number-preserved : goal.loop-number-preserved
loop-number-preserved c number at = behind (queued_first c.in-Some.number number c.loop-number.ready.keys c.pop_first.new.self.keys c.in-Some.ensures.removal (c.loop-number.invariant number at))
  where
    behind : (number ≡ c.in-Some.number) ⊎ In number c.pop_first.new.self.keys → In number c.pop_first.new.self.keys
    behind (inl e) = absurd (true≢false (sym (c.is_ready.ensures.1 (subst (IsReadyAt c.args.tasks.now) e at)) ∙ c.if-is_ready.false))
    behind (inr h) = h

pub returns-clause-first : goal.returns-clause-first
returns-clause-first c number at = true≢false (sym (c.in_default.ensures.variant.1 (some_in number c.loop-number.ready.keys (c.loop-number.invariant number at))))

pub returns-clause-queued : goal.returns-clause-queued
returns-clause-queued c number at = absurd (true≢false (sym (c.in_default.ensures.variant.1 (some_in number c.loop-number.ready.keys (c.loop-number.invariant number at)))))
