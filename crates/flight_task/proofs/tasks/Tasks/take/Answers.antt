use Rattle.std.proofs.Common.{◌≡◌, ◌<◌, ◌∙◌, sym, subst, MatchOption, arith, rules, ◌^◌, ◌-◌}
use Rattle.flight_state.specs.declared.status.Status.TheVariants as status
use Rattle.flight_task.specs.Tasks.{start, Takes, NoneReady, IsReadyAt}
use Rattle.flight_task.proofs.Numbered.{changed, queued_taken, listed_set, running_not_ready, running_not_waiting, within, turns_left}
use Rattle.flight_task.proofs.tasks.Tasks.take.Goals as goal

pub next_ready-requires : goal.next_ready-requires
next_ready-requires c = record { queued = rw c.as_slice.ensures.value c.self.invariant.0 }

pub invariant_of-self : goal.invariant_of-self
invariant_of-self c =
    (λ number at. absurd (c.in_err-number.ensures.first number (subst (λ ts. IsReadyAt ts number) (sym c.as_slice.ensures.value) at)), c.self.invariant.1)

pub returns-in_err-number : goal.returns-in_err-number
returns-in_err-number c =
    let none : NoneReady c.args.self.now × (c.self.inside.tasks.items ≡ c.args.self.now) =
    (λ number at. c.in_err-number.ensures.first number (subst (λ ts. IsReadyAt ts number) (sym (c.as_slice.ensures.value ∙ c.self.view_is)) at), c.self.view_is) in
    subst (λ r. MatchOption r (NoneReady c.args.self.now × (c.self.inside.tasks.items ≡ c.args.self.now)) (λ number. Takes c.args.self.now number c.self.inside.tasks.items)) (sym c.from_residual.ensures) none

pub index_mut-task-requires : goal.index_mut-task-requires
index_mut-task-requires c = subst (λ k. c.in_ok-number.number < k) c.as_slice.ensures.len (within (λ t. t.status ≡ status.Ready) c.as_slice.result.now c.in_ok-number.number c.in_ok-number.ensures.first.0)

pub overflow_add-task : goal.overflow_add-task
overflow_add-task c =
    let n = c.in_ok-number.number in
    let left : c.index_mut-task.result.now.turns < 2 ^ 64 - 1 =
    turns_left (λ t. t.status ≡ status.Ready) c.args.self.now c.self.inside.tasks.items n c.index_mut-task.result.now c.self.view_is c.index_mut-task.ensures.value
    (subst (λ ts. IsReadyAt ts n) (c.as_slice.ensures.value ∙ c.self.view_is) c.in_ok-number.ensures.first.0) c.requires.turns in
    search (rules, arith, left)

pub invariant_of-self-2 : goal.invariant_of-self-2
invariant_of-self-2 c = (
  queued_taken c.self.inside.tasks.items c.in_ok-number.number _ c.next_ready.new.ready.keys (running_not_ready _)
      (λ m at. c.in_ok-number.ensures.queued m (subst (λ ts. IsReadyAt ts m) (sym c.as_slice.ensures.value) at)),
  listed_set c.self.inside.tasks.items c.in_ok-number.number _ c.self.inside.waiting.items (running_not_waiting _) c.self.invariant.1,
)

pub returns : goal.returns
returns c =
    let n = c.in_ok-number.number in
    let same = c.as_slice.ensures.value ∙ c.self.view_is in
    let ready : IsReadyAt c.args.self.now n = subst (λ ts. IsReadyAt ts n) same c.in_ok-number.ensures.first.0 in
    record {
      is_ready = ready;
      is_least = λ other at. c.in_ok-number.ensures.first.1 other (subst (λ ts. IsReadyAt ts other) (sym same) at);
      now = changed start (λ t. t.status ≡ status.Ready) c.args.self.now c.self.inside.tasks.items n c.index_mut-task.result.now c.self.view_is c.index_mut-task.ensures.value ready;
    }
