use Rattle.std.proofs.Common.{◌≡◌, ◌<◌, ◌∙◌, ℕ, sym, subst, Some, rules, arith, length, ◌⊎◌, inl, inr, List}
use Rattle.std.specs.Global.{Vec}
use Rattle.flight_task.specs.declared.task.Task.{Task}
use Rattle.std.specs.Prelude.{slice_get}
use Rattle.std.proofs.lemmas.Option.{slice_get_within}
use Rattle.flight_value.specs.Listed.{In}
use Rattle.flight_task.specs.Tasks.{IsReadyAt, IsWaiting}
use Rattle.flight_task.proofs.Numbered.{woken_none, holds_set, the_list, read_at, ready_before, waiting_before, in_other}
use Rattle.flight_task.proofs.tasks.Tasks.wake.Goals as goal

pub returns-in_default-clause-woken : goal.returns-in_default-clause-woken
returns-in_default-clause-woken c = c.self.view_is ∙ sym (woken_none c.args.source c.args.self.now never)
  where
    never : (n : ℕ) → IsWaiting c.args.source c.args.self.now n → ⊥
    never n at =
        let held = c.self.invariant.1 n c.args.source (subst (λ ts. IsWaiting c.args.source ts n) (sym c.self.view_is) at) in
        let below : c.args.source < length c.self.inside.waiting.items = slice_get_within c.self.inside.waiting.items c.args.source held.0 held.1 in
        search (rules, arith, below, c.in_default.ensures.variant)

pub invariant_of-self-in_err-queue : goal.invariant_of-self-in_err-queue
invariant_of-self-in_err-queue c =
    let lists = c.self.inside.waiting.items in
    let is : slice_get lists c.args.source ≡ Some c.in-Some.numbers.now = read_at lists c.args.source c.in-Some.numbers.now (search (rules, arith, c.in-Some.ensures.variant)) c.in-Some.ensures.value in (
      λ number at. c.queue.ensures.kept number (c.self.invariant.0 number at),
      λ number source at. holds_set lists lists c.args.source c.in-Some.numbers.now c.in-Some.numbers.now is (λ n h. h) (λ n s h. h) number source (c.self.invariant.1 number source at),
    )

pub wake_all-requires : goal.wake_all-requires
wake_all-requires c number at =
    let lists = c.self.inside.waiting.items in
    let is : slice_get lists c.args.source ≡ Some c.in-Some.numbers.now = read_at lists c.args.source c.in-Some.numbers.now (search (rules, arith, c.in-Some.ensures.variant)) c.in-Some.ensures.value in
    subst (In number) (sym c.as_slice-2.ensures.value) (the_list lists c.args.source number c.in-Some.numbers.now is (c.self.invariant.1 number c.args.source at))

pub invariant_of-self-2 : goal.invariant_of-self-2
invariant_of-self-2 c = (
  λ number at. ready number (ready_before c.args.source tasks number (subst (λ ts. IsReadyAt ts number) c.wake_all.ensures at)),
  λ number source at. let before = waiting_before c.args.source source tasks number (subst (λ ts. IsWaiting source ts number) c.wake_all.ensures at) in
      in_other c.self.inside.waiting.items c.args.source source number c.clear.new.self before.1 (c.self.invariant.1 number source before.0),
)
  where
    tasks : List Task
    tasks = c.self.inside.tasks.items

    lists : List (Vec ℕ)
    lists = c.self.inside.waiting.items

    is : slice_get lists c.args.source ≡ Some c.in-Some.numbers.now
    is = read_at lists c.args.source c.in-Some.numbers.now (search (rules, arith, c.in-Some.ensures.variant)) c.in-Some.ensures.value

    ready : (number : ℕ) → IsReadyAt tasks number ⊎ IsWaiting c.args.source tasks number → In number c.queue.new.ready.keys
    ready number (inl at) = c.queue.ensures.kept number (c.self.invariant.0 number at)
    ready number (inr at) = c.in_ok-queue.ensures.queued number (subst (In number) (sym c.as_slice.ensures.value) (the_list lists c.args.source number c.in-Some.numbers.now is (c.self.invariant.1 number c.args.source at)))
