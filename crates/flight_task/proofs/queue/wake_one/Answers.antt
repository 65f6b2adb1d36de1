use Rattle.std.proofs.Common.{◌≡◌, ◌≢◌, Some, rules, arith}
use Rattle.std.specs.Prelude.{slice_get}
use Rattle.flight_state.specs.declared.status.Status.TheVariants as status
use Rattle.flight_task.specs.Tasks.{woken}
use Rattle.flight_task.proofs.Numbered.{woken_waiting, left_set, ready_not_waiting, read_at}
use Rattle.flight_task.proofs.Queues.{map_set}
use Rattle.flight_task.proofs.queue.wake_one.Goals as goal

pub returns-then-eq-clause-same : goal.returns-then-eq-clause-same
returns-then-eq-clause-same c =
    let at : slice_get c.args.tasks.now.items c.args.number ≡ Some c.in-Some.task.now = read_at c.args.tasks.now.items c.args.number c.in-Some.task.now (search (rules, arith, c.in-Some.ensures.variant)) c.in-Some.ensures.value in
    let waits : c.in-Some.task.now.status ≡ status.Waiting c.args.source = search (rules, c.if-eq.true, c.eq.ensures) in
    map_set (woken c.args.source) c.args.tasks.now.items c.args.number c.in-Some.task.now _ at (woken_waiting c.args.source c.in-Some.task.now waits)

pub returns-then-eq-clause-left : goal.returns-then-eq-clause-left
returns-then-eq-clause-left c = left_set c.args.source c.args.tasks.now.items c.args.number _ (ready_not_waiting c.args.source)

pub returns-else-eq-clause-left : goal.returns-else-eq-clause-left
returns-else-eq-clause-left c =
    let never : c.in-Some.task.now.status ≢ status.Waiting c.args.source = search (rules, c.if-eq.false, c.eq.ensures) in
    left_set c.args.source c.args.tasks.now.items c.args.number c.in-Some.task.now never
