use Rattle.std.proofs.Common.{sym, subst, rules, arith}
use Rattle.flight_task.specs.Tasks.{Holds}
use Rattle.flight_task.proofs.Numbered.{holds_push}
use Rattle.flight_task.proofs.queue.make_lists.Goals as goal

pub returns-in_err-push-clause-holds : goal.returns-in_err-push-clause-holds
returns-in_err-push-clause-holds c = subst (Holds c.args.waiting.now.items) (sym c.in_err-push.ensures.items) c.loop.invariant.0

pub loop-preserved : goal.loop-preserved
loop-preserved c = (
  subst (Holds c.args.waiting.now.items) (sym c.in_ok-push.ensures.items) (holds_push c.args.waiting.now.items c.loop.waiting.items c.new.result c.loop.invariant.0),
  let same = c.loop.invariant.1 in let more = c.in_ok-push.ensures.items in search (rules, arith, same, more),
)
