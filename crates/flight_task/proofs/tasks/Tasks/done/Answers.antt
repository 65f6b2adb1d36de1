use Rattle.flight_task.specs.Tasks.{close}
use Rattle.flight_task.proofs.Numbered.{changed, queued_set, listed_set, done_not_ready, done_not_waiting}
use Rattle.flight_task.proofs.tasks.Tasks.done.Goals as goal

pub invariant_of-self : goal.invariant_of-self
invariant_of-self c = (
  queued_set c.self.inside.tasks.items c.args.number _ c.self.inside.ready.keys done_not_ready c.self.invariant.0,
  listed_set c.self.inside.tasks.items c.args.number _ c.self.inside.waiting.items done_not_waiting c.self.invariant.1,
)

pub returns : goal.returns
returns c = changed close _ c.args.self.now c.self.inside.tasks.items c.args.number c.index_mut.result.now c.self.view_is c.index_mut.ensures.value c.requires.running
