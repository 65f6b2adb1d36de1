use Rattle.std.proofs.Common.{◌≡◌, ◌<◌, refl, arith, rules, length}
use Rattle.flight_task.specs.Tasks.{stop_at}
use Rattle.flight_task.proofs.Numbered.{changed, queued_set, listed_waits, waiting_not_ready, within}
use Rattle.flight_task.proofs.tasks.Tasks.waits.Goals as goal

pub invariant_of-self : goal.invariant_of-self
invariant_of-self c = (c.self.invariant.0, λ number source h. c.list.ensures.holds number source (c.self.invariant.1 number source h))

pub index_mut-requires : goal.index_mut-requires
index_mut-requires c =
    let n : c.args.number < length c.args.self.now = within _ c.args.self.now c.args.number c.requires.running in
    let same : c.self.inside.tasks.items ≡ c.args.self.now = c.self.view_is in
    search (rules, arith, n, same)

pub invariant_of-self-2 : goal.invariant_of-self-2
invariant_of-self-2 c = (
  queued_set c.self.inside.tasks.items c.args.number _ c.self.inside.ready.keys (waiting_not_ready c.args.source) c.self.invariant.0,
  listed_waits c.self.inside.tasks.items c.args.number _ c.args.source c.self.inside.waiting.items c.list.new.waiting.items refl c.list.ensures.holds c.in_ok-list.ensures.listed c.self.invariant.1,
)

pub returns-clause-waits : goal.returns-clause-waits
returns-clause-waits c = changed (stop_at c.args.source) _ c.args.self.now c.self.inside.tasks.items c.args.number c.index_mut.result.now c.self.view_is c.index_mut.ensures.value c.requires.running
