use Rattle.std.proofs.Common.{◌≡◌, refl, length, rules}
use Rattle.flight_task.specs.Tasks.{born}
use Rattle.flight_task.proofs.Numbered.{queued_born, listed_born}
use Rattle.flight_task.proofs.Queues.{kept, put}
use Rattle.flight_task.proofs.tasks.Tasks.birth.Goals as goal

pub invariant_of-self : goal.invariant_of-self
invariant_of-self c = rw c.in_err-insert.ensures.err c.self.invariant

pub invariant_of-self-in_err-push : goal.invariant_of-self-in_err-push
invariant_of-self-in_err-push c =
    rw (c.in_err-push.ensures.items, c.in_ok-insert.ensures.keys)
    (λ number ready. kept c.self.inside.ready.keys c.in-Ok.number number (c.self.invariant.0 number ready), c.self.invariant.1)

pub invariant_of-self-2 : goal.invariant_of-self-2
invariant_of-self-2 c =
    let number : length c.self.inside.tasks.items ≡ c.in-Ok.number = search rules in
    rw (c.in_ok-push.ensures.items, c.in_ok-insert.ensures.keys) (
      queued_born c.self.inside.tasks.items (born c.args.id c.args.what) c.self.inside.ready.keys _ (kept c.self.inside.ready.keys c.in-Ok.number) (rw number (put c.self.inside.ready.keys c.in-Ok.number)) c.self.invariant.0,
      listed_born c.self.inside.tasks.items (born c.args.id c.args.what) c.self.inside.waiting.items refl c.self.invariant.1,
    )
