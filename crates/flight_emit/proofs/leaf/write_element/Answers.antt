use Rattle.std.proofs.lemmas.Result.{on_ok_weaker}
use Rattle.flight_emit.specs.Log.{stage}
use Rattle.flight_emit.proofs.Known.{server_found, server_taken}
use Rattle.flight_emit.proofs.leaf.write_element.Goals as goal

pub returns-in-Some-clause-wrote : goal.returns-in-Some-clause-wrote
returns-in-Some-clause-wrote c =
    on_ok_weaker c.put_lazy.result (λ put g.
    server_found g c.args.scene.now.bodies.now c.args.name.now c.in_ok-copy_name.field-0 c.in-Some.at.now (stage c.args.home.now c.args.work.now) (stage c.args.home.now c.put_lazy.new.self)
    c.in_ok-copy_name.ensures c.requires.ready c.requires.server c.in-Some.ensures.found (put c.args.home.now)) c.put_lazy.ensures

pub returns-clause-wrote : goal.returns-clause-wrote
returns-clause-wrote c =
    let is_id = c.in_ok-id.ensures.id in
    let task = c.in_ok-what.ensures in
    on_ok_weaker c.put_lazy-2.result (λ put g.
    server_taken g c.args.scene.now.bodies.now c.args.name.now c.in_ok-copy_name.field-0 c.in_ok-what.what c.in_ok-id.id (stage c.args.home.now c.args.work.now) (stage c.take_task.new.home c.take_task.new.work) (stage c.take_task.new.home c.put_lazy-2.new.self)
    c.in_ok-copy_name.ensures task.0 task.1 task.2 is_id.0 c.in_ok-id.ensures.took c.in_default.ensures.absent c.requires.server (put c.take_task.new.home)) c.put_lazy-2.ensures
