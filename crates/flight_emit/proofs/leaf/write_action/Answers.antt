use Rattle.std.proofs.lemmas.Result.{on_ok_weaker}
use Rattle.flight_emit.specs.Log.{stage}
use Rattle.flight_emit.proofs.Known.{plain_found, plain_taken}
use Rattle.flight_emit.proofs.leaf.write_action.Goals as goal

pub returns-in-Some-clause-wrote : goal.returns-in-Some-clause-wrote
returns-in-Some-clause-wrote c =
    on_ok_weaker c.put_action.result (λ put seen.
    plain_found c.args.scene.now.ground.now seen c.args.action c.in-Some.at.now (stage c.args.home.now c.args.work.now) (stage c.args.home.now c.put_action.new.self)
    c.requires.ready c.in-Some.ensures.found (put c.args.home.now)) c.put_action.ensures

pub returns-clause-wrote : goal.returns-clause-wrote
returns-clause-wrote c =
    let is_id = c.in_ok-id.ensures.id in
    on_ok_weaker c.put_action-2.result (λ put seen.
    plain_taken c.args.scene.now.ground.now seen c.args.action c.in_ok-id.id c.in-Some-action_name.name.now (stage c.args.home.now c.args.work.now) (stage c.take_reference.new.home c.take_reference.new.work) (stage c.take_reference.new.home c.put_action-2.new.self)
    is_id.0 c.in-Some-action_name.ensures.some c.in_ok-id.ensures.took c.in_default.ensures.absent (put c.take_reference.new.home)) c.put_action-2.ensures
