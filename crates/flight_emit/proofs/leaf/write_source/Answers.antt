use Rattle.std.proofs.lemmas.Result.{on_ok_weaker}
use Rattle.flight_value.specs.declared.key.Key.TheVariants as key
use Rattle.flight_emit.specs.Log.{stage}
use Rattle.flight_emit.proofs.Known.{source_found, source_taken}
use Rattle.flight_emit.proofs.leaf.write_source.Goals as goal

pub returns-in-Some-clause-wrote : goal.returns-in-Some-clause-wrote
returns-in-Some-clause-wrote c =
    let ready = c.requires.ready in
    on_ok_weaker c.put_promise.result (λ put g seen.
    source_found g seen c.args.source c.in-Some.at.now (stage c.args.home.now c.args.work.now) (stage c.args.home.now c.put_promise.new.self) c.in-Some.ensures.found
    (ready.0 (key.Settled c.args.source) c.in-Some.at.now c.in-Some.ensures.found) (put c.args.home.now)) c.put_promise.ensures

pub returns-clause-wrote : goal.returns-clause-wrote
returns-clause-wrote c =
    let is_id = c.in_ok-id.ensures.id in
    on_ok_weaker c.put_promise-2.result (λ put g seen.
    source_taken g seen c.args.source c.in_ok-id.id (stage c.args.home.now c.args.work.now) (stage c.take_task.new.home c.take_task.new.work) (stage c.take_task.new.home c.put_promise-2.new.self)
    is_id.0 c.in_ok-id.ensures.took c.in_default.ensures.absent (put c.take_task.new.home)) c.put_promise-2.ensures
