use Rattle.std.proofs.Common.{ap, sym, ◌∙◌, subst, ◌<◌, length, Some}
use Rattle.std.proofs.lemmas.Option.{slice_get-get_or}
use Rattle.std.specs.Prelude.{slice_get}
use Rattle.std.proofs.lemmas.Result.{on_ok_weaker}
use Rattle.flight_emit.specs.Log.{stage}
use Rattle.flight_emit.proofs.Known.{stream_found, stream_taken}
use Rattle.flight_emit.proofs.leaf.write_stream.Goals as goal

pub returns-in-Some-clause-wrote : goal.returns-in-Some-clause-wrote
returns-in-Some-clause-wrote c =
    on_ok_weaker c.put_whole.result (λ put seen.
    stream_found c.args.scene.now.ground.now seen c.args.stream c.in-Some.at.now (stage c.args.home.now c.args.work.now) (stage c.args.home.now c.put_whole.new.self)
    c.requires.ready c.in-Some.ensures.found (put c.args.home.now)) c.put_whole.ensures

pub returns-clause-wrote : goal.returns-clause-wrote
returns-clause-wrote c =
    let is_id = c.in_ok-id.ensures.id in
    on_ok_weaker c.put_whole-2.result (λ put seen.
    stream_taken c.args.scene.now.ground.now seen c.args.stream c.index-as_slice-stream.result c.in_ok-id.id (stage c.args.home.now c.args.work.now) (stage c.take_stream.new.home c.take_stream.new.work) (stage c.take_stream.new.home c.put_whole-2.new.self)
    is_id.0 (ap (λ z. slice_get z c.args.stream) (sym c.as_slice.ensures) ∙ (slice_get-get_or c.as_slice.result.now c.args.stream c.index-as_slice-stream.result (subst (λ z. c.args.stream < length z) (sym c.as_slice.ensures) c.requires.known) ∙ ap (λ z. Some z) (sym c.index-as_slice-stream.is))) c.in_ok-id.ensures.took c.in_default.ensures.absent (put c.take_stream.new.home)) c.put_whole-2.ensures
