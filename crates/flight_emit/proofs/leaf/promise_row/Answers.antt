use Rattle.std.proofs.Common.{ap, refl}
use Rattle.flight_value.specs.declared.key.Key.TheVariants as key
use Rattle.flight_emit.specs.Seen.{seen_of}
use Rattle.flight_emit.specs.Log.{stage}
use Rattle.flight_emit.proofs.Known.{row_found, rows_taken}
use Rattle.flight_emit.proofs.leaf.promise_row.Goals as goal

pub returns-in-Some-clause-row : goal.returns-in-Some-clause-row
returns-in-Some-clause-row c =
    λ g v met. row_found g (seen_of c.args.scene.now.bodies.now) v (key.Made c.args.promise.now) (key.Made c.in_ok-copy_name.field-0) c.in-Some.at.now.id c.in-Some.at.now (stage c.args.home.now c.args.work.now)
    (ap key.Made c.in_ok-copy_name.ensures) refl c.requires.ready c.in-Some.ensures.found

pub returns-clause-row : goal.returns-clause-row
returns-clause-row c =
    rows_taken (seen_of c.args.scene.now.bodies.now) (key.Made c.args.promise.now) (key.Made c.in_ok-copy_name.field-0) c.take_row.result (stage c.args.home.now c.args.work.now) (stage c.take_row.new.home c.take_row.new.work)
    (ap key.Made c.in_ok-copy_name.ensures) c.take_row.ensures.id c.take_row.ensures.took c.in_default.ensures.absent
