use Rattle.std.proofs.lemmas.Result.{on_ok_weaker}
use Rattle.flight_emit.specs.Log.{stage}
use Rattle.flight_emit.proofs.Leaves.{failure_by_row}
use Rattle.flight_emit.proofs.leaf.write_failure.Goals as goal

pub returns : goal.returns
returns c =
    let is_id = c.in_ok-id.ensures.id in
    on_ok_weaker c.put_lazy.result (λ put g seen homes. failure_by_row g seen c.args.digest.now c.as_str.result.now c.in_ok-id.id c.as_str.ensures (stage homes c.args.work.now) (stage homes c.add_failure.new.self) (stage homes c.put_lazy.new.self) is_id.0 is_id.1 (c.in_ok-id.ensures.took homes) (put homes)) c.put_lazy.ensures
