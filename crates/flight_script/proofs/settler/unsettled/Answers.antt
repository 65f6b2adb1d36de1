use Rattle.std.proofs.Common.{map, []}
use Rattle.flight_script.specs.Settlers.{marks}
use Rattle.flight_script.proofs.Settling.{unmarked}
use Rattle.flight_script.proofs.settler.unsettled.Goals as goal

pub loop-source-preserved : goal.loop-source-preserved
loop-source-preserved c =
    unmarked c.args.sources.now c.loop-source._source-index c.loop-source.out.items c.push.new.self.items (marks (map (λ n. n.now) c.args.sources.now) []) c.loop-source-test.true c.loop-source.invariant c.in_ok-push.ensures.items
