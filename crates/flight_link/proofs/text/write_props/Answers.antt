use Rattle.flight_link.proofs.Parts.{prop_more}
use Rattle.flight_link.proofs.text.write_props.Goals as goal

pub loop-at-preserved : goal.loop-at-preserved
loop-at-preserved c =
    prop_more c.args.named.now c.args.targets.now c.loop-at.at c.index-named-at.result c.index-targets-at.result c.args.out.now c.loop-at.out c.push_comma.new.self c.write_prop.new.out
    c.requires c.loop-at-test.true c.index-named-at.is c.index-targets-at.is c.loop-at.invariant c.in_ok-push_comma.ensures c.in_ok-write_prop.ensures
