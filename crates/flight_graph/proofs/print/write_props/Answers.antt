use Rattle.flight_graph.specs.Canon.{map_prop}
use Rattle.flight_graph.specs.Text.{prop_text}
use Rattle.flight_graph.specs.Walk.{placed}
use Rattle.flight_graph.proofs.Rows.{commas_more}
use Rattle.flight_graph.proofs.print.write_props.Goals as goal

pub loop-at-preserved : goal.loop-at-preserved
loop-at-preserved c =
    commas_more (map_prop (placed c.args.places.now)) prop_text c.args.props.now c.loop-at.at c.index-props-at.result c.push_str.new.self c.loop-at.out c.write_comma.new.out c.write_prop.new.out
    c.loop-at-test.true c.index-props-at.is c.loop-at.invariant c.in_ok-write_comma.ensures c.in_ok-write_prop.ensures
