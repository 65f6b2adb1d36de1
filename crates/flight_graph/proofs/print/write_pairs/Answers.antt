use Rattle.flight_graph.specs.Canon.{map_pair}
use Rattle.flight_graph.specs.Text.{pair_text}
use Rattle.flight_graph.specs.Walk.{placed}
use Rattle.flight_graph.proofs.Rows.{commas_more}
use Rattle.flight_graph.proofs.print.write_pairs.Goals as goal

pub loop-at-preserved : goal.loop-at-preserved
loop-at-preserved c =
    commas_more (map_pair (placed c.args.places.now)) pair_text c.args.pairs.now c.loop-at.at c.index-pairs-at.result c.push_str.new.self c.loop-at.out c.write_comma.new.out c.write_pair.new.out
    c.loop-at-test.true c.index-pairs-at.is c.loop-at.invariant c.in_ok-write_comma.ensures c.in_ok-write_pair.ensures
