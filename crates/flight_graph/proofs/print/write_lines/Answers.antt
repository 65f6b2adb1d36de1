use Rattle.std.proofs.Common.{◌++◌, ◌∙◌, ap}
use Rattle.flight_value.specs.declared.graph.Node.{Node}
use Rattle.flight_graph.specs.Canon.{map_slots, node_at}
use Rattle.flight_graph.specs.Text.{line_text}
use Rattle.flight_graph.specs.Walk.{placed}
use Rattle.flight_graph.proofs.Rows.{lines_more}
use Rattle.flight_graph.proofs.print.write_lines.Goals as goal

pub loop-place-preserved : goal.loop-place-preserved
loop-place-preserved c =
    let line = c.in_ok-write_line.ensures ∙ ap (λ (n : Node). c.loop-place.out ++ line_text c.loop-place.place (map_slots (placed c.args.places.now) n)) c.node_in.ensures in
    lines_more (λ n. map_slots (placed c.args.places.now) (node_at c.args.nodes.now n)) c.args.order.now c.loop-place.place c.args.out.now c.loop-place.out c.write_line.new.out c.loop-place-test.true c.loop-place.invariant line
