use Rattle.std.proofs.Common.{◌∙◌, length}
use Rattle.flight_graph.proofs.Places.{text_is}
use Rattle.flight_graph.proofs.print.canon_text.Goals as goal

pub returns : goal.returns
returns c =
    c.in_ok-into_text.ensures
    ∙ text_is (length c.args.graph.now.nodes) c.args.graph.now c.in_ok-walk.walk c.as_slice-places.result.now c.as_slice-nodes.result.now c.as_slice.result.now c.new-out.result c.push_str.new.self c.write_slot.new.out c.put.new.out c.write_lines.new.out
    c.in_ok-walk.ensures.kept c.in_ok-walk.ensures.visited c.as_slice-places.ensures.value c.as_slice-nodes.ensures c.as_slice.ensures.value c.new-out.ensures c.in_ok-push_str.ensures c.in_ok-write_slot.ensures c.in_ok-put.ensures c.in_ok-write_lines.ensures
