use Rattle.flight_graph.specs.Text.{slot_text}
use Rattle.flight_graph.specs.Walk.{placed}
use Rattle.flight_graph.proofs.Rows.{commas_more}
use Rattle.flight_graph.proofs.print.write_slots.Goals as goal

pub loop-at-preserved : goal.loop-at-preserved
loop-at-preserved c =
    commas_more (placed c.args.places.now) slot_text c.args.slots.now c.loop-at.at c.index-slots-at.result c.args.out.now c.loop-at.out c.write_comma.new.out c.write_slot.new.out
    c.loop-at-test.true c.index-slots-at.is c.loop-at.invariant c.in_ok-write_comma.ensures c.in_ok-write_slot.ensures
