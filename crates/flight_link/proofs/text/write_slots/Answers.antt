use Rattle.flight_link.specs.Drafted.{slot_parts}
use Rattle.flight_link.proofs.Parts.{commas_more}
use Rattle.flight_link.proofs.text.write_slots.Goals as goal

pub loop-at-preserved : goal.loop-at-preserved
loop-at-preserved c =
    commas_more slot_parts c.args.targets.now c.loop-at.at c.index-targets-at.result c.args.out.now c.loop-at.out c.push_comma.new.self c.write_slot.new.out
    c.loop-at-test.true c.index-targets-at.is c.loop-at.invariant c.in_ok-push_comma.ensures c.in_ok-write_slot.ensures
