use Rattle.std.proofs.Common.{map}
use Rattle.std.proofs.lemmas.Result.{err_from_is_err_and}
use Rattle.serde_json.specs.View.{view}
use Rattle.flight_script.specs.Slots.{IsSlot}
use Rattle.flight_script.proofs.Built.{built_next, unfit_next}
use Rattle.flight_script.proofs.slot.read_slots.Goals as goal

pub loop-item-preserved : goal.loop-item-preserved
loop-item-preserved c =
    let l = c.loop-item in
    built_next (IsSlot c.args.count) view (map view c.args.items.now) c.args.items.now l.item-index c.item-item.result l.slots.items c.push.new.self.items c.in_ok-read_slot.field-0
    l.invariant c.loop-item-test.true c.item-item.is c.in_ok-read_slot.ensures c.in_ok-push.ensures.items

pub returns-in_err-read_slot : goal.returns-in_err-read_slot
returns-in_err-read_slot c =
    let l = c.loop-item in
    let p = err_from_is_err_and c.from_residual-in_err-read_slot.result c.from_residual-in_err-read_slot.ensures.1 in
    rw (p.1, p.2) (unfit_next (IsSlot c.args.count) view (map view c.args.items.now) c.args.items.now l.item-index c.item-item.result l.slots.items c.in_err-read_slot.field-0.0 l.invariant c.loop-item-test.true c.item-item.is c.in_err-read_slot.ensures)
