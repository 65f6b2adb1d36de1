use Rattle.std.proofs.Common.{subst}
use Rattle.flight_meaning.specs.Meaning.{set_token}
use Rattle.flight_link.specs.declared.node.State.TheVariants.{Ended}
use Rattle.flight_link.specs.Waiting.{IsResolved}
use Rattle.flight_link.proofs.Slots.{token_slot, no_token_slot, set_slot}
use Rattle.flight_link.proofs.table.Table.set_slot.Goals as goal

pub returns-in-Ended-clause-slot : goal.returns-in-Ended-clause-slot
returns-in-Ended-clause-slot c =
    let h = subst (λ p. IsResolved c.args.self.now c.args.states.now c.args.reference.now.id p (Ended c.in-Ended.spot)) c.as_slice.ensures c.in-Ended.ensures in
    token_slot c.args.self.now c.args.states.now set_token c.args.reference.now c.in-Ended.spot c.args.slot c.item_slot.result c.requires.table h (set_slot c.args.self.now.rows.items c.in-Ended.spot c.args.slot c.item_slot.result c.item_slot.ensures.item)

pub returns-in_default-clause-slot : goal.returns-in_default-clause-slot
returns-in_default-clause-slot c =
    let h = subst (λ p. IsResolved c.args.self.now c.args.states.now c.args.reference.now.id p c.resolve.result) c.as_slice.ensures c.resolve.ensures in
    no_token_slot c.args.self.now c.args.states.now set_token c.args.reference.now c.resolve.result c.args.slot c.requires h c.in_default.not-Ended
