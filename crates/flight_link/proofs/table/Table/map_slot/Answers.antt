use Rattle.std.proofs.Common.{subst}
use Rattle.flight_meaning.specs.Meaning.{map_token}
use Rattle.flight_link.specs.declared.node.State.TheVariants.{Ended}
use Rattle.flight_link.specs.Waiting.{IsResolved}
use Rattle.flight_link.proofs.Slots.{token_slot, no_token_slot}
use Rattle.flight_link.proofs.table.Table.map_slot.Goals as goal

pub returns-in-Ended-clause-slot : goal.returns-in-Ended-clause-slot
returns-in-Ended-clause-slot c =
    let h = subst (λ p. IsResolved c.args.self.now c.args.states.now c.args.reference.now.id p (Ended c.in-Ended.spot)) c.as_slice.ensures c.in-Ended.ensures in
    token_slot c.args.self.now c.args.states.now map_token c.args.reference.now c.in-Ended.spot c.args.slot c.entry_slot.result c.requires.table h c.entry_slot.ensures.slot

pub returns-in_default-clause-slot : goal.returns-in_default-clause-slot
returns-in_default-clause-slot c =
    let h = subst (λ p. IsResolved c.args.self.now c.args.states.now c.args.reference.now.id p c.resolve.result) c.as_slice.ensures c.resolve.ensures in
    no_token_slot c.args.self.now c.args.states.now map_token c.args.reference.now c.resolve.result c.args.slot c.requires h c.in_default.not-Ended
