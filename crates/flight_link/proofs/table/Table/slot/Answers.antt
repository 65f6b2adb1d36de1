use Rattle.std.proofs.Common.{Some, sym, ap, subst, ◌∙◌}
use Rattle.std.specs.Prelude.{option_copied}
use Rattle.std.proofs.lemmas.Option.{none-some}
use Rattle.flight_meaning.specs.Meaning.{made_at, map_token, set_token}
use Rattle.flight_link.specs.Nodes.{spot_of}
use Rattle.flight_link.specs.Slots.{IsSlotAt, IsThere, beside}
use Rattle.flight_link.proofs.Slots.{token_slot_at, plain_slot, no_token, number_there}
use Rattle.flight_link.proofs.table.Table.slot.Goals as goal

pub returns-in-Map-clause-slot : goal.returns-in-Map-clause-slot
returns-in-Map-clause-slot c = token_slot_at c.args.self.now map_token c.args.node c.in-Map.at c.args.slot c.map_slot.result c.requires.linked.table (sym c.in-Some.ensures ∙ ap Some c.in-Map.is) c.map_slot.ensures.slot

pub returns-in-Set-clause-slot : goal.returns-in-Set-clause-slot
returns-in-Set-clause-slot c = token_slot_at c.args.self.now set_token c.args.node c.in-Set.at c.args.slot c.set_slot.result c.requires.linked.table (sym c.in-Some.ensures ∙ ap Some c.in-Set.is) c.set_slot.ensures.slot

pub returns-in_default : goal.returns-in_default
returns-in_default c = absurd (none-some c.requires.place.0 (sym (ap option_copied c.in_default.is) ∙ (c.place.ensures ∙ c.requires.place.1)))

pub returns-in_default-place : goal.returns-in_default-place
returns-in_default-place c =
    let same = sym (c.beside.ensures ∙ ap (beside c.args.node) c.number_in.ensures) in
    let stands = sym c.in-Some.ensures in
    record {
      slot = subst (IsSlotAt c.args.self.now.rows.items (made_at (spot_of c.args.self.now.rows.items c.args.node)) c.args.slot) same
          (plain_slot c.args.self.now c.args.node c.in-Some.place.now c.args.slot c.requires.linked.table stands (no_token c.in-Some.place.now c.in_default-place.not-Map c.in_default-place.not-Set));
      there = subst (IsThere c.args.self.now.rows.items) same (number_there c.args.self.now c.args.node c.in-Some.place.now c.args.slot c.requires.linked.table stands);
    }
