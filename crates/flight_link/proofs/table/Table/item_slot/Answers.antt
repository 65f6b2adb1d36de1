use Rattle.std.proofs.Common.{Some, slice_get, sym, ap, subst, ◌∙◌}
use Rattle.std.specs.Prelude.{option_copied}
use Rattle.flight_meaning.specs.declared.place.Place.TheVariants as place
use Rattle.flight_link.specs.Slots.{IsThere, beside}
use Rattle.flight_link.proofs.Slots.{number_there}
use Rattle.flight_link.proofs.table.Table.item_slot.Goals as goal

pub returns-in-Some-Array-clause-there : goal.returns-in-Some-Array-clause-there
returns-in-Some-Array-clause-there c =
    subst (IsThere c.args.self.now.rows.items) (sym (c.beside.ensures ∙ ap (beside c.args.array) (c.number_at.ensures ∙ ap (λ xs. slice_get xs c.args.slot) c.as_slice.ensures)))
    (number_there c.args.self.now c.args.array (place.Array c.in-Some-Array.numbers) c.args.slot c.requires (sym c.place.ensures ∙ (ap option_copied c.in-Some-Array.is ∙ ap Some c.in-Some-Array.field-0-is)))
