use Rattle.std.proofs.Common.{Some, sym, ap, subst, ◌∙◌}
use Rattle.std.specs.Prelude.{option_copied}
use Rattle.flight_meaning.specs.Resolve.{property}
use Rattle.flight_link.specs.Slots.{IsThere, beside}
use Rattle.flight_link.proofs.Slots.{property_there}
use Rattle.flight_link.proofs.table.Table.property.Goals as goal

pub returns-in-Some-Object-clause-there : goal.returns-in-Some-Object-clause-there
returns-in-Some-Object-clause-there c =
    subst (IsThere c.args.self.now.rows.items) (sym (c.beside.ensures ∙ ap (beside c.args.object) (c.property_of.ensures ∙ ap (λ ps. property ps c.args.name.now) c.as_slice.ensures)))
    (property_there c.args.self.now c.args.object c.in-Some-Object.props c.args.name.now c.requires (sym c.place.ensures ∙ (ap option_copied c.in-Some-Object.is ∙ ap Some c.in-Some-Object.field-0-is)))
