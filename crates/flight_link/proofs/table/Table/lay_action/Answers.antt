use Rattle.std.proofs.Common.{rules, ◌≡◌, codes, Some, slice_get, refl}
use Rattle.flight_value.specs.declared.graph.Atom.TheVariants as atom
use Rattle.flight_meaning.specs.declared.place.Place.TheVariants as place
use Rattle.flight_meaning.specs.Resolve.{property}
use Rattle.flight_meaning.specs.Meaning.{Reference, reference_of}
use Rattle.flight_link.proofs.LaidOut.{action_laid}
use Rattle.flight_link.proofs.table.Table.lay_action.Goals as goal

pub returns : goal.returns
returns c =
    let rows = c.args.self.now.rows.items in
    let refers : (r : Reference) × (reference_of rows c.args.id ≡ Some r) = search rules in
    let object : slice_get c.in-Some-places_of.places.now c.in-Some.spot.place ≡ Some (place.Object c.as_slice.result.now) = search rules in
    let named : property c.as_slice.result.now (codes "id") ≡ Some c.in-Some-property_of.name = search rules in
    let bound : property c.as_slice.result.now (codes "bound") ≡ Some c.in-Some-property_of-2.bound = search rules in
    let text : slice_get c.in-Some-places_of.places.now c.in-Some-property_of.name ≡ Some (place.Atom (atom.Text c.in-Some-Atom-Text.text)) = search rules in
    action_laid rows c.args.id c.in-Some.spot c.in-Some-places_of.places.now c.as_slice.result.now c.in-Some-property_of.name c.in-Some-property_of-2.bound c.in-Some-Atom-Text.text _ c.args.targets.now.items c.push_slots.new.targets.items refl (λ e. e) c.requires.linked.table.plain refers c.in-Some.ensures c.in-Some-places_of.ensures object named bound text c.requires.empty c.in_ok-push_slots.ensures
