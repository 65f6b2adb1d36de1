use Rattle.std.proofs.Common.{Some, ap, ◌∙◌}
use Rattle.flight_meaning.specs.declared.place.Place.TheVariants as place
use Rattle.flight_link.proofs.Targets.{atom_leads, node_target, promise_target}
use Rattle.flight_link.proofs.table.Table.target_in.Goals as goal

pub returns-in-Atom : goal.returns-in-Atom
returns-in-Atom c = atom_leads c.args.self.now c.args.end c.in-Atom.atom c.requires.linked.table (c.requires.place ∙ ap Some c.in-Atom.is)

pub returns-in-Promise : goal.returns-in-Promise
returns-in-Promise c = promise_target c.args.self.now c.args.end c.in-Promise.id c.requires.linked.table (c.requires.place ∙ ap Some c.in-Promise.is)

pub returns-in-Array : goal.returns-in-Array
returns-in-Array c = node_target c.args.self.now c.args.end (place.Array c.in-Array.field-0) c.requires.linked.table (c.requires.place ∙ ap Some c.in-Array.is) tt

pub returns-in-Object : goal.returns-in-Object
returns-in-Object c = node_target c.args.self.now c.args.end (place.Object c.in-Object.field-0) c.requires.linked.table (c.requires.place ∙ ap Some c.in-Object.is) tt

pub returns-in-Element : goal.returns-in-Element
returns-in-Element c = node_target c.args.self.now c.args.end (place.Element c.in-Element.tag c.in-Element.key c.in-Element.props) c.requires.linked.table (c.requires.place ∙ ap Some c.in-Element.is) tt
