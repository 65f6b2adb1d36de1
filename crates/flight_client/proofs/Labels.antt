-- Labels that a look gave stay.
use Rattle.std.proofs.Common.{List, sym, ◌∙◌}
use Rattle.flight_graph.specs.declared.label.Label.TheVariants as label
use Rattle.flight_meaning.specs.declared.place.PlacedRow.{PlacedRow}
use Rattle.flight_meaning.specs.Meaning.{value_of}
use Rattle.flight_link.specs.Looking.{sees_atom, sees_node}
use Rattle.flight_client.specs.AnyPrefix.{LabelsStay}
use Rattle.flight_client.proofs.Lasting.{sight_lasts}
use Rattle.flight_client.proofs.Marks.{mark_stays}

pub labels_stay : (rows more : List PlacedRow) → LabelsStay rows more
labels_stay rows more path (label.Atom value) h = sight_lasts rows more path (value_of 0) (sees_atom value.now) h
labels_stay rows more path (label.Node kind mark) h =
    let later = sight_lasts rows more path (value_of 0) (sees_node h.0 h.1) h.2 in
    (later.0, h.1, later.2, h.3 ∙ sym later.1, mark_stays rows more h.1 mark h.4)
