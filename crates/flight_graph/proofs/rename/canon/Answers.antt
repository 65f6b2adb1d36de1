use Rattle.std.proofs.Common.{length, subst, sym}
use Rattle.flight_value.specs.Graph.{IsValid}
use Rattle.flight_value.specs.declared.graph.Graph.{Graph}
use Rattle.flight_graph.proofs.Places.{canon_is}
use Rattle.flight_graph.proofs.Renamed.{canon_valid}
use Rattle.flight_graph.proofs.rename.canon.Goals as goal

pub returns : goal.returns
returns c =
    let g = c.args.graph.now in
    let new : Graph = record { root = c.in_ok-renamed_slot.field-0; nodes = c.in_ok-renamed_nodes.field-0 } in
    let canon =
    canon_is (length g.nodes) g new c.in_ok-walk.walk c.as_slice-places.result.now c.as_slice.result.now c.as_slice-2.result.now
    c.in_ok-walk.ensures.kept c.in_ok-walk.ensures.visited c.as_slice-places.ensures.value c.as_slice.ensures c.as_slice-2.ensures.value
    c.in_ok-renamed_slot.ensures c.in_ok-renamed_nodes.ensures
    in
    record { canon = canon; valid = subst IsValid (sym canon) (canon_valid g c.requires) }
