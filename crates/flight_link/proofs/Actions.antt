-- The node of a server reference.
use Rattle.std.proofs.Common.{◌≡◌, ℕ, codes, List, [], ◌∷◌, Some, sym, ◌∙◌, ap, subst, arith}
use Rattle.flight_value.specs.declared.graph.Atom.TheVariants as atom
use Rattle.flight_value.specs.declared.graph.Slot.{Slot}
use Rattle.flight_value.specs.declared.graph.Node.TheVariants as node
use Rattle.flight_value.specs.Store as store
use Rattle.flight_value.specs.Store.{Shape}
use Rattle.flight_meaning.specs.declared.place.Place.TheVariants as place
use Rattle.flight_meaning.specs.declared.place.Named.{Named}
use Rattle.flight_meaning.specs.declared.place.PlacedRow.{PlacedRow}
use Rattle.flight_meaning.specs.Linked.{place_at, beside, first_place}
use Rattle.flight_meaning.specs.Resolve.{property}
use Rattle.flight_meaning.specs.Meaning.{Written, at_place, action_of, Reference, reference_of, action_shape}
use Rattle.flight_link.specs.declared.found.Spot.{Spot}
use Rattle.flight_link.specs.declared.key.NodeKey.{NodeKey}
use Rattle.flight_link.specs.Nodes.{IsPlain, place_in, spot_of}
use Rattle.flight_link.specs.Drawing.{Draws, DrawsNode}
use Rattle.flight_link.proofs.PlainRows.{place_there}
use Rattle.flight_link.proofs.Valid.{reference_parts}

pub action_node : (rows : List PlacedRow) (keys : List NodeKey) (id : ℕ) (spot at : Spot) (ps : List Named) (n m : ℕ) (text copy : List ℕ) (x : Slot) → IsPlain rows → ((r : Reference) × (reference_of rows id ≡ Some r)) → spot_of rows spot ≡ first_place id → place_in rows spot ≡ Some (place.Object ps) → property ps (codes "id") ≡ Some n → property ps (codes "bound") ≡ Some m → at ≡ record { row = spot.row; place = n } → place_in rows at ≡ Some (place.Atom (atom.Text text)) → copy ≡ text → Draws rows keys x (at_place (beside (spot_of rows spot) m)) → DrawsNode rows keys (action_of id) (node.Action copy x)
action_node rows keys id spot at ps n m text copy x plain r same e pn pm is_at te copied d =
    let named : Spot = record { row = spot.row; place = n } in
    let object : place_at rows (first_place id) ≡ Some (place.Object ps) = ap (place_at rows) (sym same) ∙ place_there rows spot (place.Object ps) plain e in
    let there : place_at rows (beside (first_place id) n) ≡ Some (place.Atom (atom.Text text)) =
    ap (λ s. place_at rows (beside s n)) (sym same) ∙ place_there rows named (place.Atom (atom.Text text)) plain (ap (place_in rows) (sym is_at) ∙ te) in
    let parts = reference_parts rows id r.0 ps n m text r.1 object pn pm there in
    let shape : Shape Written = record { label = store.action r.0.name; slots = at_place r.0.bound ∷ [] } in
    let moved : Draws rows keys x (at_place (beside (first_place id) m)) = subst (λ s. Draws rows keys x (at_place (beside s m))) same d in
    record {
      shape = shape;
      stands = ap action_shape r.1;
      label = ap store.action (copied ∙ sym parts.0);
      slots = (subst (λ b. Draws rows keys x (at_place b)) (sym parts.1) moved, tt);
      few = omega arith;
    }
