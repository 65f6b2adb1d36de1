-- What references lead to, as answers.
use Rattle.std.proofs.Common.{◌≡◌, ℕ, zero, suc, ◌+◌, List, [], ◌∷◌, length, take, drop, Some, slice_get, refl, sym, ◌∙◌, ap, arith, inl, inr, length-append}
use Rattle.std.proofs.lemmas.List.{take-append-drop}
use Rattle.std.proofs.lemmas.Option.{slice_get_within}
use Rattle.flight_text.specs.declared.mark.Ref.{Ref}
use Rattle.flight_meaning.specs.declared.place.Place.{Place}
use Rattle.flight_meaning.specs.declared.place.PlacedRow.{PlacedRow}
use Rattle.flight_meaning.specs.Linked.{rows_of}
use Rattle.flight_meaning.specs.Resolve.{to, not_yet}
use Rattle.flight_meaning.proofs.Walking.{turn_ends}
use Rattle.flight_meaning.proofs.Paths.{absent_turn}
use Rattle.flight_meaning.proofs.MoreRows.{rows_of-append}
use Rattle.flight_link.specs.declared.found.Spot.{Spot}
use Rattle.flight_link.specs.declared.found.Found.TheVariants as answer
use Rattle.flight_link.specs.declared.node.State.{State}
use Rattle.flight_link.specs.declared.node.State.TheVariants.{Absent, Ended, Lost, Behind}
use Rattle.flight_link.specs.declared.table.Table.{Table}
use Rattle.flight_link.specs.Spots.{IsSpot}
use Rattle.flight_link.specs.Finding.{IsFound}
use Rattle.flight_link.specs.Nodes.{IsPlain, IsTable, place_in, spot_of, stand, last_names, with_path}
use Rattle.flight_link.specs.Waiting.{IsResolved, WaitsFor, WaitsForever}
use Rattle.flight_link.proofs.PlainRows.{held, one_row, row_there, spot_in_row}
use Rattle.flight_link.proofs.Waits.{ends_come, endless_come}

get_drop : {A : Type 0} (xs : List A) (n : ℕ) → slice_get (drop n xs) 0 ≡ slice_get xs n
get_drop [] zero = refl
get_drop [] (suc n) = refl
get_drop (x ∷ xs) zero = refl
get_drop (x ∷ xs) (suc n) = get_drop xs n

pub none_before : (rows : List PlacedRow) (n : ℕ) (r : PlacedRow) → IsPlain rows → slice_get rows n ≡ Some r → 0 ≡ length (rows_of r.id (take n rows))
none_before rows n r plain e =
    let h = held (drop n rows) 0 r (get_drop rows n ∙ e) in
    let w = slice_get_within (rows_of r.id (drop n rows)) h.0 r.tree h.1 in
    let whole : length (rows_of r.id rows) ≡ 1 = ap length (one_row rows n r plain e) in
    let parts : length (rows_of r.id rows) ≡ length (rows_of r.id (take n rows)) + length (rows_of r.id (drop n rows)) =
    ap (λ x. length (rows_of r.id x)) (sym (take-append-drop n rows)) ∙ (ap length (rows_of-append r.id (take n rows) (drop n rows)) ∙ length-append (rows_of r.id (take n rows)) (rows_of r.id (drop n rows))) in
    omega (arith, w, whole, parts)

pub is_spot : (rows : List PlacedRow) (s : Spot) (at : Place) → IsPlain rows → place_in rows s ≡ Some at → IsSpot rows s (spot_of rows s)
is_spot rows s at plain e =
    let h = row_there rows s at e in
    record {
      row = h.0;
      is_row = h.1;
      id = ap (λ x. x.id) (spot_in_row rows s h.0 h.1);
      nth = none_before rows s.row h.0 plain h.1;
      at = refl;
    }

pub found_ended : (t : Table) (states : List State) (r : Ref) (s : Spot) → IsTable t → IsResolved t states r.id r.path (Ended s) → IsFound t.rows.items r (answer.At s)
found_ended t states r s table h = inl (spot_of t.rows.items s, h.0, is_spot t.rows.items s h.1.0 table.plain h.1.1)

pub found_absent : (t : Table) (states : List State) (r : Ref) → IsResolved t states r.id r.path Absent → IsFound t.rows.items r (answer.NotYet r.id)
found_absent t states r h = (r.path, turn_ends t.rows.items (to r.id r.path) (not_yet r.id r.path) (absent_turn t.rows.items r.id r.path h))

pub found_lost : (t : Table) (states : List State) (r : Ref) → IsResolved t states r.id r.path Lost → IsFound t.rows.items r (answer.Nowhere r.id)
found_lost t states r h = (refl, inl h)

pub found_waits : (t : Table) (states : List State) (r : Ref) (node left id : ℕ) → IsResolved t states r.id r.path (Behind node left) → WaitsFor t node id → IsFound t.rows.items r (answer.NotYet id)
found_waits t states r node left id h waits =
    let w = waits h.0.other h.0.is_other (last_names left r.path) in
    (w.0, ends_come t.rows.items (to r.id r.path) (with_path (stand t.rows.items h.0.other) (last_names left r.path)) (not_yet id w.0) h.0.come w.1)

pub found_ring : (t : Table) (states : List State) (r : Ref) (node left : ℕ) → IsResolved t states r.id r.path (Behind node left) → WaitsForever t node → IsFound t.rows.items r (answer.Nowhere r.id)
found_ring t states r node left h waits = (refl, inr (endless_come t.rows.items (to r.id r.path) (with_path (stand t.rows.items h.0.other) (last_names left r.path)) h.0.come (waits h.0.other h.0.is_other (last_names left r.path))))
