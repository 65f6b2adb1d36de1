use Rattle.std.proofs.Common.{◌≡◌, ◌≤◌, ◌<◌, ◌+◌, ◌∙◌, sym, ap, subst, List, ◌++◌, ◌∷◌, [], length, take, arith}
use Rattle.std.proofs.lemmas.List.{take_all, take_more}
use Rattle.flight_meaning.specs.declared.place.Place.{Place}
use Rattle.flight_meaning.specs.declared.place.PlacedRow.{PlacedRow}
use Rattle.flight_link.specs.Least.{IsLeastIn, IsIn, IsInRows}
use Rattle.flight_link.proofs.Defined.{least_row}
use Rattle.flight_link.proofs.table.Table.undefined.Goals as goal

pub returns : goal.returns
returns c =
    let len : length c.as_slice-row-items.result.now ≡ length c.args.self.now.rows.items = ap length c.as_slice-row-items.ensures.value in
    let most : length c.args.self.now.rows.items ≤ c.rows.row-index = omega (arith, len, c.rows-test.false) in
    subst (λ (xs : List PlacedRow). IsLeastIn c.args.self.now.rows.items (IsInRows xs) c.rows.least) (take_all c.rows.row-index c.args.self.now.rows.items most) c.rows.invariant

pub rows-preserved : goal.rows-preserved
rows-preserved c =
    let less : c.rows.row-index < length c.as_slice-row-items.result.now = c.rows-test.true in
    let more : take (c.rows.row-index + 1) c.args.self.now.rows.items ≡ take c.rows.row-index c.args.self.now.rows.items ++ c.row-item.result ∷ [] =
    ap (take (c.rows.row-index + 1)) (sym c.as_slice-row-items.ensures.value)
    ∙ (take_more c.as_slice-row-items.result.now c.rows.row-index c.row-item.result less
    ∙ (ap (λ y. take c.rows.row-index c.as_slice-row-items.result.now ++ y ∷ []) (sym c.row-item.is)
    ∙ ap (λ (xs : List PlacedRow). take c.rows.row-index xs ++ c.row-item.result ∷ []) c.as_slice-row-items.ensures.value)) in
    let last = subst (λ (xs : List Place). IsLeastIn c.args.self.now.rows.items (IsIn xs) c.undefined_in.result) c.as_slice.ensures c.undefined_in.ensures in
    subst (λ (xs : List PlacedRow). IsLeastIn c.args.self.now.rows.items (IsInRows xs) c.lesser-least.result) (sym more)
    (subst (IsLeastIn c.args.self.now.rows.items (IsInRows (take c.rows.row-index c.args.self.now.rows.items ++ c.row-item.result ∷ []))) (sym c.lesser-least.ensures)
    (least_row c.args.self.now.rows.items (take c.rows.row-index c.args.self.now.rows.items) c.row-item.result c.rows.least c.undefined_in.result c.rows.invariant last))
