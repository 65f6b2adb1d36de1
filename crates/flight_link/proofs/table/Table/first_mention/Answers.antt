use Rattle.std.proofs.Common.{◌≡◌, ◌≤◌, Some, None, length, slice_get, sym, ap, subst, ◌∙◌, arith}
use Rattle.std.proofs.lemmas.Option.{slice_get-get_or}
use Rattle.flight_link.specs.Marks.{mentioned, IsFirstIn}
use Rattle.flight_link.specs.Spots.{IsFirst}
use Rattle.flight_link.proofs.Marks.{is_first, none_more, none_at_all}
use Rattle.flight_link.proofs.table.Table.first_mention.Goals as goal

pub returns-in-Some : goal.returns-in-Some
returns-in-Some c =
    let row = ap (λ xs. slice_get xs c.loop-row.row) (sym c.as_slice-placed-items.ensures.value) ∙ (slice_get-get_or c.as_slice-placed-items.result.now c.loop-row.row c.placed-item.result c.loop-row-test.true ∙ ap Some (sym c.placed-item.is)) in
    let first = subst (λ ps. IsFirstIn ps (mentioned c.args.mention) (Some c.in-Some.place)) c.as_slice.ensures c.in-Some.ensures in
    subst (IsFirst c.args.self.now.rows.items (mentioned c.args.mention)) (sym c.numbered.ensures)
    (is_first c.args.self.now (mentioned c.args.mention) c.loop-row.row c.in-Some.place c.placed-item.result c.requires.table row first c.loop-row.invariant)

pub loop-row-preserved : goal.loop-row-preserved
loop-row-preserved c =
    let row = ap (λ xs. slice_get xs c.loop-row.row) (sym c.as_slice-placed-items.ensures.value) ∙ (slice_get-get_or c.as_slice-placed-items.result.now c.loop-row.row c.placed-item.result c.loop-row-test.true ∙ ap Some (sym c.placed-item.is)) in
    let none = subst (λ ps. IsFirstIn ps (mentioned c.args.mention) None) c.as_slice.ensures c.in_default.ensures in
    none_more c.args.self.now.rows.items (mentioned c.args.mention) c.loop-row.row c.placed-item.result row c.loop-row.invariant none

pub returns : goal.returns
returns c =
    let len : length c.as_slice-placed-items.result.now ≡ length c.args.self.now.rows.items = ap length c.as_slice-placed-items.ensures.value in
    let most : length c.args.self.now.rows.items ≤ c.loop-row.row = omega (arith, len, c.loop-row-test.false) in
    absurd (none_at_all c.args.self.now (mentioned c.args.mention) c.loop-row.row c.requires.table most c.loop-row.invariant c.requires.mentioned)
