use Rattle.std.proofs.Common.{◌≡◌, ◌-◌, ◌++◌, List, ℕ, OnOk, length, decimal, arith, subst, ◌∙◌}
use Rattle.flight_graph.proofs.Digits.{number_fits, mark_before, mark_has_place, digits_behind, whole_piece}
use Rattle.flight_graph.proofs.print.write_number.Goals as goal

pub write_digits-start-requires : goal.write_digits-start-requires
write_digits-start-requires c = let fits = number_fits c.args.number c.ranges.number.fits in (omega (arith, fits), omega arith)

pub overflow_sub-start : goal.overflow_sub-start
overflow_sub-start c = mark_has_place c.args.number c.write_digits-start.result c.ranges.number.fits c.write_digits-start.ensures.start

pub returns : goal.returns
returns c =
    let w = c.write_digits-start in
    let long : length w.new.buf ≡ 21 = w.auto.buf in
    let some = mark_has_place c.args.number w.result c.ranges.number.fits w.ensures.start in
    let digits = digits_behind w.new.buf (decimal c.args.number) w.result w.ensures.written in
    let marked = mark_before w.new.buf (decimal c.args.number) 35 w.result 21 some (omega (arith, w.ensures.start)) long w.ensures.before digits in
    subst (λ (piece : List ℕ). OnOk c.push_bytes.result (c.push_bytes.new.self ≡ c.args.out.now ++ piece)) (whole_piece w.new.buf (w.result - 1) long ∙ marked) c.push_bytes.ensures
