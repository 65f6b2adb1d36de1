use Rattle.std.proofs.Common.{◌∙◌, ◌+◌, sym, ap, arith, ℕ}
use Rattle.std.proofs.lemmas.List.{take_rest}
use Rattle.flight_syntax.proofs.Marks.{comment_at, double_at}
use Rattle.flight_syntax.proofs.mark.pair_piece.Goals as goal

pub returns-then-text-eq47-2-clause-some : goal.returns-then-text-eq47-2-clause-some
returns-then-text-eq47-2-clause-some c =
    let len = rw (take_rest c.args.text.now 2) at c.line_len-len.ensures.value in
    comment_at c.args.text.now _ (omega arith) c.if-text-eq47.true c.if-text-eq47-2.true (ap (λ (n : ℕ). 2 + n) len)

pub returns-then-is_double_mark-clause-some : goal.returns-then-is_double_mark-clause-some
returns-then-is_double_mark-clause-some c = double_at c.args.text.now (omega arith) (sym c.is_double_mark.ensures ∙ c.if-is_double_mark.true)
