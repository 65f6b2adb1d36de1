use Rattle.std.proofs.Common.{arith, get_or}
use Rattle.std.proofs.lemmas.Bool.{ne_eqb}
use Rattle.flight_syntax.proofs.Closing.{closing-step_escaped, closing-step_plain}
use Rattle.flight_syntax.proofs.string.closing_len.Goals as goal
use Rattle.flight_syntax.proofs.string.closing_len.Goals.{then-escaped, else-escaped+else-byte-eq34}

pub loop-i-preserved : goal.loop-i-preserved
loop-i-preserved c = elim c.if-escaped.branch [
  | then-escaped w ↦ closing-step_escaped c.args.text.now c.loop-i.i c.loop-i.escaped c.if-escaped.escaped (omega arith) c.loop-i.invariant w.if-escaped.true w.escaped-is
  | else-escaped+else-byte-eq34 w ↦ closing-step_plain c.args.text.now c.loop-i.i c.loop-i.escaped c.if-escaped.escaped (omega arith) c.loop-i.invariant w.if-escaped.false (ne_eqb (get_or c.args.text.now c.loop-i.i 0) 34 w.if-byte-eq34.false) w.escaped-is
]
