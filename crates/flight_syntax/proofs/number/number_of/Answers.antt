use Rattle.std.proofs.Common.{arith}
use Rattle.flight_syntax.proofs.Numerals.{decimal-past}
use Rattle.flight_syntax.proofs.number.number_of.Goals as goal

pub returns-then-number-most-clause-none : goal.returns-then-number-most-clause-none
returns-then-number-most-clause-none c =
    decimal-past c.args.digits.now c.loop-digit.digit-index c.args.most (omega arith)
    (let v = c.loop-digit.invariant.value in let w = c.digit_value.ensures.value in let f = c.from-digit.ensures in let t = c.if-number-most.true in omega (arith, v, w, f, t))
