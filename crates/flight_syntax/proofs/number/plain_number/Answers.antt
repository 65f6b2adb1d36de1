use Rattle.std.proofs.Common.{refl, arith}
use Rattle.flight_syntax.proofs.Numbers.{Stands-number, none-plain, digits-some}
use Rattle.flight_syntax.proofs.number.plain_number.Goals as goal

pub is_number-requires-clause-some : goal.is_number-requires-clause-some
is_number-requires-clause-some c = rw c.requires.digits (digits-some c.args.text.now c.requires.some c.requires.digit)

pub returns-then-is_number : goal.returns-then-is_number
returns-then-is_number c =
    let is = rw c.requires.digits at (c.if-is_number.ensures.0 refl) in
    rw c.requires.digits (Stands-number c.args.text.now is.0 c.requires.some c.requires.digit (rw c.requires.digits at c.requires.mark) is.1.0.0 (let w = is.1.0.1 in omega (arith, w)) is.1.1)

pub returns : goal.returns
returns c =
    none-plain c.args.text.now c.requires.some c.requires.digit (rw c.requires.digits at c.requires.mark)
    (λ number is within apart. let f = rw c.requires.digits at c.if-is_number.ensures.1 in let e = f (number, ((is, omega (arith, within)), apart)) in cc)
