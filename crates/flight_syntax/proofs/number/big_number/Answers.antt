use Rattle.std.proofs.Common.{refl, arith}
use Rattle.flight_syntax.proofs.Numbers.{Stands-big, none-big, digits-some}
use Rattle.flight_syntax.proofs.number.big_number.Goals as goal

pub is_number-requires-clause-some : goal.is_number-requires-clause-some
is_number-requires-clause-some c = rw c.requires.digits (digits-some c.args.text.now c.requires.some c.requires.digit)

pub returns-then-is_number : goal.returns-then-is_number
returns-then-is_number c =
    let is = rw c.requires.digits at (c.if-is_number.ensures.0 refl) in
    rw c.requires.digits (Stands-big c.args.text.now is.0 c.requires.some c.requires.digit (rw c.requires.digits at c.requires.mark.0) (rw c.requires.digits at c.requires.mark.1) is.1.0.0 (let w = is.1.0.1 in omega (arith, w)) is.1.1)

pub returns : goal.returns
returns c =
    none-big c.args.text.now c.requires.some c.requires.digit (rw c.requires.digits at c.requires.mark.0) (rw c.requires.digits at c.requires.mark.1)
    (λ number is within apart. let f = rw c.requires.digits at c.if-is_number.ensures.1 in let e = f (number, ((is, omega (arith, within)), apart)) in cc)
