use Rattle.std.proofs.Common.{Some, sym, ap, ◌∙◌, arith}
use Rattle.flight_place.proofs.Digits.{unsigned-digits}
use Rattle.flight_place.proofs.number.unsigned.Goals as goal

pub returns-in-Some : goal.returns-in-Some
returns-in-Some c =
    let d = c.in-Some.ensures in
    ap Some c.from.ensures ∙ sym (unsigned-digits c.args.bytes.now c.in-Some.n d.0 d.1 d.2 (omega arith))
