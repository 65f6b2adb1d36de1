use Rattle.std.proofs.Common.{Some, sym, ap, ◌∙◌, arith}
use Rattle.std.specs.Int.{w64}
use Rattle.std.proofs.lemmas.Int.{to_z-of_z}
use Rattle.serde_json.specs.Find.{of_integer}
use Rattle.flight_place.proofs.Digits.{negative-digits, below-zero}
use Rattle.flight_place.proofs.number.negative.Goals as goal

pub returns-in-Some : goal.returns-in-Some
returns-in-Some c =
    let d = c.in-Some.ensures in
    let n = c.in-Some.n in
    let given = ap of_integer (to_z-of_z w64 c.minus.result (record { sfits = c.minus.type_inv })) in
    ap Some (c.from.ensures ∙ (given ∙ (ap of_integer c.minus.ensures ∙ below-zero n (omega arith)))) ∙ sym (negative-digits c.args.bytes.now n d.0 d.1 d.2 (omega arith) (omega arith))
