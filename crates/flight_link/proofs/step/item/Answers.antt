use Rattle.std.proofs.Common.{◌≡◌, ◌+◌, ◌<◌, ◌≤◌, ◌^◌, length, sym, ◌∙◌, ap, arith}
use Rattle.std.specs.Fmt.{decimal}
use Rattle.flight_link.proofs.Steps.{item_spelled, item_unspelled}
use Rattle.flight_link.proofs.step.item.Goals as goal

pub returns-in-Some : goal.returns-in-Some
returns-in-Some c =
    let few : 0 + length c.args.numbers.now ≤ 2 ^ 64 = omega arith in
    let small : 0 + c.in-Some.index < 2 ^ 64 = omega arith in
    let sum : c.in-Some.index ≡ 0 + c.in-Some.index = omega arith in
    let e = item_spelled 0 c.args.numbers.now c.in-Some.index c.args.name.now few small (sym c.as_str.ensures ∙ (c.in-Some.ensures ∙ ap decimal sum)) in
    c.number_at.ensures ∙ sym e

pub returns-in-None : goal.returns-in-None
returns-in-None c =
    let few : 0 + length c.args.numbers.now ≤ 2 ^ 64 = omega arith in
    sym (item_unspelled 0 c.args.numbers.now c.args.name.now few (λ k small e. c.in-None.ensures k small (c.as_str.ensures ∙ e)))
