use Rattle.std.proofs.Common.{◌≡◌, sym, ◌∙◌, ap}
use Rattle.std.specs.Fmt.{decimal}
use Rattle.std.proofs.lemmas.Fmt.{parse-decimal}
use Rattle.flight_link.proofs.step.index_of.Goals as goal

pub returns-in_default : goal.returns-in_default
returns-in_default c = λ k small e.
    let p = parse-decimal 64 k c.args.text.now c.parse.result small small e c.parse.ensures.value.0 in
    let same : c.in-Ok.index ≡ k = cc in
    let spelled : c.args.text.now ≡ decimal c.in-Ok.index = e ∙ ap decimal (sym same) in
    let yes = c.spells.ensures.1 spelled in
    cc

pub returns-in_default-2 : goal.returns-in_default-2
returns-in_default-2 c = λ k small e.
    let p = parse-decimal 64 k c.args.text.now c.parse.result small small e c.parse.ensures.value.0 in
    cc
