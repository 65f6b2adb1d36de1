use Rattle.std.proofs.Common.{◌∙◌, sym, subst}
use Rattle.std.specs.Prelude.{option_map}
use Rattle.std.proofs.lemmas.Bool.{false≢true}
use Rattle.flight_bundle.proofs.Passed.{Passed, goes_on}
use Rattle.flight_bundle.proofs.line.first_line.Goals as goal

pub lines-preserved : goal.lines-preserved
lines-preserved c =
    let mark = c.args.mark.now in
    let text = c.args.text.now in
    let passed = subst (λ b. Passed mark text c.lines.line.now (option_map (λ rest. rest.now) b) c.lines.at) c.in-Some.is c.lines.invariant in
    goes_on mark text c.lines.line.now c.in-Some.rest.now c.split_line-in-Some.result.0.now (option_map (λ rest. rest.now) c.split_line-in-Some.result.1) c.lines.at passed
    (λ e. false≢true (sym c.if-is_mark.false ∙ c.is_mark.ensures.1 e)) c.split_line-in-Some.ensures.line c.split_line-in-Some.ensures.whole
