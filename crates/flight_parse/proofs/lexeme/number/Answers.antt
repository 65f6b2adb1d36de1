use Rattle.std.proofs.Common.{◌∙◌, rules}
use Rattle.flight_syntax.specs.Tokens.{spelling}
use Rattle.flight_parse.proofs.Numbers.{token_written}
use Rattle.flight_parse.proofs.lexeme.number.Goals as goal

pub invariant_of-result-clause-written : goal.invariant_of-result-clause-written
invariant_of-result-clause-written c =
    let written = token_written (spelling c.args.text.now c.args.token.now) c.in_ok-digits.digits c.number-value.result c.number-value.ensures (c.in_ok-digits.ensures ∙ c.bytes.ensures) in search (rules, written)
