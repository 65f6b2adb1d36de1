use Rattle.std.proofs.Common.{ap, ◌∙◌}
use Rattle.flight_syntax.specs.Meaning.{given}
use Rattle.flight_resolve.specs.Names.{names_of}
use Rattle.flight_resolve.proofs.Scopes.{given_number}
use Rattle.flight_resolve.proofs.build.variable_number.Goals as goal

pub returns : goal.returns
returns c = c.given.ensures ∙ (ap given c.in_ok-number.ensures ∙ given_number (names_of c.args.body.now c.args.locals.now) c.args.name.now.bytes)
