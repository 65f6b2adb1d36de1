use Rattle.std.proofs.Common.{ap, ◌∙◌}
use Rattle.std.specs.Prelude.{is_some}
use Rattle.flight_resolve.proofs.Scopes.{name_known}
use Rattle.flight_resolve.proofs.known.is_variable.Goals as goal

pub returns : goal.returns
returns c = c.is_some.ensures ∙ (ap is_some c.in_ok-number.ensures ∙ name_known c.args.body.now c.args.locals.now c.args.name.now.bytes)
