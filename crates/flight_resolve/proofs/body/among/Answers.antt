use Rattle.flight_resolve.proofs.Scopes.{number_inside}
use Rattle.flight_resolve.proofs.body.among.Goals as goal

pub returns : goal.returns
returns c before locals q here known found =
    number_inside before locals q c.args.inner c.in-Some.at c.args.params c.in_ok-number.number c.in-Some.is here known c.in_ok-number.ensures
