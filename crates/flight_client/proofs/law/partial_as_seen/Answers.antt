use Rattle.flight_client.proofs.Shown.{shows_alike}
use Rattle.flight_client.proofs.law.partial_as_seen.Goals as goal

pub returns : goal.returns
returns c = shows_alike
