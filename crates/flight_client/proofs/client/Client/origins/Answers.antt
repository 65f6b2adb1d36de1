use Rattle.std.proofs.Common.{ap, subst}
use Rattle.std.specs.Prelude.{IfOk}
use Rattle.flight_link.specs.Origins.{AreOrigins}
use Rattle.flight_client.proofs.client.Client.origins.Goals as goal

pub returns : goal.returns
returns c = subst (λ rows. IfOk c.origins.result (AreOrigins rows)) (ap (λ h. h.rows) c.self.view_is) c.origins.ensures
