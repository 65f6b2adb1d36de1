use Rattle.std.proofs.Common.{IfOk, List, subst}
use Rattle.flight_meaning.specs.declared.place.PlacedRow.{PlacedRow}
use Rattle.flight_link.specs.Origins.{AreOrigins}
use Rattle.flight_link.proofs.links.Links.origins.Goals as goal

pub returns : goal.returns
returns c = subst (λ (rows : List PlacedRow). IfOk c.origins.result (AreOrigins rows)) c.self.view_is c.origins.ensures
