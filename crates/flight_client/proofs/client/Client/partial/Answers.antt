use Rattle.std.proofs.Common.{subst, ap}
use Rattle.std.specs.Prelude.{IfOk}
use Rattle.flight_value.specs.Graph.{IsValid}
use Rattle.flight_value.specs.Store.{DrawOneGraph, of_graph}
use Rattle.flight_meaning.specs.Meaning.{meaning}
use Rattle.flight_client.proofs.client.Client.partial.Goals as goal

pub returns : goal.returns
returns c =
    subst (λ rows. IfOk c.graph.result (λ g. IsValid g × DrawOneGraph (of_graph g) (meaning rows))) (ap (λ h. h.rows) c.self.view_is) c.graph.ensures
