use Rattle.std.proofs.Common.{IfOk, List, subst}
use Rattle.flight_value.specs.Graph.{IsValid}
use Rattle.flight_value.specs.Store.{DrawOneGraph, of_graph}
use Rattle.flight_meaning.specs.declared.place.PlacedRow.{PlacedRow}
use Rattle.flight_meaning.specs.Meaning.{meaning}
use Rattle.flight_link.proofs.links.Links.graph.Goals as goal

pub returns : goal.returns
returns c = subst (λ (rows : List PlacedRow). IfOk c.graph.result (λ g. IsValid g × DrawOneGraph (of_graph g) (meaning rows))) c.self.view_is c.graph.ensures
