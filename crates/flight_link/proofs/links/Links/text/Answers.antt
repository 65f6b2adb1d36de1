use Rattle.std.proofs.Common.{◌≡◌, IfOk, List, subst}
use Rattle.flight_value.specs.Graph.{IsValid}
use Rattle.flight_value.specs.Store.{DrawOneGraph, of_graph}
use Rattle.flight_value.specs.declared.graph.Graph.{Graph}
use Rattle.flight_graph.specs.Text.{text_of}
use Rattle.flight_meaning.specs.declared.place.PlacedRow.{PlacedRow}
use Rattle.flight_meaning.specs.Meaning.{meaning}
use Rattle.flight_link.proofs.links.Links.text.Goals as goal

pub returns : goal.returns
returns c = subst (λ (rows : List PlacedRow). IfOk c.text.result (λ t. (g : Graph) × IsValid g × DrawOneGraph (of_graph g) (meaning rows) × (t ≡ text_of g))) c.self.view_is c.text.ensures
