-- What a whole stream means.
use Rattle.std.specs.Prelude.{ℕ, List}
use Rattle.flight_value.specs.Store.{DrawOneGraph, of_graph}
use Rattle.flight_value.specs.declared.graph.Graph.{Graph}
use Rattle.flight_meaning.specs.declared.place.PlacedRow.{PlacedRow}
use Rattle.flight_meaning.specs.Meaning.{meaning}
use Rattle.flight_meaning.specs.Good.{IsGood}
use Rattle.flight_client.specs.Rows.{IsWhole}

-- the stream is good rows, and the graph is the one that they mean
pub record IsMeant (stream : List ℕ) (graph : Graph) : Type 0 where
  pub placed : List PlacedRow
  pub whole : IsWhole stream placed
  pub good : IsGood placed
  pub drawn : DrawOneGraph (of_graph graph) (meaning placed)
