use Rattle.flight_value.specs.Store.{Paired, of_graph}
use Rattle.flight_graph.proofs.Drawn.{fits_join, graph_single}
use Rattle.flight_graph.proofs.law.pairs_join.Goals as goal

pub returns : goal.returns
returns c g h third pairs more = fits_join (Paired pairs) (Paired more) (of_graph g) (of_graph h) (of_graph third) (graph_single third)
