use Rattle.flight_value.specs.Store.{Paired, of_graph}
use Rattle.flight_meaning.proofs.PairsStay.{fits-more, resolved_by_partner}
use Rattle.flight_meaning.proofs.law.pairs_stay.Goals as goal

pub returns-clause-pairs : goal.returns-clause-pairs
returns-clause-pairs c g pairs rows more resolved fits = fits-more (Paired pairs) (of_graph g) rows more resolved fits

pub returns-clause-graphs : goal.returns-clause-graphs
returns-clause-graphs c g rows more complete drawn =
    (drawn.0, fits-more (Paired drawn.0) (of_graph g) rows more (resolved_by_partner (Paired drawn.0) (of_graph g) rows complete drawn.1) drawn.1)
