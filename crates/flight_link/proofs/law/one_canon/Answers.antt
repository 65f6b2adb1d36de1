use Rattle.flight_graph.proofs.Drawn.{drawn_one_canon}
use Rattle.flight_meaning.specs.Meaning.{meaning}
use Rattle.flight_meaning.proofs.OneMeaning.{leads_once, stands_once}
use Rattle.flight_link.proofs.law.one_canon.Goals as goal

pub returns : goal.returns
returns c rows g h valid valid' a b = drawn_one_canon (meaning rows) (record { leads_once = leads_once rows; stands_once = stands_once rows }) g h valid valid' a b
