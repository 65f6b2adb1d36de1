use Rattle.flight_graph.proofs.Ordered.{ordered_canon, ordered_text}
use Rattle.flight_graph.proofs.law.canon_in_order.Goals as goal

pub returns : goal.returns
returns c = record { canon = ordered_canon; text = ordered_text }
