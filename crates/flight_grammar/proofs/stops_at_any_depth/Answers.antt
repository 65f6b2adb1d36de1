use Rattle.flight_grammar.proofs.AnyDepth.{any_depth}
use Rattle.flight_grammar.proofs.stops_at_any_depth.Goals as goal

pub returns : goal.returns
returns c = any_depth
