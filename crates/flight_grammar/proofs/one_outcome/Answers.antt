use Rattle.flight_grammar.proofs.Outcomes as proved
use Rattle.flight_grammar.proofs.one_outcome.Goals as goal

pub returns : goal.returns
returns c = proved.one_outcome
