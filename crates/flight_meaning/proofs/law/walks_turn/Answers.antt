use Rattle.flight_meaning.proofs.Walking as walking
use Rattle.flight_meaning.proofs.law.walks_turn.Goals as goal

pub returns-clause-goes_on : goal.returns-clause-goes_on
returns-clause-goes_on c rows s next f e = (walking.ends_forth rows s next e f, walking.ends_back rows s next e f)

pub returns-clause-last : goal.returns-clause-last
returns-clause-last c = walking.turn_ends

pub returns-clause-stops : goal.returns-clause-stops
returns-clause-stops c = walking.stop_turn
