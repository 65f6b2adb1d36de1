use Rattle.flight_meaning.proofs.Walking as walking
use Rattle.flight_meaning.proofs.law.one_end.Goals as goal

pub returns-clause-one : goal.returns-clause-one
returns-clause-one c = walking.one_end

pub returns-clause-apart : goal.returns-clause-apart
returns-clause-apart c = walking.not_endless

pub returns-clause-stops : goal.returns-clause-stops
returns-clause-stops c = walking.found_stops

pub returns-clause-waits : goal.returns-clause-waits
returns-clause-waits c = walking.not_yet_absent
