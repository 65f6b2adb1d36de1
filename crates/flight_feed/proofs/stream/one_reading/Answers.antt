use Rattle.flight_feed.proofs.Readings.{has_one_reading}
use Rattle.flight_feed.proofs.Ends.{has_one_end}
use Rattle.flight_feed.proofs.stream.one_reading.Goals as goal

pub returns-clause-begun : goal.returns-clause-begun
returns-clause-begun c = has_one_reading

pub returns-clause-ended : goal.returns-clause-ended
returns-clause-ended c = has_one_end
