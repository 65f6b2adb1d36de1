use Rattle.flight_feed.proofs.Ends.{is_read_back}
use Rattle.flight_feed.proofs.stream.read_back.Goals as goal

pub returns : goal.returns
returns c = is_read_back
