use Rattle.flight_client.proofs.NoPlace.{no_place_stays}
use Rattle.flight_client.proofs.law.no_place_stays.Goals as goal

pub returns : goal.returns
returns c = no_place_stays
