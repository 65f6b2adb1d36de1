use Rattle.flight_client.proofs.OneSight.{one_at_once, stays}
use Rattle.flight_client.proofs.law.looks_stay.Goals as goal

pub returns-clause-one : goal.returns-clause-one
returns-clause-one c = one_at_once

pub returns-clause-stays : goal.returns-clause-stays
returns-clause-stays c = stays
