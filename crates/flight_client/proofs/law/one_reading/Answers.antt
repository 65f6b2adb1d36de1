use Rattle.flight_client.proofs.OneReading.{client_one_reading}
use Rattle.flight_client.proofs.OneEnd.{client_one_end}
use Rattle.flight_client.proofs.law.one_reading.Goals as goal

pub returns-clause-so_far : goal.returns-clause-so_far
returns-clause-so_far c = client_one_reading

pub returns-clause-ended : goal.returns-clause-ended
returns-clause-ended c = client_one_end
