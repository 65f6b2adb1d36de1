use Rattle.flight_client.proofs.Lasting.{sight_lasts}
use Rattle.flight_client.proofs.Labels.{labels_stay}
use Rattle.flight_client.proofs.law.labels_stay.Goals as goal

pub returns-clause-sights : goal.returns-clause-sights
returns-clause-sights c = sight_lasts

pub returns-clause-labels : goal.returns-clause-labels
returns-clause-labels c = labels_stay
