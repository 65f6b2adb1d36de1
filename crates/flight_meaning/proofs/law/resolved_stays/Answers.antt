use Rattle.flight_meaning.proofs.MoreRows.{place-more}
use Rattle.flight_meaning.proofs.MoreMeaning.{leads-more, shape-more, stream-grows, defined-more}
use Rattle.flight_meaning.proofs.Settled.{settled-stays}
use Rattle.flight_meaning.proofs.law.resolved_stays.Goals as goal

pub returns-clause-places : goal.returns-clause-places
returns-clause-places c = place-more

pub returns-clause-targets : goal.returns-clause-targets
returns-clause-targets c = leads-more

pub returns-clause-settled : goal.returns-clause-settled
returns-clause-settled c = settled-stays

pub returns-clause-nodes : goal.returns-clause-nodes
returns-clause-nodes c = shape-more

pub returns-clause-streams : goal.returns-clause-streams
returns-clause-streams c = stream-grows

pub returns-clause-defined : goal.returns-clause-defined
returns-clause-defined c = defined-more
