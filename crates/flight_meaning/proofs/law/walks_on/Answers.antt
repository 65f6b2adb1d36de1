use Rattle.flight_meaning.proofs.MoreRows.{end-more, waited-more, leads_nowhere-more}
use Rattle.flight_meaning.proofs.Settled.{ends-back}
use Rattle.flight_meaning.proofs.law.walks_on.Goals as goal

pub returns-clause-ended : goal.returns-clause-ended
returns-clause-ended c = end-more

pub returns-clause-waited : goal.returns-clause-waited
returns-clause-waited c rows more s id path f w = let a = waited-more rows more s id path w in (a.forth f, a.back f)

pub returns-clause-waited_endless : goal.returns-clause-waited_endless
returns-clause-waited_endless c rows more s id path w = let a = waited-more rows more s id path w in (a.endless_on, a.endless_of)

pub returns-clause-nowhere : goal.returns-clause-nowhere
returns-clause-nowhere c = leads_nowhere-more

pub returns-clause-back : goal.returns-clause-back
returns-clause-back c = ends-back
