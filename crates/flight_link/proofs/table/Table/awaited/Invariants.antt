use Rattle.flight_link.proofs.Waits.{IsChain}
use Rattle.flight_link.proofs.table.Table.awaited.Given as goal

abbrev pub invariant-chain : goal.invariant-chain
invariant-chain l = IsChain l.self l.states l.node l.behind l.counter
