use Rattle.std.proofs.Common.{ℕ, ◌≡◌, ◌≤◌, false, length, None}
use Rattle.flight_link.specs.Nodes.{AreStates, has_ended}
use Rattle.flight_link.specs.Backlogs.{AreListed, HasRoom}
use Rattle.flight_link.proofs.table.Table.settle.Given as goal

abbrev pub invariant-loop-fresh : goal.invariant-loop-fresh
invariant-loop-fresh l = record {
  states : AreStates l.self l.states;
  listed : AreListed l.fresh None l.states l.backlog;
  room : HasRoom l.states l.backlog;
  count : l.fresh-end ≡ length l.states;
  fresh : (n : ℕ) → l.fresh ≤ n → has_ended l.states n ≡ false;
}
