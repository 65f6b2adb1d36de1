use Rattle.std.proofs.Common.{◌≡◌, ◌≤◌, ◌+◌, ◌-◌, ℕ, List, length}
use Rattle.flight_base.specs.Outside.{Takes}
use Rattle.flight_client.specs.Held.{HasTaken}
use Rattle.flight_top.specs.View.{most_stream}
use Rattle.flight_top.proofs.view.take_stream.Given as goal

abbrev pub invariant-turns : goal.invariant-turns
invariant-turns g l = record {
  taken : (text : List ℕ) × Takes (g.S.Source.left l.fn.source) (g.S.Source.left l.source) text × (length text ≡ l.taken) × HasTaken text l.client;
  later : g.S.Source.faults l.fn.source ≤ g.S.Source.faults l.source;
}

abbrev pub decreases-turns : goal.decreases-turns
decreases-turns g l = most_stream + 1 - l.taken
