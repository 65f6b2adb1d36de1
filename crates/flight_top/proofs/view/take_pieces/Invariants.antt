use Rattle.std.proofs.Common.{◌≡◌, ℕ, List, ◌++◌, length}
use Rattle.flight_client.specs.Held.{HasTaken}
use Rattle.flight_top.proofs.view.take_pieces.Given as goal

abbrev pub invariant-loop-left : goal.invariant-loop-left
invariant-loop-left l = record {
  taken : (done : List ℕ) × (l.fn.bytes ≡ done ++ l.left) × ((text : List ℕ) → HasTaken text l.fn.client → HasTaken (text ++ done) l.client);
}

abbrev pub decreases-loop-left : goal.decreases-loop-left
decreases-loop-left l = length l.left
