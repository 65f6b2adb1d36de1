use Rattle.std.proofs.Common.{◌≡◌, take}
use Rattle.flight_emit.proofs.scene.share_all.Given as goal

abbrev pub invariant-loop-list : goal.invariant-loop-list
invariant-loop-list l = record { copied : l.shared.items ≡ take l.list-index l.lists }
