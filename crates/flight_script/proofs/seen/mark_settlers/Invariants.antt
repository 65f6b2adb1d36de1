use Rattle.std.proofs.Common.{◌≡◌, ℕ, drop, length}
use Rattle.std.specs.Prelude.{◌==◌, slice_get}
use Rattle.std.specs.List.{list_any}
use Rattle.flight_script.proofs.Seeing.{also}
use Rattle.flight_script.proofs.seen.mark_settlers.Given as goal

abbrev pub invariant-loop-own : goal.invariant-loop-own
invariant-loop-own l = record {
  len : length l.settled.items ≡ length l.fn.settled.items;
  marks : (i : ℕ) → also (list_any (λ own. list_any (λ n. n == i) own) (drop l.own-index l.settlers)) (slice_get l.settled.items i) ≡ also (list_any (λ own. list_any (λ n. n == i) own) l.settlers) (slice_get l.fn.settled.items i);
}
