use Rattle.std.proofs.Common.{◌≡◌, ℕ, drop, length}
use Rattle.std.specs.Prelude.{◌==◌, slice_get}
use Rattle.std.specs.List.{list_any}
use Rattle.flight_script.proofs.Seeing.{also}
use Rattle.flight_script.proofs.seen.mark_all.Given as goal

abbrev pub invariant-loop-number : goal.invariant-loop-number
invariant-loop-number l = record {
  len : length l.settled.items ≡ length l.fn.settled.items;
  marks : (i : ℕ) → also (list_any (λ n. n == i) (drop l.number-index l.numbers)) (slice_get l.settled.items i) ≡ also (list_any (λ n. n == i) l.numbers) (slice_get l.fn.settled.items i);
}
