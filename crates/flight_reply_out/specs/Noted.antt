-- What noting where slots lead changes; for private clauses.
use Rattle.std.specs.Prelude.{ℕ, ◌<◌, ◌≡◌, List, length, slice_index_or, Option, None}
use Rattle.flight_value.specs.declared.graph.Slot.{Slot}
use Rattle.flight_reply_out.specs.declared.origin.Origin.{Origin}
use Rattle.flight_reply_out.specs.Origins.{named_before}

-- the slots of node n, numbered from i on, were noted for each node
pub record Notes (n i : ℕ) (slots : List Slot) (old new : List (Option Origin)) : Type 0 where
  pub same_length : length new ≡ length old
  pub each : (m : ℕ) → m < length old → slice_index_or new m None ≡ named_before m n i slots (slice_index_or old m None)
