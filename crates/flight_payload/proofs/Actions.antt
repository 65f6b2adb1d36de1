-- A server reference as it is written is read again.
use Rattle.std.proofs.Common.{ℕ, List, Option, Some, None, refl, arith}
use Rattle.std.specs.List.Sorted.{IsStrictlySortedBy}
use Rattle.flight_payload.specs.Written.{IsWritablePlace, IsReadable}
use Rattle.flight_payload.specs.Rows.{IsBelow, bound_place, action_tree}

bound_writable : (bound : Option ℕ) → IsBelow bound → IsWritablePlace (bound_place bound)
bound_writable (Some id) below = below
bound_writable None below = tt

pub action_readable : (name : List ℕ) (bound : Option ℕ) → IsBelow bound → IsReadable (action_tree name bound)
unfolding IsStrictlySortedBy
action_readable name bound below = record {
  writable = (((refl, tt), (tt, tt)), (bound_writable bound below, (tt, tt)));
  shallow = omega arith;
}
