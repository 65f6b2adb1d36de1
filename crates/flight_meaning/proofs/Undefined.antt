-- The least id that a reference names and that is not defined.
use Rattle.std.proofs.Common.{◌≡◌, ℕ, List, Option, Some, None, refl, ap, le_antisymm}
use Rattle.flight_meaning.specs.declared.place.PlacedRow.{PlacedRow}
use Rattle.flight_meaning.specs.Good.{IsLeastUndefined}

pub one_least : (rows : List PlacedRow) (a b : Option ℕ) → IsLeastUndefined rows a → IsLeastUndefined rows b → a ≡ b
one_least rows (Some a) (Some b) x y = ap Some (le_antisymm (x.1 b y.0) (y.1 a x.0))
one_least rows (Some a) None x y = absurd (x.0.3 (y x.0.0 x.0.1))
one_least rows None (Some b) x y = absurd (y.0.3 (x y.0.0 y.0.1))
one_least rows None None x y = refl
