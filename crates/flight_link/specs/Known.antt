-- What is known of ids.
use Rattle.std.specs.Prelude.{ℕ, nat_eq, ◌≡◌, cond, List, slice_get, Option, Some, option_and_then}
use Rattle.std.specs.Option.{option_or}
use Rattle.std.specs.HashMap.{get}
use Rattle.flight_link.specs.declared.ids.Known.{Known}
use Rattle.flight_link.specs.declared.ids.Ids.{Ids}

-- in the cell of an id
abbrev pub known_in : List (Option Known) → ℕ → Option Known
known_in cells id = option_and_then (λ o. o) (slice_get cells id)

-- in its cell, or else in the map
abbrev pub known_of : Ids → ℕ → Option Known
known_of ids id = option_or (known_in ids.dense.items id) (get nat_eq ids.sparse id)

-- this is known of an id now, and of each other id what was
abbrev pub Learns : Ids → ℕ → Known → Ids → Type 0
Learns old id known new = (q : ℕ) → known_of new q ≡ cond (nat_eq id q) (Some known) (known_of old q)
