use Rattle.std.proofs.Common.{ℕ, ◌+◌, ◌*◌, ◌≤◌, ◌<◌, ◌∷◌, length}
use Rattle.json.specs.Json.{items, value}
use Rattle.json.specs.Reads.{token_of}
use Rattle.serde_json.specs.Read.{of_items, converted}
use Rattle.flight_place.proofs.OneByOne.{Awaits}
use Rattle.flight_place.proofs.placing.+place.Given as goal

abbrev pub decreases-place_next : goal.decreases-place_next
decreases-place_next l = 5 * l.levels + 1

abbrev pub decreases-place : goal.decreases-place
decreases-place l = 5 * l.levels

abbrev pub decreases-place_array : goal.decreases-place_array
decreases-place_array l = 5 * l.levels + 4

abbrev pub decreases-place_unmarked : goal.decreases-place_unmarked
decreases-place_unmarked l = 5 * l.levels + 3

abbrev pub decreases-place_items : goal.decreases-place_items
decreases-place_items l = 5 * l.levels + 2

abbrev pub invariant-place_items-items : goal.invariant-place_items-items
invariant-place_items-items l =
    (turns : ℕ) × (length l.reader ≤ turns)
    × Awaits l.manner l.fn.out.items l.out.items l.numbers.items (converted of_items (items (value l.levels) (length l.fn.reader + 1) (token_of l.first ∷ l.fn.reader))) (converted of_items (items (value l.levels) turns l.reader))
    × (length l.reader < length l.fn.reader + 1)

abbrev pub decreases-place_items-items : goal.decreases-place_items-items
decreases-place_items-items l = length l.reader
