use Rattle.std.proofs.Common.{◌≡◌, ℕ, ◌+◌, ◌*◌, ◌≤◌, length}
use Rattle.json.specs.Json.{items, members, value, parse_map}
use Rattle.serde_json.specs.Data.{no_members}
use Rattle.serde_json.specs.Read.{of_items, of_members, converted}
use Rattle.flight_text.specs.Ordered.{OrderedMembers}
use Rattle.flight_place.specs.Parsed.{gathered_data}
use Rattle.flight_place.proofs.Parsing.{behind}
use Rattle.flight_place.proofs.reading.+read.Given as goal

abbrev pub decreases-read_value : goal.decreases-read_value
decreases-read_value l = 3 * l.levels + 1

abbrev pub decreases-read_from : goal.decreases-read_from
decreases-read_from l = 3 * l.levels

abbrev pub decreases-read_items : goal.decreases-read_items
decreases-read_items l = 3 * l.levels + 2

abbrev pub decreases-read_members : goal.decreases-read_members
decreases-read_members l = 3 * l.levels + 2

abbrev pub invariant-read_items-items : goal.invariant-read_items-items
invariant-read_items-items l =
    (turns : ℕ) × (length l.reader ≤ turns)
    × (converted of_items (items (value l.levels) (length l.initial.reader) l.initial.reader) ≡ parse_map (behind l.found.items) (converted of_items (items (value l.levels) turns l.reader)))
    × (length l.reader ≤ length l.initial.reader)

abbrev pub decreases-read_items-items : goal.decreases-read_items-items
decreases-read_items-items l = length l.reader

abbrev pub invariant-read_members-members : goal.invariant-read_members-members
invariant-read_members-members l =
    (turns : ℕ) × (length l.reader ≤ turns)
    × (converted (λ ms. of_members ms no_members) (members (value l.levels) (length l.initial.reader) l.initial.reader) ≡ converted (λ ms. of_members ms (gathered_data l.found)) (members (value l.levels) turns l.reader))
    × (length l.reader ≤ length l.initial.reader)
    × OrderedMembers (gathered_data l.found)

abbrev pub decreases-read_members-members : goal.decreases-read_members-members
decreases-read_members-members l = length l.reader
