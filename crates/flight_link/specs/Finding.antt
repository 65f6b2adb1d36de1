-- Where a reference leads, as an answer.
use Rattle.std.specs.Prelude.{ℕ, ◌≡◌, ◌⊎◌, List}
use Rattle.flight_text.specs.declared.mark.Ref.{Ref}
use Rattle.flight_meaning.specs.declared.place.PlacedRow.{PlacedRow}
use Rattle.flight_meaning.specs.Linked as linked
use Rattle.flight_meaning.specs.Linked.{first_place}
use Rattle.flight_meaning.specs.Resolve.{Path, to, found, stream, not_yet, Ends, LeadsNowhere}
use Rattle.flight_link.specs.declared.found.Found.{Found}
use Rattle.flight_link.specs.declared.found.Found.TheVariants as answer
use Rattle.flight_link.specs.Spots.{IsSpot}

-- to a place; to a stream by its opening row; not yet, by the id without a row that the walk meets; or nowhere
abbrev pub IsFound : List PlacedRow → Ref → Found → Type 0
IsFound rows reference (answer.At spot) =
    ((s : linked.Spot) × Ends rows (to reference.id reference.path) (found s) × IsSpot rows spot s)
    ⊎ ((id : ℕ) × Ends rows (to reference.id reference.path) (stream id) × IsSpot rows spot (first_place id))
IsFound rows reference (answer.NotYet id) = (path : Path) × Ends rows (to reference.id reference.path) (not_yet id path)
IsFound rows reference (answer.Nowhere id) = (id ≡ reference.id) × LeadsNowhere rows (to reference.id reference.path)
