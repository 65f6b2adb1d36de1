-- The places of a row.
use Rattle.std.specs.Prelude.{ℕ, ◌≡◌, ◌==◌, if◌then◌else◌, List, [], ◌∷◌, length, codes, Option, Some, None, option_and_then}
use Rattle.serde_json.specs.Data.{Data}
use Rattle.serde_json.specs.Read.{read}
use Rattle.serde_json.specs.Find.{get, as_str}
use Rattle.serde_json.specs.Written.{compact_text}
use Rattle.flight_value.specs.declared.graph.Atom.TheVariants as atom
use Rattle.flight_text.specs.Whole.{has_whole_numbers}
use Rattle.flight_row.specs.declared.row.Row.{Row}
use Rattle.flight_row.specs.declared.row.RowKind.{RowKind}
use Rattle.flight_row.specs.declared.row.RowKind.TheVariants as row
use Rattle.flight_meaning.specs.declared.place.Place.TheVariants as place
use Rattle.flight_place.specs.declared.manner.Manner.{Manner}
use Rattle.flight_meaning.specs.declared.place.PlaceTree.{PlaceTree}
use Rattle.flight_place.specs.declared.fault.PlaceKind.{PlaceKind}
use Rattle.flight_place.specs.declared.fault.PlaceKind.TheVariants.{BadModel, Number}
use Rattle.flight_place.specs.Places.{Visit, placed, faulty, visits, HavePlaces, IsFirstFault}

-- ---- what is visited in a row, by its kind

-- a value, or no JSON
abbrev pub model_visits : Manner → Option Data → List Visit
model_visits manner (Some d) = visits manner 0 d
model_visits manner None = faulty BadModel ∷ []

-- one atom: the JSON with no space, whose strings are no tokens
abbrev pub import_visit : Option Data → Visit
import_visit (Some d) = if has_whole_numbers d then placed (place.Atom (atom.Import (compact_text d))) else faulty Number
import_visit None = faulty BadModel

-- the text `digest` of an object
abbrev pub digest_of : Data → Option (List ℕ)
digest_of d = option_and_then as_str (get (codes "digest") d)

abbrev pub failed_visit : Option (List ℕ) → Visit
failed_visit (Some digest) = placed (place.Atom (atom.Failed digest))
failed_visit None = faulty BadModel

-- one atom: the digest
abbrev pub error_visit : Option Data → Visit
error_visit json = failed_visit (option_and_then digest_of json)

-- an open row has nothing in it; a close row may have a final value
abbrev pub row_visits : Manner → RowKind → List ℕ → List Visit
row_visits manner row.Model payload = model_visits manner (read payload)
row_visits manner row.Import payload = import_visit (read payload) ∷ []
row_visits manner row.Error payload = error_visit (read payload) ∷ []
row_visits manner row.Text payload = placed (place.Atom (atom.Text payload)) ∷ []
row_visits manner (row.Open flow) payload = if length payload == 0 then [] else faulty BadModel ∷ []
row_visits manner row.Close payload = if length payload == 0 then placed (place.Atom atom.Undefined) ∷ [] else model_visits manner (read payload)

-- ---- rows and their places

-- the places of the row
pub record IsTree (manner : Manner) (of_row : Row) (tree : PlaceTree) : Type 0 where
  pub same_kind : tree.kind ≡ of_row.kind
  pub have : HavePlaces manner (row_visits manner of_row.kind of_row.payload) tree.places

-- the row has no places, and this is the first fault in it
abbrev pub IsRowFault : Manner → Row → PlaceKind → Type 0
IsRowFault manner of_row kind = IsFirstFault manner (row_visits manner of_row.kind of_row.payload) kind
