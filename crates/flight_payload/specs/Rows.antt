-- The rows that values are written in.
use Rattle.std.specs.Prelude.{ℕ, ◌≡◌, ◌<◌, ◌^◌, true, false, List, [], ◌∷◌, codes, Option, Some, None}
use Rattle.json.specs.Token.{Token}
use Rattle.serde_json.specs.Data.{Data}
use Rattle.serde_json.specs.Read.{read}
use Rattle.serde_json.specs.Written.{compact_text}
use Rattle.flight_value.specs.declared.graph.Atom.{Atom}
use Rattle.flight_value.specs.declared.graph.Atom.TheVariants as atom
use Rattle.flight_text.specs.Whole.{has_whole_numbers}
use Rattle.flight_row.specs.declared.row.Row.{Row}
use Rattle.flight_row.specs.declared.row.RowKind.{RowKind}
use Rattle.flight_row.specs.Written as rows
use Rattle.flight_place.specs.declared.manner.Manner.TheVariants.{Wire}
use Rattle.flight_meaning.specs.declared.place.Place.{Place}
use Rattle.flight_meaning.specs.declared.place.Place.TheVariants as place
use Rattle.flight_place.specs.Rows.{IsTree}
use Rattle.flight_payload.specs.Tree.{Tree, single, object, no_props, prop_and, places_from}
use Rattle.flight_payload.specs.Written.{tokens_of, IsReadable}

-- a row that can be written
pub record IsRow (number : ℕ) (kind : RowKind) (row : Row) : Type 0 where
  pub same_id : row.id ≡ number
  pub same_kind : row.kind ≡ kind
  pub writable : rows.IsWritable row

-- ---- what a reader finds in a row

-- nothing
abbrev pub HasNoPlaces : Row → Type 0
HasNoPlaces row = IsTree Wire row (record { kind = row.kind; places = [] })

-- one atom
abbrev pub HasAtom : Atom → Row → Type 0
HasAtom a row = IsTree Wire row (record { kind = row.kind; places = place.Atom a ∷ [] })

-- a value, whose places are numbered from 0
abbrev pub HasTree : Tree → Row → Type 0
HasTree t row = IsTree Wire row (record { kind = row.kind; places = places_from 0 t })

-- the value whose tokens these are, if there is one
abbrev pub HasWritten : List Token → Row → Type 0
HasWritten written row = (t : Tree) → written ≡ tokens_of t → IsReadable t → HasTree t row

-- ---- client modules

-- compact JSON, which is read as JSON of whole numbers
pub record IsModule (text : List ℕ) : Type 0 where
  pub meant : Data
  pub is_read : read text ≡ Some meant
  pub are_whole : has_whole_numbers meant ≡ true
  pub is_compact : text ≡ compact_text meant

-- the JSON of a text, compact
pub record IsModuleOf (json text : List ℕ) : Type 0 where
  pub is_module : IsModule text
  pub same : read text ≡ read json

-- no JSON of whole numbers
abbrev pub IsNoModule : List ℕ → Type 0
IsNoModule json = (meant : Data) → read json ≡ Some meant → has_whole_numbers meant ≡ false

-- ---- server references

-- an id that rows may have, where there is one
abbrev pub IsBelow : Option ℕ → Type 0
IsBelow (Some id) = id < 2 ^ 31
IsBelow None = Unit {0}

-- the promise of bound arguments, by the id of its row
abbrev pub bound_place : Option ℕ → Place
bound_place (Some id) = place.Promise id
bound_place None = place.Atom atom.Null

abbrev pub action_tree : List ℕ → Option ℕ → Tree
action_tree name bound = object (prop_and (codes "bound") (single (bound_place bound)) (prop_and (codes "id") (single (place.Atom (atom.Text name))) no_props))
