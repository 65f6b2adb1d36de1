-- What a writer puts into rows: each value as it is written, with what is meant at each place, before places have
-- numbers.
use Rattle.std.specs.Prelude.{ℕ, ◌+◌, List, [], ◌∷◌, ◌++◌, map, flat_map, codes, Option, Some, None, option_map}
use Rattle.flight_value.specs.Store as store
use Rattle.flight_value.specs.Store.{Label}
use Rattle.flight_value.specs.declared.graph.Atom.TheVariants as atom
use Rattle.flight_value.specs.declared.graph.Flow.{Flow}
use Rattle.flight_value.specs.declared.key.Key.{Key}
use Rattle.flight_text.specs.declared.mark.Ref.{Ref}
use Rattle.flight_row.specs.declared.row.RowKind.{RowKind}
use Rattle.flight_row.specs.declared.row.RowKind.TheVariants as row
use Rattle.flight_home.specs.Homes.{Homes}
use Rattle.flight_render.specs.Jobs.{Value}
use Rattle.flight_meaning.specs.declared.place.Place.{Place}
use Rattle.flight_meaning.specs.declared.place.Place.TheVariants as place
use Rattle.flight_meaning.specs.declared.place.PlacedRow.{PlacedRow}
use Rattle.flight_meaning.specs.Linked.{Spot}
use Rattle.flight_meaning.specs.Meaning.{Token, map_token, set_token}
use Rattle.flight_payload.specs.Tree.{Tree, single, array, object, element, Props, no_props, prop_and, trees_of, count, places_from}
use Rattle.flight_state.specs.Emits.{Meant}

-- ---- a value as it is written

-- a value that is meant, and the node that it is
pub record Note : Type 0 where
  pub value : Value
  pub key : Key

pub data Form : Type 0 where
  as_array : Form
  as_object : Form
  as_element : Form

mutual
  pub data Drawn : Type 0 where
    -- an atom or a reference, with the value that is meant there, if one is
    leaf : (meant : Option Value) (place : Place) → Drawn
    -- the token of a Map or a Set, whose entries stand in the row of an id
    token : (note : Note) (kind : Token) (entries : ℕ) → Drawn
    -- a composite and what is in it, each part under the name of the step to it; with its node, if it is one
    composite : (note : Option Note) (form : Form) (parts : Parts) → Drawn

  pub data Parts : Type 0 where
    no_parts : Parts
    part_and : (name : List ℕ) (drawn : Drawn) (rest : Parts) → Parts

abbrev pub names_in : Parts → List (List ℕ)
names_in no_parts = []
names_in (part_and name drawn rest) = name ∷ names_in rest

-- ---- as a tree of places

abbrev pub token_place : Token → ℕ → Place
token_place map_token id = place.Map (record { id = id; path = [] })
token_place set_token id = place.Set (record { id = id; path = [] })

abbrev pub props_with : List (List ℕ) → List Tree → Props
props_with (name ∷ names) (t ∷ ts) = prop_and name t (props_with names ts)
props_with names ts = no_props

-- an element has three parts
abbrev pub composed : Form → List (List ℕ) → List Tree → Tree
composed as_array names ts = array (trees_of ts)
composed as_object names ts = object (props_with names ts)
composed as_element names (tag ∷ key ∷ props ∷ []) = element tag key props
composed as_element names ts = single (place.Atom atom.Undefined)

abbrev mutual
  pub tree_of : Drawn → Tree
  tree_of (leaf meant p) = single p
  tree_of (token noted kind id) = single (token_place kind id)
  tree_of (composite noted form parts) = composed form (names_in parts) (trees_in parts)

  pub trees_in : Parts → List Tree
  trees_in no_parts = []
  trees_in (part_and name drawn rest) = tree_of drawn ∷ trees_in rest

-- ---- what is meant at its numbers

-- the part of a composite that comes first stands so many places after its own; an element's mark has a place
abbrev pub head : Form → ℕ
head as_array = 1
head as_object = 1
head as_element = 2

abbrev pub value_in : Option Note → Option Value
value_in o = option_map (λ note. note.value) o

abbrev pub value_at : Drawn → Option Value
value_at (leaf meant p) = meant
value_at (token note kind id) = Some note.value
value_at (composite noted form parts) = value_in noted

abbrev pub values_in : Parts → List (Option Value)
values_in no_parts = []
values_in (part_and name drawn rest) = value_at drawn ∷ values_in rest

-- a value with its number, where one is meant
abbrev pub numbered : ℕ → Option Value → List (ℕ × Value)
numbered n None = []
numbered n (Some v) = (n, v) ∷ []

abbrev mutual
  pub meant_from : ℕ → Drawn → List (ℕ × Value)
  meant_from n (leaf meant p) = numbered n meant
  meant_from n (token note kind id) = (n, note.value) ∷ []
  meant_from n (composite noted form parts) = numbered n (value_in noted) ++ meant_in (n + head form) parts

  pub meant_in : ℕ → Parts → List (ℕ × Value)
  meant_in n no_parts = []
  meant_in n (part_and name drawn rest) = meant_from n drawn ++ meant_in (n + count (tree_of drawn)) rest

-- ---- which nodes are at home in it

-- where a step of this name leads from a reference
abbrev pub below : Ref → List ℕ → Ref
below r name = record { id = r.id; path = r.path ++ name ∷ [] }

abbrev pub home_of : Ref → Option Note → Homes
home_of r None = []
home_of r (Some note) = (note.key, r) ∷ []

abbrev mutual
  pub homes_in : Ref → Drawn → Homes
  homes_in r (leaf meant p) = []
  homes_in r (token note kind id) = (note.key, r) ∷ []
  homes_in r (composite noted form parts) = home_of r noted ++ homes_of r parts

  pub homes_of : Ref → Parts → Homes
  homes_of r no_parts = []
  homes_of r (part_and name drawn rest) = homes_in (below r name) drawn ++ homes_of r rest

-- ---- rows

-- a row on paper: what is written in it, or the opening of a stream
pub data Sheet : Type 0 where
  filled : (id : ℕ) (kind : RowKind) (drawn : Drawn) → Sheet
  opening : (id : ℕ) (flow : Flow) → Sheet

abbrev pub id_on : Sheet → ℕ
id_on (filled id kind drawn) = id
id_on (opening id flow) = id

abbrev pub row_of : Sheet → PlacedRow
row_of (filled id kind drawn) = record { id = id; tree = record { kind = kind; places = places_from 0 (tree_of drawn) } }
row_of (opening id flow) = record { id = id; tree = record { kind = row.Open flow; places = [] } }

abbrev pub root : ℕ → Ref
root id = record { id = id; path = [] }

abbrev pub homes_on : Sheet → Homes
homes_on (filled id kind drawn) = homes_in (root id) drawn
homes_on (opening id flow) = []

abbrev pub spot : ℕ → ℕ → Spot
spot id n = record { id = id; nth = 0; at = n }

abbrev pub spotted : ℕ → ℕ × Value → Spot × Value
spotted id p = (spot id p.0, p.1)

abbrev pub meant_on : Sheet → Meant
meant_on (filled id kind drawn) = map (spotted id) (meant_from 0 drawn)
meant_on (opening id flow) = []

abbrev pub meant_of : List Sheet → Meant
meant_of sheets = flat_map meant_on sheets

abbrev pub rows_on : List Sheet → List PlacedRow
rows_on sheets = map row_of sheets

-- ---- labels

abbrev pub label_of : Form → List (List ℕ) → Label
label_of as_array names = store.array
label_of as_object names = store.object names
label_of as_element names = store.element

-- the values of an entry of a Map: an array of two
abbrev pub entry_values : Drawn → List (Option Value)
entry_values (composite None as_array (part_and a key (part_and b value no_parts))) = value_at key ∷ value_at value ∷ []
entry_values drawn = None ∷ []

abbrev pub all_entries : Parts → List (Option Value)
all_entries no_parts = []
all_entries (part_and name drawn rest) = entry_values drawn ++ all_entries rest

-- the values of a Map or a Set, by the parts of the array of its entries
abbrev pub values_of : Token → Parts → List (Option Value)
values_of map_token parts = all_entries parts
values_of set_token parts = values_in parts

-- the row of a server reference: what is bound to it, and its name
abbrev pub reference_parts : Value → Place → List ℕ → Parts
reference_parts bound p name = part_and (codes "bound") (leaf (Some bound) p) (part_and (codes "id") (leaf None (place.Atom (atom.Text name))) no_parts)
