-- JSON as lists, and looking into it.
use Rattle.std.specs.Prelude.{ℕ, ◌==◌, if◌then◌else◌, Bool, false, List, [], ◌∷◌, length, Option, None, option_map, is_some, unwrap_or}
use Rattle.std.specs.Option.{option_map_or}
use Rattle.std.specs.List.{list_all, list_any}
use Rattle.std.specs.Str.{bytes_eq}
use Rattle.serde_json.specs.Data.{Data, Items, no_items, item, Members, no_members, member}
use Rattle.serde_json.specs.Find.{get, as_str, as_array, as_object}

abbrev pub items : Items → List Data
items no_items = []
items (item d ds) = d ∷ items ds

-- a name and a value
abbrev pub Member : Type 0
Member = List ℕ × Data

-- by the bytes of their names
abbrev pub members : Members → List Member
members no_members = []
members (member name d ms) = (name, d) ∷ members ms

-- the items of an array
abbrev pub as_list : Data → Option (List Data)
as_list d = option_map items (as_array d)

-- the same; of what is no array, none
abbrev pub list_of : Data → List Data
list_of d = unwrap_or (as_list d) []

-- the items of the array that is an object's member of that name, if there is one
abbrev pub list_at : List ℕ → Data → List Data
list_at name d = option_map_or list_of (get name d) []

-- the members of an object
abbrev pub as_members : Data → Option (List Member)
as_members d = option_map members (as_object d)

abbrev pub member_count : Data → ℕ
member_count d = option_map_or length (as_members d) 0

-- the value of the only member of an object, where that is its name
abbrev pub only : List ℕ → Data → Option Data
only name d = if member_count d == 1 then get name d else None

-- whether a name is one of these
abbrev pub is_among : List (List ℕ) → List ℕ → Bool
is_among names name = list_any (λ n. bytes_eq n name) names

-- whether it is an object all of whose names are among these
abbrev pub has_only : List (List ℕ) → Data → Bool
has_only names d = option_map_or (list_all (λ m. is_among names m.0)) (as_members d) false

-- a text; what is none counts as the empty one
abbrev pub text : Data → List ℕ
text d = unwrap_or (as_str d) []

-- whether it is an array of texts
abbrev pub are_texts : Data → Bool
are_texts d = option_map_or (list_all (λ t. is_some (as_str t))) (as_list d) false
