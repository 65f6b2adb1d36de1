-- What the walk over a payload visits, and the places that stand for it.
use Rattle.std.specs.Prelude.{ℕ, ◌+◌, ◌≡◌, ◌⊎◌, if◌then◌else◌, Bool, true, false, ℤ, List, [], ◌∷◌, ◌++◌, Option, Some, None}
use Rattle.std.specs.List.{AllZip}
use Rattle.serde_json.specs.Data.{Data, null, boolean, number, string, array, object, Items, no_items, item, Members, no_members, member}
use Rattle.flight_value.specs.declared.graph.Atom.TheVariants as atom
use Rattle.flight_text.specs.declared.mark.Mark.{Mark}
use Rattle.flight_text.specs.declared.mark.Mark.TheVariants as mark
use Rattle.flight_text.specs.Mark.{IsSpelling}
use Rattle.flight_text.specs.Whole.{whole_of}
use Rattle.flight_meaning.specs.declared.place.Place.{Place}
use Rattle.flight_meaning.specs.declared.place.Place.TheVariants as place
use Rattle.flight_meaning.specs.declared.place.Named.{Named}
use Rattle.flight_place.specs.declared.manner.Manner.{Manner}
use Rattle.flight_place.specs.declared.manner.Manner.TheVariants.{Wire, Reply}
use Rattle.flight_place.specs.declared.fault.PlaceKind.{PlaceKind}
use Rattle.flight_place.specs.declared.fault.PlaceKind.TheVariants.{Number, BadToken, BadElement}
use Rattle.flight_place.specs.Tokens.{is_dollar, is_text, is_barred, place_of}

-- what is visited at a number: a known place, a string that may stand for one, or a fault
pub data Visit : Type 0 where
  placed : Place → Visit
  token : (at : ℕ) (text : List ℕ) → Visit
  faulty : PlaceKind → Visit

-- ---- numbers

abbrev pub number_visit : Option ℤ → Visit
number_visit (Some z) = placed (place.Atom (atom.Whole z))
number_visit None = faulty Number

-- ---- elements

abbrev pub is_mark : Data → Bool
is_mark (string s) = is_dollar s
is_mark d = false

-- whether the first item is the string `$`
abbrev pub is_marked : Items → Bool
is_marked no_items = false
is_marked (item d ds) = is_mark d

-- null, or a string that stands for a text
abbrev pub is_key : Data → Bool
is_key null = true
is_key (string s) = is_text s
is_key d = false

-- a mark, a type, a key and props
abbrev pub is_element : Items → Bool
is_element (item first (item type (item key (item props no_items)))) = is_key key
is_element ds = false

-- the place of an element, by the numbers of what stands behind its mark
abbrev pub element_of : List ℕ → Place
element_of (type ∷ key ∷ props ∷ []) = place.Element type key props
element_of numbers = place.Array numbers

-- an element's mark has a number of its own, and a reply has no elements
abbrev pub mark_visit : Manner → ℕ → Visit
mark_visit Wire n = placed (place_of mark.Element)
mark_visit Reply n = faulty (BadToken n)

-- ---- how many places a value has

abbrev mutual
  pub count : Data → ℕ
  count null = 1
  count (boolean b) = 1
  count (number x) = 1
  count (string s) = 1
  count (array ds) = 1 + item_count ds
  count (object ms) = 1 + member_count ms

  pub item_count : Items → ℕ
  item_count no_items = 0
  item_count (item d ds) = count d + item_count ds

  pub member_count : Members → ℕ
  member_count no_members = 0
  member_count (member name d ms) = count d + member_count ms

-- the numbers of items from n on
abbrev pub item_numbers : ℕ → Items → List ℕ
item_numbers n no_items = []
item_numbers n (item d ds) = n ∷ item_numbers (n + count d) ds

-- the properties whose values have the numbers from n on
abbrev pub member_numbers : ℕ → Members → List Named
member_numbers n no_members = []
member_numbers n (member name d ms) = record { name = name; place = n } ∷ member_numbers (n + count d) ms

-- ---- the walk

-- from number n on: a value before its items, items in order, and members as they stand, by the bytes of their names
abbrev mutual
  pub visits : Manner → ℕ → Data → List Visit
  visits manner n null = placed (place.Atom atom.Null) ∷ []
  visits manner n (boolean b) = placed (place.Atom (atom.Bool b)) ∷ []
  visits manner n (number x) = number_visit (whole_of x) ∷ []
  visits manner n (string s) = token n s ∷ []
  visits manner n (array ds) =
      if is_marked ds then (if is_element ds then element_visits manner n ds else faulty (BadElement n) ∷ [])
      else placed (place.Array (item_numbers (n + 1) ds)) ∷ item_visits manner (n + 1) ds
  visits manner n (object ms) = placed (place.Object (member_numbers (n + 1) ms)) ∷ member_visits manner (n + 1) ms

  -- an element, its mark, and what stands behind the mark
  pub element_visits : Manner → ℕ → Items → List Visit
  element_visits manner n no_items = []
  element_visits manner n (item d ds) = placed (element_of (item_numbers (n + 2) ds)) ∷ mark_visit manner (n + 1) ∷ item_visits manner (n + 2) ds

  pub item_visits : Manner → ℕ → Items → List Visit
  item_visits manner n no_items = []
  item_visits manner n (item d ds) = visits manner n d ++ item_visits manner (n + count d) ds

  pub member_visits : Manner → ℕ → Members → List Visit
  member_visits manner n no_members = []
  member_visits manner n (member name d ms) = visits manner n d ++ member_visits manner (n + count d) ms

abbrev pub array_visits : Manner → ℕ → Items → List Visit
array_visits manner n ds = placed (place.Array (item_numbers (n + 1) ds)) ∷ item_visits manner (n + 1) ds

-- what an array that begins with a mark brings
abbrev pub marked_visits : Manner → ℕ → Items → List Visit
marked_visits manner n ds = if is_element ds then element_visits manner n ds else faulty (BadElement n) ∷ []

abbrev pub object_visits : Manner → ℕ → Members → List Visit
object_visits manner n ms = placed (place.Object (member_numbers (n + 1) ms)) ∷ member_visits manner (n + 1) ms

-- ---- places

-- a string has the place of what it spells, where it may stand there
pub record IsToken (manner : Manner) (text : List ℕ) (at : Place) : Type 0 where
  pub allowed : is_barred manner text ≡ false
  pub spelled : Mark
  pub spells : IsSpelling text spelled
  pub is_place : at ≡ place_of spelled

-- the place that stands for what was visited
abbrev pub HasPlace : Manner → Visit → Place → Type 0
HasPlace manner (placed p) at = at ≡ p
HasPlace manner (token n text) at = IsToken manner text at
HasPlace manner (faulty kind) at = ⊥

-- one place for each visit, in order
abbrev pub HavePlaces : Manner → List Visit → List Place → Type 0
HavePlaces manner visited places = AllZip (HasPlace manner) visited places

-- ---- the first fault

-- a string without a place is a bad token
abbrev pub IsFault : Manner → Visit → PlaceKind → Type 0
IsFault manner (placed p) kind = ⊥
IsFault manner (token n text) kind = ((at : Place) → ¬ IsToken manner text at) × (kind ≡ BadToken n)
IsFault manner (faulty k) kind = kind ≡ k

-- all before it have places
abbrev pub IsFirstFault : Manner → List Visit → PlaceKind → Type 0
IsFirstFault manner [] kind = ⊥
IsFirstFault manner (v ∷ vs) kind = IsFault manner v kind ⊎ ((at : Place) × HasPlace manner v at × IsFirstFault manner vs kind)
