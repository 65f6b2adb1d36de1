-- What writing one value comes to.
use Rattle.std.specs.Prelude.{ℕ, ◌≡◌, ◌<◌, ◌≤◌, ◌^◌, List, [], ◌∷◌, ◌++◌, map, codes, Option, Some, None}
use Rattle.json.specs.Token.{Token}
use Rattle.json.specs.Token as token
use Rattle.flight_value.specs.Graph.{Ascend}
use Rattle.flight_value.specs.Listed.{In}
use Rattle.flight_value.specs.declared.key.Key.{Key}
use Rattle.flight_text.specs.declared.mark.Ref.{Ref}
use Rattle.flight_render.specs.declared.root.Ground.{Ground}
use Rattle.flight_render.specs.Jobs.{Value}
use Rattle.flight_meaning.specs.declared.place.Place.{Place}
use Rattle.flight_meaning.specs.Meaning.{token_label}
use Rattle.flight_payload.specs.Tree.{depth}
use Rattle.flight_payload.specs.Written.{token_of, mark_token, tokens_of, IsWritablePlace, IsWritable, IsKey}
use Rattle.flight_state.specs.Local.{Seen, shape_seen}
use Rattle.flight_emit.specs.declared.work.Due.{Due}
use Rattle.flight_emit.specs.declared.work.Due.TheVariants as due
use Rattle.flight_emit.specs.Sheet.{Note, Form, as_array, as_object, as_element, Drawn, leaf, token as is_token, composite, Parts, no_parts, part_and, names_in, values_in, tree_of, value_at, homes_in, homes_of}
use Rattle.flight_emit.specs.Good.{Gives, IsLeaf, Entries, IsGood, AreGood}
use Rattle.flight_emit.specs.Log.{Act, value_of_key, homes_by, places_by, sheets_by, dues_by, Stage, Grows}

-- a value is written as an atom or a reference
pub record WroteLeaf (g : Ground) (seen : Seen) (v : Value) (old new : Stage) : Type 0 where
  pub acts : List Act
  pub place : Place
  pub grows : Grows g seen v acts old new
  pub tokens : new.out ≡ old.out ++ token_of place ∷ []
  pub leaf : (w : Value) × Gives g seen v w × IsLeaf g seen new.homes (sheets_by old.next acts) place w
  pub writable : IsWritablePlace place
  pub no_places : places_by acts ≡ []

-- the row of the entries is still to be written
abbrev pub AreDue : Ground → Seen → List Due → Entries
AreDue g seen dues k kind id = In (due.Entries id k) dues × ((slots : List Value) × (shape_seen g seen k ≡ Some (record { label = token_label kind; slots = slots })))

-- a value is written under a reference, with no more than so many arrays and objects around its innermost value
pub record Wrote (g : Ground) (seen : Seen) (r : Ref) (v : Value) (levels : ℕ) (old new : Stage) : Type 0 where
  pub acts : List Act
  pub drawn : Drawn
  pub grows : Grows g seen v acts old new
  pub tokens : new.out ≡ old.out ++ tokens_of (tree_of drawn)
  pub is_value : value_at drawn ≡ Some v
  pub good : IsGood g seen new.homes (homes_by old.next acts) (sheets_by old.next acts) (AreDue g seen (dues_by old.next acts)) r drawn
  pub placed : (k : Key) (a : Ref) → In (k, a) (places_by acts) → In (k, a) (homes_in r drawn)
  pub writable : IsWritable (tree_of drawn)
  pub shallow : depth (tree_of drawn) ≤ levels

-- a node has the row of an id, which may still be to be written; nothing is written yet that refers to it
pub record HasRow (g : Ground) (seen : Seen) (v : Value) (k : Key) (id : ℕ) (old new : Stage) : Type 0 where
  pub acts : List Act
  pub grows : Grows g seen v acts old new
  pub no_places : places_by acts ≡ []
  pub same : new.out ≡ old.out
  pub home : Ref
  pub is_home : In (k, home) new.homes
  pub is_id : id ≡ home.id
  pub below : id < 2 ^ 31

-- ---- the parts of a composite

abbrev pub part_tokens : Form → List ℕ → Drawn → List Token
part_tokens as_object name drawn = token.key name ∷ tokens_of (tree_of drawn)
part_tokens form name drawn = tokens_of (tree_of drawn)

abbrev pub tokens_in : Form → Parts → List Token
tokens_in form no_parts = []
tokens_in form (part_and name drawn rest) = part_tokens form name drawn ++ tokens_in form rest

abbrev pub AllWritable : Parts → Type 0
AllWritable no_parts = Unit {0}
AllWritable (part_and name drawn rest) = IsWritable (tree_of drawn) × AllWritable rest

abbrev pub AllWithin : ℕ → Parts → Type 0
AllWithin levels no_parts = Unit {0}
AllWithin levels (part_and name drawn rest) = (depth (tree_of drawn) ≤ levels) × AllWithin levels rest

-- values are written one after another below a reference, each under its name; they are met from a value
pub record WroteParts (g : Ground) (seen : Seen) (v : Value) (form : Form) (r : Ref) (names : List (List ℕ)) (values : List Value) (levels : ℕ) (old new : Stage) : Type 0 where
  pub acts : List Act
  pub parts : Parts
  pub grows : Grows g seen v acts old new
  pub tokens : new.out ≡ old.out ++ tokens_in form parts
  pub are_names : names_in parts ≡ names
  pub are_values : values_in parts ≡ map Some values
  pub good : AreGood g seen new.homes (homes_by old.next acts) (sheets_by old.next acts) (AreDue g seen (dues_by old.next acts)) r parts
  pub placed : (k : Key) (a : Ref) → In (k, a) (places_by acts) → In (k, a) (homes_of r parts)
  pub writable : AllWritable parts
  pub shallow : AllWithin levels parts

-- the tokens before a part: a property's name
abbrev pub name_tokens : Form → List ℕ → List Token
name_tokens as_object name = token.key name ∷ []
name_tokens form name = []

abbrev pub element_parts : Drawn → Drawn → Drawn → Parts
element_parts tag key props = part_and (codes "type") tag (part_and (codes "key") key (part_and (codes "props") props no_parts))

-- what a form needs to be read again: names that ascend, and an element's key that is null or a text
abbrev pub IsReadableForm : Form → Parts → Type 0
IsReadableForm as_array parts = Unit {0}
IsReadableForm as_object parts = Ascend (names_in parts)
IsReadableForm as_element parts = (tag : Drawn) × (key : Drawn) × (props : Drawn) × (parts ≡ element_parts tag key props) × IsKey (tree_of key)

-- the tokens around a composite's parts
abbrev pub opens : Form → List Token
opens as_array = token.begin_array ∷ []
opens as_object = token.begin_object ∷ []
opens as_element = token.begin_array ∷ mark_token ∷ []

abbrev pub closes : Form → List Token
closes as_object = token.end_object ∷ []
closes form = token.end_array ∷ []

-- ---- a node whose home is there already

abbrev pub note_at : Drawn → Option Note
note_at (leaf o at) = None
note_at (is_token note kind id) = Some note
note_at (composite noted form ps) = noted

-- a node is written whole at its home
pub record WroteNode (g : Ground) (seen : Seen) (k : Key) (r : Ref) (levels : ℕ) (old new : Stage) : Type 0 where
  pub acts : List Act
  pub drawn : Drawn
  pub grows : Grows g seen (value_of_key k) acts old new
  pub tokens : new.out ≡ old.out ++ tokens_of (tree_of drawn)
  pub is_note : note_at drawn ≡ Some (record { value = value_of_key k; key = k })
  pub good : IsGood g seen new.homes ((k, r) ∷ homes_by old.next acts) (sheets_by old.next acts) (AreDue g seen (dues_by old.next acts)) r drawn
  pub placed : (l : Key) (a : Ref) → In (l, a) (places_by acts) → In (l, a) (homes_in r drawn)
  pub writable : IsWritable (tree_of drawn)
  pub shallow : depth (tree_of drawn) ≤ levels
