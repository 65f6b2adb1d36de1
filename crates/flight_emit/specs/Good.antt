-- When what is written on paper spells the values that are meant, and keeps each node at its home.
use Rattle.std.specs.Prelude.{ℕ, suc, ◌≡◌, ◌<◌, ◌^◌, List, [], ◌∷◌, map, length, codes, Option, Some, None}
use Rattle.std.specs.Fmt.{decimal}
use Rattle.flight_value.specs.Listed.{In, Distinct}
use Rattle.flight_value.specs.Store as store
use Rattle.flight_value.specs.Store.{Shape}
use Rattle.flight_value.specs.declared.graph.Atom.{Atom}
use Rattle.flight_value.specs.declared.graph.Atom.TheVariants as atom
use Rattle.flight_value.specs.declared.key.Key.{Key}
use Rattle.flight_value.specs.declared.key.Key.TheVariants as key
use Rattle.flight_value.specs.declared.name.Name.{Name}
use Rattle.flight_text.specs.declared.mark.Ref.{Ref}
use Rattle.flight_row.specs.declared.row.RowKind.{RowKind}
use Rattle.flight_row.specs.declared.row.RowKind.TheVariants as row
use Rattle.flight_home.specs.Homes.{Homes}
use Rattle.flight_render.specs.declared.root.Ground.{Ground}
use Rattle.flight_render.specs.Run.{End}
use Rattle.flight_render.specs.Jobs.{Value, element, target_of}
use Rattle.flight_render.specs.Laws.{IsLasting}
use Rattle.flight_meaning.specs.declared.place.Place.{Place}
use Rattle.flight_meaning.specs.declared.place.Place.TheVariants as place
use Rattle.flight_meaning.specs.Meaning.{Token, token_label}
use Rattle.flight_state.specs.Steps.{RefersTo}
use Rattle.flight_state.specs.Emits.{IsPlain}
use Rattle.flight_state.specs.Local.{Seen, IsSeen, job_seen, shape_seen, value_seen, RefersBy, IsAtomOf}
use Rattle.flight_emit.specs.Sheet.{Note, Form, as_array, as_object, as_element, Drawn, leaf, token, composite, Parts, no_parts, part_and, names_in, values_in, values_of, label_of, below, root, Sheet, filled, opening}

-- ---- what a value is written as

-- a value gives itself, and a server element that ended what its end gives
pub data Gives (g : Ground) (seen : Seen) : Value → Value → Type 0 where
  itself : {v : Value} → Gives g seen v v
  in_place : {v w : Value} → (n : Name) (end : End) → IsSeen seen v → job_seen seen v ≡ Some (element n) → seen.ends n ≡ Some end → Gives g seen (value_seen g seen (element n) end) w → Gives g seen v w

-- a value that is a node
pub record IsNode (g : Ground) (seen : Seen) (v : Value) (k : Key) : Type 0 where
  pub is_seen : IsSeen seen v
  pub no_job : job_seen seen v ≡ None
  pub is_target : target_of v ≡ store.node_at k
  pub lasting : IsLasting k

-- a row has one atom
abbrev pub HasAtomRow : List Sheet → ℕ → Atom → Type 0
HasAtomRow sheets id a = (kind : RowKind) × In (filled id kind (leaf None (place.Atom a))) sheets

-- a value as an atom or a reference
pub data IsLeaf (g : Ground) (seen : Seen) (homes : Homes) (sheets : List Sheet) (at : Place) (v : Value) : Type 0 where
  an_atom : (a : Atom) → at ≡ place.Atom a → target_of v ≡ store.atom a → ¬ (a ≡ atom.Pending) → IsLeaf g seen homes sheets at v
  an_atom_row : (a : Atom) (id : ℕ) → RefersTo id at → HasAtomRow sheets id a → target_of v ≡ store.atom a → ¬ (a ≡ atom.Pending) → IsLeaf g seen homes sheets at v
  a_known_atom : (a : Atom) (k : Key) (r : Ref) → RefersTo r.id at → In (k, r) homes → IsAtomOf g k a → target_of v ≡ store.atom a → IsLeaf g seen homes sheets at v
  a_reference : (k : Key) (r : Ref) (shape : Shape Value) → IsNode g seen v k → In (k, r) homes → shape_seen g seen k ≡ Some shape → RefersBy shape.label r at → IsLeaf g seen homes sheets at v
  a_stream : (stream : ℕ) (r : Ref) → target_of v ≡ store.node_at (key.Stream stream) → In (key.Stream stream, r) homes → RefersTo r.id at → IsLeaf g seen homes sheets at v
  a_task : (n : Name) (r : Ref) → IsSeen seen v → job_seen seen v ≡ Some (element n) → In (key.Server n, r) homes → RefersTo r.id at → IsLeaf g seen homes sheets at v

-- ---- nodes at their homes

-- the names of an array's parts: their indices
abbrev pub AreIndices : ℕ → List (List ℕ) → Type 0
AreIndices n [] = Unit {0}
AreIndices n (name ∷ names) = (name ≡ decimal n) × AreIndices (suc n) names

-- the names of the steps to a composite's parts
abbrev pub HasNames : Form → List (List ℕ) → Type 0
HasNames as_array names = AreIndices 0 names × (length names < 2 ^ 64)
HasNames as_object names = Distinct names
HasNames as_element names = names ≡ codes "type" ∷ codes "key" ∷ codes "props" ∷ []

-- the node of a note is given by its value, and is at home under this reference
abbrev pub IsHomeOf : Ground → Seen → Homes → Ref → Note → Type 0
IsHomeOf g seen more r note = ((w : Value) × Gives g seen note.value w × IsNode g seen w note.key) × In (note.key, r) more

-- the node at a key has these values as its slots
abbrev pub HasShape : Ground → Seen → Key → store.Label → List (Option Value) → Type 0
HasShape g seen k label values = (slots : List Value) × (shape_seen g seen k ≡ Some (record { label = label; slots = slots })) × (values ≡ map Some slots)

-- the row of the entries of a Map or of a Set
abbrev pub HasEntries : Ground → Seen → List Sheet → Key → Token → ℕ → Type 0
HasEntries g seen sheets k kind id =
    (parts : Parts) × In (filled id row.Model (composite None as_array parts)) sheets × HasShape g seen k (token_label kind) (values_of kind parts)

abbrev pub IsHome : Ground → Seen → Homes → Ref → Form → Parts → Option Note → Type 0
IsHome g seen more r form parts None = Unit {0}
IsHome g seen more r form parts (Some note) = IsHomeOf g seen more r note × HasShape g seen note.key (label_of form (names_in parts)) (values_in parts)

abbrev pub IsMeant : Ground → Seen → Homes → List Sheet → Place → Option Value → Type 0
IsMeant g seen homes sheets at None = IsPlain at
IsMeant g seen homes sheets at (Some v) = (w : Value) × Gives g seen v w × IsLeaf g seen homes sheets at w

-- what is known of the row of a Map's or a Set's entries, by its id
abbrev pub Entries : Type 1
Entries = Key → Token → ℕ → Type 0

abbrev mutual
  -- what stands under a reference spells what is meant there
  pub IsGood : Ground → Seen → Homes → Homes → List Sheet → Entries → Ref → Drawn → Type 0
  IsGood g seen homes more sheets E r (leaf meant at) = IsMeant g seen homes sheets at meant
  IsGood g seen homes more sheets E r (token note kind id) = IsHomeOf g seen more r note × E note.key kind id
  IsGood g seen homes more sheets E r (composite noted form parts) = IsHome g seen more r form parts noted × HasNames form (names_in parts) × AreGood g seen homes more sheets E r parts

  pub AreGood : Ground → Seen → Homes → Homes → List Sheet → Entries → Ref → Parts → Type 0
  AreGood g seen homes more sheets E r no_parts = Unit {0}
  AreGood g seen homes more sheets E r (part_and name drawn rest) = IsGood g seen homes more sheets E (below r name) drawn × AreGood g seen homes more sheets E r rest

-- the kind of a row that opens and closes no stream
abbrev pub IsPlainKind : RowKind → Type 0
IsPlainKind (row.Open flow) = ⊥
IsPlainKind row.Close = ⊥
IsPlainKind kind = Unit {0}

abbrev pub IsGoodSheet : Ground → Seen → Homes → Homes → List Sheet → Sheet → Type 0
IsGoodSheet g seen homes more sheets (filled id kind drawn) = IsPlainKind kind × IsGood g seen homes more sheets (HasEntries g seen sheets) (root id) drawn
IsGoodSheet g seen homes more sheets (opening id flow) = Unit {0}
