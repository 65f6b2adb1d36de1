-- What is wrong with a form that is no reply.
use Rattle.std.specs.Prelude.{ℕ, ◌<◌, ◌≡◌, List, ◌∷◌, ◌++◌, length, Some}
use Rattle.flight_value.specs.Listed.{In, Distinct}
use Rattle.flight_meaning.specs.declared.place.PlaceTree.{PlaceTree}
use Rattle.flight_meaning.specs.declared.place.PlacedRow.{PlacedRow}
use Rattle.flight_meaning.specs.Good.{IsLeastUndefined}
use Rattle.flight_place.specs.declared.manner.Manner.TheVariants.{Reply}
use Rattle.flight_place.specs.declared.fault.PlaceKind.{PlaceKind}
use Rattle.flight_place.specs.Rows.{IsTree, IsRowFault}
use Rattle.flight_reply.specs.declared.field.Field.{Field}
use Rattle.flight_reply.specs.Form.{pairs_of, IsPartName, HasFields, names_of, row_of, ArePlaced}

-- the faults, in the order in which they are sought
pub data Fault : Type 0 where
  bad_form : (index : ℕ) → Fault
  twice : (field : ℕ) → Fault
  no_root : Fault
  place : (field : ℕ) (kind : PlaceKind) → Fault
  undefined : (field : ℕ) → Fault

abbrev pub IsNamed : List ℕ × List ℕ → Type 0
IsNamed pair = (number : ℕ) × IsPartName pair.0 number

-- the field of that index is the first whose name is no part's
pub record IsBadForm (body : List ℕ) (index : ℕ) : Type 0 where
  pub front : List (List ℕ × List ℕ)
  pub bad : List ℕ × List ℕ
  pub rest : List (List ℕ × List ℕ)
  pub split : pairs_of body ≡ front ++ bad ∷ rest
  pub at_index : length front ≡ index
  pub named : (pair : List ℕ × List ℕ) → In pair front → IsNamed pair
  pub unnamed : ¬ IsNamed bad

-- the first name that stood before
pub record IsTwice (names : List ℕ) (name : ℕ) : Type 0 where
  pub front : List ℕ
  pub rest : List ℕ
  pub split : names ≡ front ++ name ∷ rest
  pub once : Distinct front
  pub again : In name front

-- the least field that has no places
pub record IsPlaceFault (fields : List Field) (number : ℕ) (kind : PlaceKind) : Type 0 where
  pub bad : Field
  pub is_field : In bad fields
  pub is_number : bad.name ≡ number
  pub fault : IsRowFault Reply (row_of bad) kind
  pub lesser : (f : Field) → In f fields → f.name < number → (tree : PlaceTree) × IsTree Reply (row_of f) tree

-- what is wrong with these fields, each fault where none before it is
abbrev pub FieldsHave : List Field → Fault → Type 0
FieldsHave fields (bad_form index) = ⊥
FieldsHave fields (twice name) = IsTwice (names_of fields) name
FieldsHave fields no_root = Distinct (names_of fields) × ¬ (In 0 (names_of fields))
FieldsHave fields (place number kind) = Distinct (names_of fields) × In 0 (names_of fields) × IsPlaceFault fields number kind
FieldsHave fields (undefined number) = (rows : List PlacedRow) × ArePlaced fields rows × IsLeastUndefined rows (Some number)

-- the first fault of a form
abbrev pub HasFault : List ℕ → Fault → Type 0
HasFault body (bad_form index) = IsBadForm body index
HasFault body fault = (fields : List Field) × HasFields body fields × FieldsHave fields fault
