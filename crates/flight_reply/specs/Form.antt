-- The grammar of replies, and what they mean.
use Rattle.std.specs.Prelude.{ℕ, ◌^◌, ◌<◌, ◌≡◌, List, map, decimal}
use Rattle.std.specs.List.{AllZip}
use Rattle.std.specs.Str.Lossy.{utf8_lossy}
use Rattle.form_urlencoded.specs.Form.{raw_pairs, decode}
use Rattle.flight_value.specs.Listed.{In, Distinct}
use Rattle.flight_row.specs.declared.row.Row.{Row}
use Rattle.flight_row.specs.declared.row.RowKind.TheVariants as row
use Rattle.flight_meaning.specs.declared.place.Place.{Place}
use Rattle.flight_meaning.specs.declared.place.PlacedRow.{PlacedRow}
use Rattle.flight_meaning.specs.Good.{IsHeld, IsDefined}
use Rattle.flight_place.specs.declared.manner.Manner.TheVariants.{Reply}
use Rattle.flight_place.specs.Rows.{IsTree}
use Rattle.flight_reply.specs.declared.field.Field.{Field}

-- ---- the fields of a form

-- a name or a value of a form as a text; bytes that are not UTF-8 stand as U+FFFD
abbrev pub text_of : List ℕ → List ℕ
text_of bytes = utf8_lossy (decode bytes)

-- the names and values of a form, in order
abbrev pub pairs_of : List ℕ → List (List ℕ × List ℕ)
pairs_of body = map (λ p. (text_of p.0, text_of p.1)) (raw_pairs body)

-- the name of a part: its number in decimal, without leading zeros
pub record IsPartName (name : List ℕ) (number : ℕ) : Type 0 where
  pub spelled : name ≡ decimal number
  pub small : number < 2 ^ 31

abbrev pub IsField : List ℕ × List ℕ → Field → Type 0
IsField pair f = IsPartName pair.0 f.name × (f.value ≡ pair.1)

-- the form has these fields, in order
abbrev pub HasFields : List ℕ → List Field → Type 0
HasFields body fields = AllZip IsField (pairs_of body) fields

abbrev pub names_of : List Field → List ℕ
names_of fields = map (λ f. f.name) fields

-- ---- fields as rows

-- a field is a model row, its number the id
abbrev pub row_of : Field → Row
row_of f = record { id = f.name; kind = row.Model; payload = f.value }

-- the row has the places of the field, whose strings are those of replies
abbrev pub IsPlaced : Field → PlacedRow → Type 0
IsPlaced f r = (r.id ≡ f.name) × IsTree Reply (row_of f) r.tree

-- each field stands once, the root among them, and they are placed so
pub record ArePlaced (fields : List Field) (rows : List PlacedRow) : Type 0 where
  pub once : Distinct (names_of fields)
  pub root : In 0 (names_of fields)
  pub placed : AllZip IsPlaced fields rows

-- The form is a reply with these rows: every reference that they hold is defined. It means what the rows mean.
pub record IsReply (body : List ℕ) (rows : List PlacedRow) : Type 0 where
  pub fields : List Field
  pub has_fields : HasFields body fields
  pub are_placed : ArePlaced fields rows
  pub defined : (at : Place) → IsHeld rows at → IsDefined rows at
