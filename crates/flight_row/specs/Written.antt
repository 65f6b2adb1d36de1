-- The one spelling in which a row is written.
use Rattle.std.specs.Prelude.{ℕ, ◌^◌, ◌<◌, ◌≤◌, ◌≡◌, ◌≢◌, true, false, List, [], ◌∷◌, ◌++◌, length, IsUtf8}
use Rattle.std.specs.Fmt.{digits}
use Rattle.flight_value.specs.declared.graph.Flow.TheVariants.{Readable, Iterable, Iterator}
use Rattle.flight_row.specs.declared.row.RowKind.{RowKind}
use Rattle.flight_row.specs.declared.row.RowKind.TheVariants.{Model, Import, Error, Text, Open, Close}
use Rattle.flight_row.specs.declared.row.Row.{Row}
use Rattle.flight_row.specs.Rows.{longest, is_one_line, begins_model}

-- a number in lower-case hexadecimal, without leading zeros
abbrev pub hexadecimal : ℕ → List ℕ
hexadecimal n = digits 16 false n

-- the letter that is written before a payload of that kind; a model row has none
abbrev pub tag_bytes : RowKind → List ℕ
tag_bytes Model = []
tag_bytes Import = 73 ∷ []
tag_bytes Error = 69 ∷ []
tag_bytes Text = 84 ∷ []
tag_bytes (Open Readable) = 82 ∷ []
tag_bytes (Open Iterable) = 88 ∷ []
tag_bytes (Open Iterator) = 120 ∷ []
tag_bytes Close = 67 ∷ []

-- what is written behind the tag: a text with its length before it, anything else with a newline after it
abbrev pub payload_bytes : RowKind → List ℕ → List ℕ
payload_bytes Text payload = hexadecimal (length payload) ++ 44 ∷ payload
payload_bytes kind payload = payload ++ 10 ∷ []

-- the row as it is written: its id, a colon, its tag and its payload
abbrev pub spelling_of : Row → List ℕ
spelling_of row = hexadecimal row.id ++ 58 ∷ tag_bytes row.kind ++ payload_bytes row.kind row.payload

-- what a row has to be like to be written
pub record IsWritable (row : Row) : Type 0 where
  pub small : row.id < 2 ^ 31
  pub is_text : IsUtf8 row.payload
  pub within : length row.payload ≤ longest
  pub one_line : row.kind ≢ Text → is_one_line row.payload ≡ true
  pub is_model : row.kind ≡ Model → begins_model row.payload
