-- The row of a static tree; for private clauses.
use Rattle.std.specs.Prelude.{ℕ, ◌≤◌, ◌≡◌, List, [], ◌∷◌, ◌++◌, codes, true, false, length, IsUtf8, Some}
use Rattle.serde_json.specs.Data.{Data, depth}
use Rattle.serde_json.specs.Read.{max_depth, read}
use Rattle.serde_json.specs.Written.{compact_text, has_float}
use Rattle.flight_row.specs.Rows as rows
use Rattle.flight_row.specs.declared.row.RowKind.TheVariants.{Model}
use Rattle.flight_row.specs.declared.row.Row.{Row}
use Rattle.flight_top.specs.Model.{is_plain}
use Rattle.flight_top.specs.OneRow.{begins_model}

-- JSON that can stand in a model row and is read there again
pub record IsRowJson (d : Data) : Type 0 where
  pub plain : is_plain d ≡ true
  pub shallow : depth d ≤ max_depth
  pub no_float : has_float d ≡ false
  pub one_line : rows.is_one_line (compact_text d) ≡ true
  pub begins : begins_model (compact_text d) ≡ true
  pub is_model : rows.begins_model (compact_text d)

-- the row of id 0 that the JSON is written in
abbrev pub row_of : Data → List ℕ
row_of d = codes "0:" ++ compact_text d ++ codes "\n"

-- the row of id 0 with that JSON, short enough for a reader, which reads the JSON there
pub record IsRootRow (d : Data) (row : Row) : Type 0 where
  pub is_row : row ≡ record { id = 0; kind = Model; payload = compact_text d }
  pub utf8 : IsUtf8 (compact_text d)
  pub short : length (compact_text d) ≤ 67108861
  pub reads : read (compact_text d) ≡ Some d
