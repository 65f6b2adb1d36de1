-- The text of a form.
use Rattle.std.specs.Prelude.{ℕ, List, [], map, decimal}
use Rattle.form_urlencoded.specs.Form.{extend_pairs}
use Rattle.flight_reply.specs.declared.field.Field.{Field}

-- a name in decimal, and a value
abbrev pub pair_of : Field → List ℕ × List ℕ
pair_of f = (decimal f.name, f.value)

-- the pairs in order, as `application/x-www-form-urlencoded`
abbrev pub text_of : List Field → List ℕ
text_of fields = extend_pairs [] (map pair_of fields)
