-- The bytes of a text, wherever it lies.
use Rattle.std.specs.Prelude.{List, ℕ, string_bytes}
use Rattle.flight_value.specs.declared.text.Held.{Held}
use Rattle.flight_value.specs.declared.text.Held.TheVariants as held

abbrev pub bytes_of : Held → List ℕ
bytes_of (held.Short text) = text
bytes_of (held.Long text) = string_bytes text.value
