-- Properties and attributes in memory, as plain data.
use Rattle.std.specs.Prelude.{ℕ, List, map}
use Rattle.flight_value.specs.declared.made.Tree.{Tree}
use Rattle.flight_render.specs.Eval.{Attributes}
use Rattle.flight_eval.specs.declared.object.Property.{Property}
use Rattle.flight_eval.specs.declared.object.Attributes.{Attributes as Held}

abbrev pub pair_of : Property → List ℕ × Tree
pair_of p = (p.name, p.value)

abbrev pub attributes_of : Held → Attributes
attributes_of a = record { key = a.key; props = map pair_of a.props.items }
