-- Shapes as the printer has them.
use Rattle.flight_print.specs.Text as text
use Rattle.flight_print.specs.Text.{bare, element, other}
use Rattle.flight_print.specs.declared.shape.Shape.{Shape}
use Rattle.flight_print.specs.declared.shape.Shape.TheVariants.{Bare, Element, Other}

abbrev pub shape_seen : Shape → text.Shape
shape_seen (Bare text) = bare text.now
shape_seen Element = element
shape_seen Other = other
