-- Names that a search by halves finds.
use Rattle.std.specs.Prelude.{map}
use Rattle.flight_value.specs.Graph.{Ascend}
use Rattle.flight_syntax.specs.declared.script.Script.{Script}

-- the sources and the streams of a script ascend by the bytes of their names
abbrev pub HasAscendingNames : Script → Type 0
HasAscendingNames script = Ascend (map (λ d. d.name) script.sources) × Ascend (map (λ f. f.name) script.streams)
