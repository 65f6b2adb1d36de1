-- What a rendering with its fuel comes to.
use Rattle.std.specs.Prelude.{ℕ, ◌≤◌, Bool, List}
use Rattle.flight_value.specs.Graph.{IsValid}
use Rattle.flight_value.specs.declared.graph.Graph.{Graph}
use Rattle.flight_value.specs.Store.{DrawOneGraph, of_graph}
use Rattle.flight_render.specs.declared.root.Ground.{Ground}
use Rattle.flight_render.specs.Costs.{Total, IsOver}
use Rattle.flight_render.specs.Plain.{plain}
use Rattle.flight_seq.specs.declared.total.Cost.{Cost}
use Rattle.flight_seq.specs.declared.total.Cost.TheVariants as cost
use Rattle.flight_seq.specs.declared.total.Rendered.{Rendered}
use Rattle.flight_seq.specs.declared.total.Rendered.TheVariants as rendered

-- the total is that of the rendering and within the fuel, and no body alone is over it
abbrev pub IsWithin : Ground → List Bool → ℕ → ℕ → Type 0
IsWithin g settled fuel total = Total g settled total × (total ≤ fuel) × (IsOver g settled fuel → ⊥)

abbrev pub IsCost : Ground → List Bool → ℕ → Cost → Type 0
IsCost g settled fuel (cost.Within total) = IsWithin g settled fuel total
IsCost g settled fuel cost.Over = IsOver g settled fuel

-- the total, and the graph of sequential rendering
abbrev pub IsRenderedIn : Ground → List Bool → ℕ → ℕ → Graph → Type 0
IsRenderedIn g settled fuel total graph = IsWithin g settled fuel total × IsValid graph × DrawOneGraph (of_graph graph) (plain g settled)

abbrev pub IsRendered : Ground → List Bool → ℕ → Rendered → Type 0
IsRendered g settled fuel (rendered.Within total graph) = IsRenderedIn g settled fuel total graph
IsRendered g settled fuel rendered.Over = IsOver g settled fuel
