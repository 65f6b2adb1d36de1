-- Scripts whose lists are not too long for numbers of 32 bits.
use Rattle.std.specs.Prelude.{ℕ, ◌^◌, ◌&&◌, nat_lt, Bool, true, length}
use Rattle.std.specs.List.{list_all}
use Rattle.flight_value.specs.declared.graph.Node.{Node}
use Rattle.flight_value.specs.declared.graph.Node.TheVariants as node
use Rattle.flight_syntax.specs.declared.script.Outcome.{Outcome}
use Rattle.flight_syntax.specs.declared.script.Outcome.TheVariants.{Value, Reject}
use Rattle.flight_syntax.specs.declared.script.Script.{Script}

-- so many of something can be numbered
abbrev pub fits : ℕ → Bool
fits count = nat_lt count (2 ^ 32)

-- an entry of a map has two slots
abbrev pub node_fits : Node → Bool
node_fits (node.Array slots) = fits (length slots)
node_fits (node.Object props) = fits (length props)
node_fits (node.Map pairs) = nat_lt (length pairs) (2 ^ 31)
node_fits (node.Set slots) = fits (length slots)
node_fits n = true

abbrev pub outcome_fits : Outcome → Bool
outcome_fits (Value g) = fits (length g.nodes) && list_all node_fits g.nodes
outcome_fits (Reject digest) = true

abbrev pub script_fits : Script → Bool
script_fits s =
    fits (length s.sources)
    && (fits (length s.streams)
    && (list_all (λ d. outcome_fits d.outcome) s.sources
    && list_all (λ f. fits (length f.items)) s.streams))
