-- What the walk keeps of each node that it has finished; for private clauses.
use Rattle.std.specs.Prelude.{◌^◌, ◌<◌, length, map}
use Rattle.serde_json.specs.Data.{Data, Items, no_items, item}
use Rattle.flight_value.specs.Graph.{slots_of, Ascend}
use Rattle.flight_value.specs.declared.graph.Node.{Node}
use Rattle.flight_value.specs.declared.graph.Node.TheVariants as node

-- the items behind the mark of an element
abbrev pub three : Data → Data → Data → Items
three type key props = item type (item key (item props no_items))

-- what stands behind the first item
abbrev pub behind : Items → Items
behind no_items = no_items
behind (item m ds) = ds

-- an object's names ascend
abbrev pub HasAscendingNames : Node → Type 0
HasAscendingNames (node.Object props) = Ascend (map (λ p. p.name) props)
HasAscendingNames n = Unit {0}

pub record IsFine (n : Node) : Type 0 where
  pub few : length (slots_of n) < 2 ^ 32
  pub names : HasAscendingNames n
