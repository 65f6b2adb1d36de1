-- Sources, nodes and declarations by their numbers and names, and what stands in an array or an object.
use Rattle.std.specs.Prelude.{ℕ, Bool, true, false, if◌then◌else◌, List, [], ◌∷◌, ◌++◌, map, length, Option, Some, None, slice_get, unwrap_or, option_and_then, position, bytes_eq, codes}
use Rattle.flight_value.specs.declared.graph.Atom.TheVariants as atom
use Rattle.flight_value.specs.declared.graph.Slot.{Slot}
use Rattle.flight_value.specs.declared.graph.Slot.TheVariants as slot
use Rattle.flight_value.specs.declared.graph.Node.{Node}
use Rattle.flight_value.specs.declared.graph.Node.TheVariants as node
use Rattle.flight_value.specs.declared.made.MadeKind.TheVariants as kind
use Rattle.flight_value.specs.declared.made.Made.{Made}
use Rattle.flight_value.specs.declared.made.Tree.{Tree}
use Rattle.flight_value.specs.declared.made.Tree.TheVariants as tree
use Rattle.flight_value.specs.declared.name.Name.{Name}
use Rattle.flight_syntax.specs.declared.program.Declared.{Declared}
use Rattle.flight_syntax.specs.declared.program.Declared.TheVariants as declared
use Rattle.flight_syntax.specs.declared.script.Outcome.{Outcome}
use Rattle.flight_syntax.specs.declared.script.Outcome.TheVariants as outcome
use Rattle.flight_render.specs.declared.root.Ground.{Ground}
use Rattle.flight_render.specs.declared.root.Root.{Root}
use Rattle.flight_render.specs.declared.root.Root.TheVariants as root
use Rattle.flight_render.specs.Run.{gave, threw, waits, End}

-- ---- sources and streams

-- the arguments of a call stand as one further source, numbered after the others
abbrev pub arguments : Root → List Outcome
arguments root.App = []
arguments (root.Call action args) = outcome.Value args ∷ []

abbrev pub outcomes : Ground → List Outcome
outcomes g = map (λ d. d.outcome) g.script.sources ++ arguments g.root

-- where a slot of a source leads: the one place at which such a slot becomes a tree
abbrev pub tree_of : Outcome → ℕ → Slot → Tree
tree_of o source (slot.Atom a) = tree.Atom a
tree_of o source (slot.Node n) = tree.FromSource source n

abbrev pub outcome_end : ℕ → Outcome → End
outcome_end source (outcome.Value g) = gave (tree_of (outcome.Value g) source g.root)
outcome_end source (outcome.Reject digest) = threw digest

abbrev pub is_settled : List Bool → ℕ → Bool
is_settled settled source = unwrap_or (slice_get settled source) false

abbrev pub end_if : Bool → ℕ → Option Outcome → End
end_if true source (Some o) = outcome_end source o
end_if _ source _ = waits source

-- what a source comes to: its value or its digest, and a wait where it is not settled
abbrev pub source_end : Ground → List Bool → ℕ → End
source_end g settled source = end_if (is_settled settled source) source (slice_get (outcomes g) source)

abbrev pub source_named : Ground → List ℕ → Option ℕ
source_named g name = position (λ d. bytes_eq name d.name) g.script.sources

abbrev pub stream_named : Ground → List ℕ → Option ℕ
stream_named g name = position (λ f. bytes_eq name f.name) g.script.streams

-- ---- declarations

-- what a bundler says of a client component
abbrev pub import_of : Option Declared → List ℕ
import_of (Some (declared.Client name import)) = import
import_of _ = []

abbrev pub import_at : Ground → ℕ → List ℕ
import_at g client = import_of (slice_get g.program.declared client)

abbrev pub is_app : Declared → Bool
is_app (declared.Server name params body) = bytes_eq name (codes "App")
is_app _ = false

-- ---- nodes

-- the node of a name: in the table of its address, where the tables of an address and its own list follow one another
abbrev pub made_in : List (List Made) → Name → Option Made
made_in tables n = option_and_then (λ made. slice_get made n.serial) (slice_get tables (length n.render))

abbrev pub outcome_nodes : Outcome → List Node
outcome_nodes (outcome.Value g) = g.nodes
outcome_nodes (outcome.Reject digest) = []

-- a source's node
abbrev pub node_in : Outcome → ℕ → Option Node
node_in o n = slice_get (outcome_nodes o) n

-- ---- arrays

abbrev pub made_items : Made → Option (List Tree)
made_items m = elim m.kind [ kind.Array ↦ Some m.slots | kind.Object names ↦ None | kind.Map ↦ None | kind.Set ↦ None | kind.Element ↦ None | kind.Server component ↦ None | kind.Promise ↦ None | kind.Bound action ↦ None ]

abbrev pub node_items : Outcome → ℕ → Node → Option (List Tree)
node_items o source (node.Array items) = Some (map (tree_of o source) items)
node_items o source _ = None

-- the items of an array; None of anything else
abbrev pub items_in : Ground → List (List Made) → Tree → Option (List Tree)
items_in g tables (tree.Made n) = option_and_then made_items (made_in tables n)
items_in g tables (tree.FromSource source n) =
    option_and_then (λ o. option_and_then (node_items o source) (node_in o n)) (slice_get (outcomes g) source)
items_in g tables _ = None

-- ---- objects

abbrev pub undefined : Tree
undefined = tree.Atom atom.Undefined

-- the slot of a name, `undefined` where there is none
abbrev pub named_slot : List ℕ → List (List ℕ) → List Tree → Tree
named_slot name (n ∷ names) (slot ∷ slots) = if bytes_eq name n then slot else named_slot name names slots
named_slot name _ _ = undefined

abbrev pub made_property : List ℕ → Made → Option Tree
made_property name m = elim m.kind [ kind.Object names ↦ Some (named_slot name names m.slots) | kind.Array ↦ None | kind.Map ↦ None | kind.Set ↦ None | kind.Element ↦ None | kind.Server component ↦ None | kind.Promise ↦ None | kind.Bound action ↦ None ]

abbrev pub node_property : Outcome → ℕ → List ℕ → Node → Option Tree
node_property o source name (node.Object props) = Some (named_slot name (map (λ p. p.name) props) (map (λ p. tree_of o source p.slot) props))
node_property o source name _ = None

-- a property of an object, `undefined` where it has none of the name; None of anything else
abbrev pub property_in : Ground → List (List Made) → List ℕ → Tree → Option Tree
property_in g tables name (tree.Made n) = option_and_then (made_property name) (made_in tables n)
property_in g tables name (tree.FromSource source n) =
    option_and_then (λ o. option_and_then (node_property o source name) (node_in o n)) (slice_get (outcomes g) source)
property_in g tables name _ = None
