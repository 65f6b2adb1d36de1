-- The canon of a graph: its nodes in the order of a first visit, under new numbers.
use Rattle.std.specs.Prelude.{ℕ, zero, suc, ◌+◌, nat_eq, List, [], ◌∷◌, ◌++◌, map, length, Option, Some, None, is_some, unwrap_or, slice_get, if◌then◌else◌}
use Rattle.flight_value.specs.Graph.{slots_of}
use Rattle.flight_value.specs.declared.graph.Slot.{Slot}
use Rattle.flight_value.specs.declared.graph.Slot.TheVariants as slot
use Rattle.flight_value.specs.declared.graph.End.{End}
use Rattle.flight_value.specs.declared.graph.End.TheVariants as end
use Rattle.flight_value.specs.declared.graph.Prop.{Prop}
use Rattle.flight_value.specs.declared.graph.Pair.{Pair}
use Rattle.flight_value.specs.declared.graph.Node.{Node}
use Rattle.flight_value.specs.declared.graph.Node.TheVariants as node
use Rattle.flight_value.specs.declared.graph.Graph.{Graph}

-- ---- the order of a first visit

-- the node of a number; past the nodes, which no slot of a valid graph names, an empty array
abbrev pub node_at : List Node → ℕ → Node
node_at nodes n = unwrap_or (slice_get nodes n) (node.Array [])

-- its slots
abbrev pub slots_at : List Node → ℕ → List Slot
slots_at nodes n = slots_of (node_at nodes n)

-- where n stands in a list, counted from i
abbrev pub place_from : ℕ → ℕ → List ℕ → Option ℕ
place_from i n [] = None
place_from i n (m ∷ ms) = if nat_eq m n then Some i else place_from (i + 1) n ms

-- where n stands in a list, counted from 0
abbrev pub place_in : ℕ → List ℕ → Option ℕ
place_in n ms = place_from 0 n ms

-- Takes slots from the front until one is a node that was not visited. That node is visited, its slots are put in
-- front of the others, and the walk goes on as `next` says.
abbrev pub walk_with : (List ℕ → List Slot → List ℕ) → List Node → List ℕ → List Slot → List ℕ
walk_with next nodes visited [] = visited
walk_with next nodes visited (slot.Atom a ∷ slots) = walk_with next nodes visited slots
walk_with next nodes visited (slot.Node n ∷ slots) =
    if is_some (place_in n visited) then walk_with next nodes visited slots else next (visited ++ n ∷ []) (slots_at nodes n ++ slots)

-- the walk, which visits at most that many nodes
abbrev pub walk : ℕ → List Node → List ℕ → List Slot → List ℕ
walk zero nodes visited slots = visited
walk (suc count) nodes visited slots = walk_with (walk count nodes) nodes visited slots

-- the nodes that the root leads to, in the order of their first visit; no node is visited twice
unfoldable pub visited_of : Graph → List ℕ
visited_of g = walk (suc (length g.nodes)) g.nodes [] (g.root ∷ [])

-- ---- new numbers

-- a slot with its node's place among the visited for its number; a visited node names visited nodes alone
abbrev pub renamed : List ℕ → Slot → Slot
renamed visited (slot.Atom a) = slot.Atom a
renamed visited (slot.Node n) = slot.Node (unwrap_or (place_in n visited) 0)

-- the end of a stream, a property and an entry with their slots changed
abbrev pub map_end : (Slot → Slot) → End → End
map_end f end.Going = end.Going
map_end f (end.Closed final) = end.Closed (f final)
map_end f (end.Broken digest) = end.Broken digest

abbrev pub map_prop : (Slot → Slot) → Prop → Prop
map_prop f p = record { name = p.name; slot = f p.slot }

abbrev pub map_pair : (Slot → Slot) → Pair → Pair
map_pair f p = record { key = f p.key; value = f p.value }

-- a node with each slot changed, and all else as it is
abbrev pub map_slots : (Slot → Slot) → Node → Node
map_slots f (node.Array items) = node.Array (map f items)
map_slots f (node.Object props) = node.Object (map (map_prop f) props)
map_slots f (node.Map pairs) = node.Map (map (map_pair f) pairs)
map_slots f (node.Set items) = node.Set (map f items)
map_slots f (node.Element tag key props) = node.Element (f tag) (f key) (f props)
map_slots f (node.Promise outcome) = node.Promise (f outcome)
map_slots f (node.Stream flow items end) = node.Stream flow (map f items) (map_end f end)
map_slots f (node.Action id bound) = node.Action id (f bound)

-- ---- the canon

-- these nodes in order, renumbered by their places
abbrev pub canon_under : Graph → List ℕ → Graph
canon_under g visited = record {
  root = renamed visited g.root;
  nodes = map (λ n. map_slots (renamed visited) (node_at g.nodes n)) visited;
}

-- the visited nodes in order, renumbered
unfoldable pub canon_of : Graph → Graph
canon_of g = canon_under g (visited_of g)
