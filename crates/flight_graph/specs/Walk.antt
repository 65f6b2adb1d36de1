-- A walk on its way: what its state keeps, and what it comes to.
use Rattle.std.specs.Prelude.{ℕ, suc, ◌+◌, ◌<◌, ◌≡◌, List, [], ◌∷◌, ◌++◌, map, reverse, length, Option, Some, None, is_some, unwrap_or, slice_index_or, slice_set, replicate, if◌then◌else◌, All}
use Rattle.std.specs.List.{sum_by, flat_map}
use Rattle.flight_value.specs.Graph.{slots_of}
use Rattle.flight_value.specs.declared.graph.Slot.{Slot}
use Rattle.flight_value.specs.declared.graph.Slot.TheVariants as slot
use Rattle.flight_value.specs.declared.graph.Node.{Node}
use Rattle.flight_graph.specs.declared.walk.Walk.{Walk}
use Rattle.flight_graph.specs.Canon.{slots_at, place_in, walk}

-- the nodes that slots name, in order
abbrev pub named_by : Slot → List ℕ
named_by (slot.Atom a) = []
named_by (slot.Node n) = n ∷ []

abbrev pub named : List Slot → List ℕ
named slots = flat_map named_by slots

-- how many nodes are not visited
abbrev pub unvisited : List (Option ℕ) → ℕ
unvisited places = sum_by (λ p. if is_some p then 0 else 1) places

-- how many nodes those that are not visited name in all
abbrev pub unmet : List Node → List (Option ℕ) → ℕ
unmet [] places = 0
unmet (n ∷ nodes) [] = 0
unmet (n ∷ nodes) (p ∷ places) = (if is_some p then 0 else length (named (slots_of n))) + unmet nodes places

-- slots that name these nodes, the last one first
abbrev pub slots_waiting : List ℕ → List Slot
slots_waiting ns = map slot.Node (reverse ns)

-- what a walk comes to
unfoldable pub reached : List Node → Walk → List ℕ
reached nodes w = walk (suc (unvisited w.places.items)) nodes w.order.items (slots_waiting w.waiting.items)

-- what it comes to with one more node in front
unfoldable pub reached_with : List Node → Walk → ℕ → List ℕ
reached_with nodes w n = walk (suc (unvisited w.places.items)) nodes w.order.items (slot.Node n ∷ slots_waiting w.waiting.items)

-- how many turns are left at most: each takes a node that waits, or that those not yet visited name
abbrev pub turns_left : List Node → Walk → ℕ
turns_left nodes w = length w.waiting.items + unmet nodes w.places.items

-- a node names only nodes below the count
abbrev pub NamesBelow : ℕ → Node → Type 0
NamesBelow count n = All (λ m. m < count) (named (slots_of n))

-- a slot with its node's place for its number
abbrev pub placed : List (Option ℕ) → Slot → Slot
placed places (slot.Atom a) = slot.Atom a
placed places (slot.Node n) = slot.Node (unwrap_or (slice_index_or places n None) 0)

-- what a walk through so many nodes keeps
pub record IsKept (count : ℕ) (w : Walk) : Type 0 where
  pub long : length w.places.items ≡ count
  pub is_placed : (n : ℕ) → slice_index_or w.places.items n None ≡ place_in n w.order.items
  pub waits : All (λ n. n < count) w.waiting.items
  pub visits : All (λ n. n < count) w.order.items

-- a walk that has visited nothing
pub record IsUnvisited (count : ℕ) (w : Walk) : Type 0 where
  pub places : w.places.items ≡ replicate count None
  pub order : w.order.items ≡ []
  pub waiting : w.waiting.items ≡ []

-- a node is visited, and those that its slots name are the next
pub record Visits (nodes : List Node) (n : ℕ) (old new : Walk) : Type 0 where
  pub places : new.places.items ≡ slice_set old.places.items n (Some (length old.order.items))
  pub order : new.order.items ≡ old.order.items ++ n ∷ []
  pub waiting : new.waiting.items ≡ old.waiting.items ++ reverse (named (slots_at nodes n))
