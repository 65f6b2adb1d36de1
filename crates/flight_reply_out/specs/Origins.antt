-- Where the walk through a canon meets each node first.
use Rattle.std.specs.Prelude.{ℕ, zero, suc, nat_eq, nat_lt, ◌&&◌, Bool, true, false, List, [], ◌∷◌, length, slice_index_or, ◌≡◌, ◌<◌, Option, Some, None, if◌then◌else◌}
use Rattle.flight_value.specs.declared.graph.Slot.{Slot}
use Rattle.flight_value.specs.declared.graph.Slot.TheVariants as slot
use Rattle.flight_value.specs.declared.graph.Node.{Node}
use Rattle.flight_graph.specs.Canon.{slots_at}
use Rattle.flight_reply_out.specs.declared.origin.Origin.{Origin}

abbrev pub slot_of : ℕ → ℕ → Origin
slot_of n i = record { node = n; slot = i }

-- the first of these slots of node n, numbered from i on, that names node m; or else what was found before
abbrev pub named_in : ℕ → ℕ → ℕ → List Slot → Option Origin → Option Origin
named_in m n i [] before = before
named_in m n i (slot.Atom a ∷ slots) before = named_in m n (suc i) slots before
named_in m n i (slot.Node k ∷ slots) before = if nat_eq k m then Some (slot_of n i) else named_in m n (suc i) slots before

-- the same, if node n stands before node m
abbrev pub named_before : ℕ → ℕ → ℕ → List Slot → Option Origin → Option Origin
named_before m n i slots before = if nat_lt n m then named_in m n i slots before else before

-- the last of the first so many nodes that stands before node m and names it, and there the first slot that does
abbrev pub last_naming : List Node → ℕ → ℕ → Option Origin
last_naming nodes m zero = None
last_naming nodes m (suc n) = named_before m n 0 (slots_at nodes n) (last_naming nodes m n)

-- Where the walk meets node m of a canon first: what comes between the node that it is met from and node m has all been
-- walked through by then, and did not name it. None stands for the root.
abbrev pub origin_of : List Node → ℕ → Option Origin
origin_of nodes m = last_naming nodes m (length nodes)

abbrev pub is_same : Option Origin → Option Origin → Bool
is_same None None = true
is_same (Some a) (Some b) = nat_eq a.node b.node && nat_eq a.slot b.slot
is_same a b = false

-- where each node is met first, in order
pub record AreOrigins (nodes : List Node) (origins : List (Option Origin)) : Type 0 where
  pub each_one : length origins ≡ length nodes
  pub each : (m : ℕ) → m < length nodes → slice_index_or origins m None ≡ origin_of nodes m
