-- A node's slots, and which graphs are valid.
use Rattle.std.specs.Prelude.{ℕ, ◌-◌, ◌^◌, ◌<◌, ℤ, pos, negsuc, ◌≤ℤ◌, List, [], ◌∷◌, ◌++◌, map, flat_map, length, Option, Some, slice_get, All}
use Rattle.std.specs.Ordering.{nat_cmp}
use Rattle.std.specs.Cmp.Lexicographic.{slice_cmp}
use Rattle.std.specs.List.Sorted.{IsStrictlySortedBy}
use Rattle.flight_value.specs.Date.{IsDate}
use Rattle.flight_value.specs.declared.graph.Atom.{Atom}
use Rattle.flight_value.specs.declared.graph.Atom.TheVariants as atom
use Rattle.flight_value.specs.declared.graph.Slot.{Slot}
use Rattle.flight_value.specs.declared.graph.Slot.TheVariants as slot
use Rattle.flight_value.specs.declared.graph.End.{End}
use Rattle.flight_value.specs.declared.graph.End.TheVariants as end
use Rattle.flight_value.specs.declared.graph.Node.{Node}
use Rattle.flight_value.specs.declared.graph.Node.TheVariants as node
use Rattle.flight_value.specs.declared.graph.Graph.{Graph}

-- ---- slots

-- the slots of the end of a stream
abbrev pub end_slots : End → List Slot
end_slots end.Going = []
end_slots (end.Closed final) = final ∷ []
end_slots (end.Broken digest) = []

-- a node's slots, in their order
abbrev pub slots_of : Node → List Slot
slots_of (node.Array items) = items
slots_of (node.Object props) = map (λ p. p.slot) props
slots_of (node.Map pairs) = flat_map (λ p. p.key ∷ p.value ∷ []) pairs
slots_of (node.Set items) = items
slots_of (node.Element tag key props) = tag ∷ key ∷ props ∷ []
slots_of (node.Promise outcome) = outcome ∷ []
slots_of (node.Stream flow items end) = items ++ end_slots end
slots_of (node.Action id bound) = bound ∷ []

-- ---- valid graphs

-- a whole number that JavaScript counts exactly
abbrev pub IsSafe : ℤ → Type 0
IsSafe z = (negsuc (2 ^ 53 - 2) ≤ℤ z) × (z ≤ℤ pos (2 ^ 53 - 1))

abbrev pub IsValidAtom : Atom → Type 0
IsValidAtom (atom.Whole z) = IsSafe z
IsValidAtom (atom.Date text) = IsDate text
IsValidAtom a = Unit {0}

-- a slot holds a valid atom, or names one of so many nodes
abbrev pub IsValidSlot : ℕ → Slot → Type 0
IsValidSlot count (slot.Atom a) = IsValidAtom a
IsValidSlot count (slot.Node n) = n < count

-- names ascend by their bytes, so that none stands twice
abbrev pub Ascend : List (List ℕ) → Type 0
Ascend names = IsStrictlySortedBy (slice_cmp nat_cmp) names

abbrev pub IsPromise : Option Node → Type 0
IsPromise (Some (node.Promise outcome)) = Unit {0}
IsPromise o = ⊥

-- what a server reference may be bound to: null, or a promise
abbrev pub IsBound : List Node → Slot → Type 0
IsBound nodes (slot.Atom atom.Null) = Unit {0}
IsBound nodes (slot.Atom a) = ⊥
IsBound nodes (slot.Node n) = IsPromise (slice_get nodes n)

-- what is asked of a node beyond its slots
abbrev pub IsValidKind : List Node → Node → Type 0
IsValidKind nodes (node.Object props) = Ascend (map (λ p. p.name) props)
IsValidKind nodes (node.Action id bound) = IsBound nodes bound
IsValidKind nodes n = Unit {0}

pub record IsValidNode (nodes : List Node) (n : Node) : Type 0 where
  pub few : length (slots_of n) < 2 ^ 32
  pub slots : All (IsValidSlot (length nodes)) (slots_of n)
  pub kind : IsValidKind nodes n

pub record IsValid (g : Graph) : Type 0 where
  pub few : length g.nodes < 2 ^ 32
  pub valid_root : IsValidSlot (length g.nodes) g.root
  pub each : All (IsValidNode g.nodes) g.nodes
