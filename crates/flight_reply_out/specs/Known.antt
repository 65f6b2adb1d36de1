-- What is known of the nodes of a canon that can be sent; for private clauses.
use Rattle.std.specs.Prelude.{ℕ, ◌^◌, ◌<◌, ◌≡◌, true, List, length, All}
use Rattle.flight_value.specs.Graph.{slots_of, IsValidSlot}
use Rattle.flight_value.specs.declared.graph.Slot.{Slot}
use Rattle.flight_value.specs.declared.graph.Prop.{Prop}
use Rattle.flight_value.specs.declared.graph.Pair.{Pair}
use Rattle.flight_value.specs.declared.graph.Node.{Node}
use Rattle.flight_reply_out.specs.Sent.{is_sent_slot, is_sent_node}

-- a slot of a node among so many
pub record IsGoodSlot (count : ℕ) (s : Slot) : Type 0 where
  pub valid : IsValidSlot count s
  pub sent : is_sent_slot s ≡ true

abbrev pub AreGoodSlots : ℕ → List Slot → Type 0
AreGoodSlots count slots = All (IsGoodSlot count) slots

abbrev pub AreGoodProps : ℕ → List Prop → Type 0
AreGoodProps count props = All (λ p. IsGoodSlot count p.slot) props

abbrev pub AreGoodPairs : ℕ → List Pair → Type 0
AreGoodPairs count pairs = All (λ p. IsGoodSlot count p.key × IsGoodSlot count p.value) pairs

pub record IsGoodNode (count : ℕ) (n : Node) : Type 0 where
  pub few : length (slots_of n) < 2 ^ 32
  pub sent : is_sent_node n ≡ true
  pub slots : AreGoodSlots count (slots_of n)

abbrev pub AreGood : List Node → Type 0
AreGood nodes = All (IsGoodNode (length nodes)) nodes
