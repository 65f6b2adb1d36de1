-- Which graphs can be sent.
use Rattle.std.specs.Prelude.{ℕ, ◌≡◌, ◌&&◌, not, Bool, true, false, List, Option, Some, None}
use Rattle.std.specs.List.{list_all, position}
use Rattle.flight_value.specs.declared.graph.Atom.{Atom}
use Rattle.flight_value.specs.declared.graph.Atom.TheVariants as atom
use Rattle.flight_value.specs.declared.graph.Slot.{Slot}
use Rattle.flight_value.specs.declared.graph.Slot.TheVariants as slot
use Rattle.flight_value.specs.declared.graph.Node.{Node}
use Rattle.flight_value.specs.declared.graph.Node.TheVariants as node
use Rattle.flight_value.specs.declared.graph.Graph.{Graph}
use Rattle.flight_reply_out.specs.declared.fault.ReplyOut.{ReplyOut}
use Rattle.flight_reply_out.specs.declared.fault.ReplyOut.TheVariants as out

-- all but symbols, client modules, failures and what is pending
abbrev pub is_sent_atom : Atom → Bool
is_sent_atom (atom.Symbol name) = false
is_sent_atom (atom.Import json) = false
is_sent_atom (atom.Failed digest) = false
is_sent_atom atom.Pending = false
is_sent_atom a = true

abbrev pub is_sent_slot : Slot → Bool
is_sent_slot (slot.Atom a) = is_sent_atom a
is_sent_slot (slot.Node n) = true

-- all but elements and streams, if each slot can be sent
abbrev pub is_sent_node : Node → Bool
is_sent_node (node.Array items) = list_all is_sent_slot items
is_sent_node (node.Object props) = list_all (λ p. is_sent_slot p.slot) props
is_sent_node (node.Map pairs) = list_all (λ p. is_sent_slot p.key && is_sent_slot p.value) pairs
is_sent_node (node.Set items) = list_all is_sent_slot items
is_sent_node (node.Element tag key props) = false
is_sent_node (node.Promise outcome) = is_sent_slot outcome
is_sent_node (node.Stream flow items end) = false
is_sent_node (node.Action id bound) = is_sent_slot bound

-- the least node that can't be sent, if there is one
abbrev pub first_unsent : List Node → Option ℕ
first_unsent nodes = position (λ n. not (is_sent_node n)) nodes

-- the root and each node can be sent
pub record IsSent (g : Graph) : Type 0 where
  pub root : is_sent_slot g.root ≡ true
  pub nodes : first_unsent g.nodes ≡ None

-- what can't be sent: the root's slot, or else the least node
abbrev pub IsUnsent : Graph → Option ℕ → Type 0
IsUnsent g None = is_sent_slot g.root ≡ false
IsUnsent g (Some n) = (is_sent_slot g.root ≡ true) × (first_unsent g.nodes ≡ Some n)

-- why a canon has no fields; want of memory says nothing
abbrev pub IsRefusal : Graph → ReplyOut → Type 0
IsRefusal g (out.NotSendable node) = IsUnsent g node
IsRefusal g out.Memory = Unit {0}
