-- The nodes and the slots that a writer goes through.
use Rattle.std.specs.Prelude.{ℕ, ◌≡◌, ◌≤◌, ◌^◌, List, [], map, Option, Some, slice_get, option_and_then}
use Rattle.flight_value.specs.Graph as graph
use Rattle.flight_value.specs.Store as store
use Rattle.flight_value.specs.Store.{Label}
use Rattle.flight_value.specs.declared.graph.Node.{Node}
use Rattle.flight_value.specs.declared.graph.Node.TheVariants as node
use Rattle.flight_value.specs.declared.graph.Slot.{Slot}
use Rattle.flight_value.specs.declared.key.Key.{Key}
use Rattle.flight_value.specs.declared.key.Key.TheVariants as key
use Rattle.flight_value.specs.declared.made.MadeKind.{MadeKind}
use Rattle.flight_value.specs.declared.made.MadeKind.TheVariants as kind
use Rattle.flight_value.specs.declared.made.Tree.{Tree}
use Rattle.flight_syntax.specs.declared.script.Outcome.TheVariants as outcome
use Rattle.flight_render.specs.declared.root.Ground.{Ground}
use Rattle.flight_render.specs.Values.{tree_of, outcomes, node_in}
use Rattle.flight_render.specs.Jobs.{Value, shown}
use Rattle.flight_render.specs.Plain.{label_of_kind}
use Rattle.flight_value.specs.Listed.{In}
use Rattle.flight_eval.specs.declared.body.Body.{Body}
use Rattle.flight_render.specs.Valid.{IsNamed}
use Rattle.flight_text.specs.declared.mark.Ref.{Ref}
use Rattle.flight_meaning.specs.declared.place.Place.{Place}
use Rattle.flight_meaning.specs.declared.place.Place.TheVariants as place
use Rattle.flight_state.specs.Local.{Seen, Met, shape_seen}
use Rattle.flight_value.specs.declared.made.Tree.TheVariants as tree
use Rattle.flight_emit.specs.declared.value.Target.{Target}
use Rattle.flight_emit.specs.declared.value.Target.TheVariants as target
use Rattle.flight_emit.specs.Good.{IsNode}
use Rattle.flight_emit.specs.Log.{value_of_key, Stage, ArePlaces}
use Rattle.flight_emit.specs.Seen.{look, seen_of}
use Rattle.flight_emit.specs.declared.node.Node.{Node as Written}
use Rattle.flight_emit.specs.declared.node.Node.TheVariants as written
use Rattle.flight_emit.specs.declared.node.Item.{Item}
use Rattle.flight_emit.specs.declared.node.Item.TheVariants as item
use Rattle.flight_emit.specs.declared.node.Sort.{Sort}
use Rattle.flight_emit.specs.declared.node.Sort.TheVariants as sort

-- the value that a slot of a source is, which no outcome changes
abbrev pub slot_tree : ℕ → Slot → Tree
slot_tree source slot = tree_of (outcome.Reject []) source slot

abbrev pub tree_in : Item → Tree
tree_in (item.Tree t) = t.now
tree_in (item.Slot source slot) = slot_tree source slot.now

abbrev pub value_in : Item → Value
value_in i = shown (tree_in i)

abbrev pub slots_of_source : ℕ → Node → List Value
slots_of_source source n = map (λ slot. shown (slot_tree source slot)) (graph.slots_of n)

abbrev pub slots_in : Written → List Value
slots_in (written.Made m) = map shown m.now.slots
slots_in (written.Source source n) = slots_of_source source n.now

abbrev pub names_of_kind : MadeKind → List (List ℕ)
names_of_kind (kind.Object names) = names
names_of_kind k = []

abbrev pub names_of_node : Node → List (List ℕ)
names_of_node (node.Object props) = map (λ p. p.name) props
names_of_node n = []

abbrev pub names_in : Written → List (List ℕ)
names_in (written.Made m) = names_of_kind m.now.kind
names_in (written.Source source n) = names_of_node n.now

-- an array, an object or a Set
abbrev pub IsListedNode : Node → Type 0
IsListedNode (node.Array items) = Unit {0}
IsListedNode (node.Object props) = Unit {0}
IsListedNode (node.Set items) = Unit {0}
IsListedNode n = ⊥

abbrev pub IsListed : Written → Type 0
IsListed (written.Made m) = Unit {0}
IsListed (written.Source source n) = IsListedNode n.now

-- ---- how a node is written

abbrev pub sort_of_kind : MadeKind → Sort
sort_of_kind kind.Array = sort.Array
sort_of_kind (kind.Object names) = sort.Object
sort_of_kind kind.Map = sort.Map
sort_of_kind kind.Set = sort.Set
sort_of_kind kind.Element = sort.Element
sort_of_kind (kind.Server component) = sort.Server
sort_of_kind kind.Promise = sort.Promise
sort_of_kind (kind.Bound action) = sort.Action

abbrev pub sort_of_node : Node → Sort
sort_of_node (node.Array items) = sort.Array
sort_of_node (node.Object props) = sort.Object
sort_of_node (node.Map pairs) = sort.Map
sort_of_node (node.Set items) = sort.Set
sort_of_node (node.Element tag k props) = sort.Element
sort_of_node (node.Promise held) = sort.Promise
sort_of_node (node.Stream flow items end) = sort.Stream
sort_of_node (node.Action id bound) = sort.Action

abbrev pub sort_of : Written → Sort
sort_of (written.Made m) = sort_of_kind m.now.kind
sort_of (written.Source source n) = sort_of_node n.now

abbrev pub IsSort : Written → Sort → Type 0
IsSort n s = s ≡ sort_of n

-- what stands at a key, of what a writer sees
abbrev pub IsNodeAt : Ground → Seen → Key → Written → Type 0
IsNodeAt g seen (key.Made n) (written.Made m) = seen.look n ≡ Some m.now
IsNodeAt g seen (key.Source source i) (written.Source other n) = (other ≡ source) × (option_and_then (λ o. node_in o i) (slice_get (outcomes g) source) ≡ Some n.now)
IsNodeAt g seen k n = ⊥

abbrev pub label_in : Ground → Written → Option Label
label_in g (written.Made m) = label_of_kind g m.now.kind
label_in g (written.Source source n) = Some (store.label_of n.now)

-- ---- what a writer asks of what it writes

-- the homes that are there have spellings, and so have ids up to the next
abbrev pub IsReady : Stage → Type 0
IsReady s = ArePlaces s.homes × (s.next ≤ 2 ^ 31)

-- the slots of a node are named, and met from it
pub record AreSlots (g : Ground) (bodies : List Body) (k : Key) (slots : List Value) : Type 0 where
  pub named : (t : Tree) → In (shown t) slots → IsNamed g (look bodies) t
  pub met : (w : Value) → In w slots → Met g (seen_of bodies) (value_of_key k) w

-- no promise: a promise in a source's value holds its own slot
abbrev pub IsPlainNode : Node → Type 0
IsPlainNode (node.Promise held) = ⊥
IsPlainNode n = Unit {0}

-- a key that values have
abbrev pub IsValueKey : Key → Type 0
IsValueKey (key.Client client) = ⊥
IsValueKey (key.Symbol name) = ⊥
IsValueKey (key.Server n) = ⊥
IsValueKey k = Unit {0}

-- what a value is
abbrev pub IsTargetOf : Tree → Target → Type 0
IsTargetOf t (target.Atom a) = t ≡ tree.Atom a.now
IsTargetOf t (target.Key k) = (shown t ≡ value_of_key k) × IsValueKey k

-- a node that is written: it stands at its key, is no server element, and its slots are named and met
pub record IsWrittenNode (g : Ground) (bodies : List Body) (k : Key) (n : Written) (label : Label) : Type 0 where
  pub node : IsNode g (seen_of bodies) (value_of_key k) k
  pub shape : shape_seen g (seen_of bodies) k ≡ Some (record { label = label; slots = slots_in n })
  pub slots : AreSlots g bodies k (slots_in n)

-- how a reference to a node is written
abbrev pub reference_place : Sort → Ref → Place
reference_place sort.Promise at = place.Promise at.id
reference_place sort.Action at = place.Action at.id
reference_place s at = place.Value at
