-- The nodes that a writer goes through: their shapes, and what is met from them.
use Rattle.std.proofs.Common.{◌≡◌, ℕ, List, [], ◌∷◌, map, Option, Some, None, option_map, option_and_then, refl, ap, ap₂, ◌∙◌}
use Rattle.std.proofs.lemmas.Option.{none-some}
use Rattle.std.specs.Prelude.{slice_get}
use Rattle.flight_value.specs.Graph as graph
use Rattle.flight_value.specs.Listed.{In}
use Rattle.flight_value.specs.Store as store
use Rattle.flight_value.specs.Store.{Label, Shape}
use Rattle.flight_value.specs.declared.graph.Node.{Node}
use Rattle.flight_value.specs.declared.graph.Node.TheVariants as node
use Rattle.flight_value.specs.declared.graph.Slot.{Slot}
use Rattle.flight_value.specs.declared.graph.Slot.TheVariants as slot
use Rattle.flight_value.specs.declared.key.Key.{Key}
use Rattle.flight_value.specs.declared.key.Key.TheVariants as key
use Rattle.flight_value.specs.declared.made.Made.{Made}
use Rattle.flight_value.specs.declared.name.Name.{Name}
use Rattle.flight_syntax.specs.declared.script.Outcome.{Outcome}
use Rattle.flight_render.specs.declared.root.Ground.{Ground}
use Rattle.flight_render.specs.Values.{tree_of, outcomes, node_in}
use Rattle.flight_render.specs.Jobs.{Value, shown}
use Rattle.flight_render.specs.Plain.{made_shape, label_of_kind, source_slots, source_shape}
use Rattle.flight_state.specs.Local.{Seen, Met, at_first, in_slot, shape_seen}
use Rattle.flight_emit.specs.Good.{IsNode}
use Rattle.flight_emit.specs.Log.{value_of_key}
use Rattle.flight_emit.specs.Nodes.{slot_tree, slots_of_source, IsPlainNode}

-- ---- shapes

same_slot : (o : Outcome) (source : ℕ) (s : Slot) → shown (tree_of o source s) ≡ shown (slot_tree source s)
same_slot o source (slot.Atom a) = refl
same_slot o source (slot.Node n) = refl

same_slots : (o : Outcome) (source : ℕ) (ss : List Slot) → map (λ s. shown (tree_of o source s)) ss ≡ map (λ s. shown (slot_tree source s)) ss
same_slots o source [] = refl
same_slots o source (s ∷ ss) = ap₂ (λ x xs. x ∷ xs) (same_slot o source s) (same_slots o source ss)

plain_slots : (o : Outcome) (source : ℕ) (n : Node) → IsPlainNode n → source_slots o source n ≡ slots_of_source source n
plain_slots o source (node.Promise held) h = absurd h
plain_slots o source (node.Array items) h = same_slots o source (graph.slots_of (node.Array items))
plain_slots o source (node.Object props) h = same_slots o source (graph.slots_of (node.Object props))
plain_slots o source (node.Map pairs) h = same_slots o source (graph.slots_of (node.Map pairs))
plain_slots o source (node.Set items) h = same_slots o source (graph.slots_of (node.Set items))
plain_slots o source (node.Element tag k props) h = same_slots o source (graph.slots_of (node.Element tag k props))
plain_slots o source (node.Stream flow items end) h = same_slots o source (graph.slots_of (node.Stream flow items end))
plain_slots o source (node.Action id bound) h = same_slots o source (graph.slots_of (node.Action id bound))

outcome_shape : (o : Option Outcome) (source i : ℕ) (n : Node) → IsPlainNode n → option_and_then (λ x. node_in x i) o ≡ Some n
    → option_and_then (λ x. option_map (source_shape x source) (node_in x i)) o ≡ Some (record { label = store.label_of n; slots = slots_of_source source n })
outcome_shape None source i n plain e = absurd (none-some n e)
outcome_shape (Some o) source i n plain e = ap (option_map (source_shape o source)) e ∙ ap (λ z. Some (record { label = store.label_of n; slots = z })) (plain_slots o source n plain)

pub source_shaped : (g : Ground) (seen : Seen) (source i : ℕ) (n : Node) → IsPlainNode n → option_and_then (λ o. node_in o i) (slice_get (outcomes g) source) ≡ Some n
    → shape_seen g seen (key.Source source i) ≡ Some (record { label = store.label_of n; slots = slots_of_source source n })
source_shaped g seen source i n plain e = outcome_shape (slice_get (outcomes g) source) source i n plain e

pub made_shaped : (g : Ground) (seen : Seen) (name : Name) (m : Made) (label : Label) → seen.look name ≡ Some m → label_of_kind g m.kind ≡ Some label → shape_seen g seen (key.Made name) ≡ Some (record { label = label; slots = map shown m.slots })
made_shaped g seen name m label e f = ap (option_and_then (made_shape g)) e ∙ ap (option_map (λ l. record { label = l; slots = map shown m.slots })) f

-- ---- what is met from a node

pub slot_met : (g : Ground) (seen : Seen) (k : Key) (shape : Shape Value) (w : Value) → IsNode g seen (value_of_key k) k → shape_seen g seen k ≡ Some shape → In w shape.slots → Met g seen (value_of_key k) w
slot_met g seen k shape w node is_shape i = in_slot at_first node.is_seen node.no_job node.is_target node.lasting is_shape i
