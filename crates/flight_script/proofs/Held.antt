-- What the graphs of sources hold.
use Rattle.std.proofs.Common.{◌≡◌, ℕ, Bool, true, false, List, [], ◌∷◌, length, map, sym, subst, Option, Some, None, option_map, nat_lt, ◌&&◌}
use Rattle.std.specs.Prelude.{ℤ, if◌then◌else◌, codes, ◌==◌}
use Rattle.std.specs.List.{AllByRecursion, AllZip, flat_map}
use Rattle.std.proofs.lemmas.List.Elements.{All-from_recursion}
use Rattle.serde_json.specs.Data.{Data, null, boolean, number, string, array, object}
use Rattle.flight_value.specs.declared.graph.Atom.TheVariants as atom
use Rattle.flight_value.specs.declared.graph.Slot.{Slot}
use Rattle.flight_value.specs.declared.graph.Slot.TheVariants as slot
use Rattle.flight_value.specs.declared.graph.Node.{Node}
use Rattle.flight_value.specs.declared.graph.Node.TheVariants as node
use Rattle.flight_value.specs.declared.graph.Graph.{Graph}
use Rattle.flight_text.specs.declared.mark.Mark.{Mark}
use Rattle.flight_text.specs.declared.mark.Mark.TheVariants as mark
use Rattle.flight_text.specs.Whole.{whole_of}
use Rattle.flight_syntax.specs.Script.{IsSourceSlot, IsSourceNode}
use Rattle.flight_script.specs.Slots.{slot_of, IsSlot, IsNode, list_in, members_in}
use Rattle.flight_script.specs.Sources.{IsGraph}
use Rattle.flight_script.proofs.Marks.{some≢none}
use Rattle.flight_script.proofs.Once.{some_one}
use Rattle.flight_script.proofs.Valid.{slots_each, props_each, pairs_each}

is_held : (a s : Slot) → Some a ≡ Some s → IsSourceSlot a → IsSourceSlot s
is_held a s h held = subst IsSourceSlot (some_one a s h) held

node_held : (b : Bool) (id : ℕ) (s : Slot) → (if b then Some (slot.Node id) else None) ≡ Some s → IsSourceSlot s
node_held true id s h = is_held (slot.Node id) s h tt
node_held false id s h = absurd (some≢none s (sym h))

mark_held : (count : ℕ) (m : Mark) (s : Slot) → slot_of count m ≡ Some s → IsSourceSlot s
mark_held count (mark.Plain t) s h = is_held (slot.Atom (atom.Text t)) s h tt
mark_held count (mark.Value place) s h = node_held ((length place.path == 0) && nat_lt place.id count) place.id s h
mark_held count (mark.Date date) s h = is_held (slot.Atom (atom.Date date)) s h tt
mark_held count (mark.Big n) s h = is_held (slot.Atom (atom.Big n)) s h tt
mark_held count (mark.Symbol name) s h = is_held (slot.Atom (atom.Symbol name)) s h tt
mark_held count mark.Undefined s h = is_held (slot.Atom atom.Undefined) s h tt
mark_held count (mark.Constant c) s h = is_held (slot.Atom (atom.Constant c)) s h tt
mark_held count _ s h = absurd (some≢none s (sym h))

number_held : (o : Option ℤ) (s : Slot) → option_map (λ z. slot.Atom (atom.Whole z)) o ≡ Some s → IsSourceSlot s
number_held None s h = absurd (some≢none s (sym h))
number_held (Some z) s h = is_held (slot.Atom (atom.Whole z)) s h tt

-- no import, no failure, nothing that is pending
slot_held : (count : ℕ) (d : Data) (s : Slot) → IsSlot count d s → IsSourceSlot s
slot_held count null s h = subst IsSourceSlot (sym h) tt
slot_held count (boolean b) s h = subst IsSourceSlot (sym h) tt
slot_held count (number x) s h = number_held (whole_of x) s h
slot_held count (string t) s h = mark_held count h.0 s h.2
slot_held count (array ds) s h = absurd h
slot_held count (object ms) s h = absurd h

is_source_node : (count : ℕ) (d : Data) (n : Node) → IsNode count d n → IsSourceNode n
is_source_node count d (node.Array ss) h = (tt, All-from_recursion IsSourceSlot ss (slots_each count IsSourceSlot (slot_held count) (list_in (codes "array") d) ss h))
is_source_node count d (node.Object ps) h = (tt, All-from_recursion IsSourceSlot (map (λ p. p.slot) ps) (props_each count IsSourceSlot (slot_held count) (members_in (codes "object") d) ps h))
is_source_node count d (node.Map ps) h = (tt, All-from_recursion IsSourceSlot (flat_map (λ p. p.key ∷ p.value ∷ []) ps) (pairs_each count IsSourceSlot (slot_held count) (list_in (codes "map") d) ps h))
is_source_node count d (node.Set ss) h = (tt, All-from_recursion IsSourceSlot ss (slots_each count IsSourceSlot (slot_held count) (list_in (codes "set") d) ss h))
is_source_node count d (node.Element t k p) h = absurd h
is_source_node count d (node.Promise o) h = absurd h
is_source_node count d (node.Stream l i x) h = absurd h
is_source_node count d (node.Action i b) h = absurd h

are_source_nodes : (count : ℕ) (ds : List Data) (ns : List Node) → AllZip (IsNode count) ds ns → AllByRecursion IsSourceNode ns
are_source_nodes count [] [] h = tt
are_source_nodes count [] (n ∷ ns) h = absurd h
are_source_nodes count (d ∷ ds) [] h = tt
are_source_nodes count (d ∷ ds) (n ∷ ns) h = (is_source_node count d n h.0, are_source_nodes count ds ns h.1)

pub root_held : (o : Option (Data × List Data)) (g : Graph) → IsGraph o g → IsSourceSlot g.root
root_held None g h = absurd h
root_held (Some parts) g h = slot_held (length parts.1) parts.0 g.root h.0

pub nodes_held : (o : Option (Data × List Data)) (g : Graph) → IsGraph o g → AllByRecursion IsSourceNode g.nodes
nodes_held None g h = absurd h
nodes_held (Some parts) g h = are_source_nodes (length parts.1) parts.1 g.nodes h.1
