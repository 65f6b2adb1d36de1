-- The worked bundle `<p id="a" n={[1,{x:null}]}/>`: its graph, with properties in any order.
use Rattle.std.proofs.Common.{◌≡◌, ℕ, List, [], ◌∷◌, codes, refl}
use Rattle.std.specs.Prelude.{pos}
use Rattle.flight_value.specs.declared.graph.Atom.TheVariants as atom
use Rattle.flight_value.specs.declared.graph.Slot.{Slot}
use Rattle.flight_value.specs.declared.graph.Slot.TheVariants as slot
use Rattle.flight_value.specs.declared.graph.Prop.{Prop}
use Rattle.flight_value.specs.declared.graph.Node.TheVariants as node
use Rattle.flight_value.specs.declared.graph.Graph.{Graph}
use Rattle.flight_top.specs.Static.{Static, null, whole, text, array, object, element, no_items, item_and, no_props, prop_and}
use Rattle.flight_top.specs.Drawn.{graph_of}

-- its attributes, the second first
example : Static
example = element (codes "p") (prop_and (codes "n") (array (item_and (whole 1) (item_and (object (prop_and (codes "x") null no_props)) no_items))) (prop_and (codes "id") (text (codes "a")) no_props))

abbrev named : List ℕ → Slot → Prop
named name s = record { name = name; slot = s }

drawn : Graph
drawn = record {
  root = slot.Node 0;
  nodes = node.Element (slot.Atom (atom.Text (codes "p"))) (slot.Atom atom.Null) (slot.Node 1)
      ∷ node.Object (named (codes "id") (slot.Atom (atom.Text (codes "a"))) ∷ named (codes "n") (slot.Node 2) ∷ [])
      ∷ node.Array (slot.Atom (atom.Whole (pos 1)) ∷ slot.Node 3 ∷ [])
      ∷ node.Object (named (codes "x") (slot.Atom atom.Null) ∷ [])
      ∷ [];
}

example-drawn : graph_of example ≡ drawn
unfolding example drawn
example-drawn = refl
