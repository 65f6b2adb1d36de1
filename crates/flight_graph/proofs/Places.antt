-- A walk's places are the new numbers.
use Rattle.std.proofs.Common.{◌≡◌, ℕ, List, map, Option, unwrap_or, codes, [], ◌++◌, refl, ◌∙◌, ap, ap₂}
use Rattle.std.proofs.Math.Path.{fun_ext}
use Rattle.flight_value.specs.declared.graph.Slot.{Slot}
use Rattle.flight_value.specs.declared.graph.Slot.TheVariants as slot
use Rattle.flight_value.specs.declared.graph.Node.{Node}
use Rattle.flight_value.specs.declared.graph.Graph.{Graph}
use Rattle.flight_graph.specs.declared.walk.Walk.{Walk}
use Rattle.flight_graph.specs.Canon.{node_at, map_slots, renamed, visited_of, canon_under, canon_of}
use Rattle.flight_graph.specs.Text.{slot_text, lines_from, graph_text, text_of}
use Rattle.flight_graph.specs.Walk.{placed, IsKept}

placed_slot : (count : ℕ) (w : Walk) → IsKept count w → (s : Slot) → placed w.places.items s ≡ renamed w.order.items s
placed_slot count w kept (slot.Atom a) = refl
placed_slot count w kept (slot.Node n) = ap (λ o. slot.Node (unwrap_or o 0)) (kept.is_placed n)

pub placed_renamed : (count : ℕ) (w : Walk) → IsKept count w → placed w.places.items ≡ renamed w.order.items
placed_renamed count w kept = fun_ext (placed_slot count w kept)

-- the graph that a walk's places give
pub placed_graph : Graph → Walk → Graph
placed_graph g w = record {
  root = placed w.places.items g.root;
  nodes = map (λ n. map_slots (placed w.places.items) (node_at g.nodes n)) w.order.items;
}

pub placed_canon : (count : ℕ) (g : Graph) (w : Walk) → IsKept count w → w.order.items ≡ visited_of g → placed_graph g w ≡ canon_of g
unfolding placed_graph canon_of
placed_canon count g w kept visited =
    ap (λ (f : Slot → Slot). let c : Graph = record { root = f g.root; nodes = map (λ n. map_slots f (node_at g.nodes n)) w.order.items } in c) (placed_renamed count w kept)
    ∙ ap (canon_under g) visited

pub canon_is : (count : ℕ) (g c : Graph) (w : Walk) (places : List (Option ℕ)) (nodes : List Node) (order : List ℕ) → IsKept count w → w.order.items ≡ visited_of g → places ≡ w.places.items → nodes ≡ g.nodes → order ≡ w.order.items → c.root ≡ placed places g.root → c.nodes ≡ map (λ n. map_slots (placed places) (node_at nodes n)) order → c ≡ canon_of g
unfolding placed_graph
canon_is count g c w places nodes order kept visited same same_nodes same_order root made =
    ap₂ (λ (root : Slot) (nodes : List Node). let c : Graph = record { root = root; nodes = nodes } in c)
    (root ∙ ap (λ ps. placed ps g.root) same)
    (made ∙ (ap₂ (λ ps ns. map (λ n. map_slots (placed ps) (node_at ns n)) order) same same_nodes ∙ ap (map (λ n. map_slots (placed w.places.items) (node_at g.nodes n))) same_order))
    ∙ placed_canon count g w kept visited

pub text_is : (count : ℕ) (g : Graph) (w : Walk) (places : List (Option ℕ)) (nodes : List Node) (order start begun root line whole : List ℕ) → IsKept count w → w.order.items ≡ visited_of g → places ≡ w.places.items → nodes ≡ g.nodes → order ≡ w.order.items → start ≡ [] → begun ≡ start ++ codes "root " → root ≡ begun ++ slot_text (placed places g.root) → line ≡ root ++ codes "\n" → whole ≡ line ++ lines_from 0 (map (λ n. map_slots (placed places) (node_at nodes n)) order) → whole ≡ text_of g
unfolding text_of
text_is count g w places nodes order start begun root line whole kept visited same same_nodes same_order nothing begins is_root ends lines =
    let c : Graph = record { root = placed places g.root; nodes = map (λ n. map_slots (placed places) (node_at nodes n)) order } in
    lines
    ∙ (ap (λ x. x ++ lines_from 0 c.nodes) (ends ∙ ap (λ x. x ++ codes "\n") (is_root ∙ ap (λ x. x ++ slot_text c.root) (begins ∙ ap (λ x. x ++ codes "root ") nothing)))
    ∙ ap graph_text (canon_is count g c w places nodes order kept visited same same_nodes same_order refl refl))
