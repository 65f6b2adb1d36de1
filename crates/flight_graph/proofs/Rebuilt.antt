-- A node is made of what it is and of its slots.
use Rattle.std.proofs.Common.{◌≡◌, ℕ, List, [], ◌∷◌, ◌++◌, map, get_or, refl, sym, ◌∙◌, ap, ap₂, append-nil}
use Rattle.std.proofs.lemmas.List.{map-append}
use Rattle.std.specs.List.{flat_map}
use Rattle.flight_value.specs.Graph.{slots_of, end_slots}
use Rattle.flight_value.specs.Store.{flowing, closed, broken, Label, array, object, map_of, set_of, element, promise, stream, action, label_of, state_of}
use Rattle.flight_value.specs.declared.graph.Atom.TheVariants as atom
use Rattle.flight_value.specs.declared.graph.Slot.{Slot}
use Rattle.flight_value.specs.declared.graph.Slot.TheVariants as slot
use Rattle.flight_value.specs.declared.graph.Flow.{Flow}
use Rattle.flight_value.specs.declared.graph.End.{End}
use Rattle.flight_value.specs.declared.graph.End.TheVariants as end
use Rattle.flight_value.specs.declared.graph.Prop.{Prop}
use Rattle.flight_value.specs.declared.graph.Pair.{Pair}
use Rattle.flight_value.specs.declared.graph.Node.{Node}
use Rattle.flight_value.specs.declared.graph.Node.TheVariants as node
use Rattle.flight_graph.specs.Canon.{map_slots, map_end, map_prop, map_pair}

slot_in : List Slot → ℕ → Slot
slot_in slots n = get_or slots n (slot.Atom atom.Null)

front : List Slot → List Slot
front [] = []
front (s ∷ []) = []
front (s ∷ t ∷ slots) = s ∷ front (t ∷ slots)

final : List Slot → Slot
final [] = slot.Atom atom.Null
final (s ∷ []) = s
final (s ∷ t ∷ slots) = final (t ∷ slots)

props_of : List (List ℕ) → List Slot → List Prop
props_of [] slots = []
props_of (n ∷ names) [] = []
props_of (n ∷ names) (s ∷ slots) = record { name = n; slot = s } ∷ props_of names slots

pairs_of : List Slot → List Pair
pairs_of [] = []
pairs_of (s ∷ []) = []
pairs_of (s ∷ t ∷ slots) = record { key = s; value = t } ∷ pairs_of slots

-- the node of a label and slots
pub rebuilt : Label → List Slot → Node
rebuilt array slots = node.Array slots
rebuilt (object names) slots = node.Object (props_of names slots)
rebuilt map_of slots = node.Map (pairs_of slots)
rebuilt set_of slots = node.Set slots
rebuilt element slots = node.Element (slot_in slots 0) (slot_in slots 1) (slot_in slots 2)
rebuilt promise slots = node.Promise (slot_in slots 0)
rebuilt (stream flow flowing) slots = node.Stream flow slots end.Going
rebuilt (stream flow closed) slots = node.Stream flow (front slots) (end.Closed (final slots))
rebuilt (stream flow (broken digest)) slots = node.Stream flow slots (end.Broken digest)
rebuilt (action id) slots = node.Action id (slot_in slots 0)

front-snoc : (slots : List Slot) (s : Slot) → front (slots ++ s ∷ []) ≡ slots
unfolding front
front-snoc [] s = refl
front-snoc (r ∷ []) s = refl
front-snoc (r ∷ t ∷ slots) s = ap (λ ss. r ∷ ss) (front-snoc (t ∷ slots) s)

final-snoc : (slots : List Slot) (s : Slot) → final (slots ++ s ∷ []) ≡ s
unfolding final
final-snoc [] s = refl
final-snoc (r ∷ []) s = refl
final-snoc (r ∷ t ∷ slots) s = final-snoc (t ∷ slots) s

props-map : (f : Slot → Slot) (props : List Prop) → map (map_prop f) props ≡ props_of (map (λ p. p.name) props) (map f (map (λ p. p.slot) props))
unfolding props_of
props-map f [] = refl
props-map f (p ∷ props) = ap (λ ps. map_prop f p ∷ ps) (props-map f props)

pairs-map : (f : Slot → Slot) (pairs : List Pair) → map (map_pair f) pairs ≡ pairs_of (map f (flat_map (λ p. p.key ∷ p.value ∷ []) pairs))
unfolding pairs_of
pairs-map f [] = refl
pairs-map f (p ∷ pairs) = ap (λ ps. map_pair f p ∷ ps) (pairs-map f pairs)

stream-map : (f : Slot → Slot) (flow : Flow) (items : List Slot) (e : End) → node.Stream flow (map f items) (map_end f e) ≡ rebuilt (stream flow (state_of e)) (map f (items ++ end_slots e))
unfolding rebuilt
stream-map f flow items end.Going = ap (λ ss. node.Stream flow (map f ss) end.Going) (sym (append-nil items))
stream-map f flow items (end.Closed s) =
    let parts : map f (items ++ s ∷ []) ≡ map f items ++ f s ∷ [] = map-append f items (s ∷ []) in
    ap₂ (λ ss last. node.Stream flow ss (end.Closed last)) (sym (ap front parts ∙ front-snoc (map f items) (f s))) (sym (ap final parts ∙ final-snoc (map f items) (f s)))
stream-map f flow items (end.Broken digest) = ap (λ ss. node.Stream flow (map f ss) (end.Broken digest)) (sym (append-nil items))

pub map_slots-rebuilt : (f : Slot → Slot) (n : Node) → map_slots f n ≡ rebuilt (label_of n) (map f (slots_of n))
unfolding rebuilt slot_in
map_slots-rebuilt f (node.Array items) = refl
map_slots-rebuilt f (node.Object props) = ap node.Object (props-map f props)
map_slots-rebuilt f (node.Map pairs) = ap node.Map (pairs-map f pairs)
map_slots-rebuilt f (node.Set items) = refl
map_slots-rebuilt f (node.Element tag key props) = refl
map_slots-rebuilt f (node.Promise outcome) = refl
map_slots-rebuilt f (node.Stream flow items e) = stream-map f flow items e
map_slots-rebuilt f (node.Action id bound) = refl
