-- The canon of a valid graph is valid.
use Rattle.std.proofs.Common.{◌≡◌, ℕ, zero, suc, ◌<◌, ◌^◌, List, [], ◌∷◌, ◌++◌, length, map, Option, Some, None, unwrap_or, slice_get, refl, sym, ◌∙◌, ap, subst, arith, inl, inr, zero-add}
use Rattle.std.specs.Prelude.{All, option_map}
use Rattle.std.specs.List.{AllByRecursion, flat_map}
use Rattle.std.proofs.lemmas.Map.Steps.{length-le_from_distinct_below}
use Rattle.std.proofs.lemmas.List.{length-map, map-append}
use Rattle.std.proofs.lemmas.List.Elements.{All-from_recursion, All-map, recursion_from_All}
use Rattle.std.proofs.lemmas.Option.{slice_get-map}
use Rattle.flight_value.specs.Graph.{Ascend, IsBound, IsPromise, IsValid, IsValidKind, IsValidNode, IsValidSlot, end_slots, slots_of}
use Rattle.flight_value.specs.declared.graph.Atom.{Atom}
use Rattle.flight_value.specs.declared.graph.Atom.TheVariants as atom
use Rattle.flight_value.specs.declared.graph.Slot.{Slot}
use Rattle.flight_value.specs.declared.graph.Slot.TheVariants as slot
use Rattle.flight_value.specs.declared.graph.End.{End}
use Rattle.flight_value.specs.declared.graph.End.TheVariants as end
use Rattle.flight_value.specs.declared.graph.Prop.{Prop}
use Rattle.flight_value.specs.declared.graph.Pair.{Pair}
use Rattle.flight_value.specs.declared.graph.Node.{Node}
use Rattle.flight_value.specs.declared.graph.Node.TheVariants as node
use Rattle.flight_value.specs.declared.graph.Graph.{Graph}
use Rattle.flight_graph.specs.Canon.{canon_of, canon_under, map_end, map_pair, map_prop, map_slots, node_at, place_in, renamed, visited_of}
use Rattle.flight_graph.proofs.Reached.{In, IsMet, Reaches, below_in, place_of_in, visited_reaches}

-- ---- the slots of a node with its slots changed

props-map : (f : Slot → Slot) (props : List Prop) → map (λ p. p.slot) (map (map_prop f) props) ≡ map f (map (λ p. p.slot) props)
props-map f [] = refl
props-map f (p ∷ props) = ap (λ s. f p.slot ∷ s) (props-map f props)

pairs-map : (f : Slot → Slot) (pairs : List Pair) → flat_map (λ p. p.key ∷ p.value ∷ []) (map (map_pair f) pairs) ≡ map f (flat_map (λ p. p.key ∷ p.value ∷ []) pairs)
pairs-map f [] = refl
pairs-map f (p ∷ pairs) = ap (λ s. f p.key ∷ f p.value ∷ s) (pairs-map f pairs)

ends-map : (f : Slot → Slot) (e : End) → end_slots (map_end f e) ≡ map f (end_slots e)
ends-map f end.Going = refl
ends-map f (end.Closed s) = refl
ends-map f (end.Broken digest) = refl

pub names-map : (f : Slot → Slot) (props : List Prop) → map (λ p. p.name) (map (map_prop f) props) ≡ map (λ p. p.name) props
names-map f [] = refl
names-map f (p ∷ props) = ap (λ s. p.name ∷ s) (names-map f props)

pub slots_of-map_slots : (f : Slot → Slot) (n : Node) → slots_of (map_slots f n) ≡ map f (slots_of n)
slots_of-map_slots f (node.Array items) = refl
slots_of-map_slots f (node.Object props) = props-map f props
slots_of-map_slots f (node.Map pairs) = pairs-map f pairs
slots_of-map_slots f (node.Set items) = refl
slots_of-map_slots f (node.Element tag key props) = refl
slots_of-map_slots f (node.Promise outcome) = refl
slots_of-map_slots f (node.Stream flow items e) = ap (λ s. map f items ++ s) (ends-map f e) ∙ sym (map-append f items (end_slots e))
slots_of-map_slots f (node.Action id bound) = refl

-- ---- new numbers

pub met_place : (m : ℕ) (v : List ℕ) → IsMet v [] (slot.Node m) → (p : ℕ) × (unwrap_or (place_in m v) 0 ≡ p) × (p < length v) × (slice_get v p ≡ Some m)
met_place m v (inl h) =
    let found = place_of_in 0 m v h in
    (found.0, ap (λ o. unwrap_or o 0) found.1 ∙ zero-add found.0, found.2, found.3)
met_place m v (inr h) = absurd h

renamed_valid : (count : ℕ) (v : List ℕ) (s : Slot) → IsValidSlot count s → IsMet v [] s → IsValidSlot (length v) (renamed v s)
renamed_valid count v (slot.Atom a) valid met = valid
renamed_valid count v (slot.Node m) valid met = let found = met_place m v met in subst (λ p. p < length v) (sym found.1) found.2

slots_valid : (count : ℕ) (v : List ℕ) (slots : List Slot) → AllByRecursion (IsValidSlot count) slots → AllByRecursion (IsMet v []) slots → AllByRecursion (IsValidSlot (length v)) (map (renamed v) slots)
slots_valid count v [] valid met = tt
slots_valid count v (s ∷ slots) valid met = (renamed_valid count v s valid.0 met.0, slots_valid count v slots valid.1 met.1)

-- ---- what a server reference is bound to

bound_atom : (nodes nodes' : List Node) (a : Atom) → IsBound nodes (slot.Atom a) → IsBound nodes' (slot.Atom a)
bound_atom nodes nodes' atom.Null h = tt
bound_atom nodes nodes' atom.Undefined h = h
bound_atom nodes nodes' (atom.Bool b) h = h
bound_atom nodes nodes' (atom.Whole z) h = h
bound_atom nodes nodes' (atom.Big z) h = h
bound_atom nodes nodes' (atom.Text text) h = h
bound_atom nodes nodes' (atom.Date text) h = h
bound_atom nodes nodes' (atom.Symbol text) h = h
bound_atom nodes nodes' (atom.Constant c) h = h
bound_atom nodes nodes' (atom.Import json) h = h
bound_atom nodes nodes' (atom.Failed digest) h = h
bound_atom nodes nodes' atom.Pending h = h

promise_kept : (f : Slot → Slot) (o : Option Node) → IsPromise o → IsPromise (Some (map_slots f (unwrap_or o (node.Array []))))
promise_kept f None h = absurd h
promise_kept f (Some (node.Promise outcome)) h = tt
promise_kept f (Some (node.Array items)) h = absurd h
promise_kept f (Some (node.Object props)) h = absurd h
promise_kept f (Some (node.Map pairs)) h = absurd h
promise_kept f (Some (node.Set items)) h = absurd h
promise_kept f (Some (node.Element tag key props)) h = absurd h
promise_kept f (Some (node.Stream flow items e)) h = absurd h
promise_kept f (Some (node.Action id bound)) h = absurd h

pub canon_node : Graph → List ℕ → ℕ → Node
canon_node g v n = map_slots (renamed v) (node_at g.nodes n)

bound_kept : (g : Graph) (v : List ℕ) (s : Slot) → IsMet v [] s → IsBound g.nodes s → IsBound (canon_under g v).nodes (renamed v s)
unfolding canon_node
bound_kept g v (slot.Atom a) met h = bound_atom g.nodes (canon_under g v).nodes a h
bound_kept g v (slot.Node m) met h =
    let found = met_place m v met in
    let stands : slice_get (map (canon_node g v) v) found.0 ≡ Some (canon_node g v m) = slice_get-map (canon_node g v) v found.0 ∙ ap (option_map (canon_node g v)) found.3 in
    subst IsPromise (sym (ap (slice_get (map (canon_node g v) v)) found.1 ∙ stands)) (promise_kept (renamed v) (slice_get g.nodes m) h)

kind_kept : (g : Graph) (v : List ℕ) (n : Node) → AllByRecursion (IsMet v []) (slots_of n) → IsValidKind g.nodes n → IsValidKind (canon_under g v).nodes (map_slots (renamed v) n)
kind_kept g v (node.Array items) met h = tt
kind_kept g v (node.Object props) met h = subst Ascend (sym (names-map (renamed v) props)) h
kind_kept g v (node.Map pairs) met h = tt
kind_kept g v (node.Set items) met h = tt
kind_kept g v (node.Element tag key props) met h = tt
kind_kept g v (node.Promise outcome) met h = tt
kind_kept g v (node.Stream flow items e) met h = tt
kind_kept g v (node.Action id bound) met h = bound_kept g v bound met.0 h

-- ---- the whole

node_valid : (g : Graph) (v : List ℕ) (n : Node) → AllByRecursion (IsMet v []) (slots_of n) → IsValidNode g.nodes n → IsValidNode (canon_under g v).nodes (map_slots (renamed v) n)
node_valid g v n met valid =
    let slots = slots_of-map_slots (renamed v) n in
    let long : length (slots_of (map_slots (renamed v) n)) ≡ length (slots_of n) = ap length slots ∙ length-map (slots_of n) (renamed v) in
    let count : length (canon_under g v).nodes ≡ length v = length-map v (λ n. map_slots (renamed v) (node_at g.nodes n)) in
    let each = slots_valid (length g.nodes) v (slots_of n) (recursion_from_All (IsValidSlot (length g.nodes)) (slots_of n) valid.slots) met in
    record {
      few = subst (λ k. k < 2 ^ 32) (sym long) valid.few;
      slots = subst (λ k. All (IsValidSlot k) (slots_of (map_slots (renamed v) n))) (sym count) (subst (All (IsValidSlot (length v))) (sym slots) (All-from_recursion (IsValidSlot (length v)) (map (renamed v) (slots_of n)) each));
      kind = kind_kept g v n met valid.kind;
    }

valid_at : (all nodes : List Node) (n : ℕ) → n < length nodes → AllByRecursion (IsValidNode all) nodes → IsValidNode all (node_at nodes n)
valid_at all [] n within h = absurd (omega (arith, within))
valid_at all (x ∷ nodes) zero within h = h.0
valid_at all (x ∷ nodes) (suc n) within h = valid_at all nodes n (omega (arith, within)) h.1

all_in : (P : ℕ → Type 0) (v : List ℕ) → ((n : ℕ) → In n v → P n) → AllByRecursion P v
all_in P [] f = tt
all_in P (x ∷ v) f = (f x (inl refl), all_in P v (λ n h. f n (inr h)))

under_valid : (g : Graph) (v : List ℕ) → IsValid g → Reaches g v [] → IsValid (canon_under g v)
under_valid g v valid r =
    let f : ℕ → Node = λ n. map_slots (renamed v) (node_at g.nodes n) in
    let count : length (canon_under g v).nodes ≡ length v = length-map v f in
    let most = length-le_from_distinct_below v (length g.nodes) r.distinct r.below in
    let nodes = recursion_from_All (IsValidNode g.nodes) g.nodes valid.each in
    record {
      few = omega (arith, count, most, valid.few);
      valid_root = subst (λ k. IsValidSlot k (renamed v g.root)) (sym count) (renamed_valid (length g.nodes) v g.root valid.valid_root r.root_met);
      each = All-map (IsValidNode (canon_under g v).nodes) f v (All-from_recursion (λ n. IsValidNode (canon_under g v).nodes (f n)) v (all_in (λ n. IsValidNode (canon_under g v).nodes (f n)) v (λ n h. node_valid g v (node_at g.nodes n) (r.all_met n h) (valid_at g.nodes g.nodes n (below_in (length g.nodes) n v r.below h) nodes))));
    }

pub canon_valid : (g : Graph) → IsValid g → IsValid (canon_of g)
unfolding canon_of
canon_valid g valid = under_valid g (visited_of g) valid (visited_reaches g valid)
