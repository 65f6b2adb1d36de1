-- What nodes of single kinds have.
use Rattle.std.proofs.Common.{◌≡◌, ℕ, Bool, false, List, [], ◌∷◌, map, Option, Some, None, slice_get, refl, sym, ◌∙◌, ap, subst, inl, inr, ◌⊎◌}
use Rattle.std.specs.Prelude.{option_map, option_and_then, if◌then◌else◌}
use Rattle.std.proofs.lemmas.Option.{none-some, same_Some}
use Rattle.flight_value.specs.declared.graph.Atom.TheVariants as atom
use Rattle.flight_value.specs.declared.graph.Slot.{Slot}
use Rattle.flight_value.specs.declared.graph.Slot.TheVariants as slot
use Rattle.flight_value.specs.declared.graph.Node.{Node}
use Rattle.flight_value.specs.declared.graph.Node.TheVariants as node
use Rattle.flight_value.specs.declared.key.Key.{Key}
use Rattle.flight_value.specs.declared.key.Key.TheVariants as key
use Rattle.flight_value.specs.declared.made.MadeKind.{MadeKind}
use Rattle.flight_value.specs.declared.made.MadeKind.TheVariants as kind
use Rattle.flight_value.specs.declared.made.Made.{Made}
use Rattle.flight_value.specs.declared.made.Tree.{Tree}
use Rattle.flight_value.specs.declared.made.Tree.TheVariants as tree
use Rattle.flight_value.specs.declared.name.Name.{Name}
use Rattle.flight_value.specs.Graph.{Ascend, IsValidNode, IsValidKind, IsBound, IsPromise}
use Rattle.flight_value.specs.Store as store
use Rattle.flight_value.specs.declared.graph.Flow.{Flow}
use Rattle.flight_value.specs.Store.{Shape, Label, FlowState, label_of}
use Rattle.flight_syntax.specs.declared.script.Flowing.{Flowing}
use Rattle.flight_syntax.specs.declared.script.Outcome.{Outcome}
use Rattle.flight_syntax.specs.declared.script.Outcome.TheVariants as outcome
use Rattle.flight_render.specs.declared.root.Ground.{Ground}
use Rattle.flight_render.specs.Values.{outcomes, node_in, tree_of}
use Rattle.flight_render.specs.Bodies.{node_at}
use Rattle.flight_render.specs.Jobs.{Value, shown, of_job, is_server, element, job_of, target_of, outcome as outcome_job}
use Rattle.flight_render.specs.Plain.{NodeIs, made_shape, label_of_kind, source_slots, source_shape, flow, flow_shape, state_of, action_name}
use Rattle.flight_render.specs.Valid.{IsValidGround, MadeWell, MadeAs, IsPromiseKind}
use Rattle.flight_render.proofs.Sourced.{each_of, each_at, IsValidOutcome, outcome_valid}
use Rattle.flight_render.proofs.There.{node_known}

-- ---- labels

same_names : (xs ys : List (List ℕ)) → store.object xs ≡ store.object ys → xs ≡ ys
same_names xs ys e = cc

-- the label of a shape that a body made
label_made : (g : Ground) (m : Made) (shape : Shape Value) → made_shape g m ≡ Some shape → label_of_kind g m.kind ≡ Some shape.label
label_made g m shape e = go (label_of_kind g m.kind) e
  where
    go : (o : Option Label) → option_map (λ (l : Label). record { label = l; slots = map shown m.slots }) o ≡ Some shape → o ≡ Some shape.label
    go None h = absurd (none-some shape h)
    go (Some l) h = ap Some (ap (λ (z : Shape Value). z.label) (same_Some (record { label = l; slots = map shown m.slots }) shape h))

slots_made : (g : Ground) (m : Made) (shape : Shape Value) → made_shape g m ≡ Some shape → shape.slots ≡ map shown m.slots
slots_made g m shape e = go (label_of_kind g m.kind) e
  where
    go : (o : Option Label) → option_map (λ (l : Label). record { label = l; slots = map shown m.slots }) o ≡ Some shape → shape.slots ≡ map shown m.slots
    go None h = absurd (none-some shape h)
    go (Some l) h = sym (ap (λ (z : Shape Value). z.slots) (same_Some (record { label = l; slots = map shown m.slots }) shape h))

-- the node that a body made at a key
made_at_key : (g : Ground) (s : List Bool) (n : Name) (shape : Shape Value) → NodeIs g s (key.Made n) shape → (m : Made) × (node_at g s n ≡ Some m) × (made_shape g m ≡ Some shape)
made_at_key g s n shape is = go (node_at g s n) refl is
  where
    go : (o : Option Made) → node_at g s n ≡ o → option_and_then (made_shape g) o ≡ Some shape → (m : Made) × (node_at g s n ≡ Some m) × (made_shape g m ≡ Some shape)
    go None at h = absurd (none-some shape h)
    go (Some m) at h = (m, at, h)

-- the node of a source at a key
source_at_key : (g : Ground) (s : List Bool) (i n : ℕ) (shape : Shape Value) → NodeIs g s (key.Source i n) shape → (o : Outcome) × (x : Node) × (slice_get (outcomes g) i ≡ Some o) × (node_in o n ≡ Some x) × (source_shape o i x ≡ shape)
source_at_key g s i n shape is = go (slice_get (outcomes g) i) refl is
  where
    inside : (o : Outcome) → slice_get (outcomes g) i ≡ Some o → (p : Option Node) → node_in o n ≡ p → option_map (source_shape o i) p ≡ Some shape → (o : Outcome) × (x : Node) × (slice_get (outcomes g) i ≡ Some o) × (node_in o n ≡ Some x) × (source_shape o i x ≡ shape)
    inside o at None in_it h = absurd (none-some shape h)
    inside o at (Some x) in_it h = (o, x, at, in_it, same_Some (source_shape o i x) shape h)

    go : (q : Option Outcome) → slice_get (outcomes g) i ≡ q → option_and_then (λ o. option_map (source_shape o i) (node_in o n)) q ≡ Some shape → (o : Outcome) × (x : Node) × (slice_get (outcomes g) i ≡ Some o) × (node_in o n ≡ Some x) × (source_shape o i x ≡ shape)
    go None at h = absurd (none-some shape h)
    go (Some o) at h = inside o at (node_in o n) refl h

-- the graph that a source's node stands in
kind_in : (o : Outcome) (n : ℕ) (x : Node) → IsValidOutcome o → node_in o n ≡ Some x → (nodes : List Node) × IsValidKind nodes x × ((m : ℕ) → node_in o m ≡ slice_get nodes m)
kind_in (outcome.Value gr) n x v e = (gr.nodes, (each_at (IsValidNode gr.nodes) gr.nodes n x (each_of (IsValidNode gr.nodes) gr.nodes v.each) e).kind, λ m. refl)
kind_in (outcome.Reject d) n x v e = absurd (none-some x e)

-- ---- objects

object_kind : (g : Ground) (find : Name → Option Made) (k : MadeKind) (slots : List Tree) (names : List (List ℕ)) → MadeWell g find k slots → label_of_kind g k ≡ Some (store.object names) → Ascend names
object_kind g find (kind.Object ns) slots names well e = subst Ascend (same_names ns names (same_Some (store.object ns) (store.object names) e)) well.0
object_kind g find kind.Array slots names well e = cc
object_kind g find kind.Map slots names well e = cc
object_kind g find kind.Set slots names well e = cc
object_kind g find kind.Element slots names well e = cc
object_kind g find (kind.Server c) slots names well e = absurd (none-some (store.object names) e)
object_kind g find kind.Promise slots names well e = cc
object_kind g find (kind.Bound a) slots names well e = cc

object_node : (nodes : List Node) (x : Node) (names : List (List ℕ)) → IsValidKind nodes x → label_of x ≡ store.object names → Ascend names
object_node nodes (node.Object props) names h e = subst Ascend (same_names (map (λ p. p.name) props) names e) h
object_node nodes (node.Array items) names h e = cc
object_node nodes (node.Map pairs) names h e = cc
object_node nodes (node.Set items) names h e = cc
object_node nodes (node.Element a b c) names h e = cc
object_node nodes (node.Promise o) names h e = cc
object_node nodes (node.Stream f items end) names h e = cc
object_node nodes (node.Action id bound) names h e = cc

label_of_some : (o : Shape Value) (shape : Shape Value) → Some o ≡ Some shape → o.label ≡ shape.label
label_of_some o shape e = ap (λ (z : Shape Value). z.label) (same_Some o shape e)

promise_or_object : (names : List (List ℕ)) → store.promise ≡ store.object names → ⊥
promise_or_object names e = cc

promise_or_action : (id : List ℕ) → store.promise ≡ store.action id → ⊥
promise_or_action id e = cc

action_or_object : (id : List ℕ) (names : List (List ℕ)) → store.action id ≡ store.object names → ⊥
action_or_object id names e = cc

stream_or_object : (f : Flow) (t : FlowState) (names : List (List ℕ)) → store.stream f t ≡ store.object names → ⊥
stream_or_object f t names e = cc

stream_or_action : (f : Flow) (t : FlowState) (id : List ℕ) → store.stream f t ≡ store.action id → ⊥
stream_or_action f t id e = cc

stream_label : (g : Ground) (s : List Bool) (o : Option Flowing) (shape : Shape Value) → option_map (flow_shape g s) o ≡ Some shape → (f : Flow) × (t : FlowState) × (store.stream f t ≡ shape.label)
stream_label g s None shape e = absurd (none-some shape e)
stream_label g s (Some x) shape e = (x.flow, state_of (flow g s x.items x.last).end, label_of_some (flow_shape g s x) shape e)

pub object_ascends : (g : Ground) → IsValidGround g → (s : List Bool) (k : Key) (shape : Shape Value) (names : List (List ℕ)) → NodeIs g s k shape → shape.label ≡ store.object names → Ascend names
object_ascends g valid s (key.Made n) shape names is l =
    let m = made_at_key g s n shape is in
    object_kind g (node_at g s) m.0.kind m.0.slots names (node_known g valid s n m.0 m.1).1 (label_made g m.0 shape m.2 ∙ ap Some l)
object_ascends g valid s (key.Source i n) shape names is l =
    let x = source_at_key g s i n shape is in
    let k = kind_in x.0 n x.1 (outcome_valid g valid i x.0 x.2) x.3 in
    object_node k.0 x.1 names k.1 (ap (λ (z : Shape Value). z.label) x.4 ∙ l)
object_ascends g valid s (key.Settled i) shape names is l = absurd (promise_or_object names (label_of_some (record { label = store.promise; slots = of_job (outcome_job i) ∷ [] }) shape is ∙ l))
object_ascends g valid s (key.Stream n) shape names is l =
    let t = stream_label g s (slice_get g.script.streams n) shape is in
    absurd (stream_or_object t.0 t.1 names (t.2 ∙ l))
object_ascends g valid s (key.Action a) shape names is l = absurd (action_or_object (action_name g a) names (label_of_some (record { label = store.action (action_name g a); slots = shown (tree.Atom atom.Null) ∷ [] }) shape is ∙ l))
object_ascends g valid s (key.Client c) shape names is l = absurd (none-some shape is)
object_ascends g valid s (key.Symbol c) shape names is l = absurd (none-some shape is)
object_ascends g valid s (key.Server c) shape names is l = absurd (none-some shape is)

-- ---- server references

-- what a server reference may be bound to: null, or a promise that is there
pub record IsPromiseAt (g : Ground) (s : List Bool) (v : Value) : Type 0 where
  pub at : Key
  pub no_job : job_of g s v ≡ None
  pub target : target_of v ≡ store.node_at at
  pub shape : Shape Value
  pub is_shape : NodeIs g s at shape
  pub label : shape.label ≡ store.promise

abbrev pub IsBoundValue : Ground → List Bool → Value → Type 0
IsBoundValue g s v = (v ≡ shown (tree.Atom atom.Null)) ⊎ IsPromiseAt g s v

promise_made : (k : MadeKind) (slots : List Tree) → IsPromiseKind k → is_server (Some (record { kind = k; slots = slots })) ≡ false
promise_made kind.Promise slots h = refl
promise_made kind.Array slots h = absurd h
promise_made (kind.Object ns) slots h = absurd h
promise_made kind.Map slots h = absurd h
promise_made kind.Set slots h = absurd h
promise_made kind.Element slots h = absurd h
promise_made (kind.Server c) slots h = absurd h
promise_made (kind.Bound a) slots h = absurd h

promise_kind : (g : Ground) (k : MadeKind) (slots : List Tree) → IsPromiseKind k → made_shape g (record { kind = k; slots = slots }) ≡ Some (record { label = store.promise; slots = map shown slots })
promise_kind g kind.Promise slots h = refl
promise_kind g kind.Array slots h = absurd h
promise_kind g (kind.Object ns) slots h = absurd h
promise_kind g kind.Map slots h = absurd h
promise_kind g kind.Set slots h = absurd h
promise_kind g kind.Element slots h = absurd h
promise_kind g (kind.Server c) slots h = absurd h
promise_kind g (kind.Bound a) slots h = absurd h

promise_there : (g : Ground) (s : List Bool) (t : Tree) → MadeAs (node_at g s) IsPromiseKind t → IsPromiseAt g s (shown t)
promise_there g s (tree.Made n) h = record {
  at = key.Made n;
  no_job = ap (λ b. if b then Some (element n) else None) (ap is_server h.1 ∙ promise_made h.0.kind h.0.slots h.2);
  target = refl;
  shape = record { label = store.promise; slots = map shown h.0.slots };
  is_shape = ap (option_and_then (made_shape g)) h.1 ∙ promise_kind g h.0.kind h.0.slots h.2;
  label = refl;
}
promise_there g s (tree.Atom a) h = absurd h
promise_there g s (tree.FromSource i n) h = absurd h
promise_there g s (tree.Promise i) h = absurd h
promise_there g s (tree.Stream i) h = absurd h
promise_there g s (tree.Action i) h = absurd h

bound_kind : (g : Ground) (s : List Bool) (k : MadeKind) (slots : List Tree) (id : List ℕ) → MadeWell g (node_at g s) k slots → label_of_kind g k ≡ Some (store.action id) → (t : Tree) × (slots ≡ t ∷ []) × IsPromiseAt g s (shown t)
bound_kind g s (kind.Bound a) slots id well e = (well.1.0, well.1.1, promise_there g s well.1.0 well.1.2)
bound_kind g s kind.Array slots id well e = cc
bound_kind g s (kind.Object ns) slots id well e = cc
bound_kind g s kind.Map slots id well e = cc
bound_kind g s kind.Set slots id well e = cc
bound_kind g s kind.Element slots id well e = cc
bound_kind g s (kind.Server c) slots id well e = absurd (none-some (store.action id) e)
bound_kind g s kind.Promise slots id well e = cc

-- a promise of a source's value
promise_source : (g : Ground) (s : List Bool) (i m : ℕ) (o : Outcome) (nodes : List Node) → slice_get (outcomes g) i ≡ Some o → node_in o m ≡ slice_get nodes m → (p : Option Node) → slice_get nodes m ≡ p → IsPromise p → IsPromiseAt g s (shown (tree.FromSource i m))
promise_source g s i m o nodes at same (Some (node.Promise held)) is h = record {
  at = key.Source i m;
  no_job = refl;
  target = refl;
  shape = source_shape o i (node.Promise held);
  is_shape = ap (option_and_then (λ z. option_map (source_shape z i) (node_in z m))) at ∙ ap (option_map (source_shape o i)) (same ∙ is);
  label = refl;
}
promise_source g s i m o nodes at same (Some (node.Array items)) is h = absurd h
promise_source g s i m o nodes at same (Some (node.Object props)) is h = absurd h
promise_source g s i m o nodes at same (Some (node.Map pairs)) is h = absurd h
promise_source g s i m o nodes at same (Some (node.Set items)) is h = absurd h
promise_source g s i m o nodes at same (Some (node.Element a b c)) is h = absurd h
promise_source g s i m o nodes at same (Some (node.Stream f items end)) is h = absurd h
promise_source g s i m o nodes at same (Some (node.Action id bound)) is h = absurd h
promise_source g s i m o nodes at same None is h = absurd h

bound_slot : (g : Ground) (s : List Bool) (i : ℕ) (o : Outcome) (nodes : List Node) → slice_get (outcomes g) i ≡ Some o → ((m : ℕ) → node_in o m ≡ slice_get nodes m) → (bound : Slot) → IsBound nodes bound → IsBoundValue g s (shown (tree_of o i bound))
bound_slot g s i o nodes at same (slot.Atom atom.Null) h = inl refl
bound_slot g s i o nodes at same (slot.Node m) h = inr (promise_source g s i m o nodes at (same m) (slice_get nodes m) refl h)
bound_slot g s i o nodes at same (slot.Atom atom.Undefined) h = absurd h
bound_slot g s i o nodes at same (slot.Atom (atom.Bool b)) h = absurd h
bound_slot g s i o nodes at same (slot.Atom (atom.Whole z)) h = absurd h
bound_slot g s i o nodes at same (slot.Atom (atom.Big z)) h = absurd h
bound_slot g s i o nodes at same (slot.Atom (atom.Text t)) h = absurd h
bound_slot g s i o nodes at same (slot.Atom (atom.Date t)) h = absurd h
bound_slot g s i o nodes at same (slot.Atom (atom.Symbol t)) h = absurd h
bound_slot g s i o nodes at same (slot.Atom (atom.Constant c)) h = absurd h
bound_slot g s i o nodes at same (slot.Atom (atom.Import t)) h = absurd h
bound_slot g s i o nodes at same (slot.Atom (atom.Failed t)) h = absurd h
bound_slot g s i o nodes at same (slot.Atom atom.Pending) h = absurd h

bound_node : (g : Ground) (s : List Bool) (i : ℕ) (o : Outcome) (nodes : List Node) (x : Node) (id : List ℕ) → slice_get (outcomes g) i ≡ Some o → ((m : ℕ) → node_in o m ≡ slice_get nodes m) → IsValidKind nodes x → label_of x ≡ store.action id → (v : Value) × (source_slots o i x ≡ v ∷ []) × IsBoundValue g s v
bound_node g s i o nodes (node.Action name bound) id at same h e = (shown (tree_of o i bound), refl, bound_slot g s i o nodes at same bound h)
bound_node g s i o nodes (node.Object props) id at same h e = cc
bound_node g s i o nodes (node.Array items) id at same h e = cc
bound_node g s i o nodes (node.Map pairs) id at same h e = cc
bound_node g s i o nodes (node.Set items) id at same h e = cc
bound_node g s i o nodes (node.Element a b c) id at same h e = cc
bound_node g s i o nodes (node.Promise p) id at same h e = cc
bound_node g s i o nodes (node.Stream f items end) id at same h e = cc

pub action_bound : (g : Ground) → IsValidGround g → (s : List Bool) (k : Key) (shape : Shape Value) (id : List ℕ) → NodeIs g s k shape → shape.label ≡ store.action id → (v : Value) × (shape.slots ≡ v ∷ []) × IsBoundValue g s v
action_bound g valid s (key.Made n) shape id is l =
    let m = made_at_key g s n shape is in
    let b = bound_kind g s m.0.kind m.0.slots id (node_known g valid s n m.0 m.1).1 (label_made g m.0 shape m.2 ∙ ap Some l) in
    (shown b.0, slots_made g m.0 shape m.2 ∙ ap (map shown) b.1, inr b.2)
action_bound g valid s (key.Source i n) shape id is l =
    let x = source_at_key g s i n shape is in
    let k = kind_in x.0 n x.1 (outcome_valid g valid i x.0 x.2) x.3 in
    let b = bound_node g s i x.0 k.0 x.1 id x.2 k.2 k.1 (ap (λ (z : Shape Value). z.label) x.4 ∙ l) in
    (b.0, sym (ap (λ (z : Shape Value). z.slots) x.4) ∙ b.1, b.2)
action_bound g valid s (key.Settled i) shape id is l = absurd (promise_or_action id (label_of_some (record { label = store.promise; slots = of_job (outcome_job i) ∷ [] }) shape is ∙ l))
action_bound g valid s (key.Stream n) shape id is l =
    let t = stream_label g s (slice_get g.script.streams n) shape is in
    absurd (stream_or_action t.0 t.1 id (t.2 ∙ l))
action_bound g valid s (key.Action a) shape id is l =
    let o : Shape Value = record { label = store.action (action_name g a); slots = shown (tree.Atom atom.Null) ∷ [] } in
    (shown (tree.Atom atom.Null), sym (ap (λ (z : Shape Value). z.slots) (same_Some o shape is)), inl refl)
action_bound g valid s (key.Client c) shape id is l = absurd (none-some shape is)
action_bound g valid s (key.Symbol c) shape id is l = absurd (none-some shape is)
action_bound g valid s (key.Server c) shape id is l = absurd (none-some shape is)
