-- Over a valid ground what is reached is there, and every node that a value leads to has its shape.
use Rattle.std.proofs.Common.{◌≡◌, ℕ, zero, suc, ◌+◌, ◌<◌, Bool, true, false, cond, ◌⊎◌, inl, inr, List, [], ◌∷◌, ◌++◌, map, length, Option, Some, None, slice_get, refl, sym, ap, ◌∙◌, subst, arith}
use Rattle.std.specs.Prelude.{option_and_then, option_map, is_some}
use Rattle.std.specs.List.{AllByRecursion}
use Rattle.std.proofs.lemmas.Option.{none-some}
use Rattle.std.proofs.lemmas.Bool.{false≢true}
use Rattle.flight_value.specs.Graph.{slots_of}
use Rattle.flight_value.specs.Store as target
use Rattle.flight_value.specs.Store.{Target, Shape, Label}
use Rattle.flight_value.specs.declared.graph.Atom.TheVariants as atom
use Rattle.flight_value.specs.declared.graph.Slot.{Slot}
use Rattle.flight_value.specs.declared.graph.Node.{Node}
use Rattle.flight_value.specs.declared.graph.Node.TheVariants as node
use Rattle.flight_value.specs.declared.key.Key.{Key}
use Rattle.flight_value.specs.declared.key.Key.TheVariants as key
use Rattle.flight_value.specs.declared.made.Made.{Made}
use Rattle.flight_value.specs.declared.made.MadeKind.{MadeKind}
use Rattle.flight_value.specs.declared.made.MadeKind.TheVariants as kind
use Rattle.flight_value.specs.declared.made.Tree.{Tree}
use Rattle.flight_value.specs.declared.made.Tree.TheVariants as tree
use Rattle.flight_value.specs.declared.name.Name.{Name}
use Rattle.flight_syntax.specs.declared.script.Outcome.{Outcome}
use Rattle.flight_syntax.specs.declared.script.Outcome.TheVariants as outcomes_of
use Rattle.flight_syntax.specs.declared.script.Data.{Data}
use Rattle.flight_syntax.specs.Script.{IsData, IsOutcome, IsSourceKind, IsSourceNode}
use Rattle.flight_render.specs.declared.root.Ground.{Ground}
use Rattle.flight_render.specs.declared.root.Root.{Root}
use Rattle.flight_render.specs.declared.root.Root.TheVariants as root
use Rattle.flight_render.specs.Run.{gave, threw, waits, End}
use Rattle.flight_render.specs.Values.{made_in, arguments, outcomes, outcome_nodes, node_in, tree_of, is_settled, source_end}
use Rattle.flight_render.specs.Bodies.{inner, body_at, node_at}
use Rattle.flight_render.specs.Jobs.{Job, the_root, element, outcome, known, blank, Value, shown, of_job, failed, stopped, is_server, job_of, argument, argument_in, comes, value_of, Leads, IsFinal, target_of, IsTarget, Stands}
use Rattle.flight_render.specs.Plain.{flow_slots, last_job, flow_last, flow_item, flow, label_of_kind, made_shape, source_slots, source_shape, flow_shape, NodeIs}
use Rattle.flight_value.specs.Listed.{In}
use Rattle.flight_render.specs.Costs.{Reached, at_root, through, in_slot}
use Rattle.flight_render.specs.Valid.{IsValidGround, IsNamed, MadeWell, IsKnown, ShowsKnown}
use Rattle.flight_render.specs.Laws.{Grows, IsThere}
use Rattle.flight_render.proofs.Names.{some-injective}
use Rattle.flight_render.proofs.Larger.{job_of-none, leads-keeps}
use Rattle.flight_render.proofs.Falling.{bodied}
use Rattle.flight_render.proofs.Sourced.{each_of, each_at, mapped_each, OnGave, IsHeldSlot, slot_named, node_held, source_is-named}
use Rattle.flight_render.proofs.There.{known_alone, node_known, gives_known}

-- ---- a source's slots

-- of a source's node: it is no promise, or the source is the arguments
abbrev IsPlainNode : Node → Type 0
IsPlainNode (node.Promise held) = ⊥
IsPlainNode n = Unit {0}

plain_kind : (n : Node) → IsSourceKind n → IsPlainNode n
plain_kind (node.Array items) h = tt
plain_kind (node.Object props) h = tt
plain_kind (node.Map pairs) h = tt
plain_kind (node.Set items) h = tt
plain_kind (node.Element t k p) h = elim h [ ]
plain_kind (node.Promise x) h = elim h [ ]
plain_kind (node.Stream f items end) h = elim h [ ]
plain_kind (node.Action id bound) h = elim h [ ]

-- the nodes of an outcome of the script
plain_nodes : (o : Outcome) → IsOutcome o → (n : ℕ) (x : Node) → node_in o n ≡ Some x → IsPlainNode x
plain_nodes (outcomes_of.Value g) h n x e = plain_kind x (each_at IsSourceNode g.nodes n x (each_of IsSourceNode g.nodes h.nodes) e).0
plain_nodes (outcomes_of.Reject d) h n x e = absurd (none-some x e)

-- an outcome is one of the script, or it is the arguments
script_or-arguments : (ds : List Data) (os : List Outcome) (i : ℕ) (o : Outcome) → slice_get (map (λ d. d.outcome) ds ++ os) i ≡ Some o
    → ((d : Data) × (slice_get ds i ≡ Some d) × (d.outcome ≡ o)) ⊎ ((j : ℕ) × (i ≡ length ds + j) × (slice_get os j ≡ Some o))
script_or-arguments [] os i o e = inr (i, omega arith, e)
script_or-arguments (d ∷ ds) os zero o e = inl (d, refl, some-injective d.outcome o e)
script_or-arguments (d ∷ ds) os (suc i) o e = go (script_or-arguments ds os i o e)
  where
    go : ((c : Data) × (slice_get ds i ≡ Some c) × (c.outcome ≡ o)) ⊎ ((j : ℕ) × (i ≡ length ds + j) × (slice_get os j ≡ Some o))
        → ((c : Data) × (slice_get (d ∷ ds) (suc i) ≡ Some c) × (c.outcome ≡ o)) ⊎ ((j : ℕ) × (suc i ≡ length (d ∷ ds) + j) × (slice_get os j ≡ Some o))
    go (inl w) = inl w
    go (inr w) = let q = w.1 in inr (w.0, omega (arith, q), w.2)

-- the one outcome of the arguments
one_argument : (r : Root) (j : ℕ) (o : Outcome) → slice_get (arguments r) j ≡ Some o → (j ≡ 0) × ((i : ℕ) (x : Slot) → argument (arguments r) i x ≡ tree_of o i x)
one_argument root.App j o e = absurd (none-some o e)
one_argument (root.Call number args) zero o e = (refl, λ i x. ap (λ z. tree_of z i x) (some-injective (outcomes_of.Value args) o e))
one_argument (root.Call number args) (suc j) o e = absurd (none-some o e)

-- a promise held by a source's node holds a slot of the arguments, which is there
held_known : (g : Ground) → IsValidGround g → (s : List Bool) (i n : ℕ) (o : Outcome) → slice_get (outcomes g) i ≡ Some o → (held : Slot) → node_in o n ≡ Some (node.Promise held) → IsKnown g s (argument_in g held)
held_known g v s i n o e held is = go (script_or-arguments g.script.sources (arguments g.root) i o e)
  where
    go : ((d : Data) × (slice_get g.script.sources i ≡ Some d) × (d.outcome ≡ o)) ⊎ ((j : ℕ) × (i ≡ length g.script.sources + j) × (slice_get (arguments g.root) j ≡ Some o)) → IsKnown g s (argument_in g held)
    go (inl w) = elim (plain_nodes o (subst IsOutcome w.2 (each_at IsData g.script.sources i w.0 (each_of IsData g.script.sources v.script.each_source) w.1).1) n (node.Promise held) is) [ ]
    go (inr w) =
        let a = one_argument g.root w.0 o w.2 in
        let first : i ≡ length g.script.sources = (let q = w.1 in let z = a.0 in omega (arith, q, z)) in
        subst (IsKnown g s) (sym (a.1 (length g.script.sources) held))
        (known_alone g s (tree_of o (length g.script.sources) held)
        (slot_named g (made_in []) (length g.script.sources) o (subst (λ z. slice_get (outcomes g) z ≡ Some o) first e) held
        (node_held g v i o e n (node.Promise held) is).0))

-- ---- slots of nodes

abbrev AllKnown : Ground → List Bool → List Value → Type 0
AllKnown g s vs = AllByRecursion (ShowsKnown g s) vs

known_in : (g : Ground) (s : List Bool) (vs : List Value) (w : Value) → AllKnown g s vs → In w vs → ShowsKnown g s w
known_in g s [] w h i = elim i [ ]
known_in g s (x ∷ vs) w h (inl e) = subst (ShowsKnown g s) (sym e) h.0
known_in g s (x ∷ vs) w h (inr i) = known_in g s vs w h.1 i

source_known : (g : Ground) → IsValidGround g → (s : List Bool) (i n : ℕ) (o : Outcome) → slice_get (outcomes g) i ≡ Some o → (x : Node) → node_in o n ≡ Some x → AllKnown g s (source_slots o i x)
source_known g v s i n o e x is = go x is (node_held g v i o e n x is)
  where
    all : (xs : List Slot) → AllByRecursion (IsHeldSlot (length (outcome_nodes o))) xs → AllKnown g s (map (λ y. shown (tree_of o i y)) xs)
    all xs h = mapped_each (IsHeldSlot (length (outcome_nodes o))) (ShowsKnown g s) (λ y. shown (tree_of o i y)) (λ y w. known_alone g s (tree_of o i y) (slot_named g (made_in []) i o e y w)) xs h

    go : (x : Node) → node_in o n ≡ Some x → AllByRecursion (IsHeldSlot (length (outcome_nodes o))) (slots_of x) → AllKnown g s (source_slots o i x)
    go (node.Promise held) q h = (held_known g v s i n o e held q, tt)
    go (node.Array items) q h = all (slots_of (node.Array items)) h
    go (node.Object props) q h = all (slots_of (node.Object props)) h
    go (node.Map pairs) q h = all (slots_of (node.Map pairs)) h
    go (node.Set items) q h = all (slots_of (node.Set items)) h
    go (node.Element t k p) q h = all (slots_of (node.Element t k p)) h
    go (node.Stream f items end) q h = all (slots_of (node.Stream f items end)) h
    go (node.Action id bound) q h = all (slots_of (node.Action id bound)) h

last_known : (g : Ground) (s : List Bool) (last : Option ℕ) → ShowsKnown g s (of_job (last_job last))
last_known g s None = tt
last_known g s (Some l) = tt

flow_last-known : (g : Ground) (s : List Bool) (j : Job) → ShowsKnown g s (of_job j) → (o : Option End) → AllKnown g s (flow_slots (flow_last j o))
flow_last-known g s j w None = tt
flow_last-known g s j w (Some (gave t)) = (w, tt)
flow_last-known g s j w (Some (threw d)) = tt
flow_last-known g s j w (Some (waits i)) = tt

flow_known : (g : Ground) (s : List Bool) (is : List ℕ) (last : Option ℕ) → AllKnown g s (flow_slots (flow g s is last))
flow_known g s [] last = flow_last-known g s (last_job last) (last_known g s last) (comes g s (last_job last))
flow_known g s (x ∷ rest) last = go (comes g s (outcome x)) (flow_known g s rest last)
  where
    go : (o : Option End) → AllKnown g s (flow_slots (flow g s rest last)) → AllKnown g s (flow_slots (flow_item (outcome x) o (flow g s rest last)))
    go None later = tt
    go (Some (threw d)) later = tt
    go (Some (waits n)) later = tt
    go (Some (gave t)) later = (tt, later)

given_known : {A : Type 0} (g : Ground) (s : List Bool) (f : A → Shape Value) (o : Option A) → ((a : A) → o ≡ Some a → AllKnown g s (f a).slots) → (shape : Shape Value) → option_map f o ≡ Some shape → AllKnown g s shape.slots
given_known g s f None h shape is = absurd (none-some shape is)
given_known g s f (Some a) h shape is = subst (λ z. AllKnown g s z.slots) (some-injective _ shape is) (h a refl)

node_slots-known : (g : Ground) → IsValidGround g → (s : List Bool) (k : Key) (shape : Shape Value) → NodeIs g s k shape → AllKnown g s shape.slots
node_slots-known g v s (key.Made n) shape is = go (node_at g s n) refl is
  where
    go : (o : Option Made) → node_at g s n ≡ o → option_and_then (made_shape g) o ≡ Some shape → AllKnown g s shape.slots
    go None q e = absurd (none-some shape e)
    go (Some m) q e =
        given_known g s (λ label. record { label = label; slots = map shown m.slots }) (label_of_kind g m.kind)
        (λ l r. mapped_each (IsKnown g s) (ShowsKnown g s) shown (λ t w. w) m.slots (node_known g v s n m q).0) shape e
node_slots-known g v s (key.Source i n) shape is = go (slice_get (outcomes g) i) refl is
  where
    go : (o : Option Outcome) → slice_get (outcomes g) i ≡ o → option_and_then (λ x. option_map (source_shape x i) (node_in x n)) o ≡ Some shape → AllKnown g s shape.slots
    go None q e = absurd (none-some shape e)
    go (Some x) q e = given_known g s (source_shape x i) (node_in x n) (λ y r. source_known g v s i n x q y r) shape e
node_slots-known g v s (key.Settled i) shape is = subst (λ z. AllKnown g s z.slots) (some-injective _ shape is) (tt, tt)
node_slots-known g v s (key.Stream f) shape is = given_known g s (flow_shape g s) (slice_get g.script.streams f) (λ fl r. flow_known g s fl.items fl.last) shape is
node_slots-known g v s (key.Action a) shape is = subst (λ z. AllKnown g s z.slots) (some-injective _ shape is) (tt, tt)
node_slots-known g v s (key.Client c) shape is = absurd (none-some shape is)
node_slots-known g v s (key.Symbol c) shape is = absurd (none-some shape is)
node_slots-known g v s (key.Server c) shape is = absurd (none-some shape is)

-- ---- what a job comes to

body_known : (g : Ground) → IsValidGround g → (s : List Bool) (a : List ℕ) (h : End) → option_map (λ b. b.step) (body_at g s a) ≡ Some h → OnGave (IsKnown g s) h
body_known g v s a (threw d) e = tt
body_known g v s a (waits i) e = tt
body_known g v s a (gave t) e = let b = bodied g s a (gave t) e in gives_known g v s a b.0 b.1 t b.2

ends_known : (h : End) (g : Ground) (s : List Bool) → OnGave (IsNamed g (made_in [])) h → OnGave (IsKnown g s) h
ends_known (gave t) g s w = known_alone g s t w
ends_known (threw d) g s w = tt
ends_known (waits i) g s w = tt

comes_known : (g : Ground) → IsValidGround g → (s : List Bool) (j : Job) → ShowsKnown g s (of_job j) → (h : End) → comes g s j ≡ Some h → OnGave (IsKnown g s) h
unfolding comes
comes_known g v s the_root w h e = body_known g v s [] h e
comes_known g v s (element n) w h e = body_known g v s (inner n) h e
comes_known g v s (outcome i) w h e = subst (OnGave (IsKnown g s)) (some-injective _ h e) (ends_known (source_end g s i) g s (source_is-named g v (made_in []) (is_settled s i) i (slice_get (outcomes g) i) refl))
comes_known g v s (known x) w h e = subst (OnGave (IsKnown g s)) (some-injective _ h e) w
comes_known g v s blank w h e = subst (OnGave (IsKnown g s)) (some-injective _ h e) tt

value_known : (g : Ground) (s : List Bool) (j : Job) (h : End) → OnGave (IsKnown g s) h → ShowsKnown g s (value_of g s j h)
value_known g s j (gave t) w = w
value_known g s j (threw d) w = tt
value_known g s j (waits i) w = tt

-- a value's job is known where the value is
job_known : (g : Ground) (s : List Bool) (x : Value) (j : Job) → job_of g s x ≡ Some j → ShowsKnown g s x → ShowsKnown g s (of_job j)
job_known g s (of_job k) j e w = subst (λ z. ShowsKnown g s (of_job z)) (some-injective k j e) w
job_known g s (shown (tree.Made n)) j e w = go (is_server (node_at g s n)) e
  where
    go : (c : Bool) → cond c (Some (element n)) None ≡ Some j → ShowsKnown g s (of_job j)
    go true q = subst (λ z. ShowsKnown g s (of_job z)) (some-injective (element n) j q) tt
    go false q = absurd (none-some j q)
job_known g s (shown (tree.Atom a)) j e w = absurd (none-some j e)
job_known g s (shown (tree.FromSource i n)) j e w = absurd (none-some j e)
job_known g s (shown (tree.Promise i)) j e w = absurd (none-some j e)
job_known g s (shown (tree.Stream i)) j e w = absurd (none-some j e)
job_known g s (shown (tree.Action i)) j e w = absurd (none-some j e)
job_known g s (failed d) j e w = absurd (none-some j e)
job_known g s (stopped i) j e w = absurd (none-some j e)

-- what is reached is there
pub reached_known : (g : Ground) → IsValidGround g → (s : List Bool) (x : Value) → Reached g s x → ShowsKnown g s x
reached_known g v s x at_root = tt
reached_known g v s x (through {v = d} {j = j} {end = h} y is by) = value_known g s j h (comes_known g v s j (job_known g s d j is (reached_known g v s d y)) h by)
reached_known g v s x (in_slot {v = d} {k = k} {shape = shape} y stops is at among) = known_in g s shape.slots x (node_slots-known g v s k shape at) among

-- ---- every node that a value leads to has its shape

some_at : {A : Type 0} (xs : List A) (i : ℕ) → i < length xs → (x : A) × (slice_get xs i ≡ Some x)
some_at [] i l = absurd (omega (arith, l))
some_at (x ∷ xs) zero l = (x, refl)
some_at (x ∷ xs) (suc i) l = some_at xs i (omega (arith, l))

-- a node made well that is no server element has a label
made_label : (g : Ground) (find : Name → Option Made) (m : Made) → MadeWell g find m.kind m.slots → is_server (Some m) ≡ false → (l : Label) × (label_of_kind g m.kind ≡ Some l)
made_label g find m w not = go m.kind w not
  where
    second : (ts : List Tree) (c : ℕ) (k p : Tree) → ts ≡ k ∷ p ∷ [] → is_some {T = ℕ × Tree} (option_map (λ t. (c, t)) (slice_get ts 1)) ≡ true
    second ts c k p e = ap (λ z. is_some {T = ℕ × Tree} (option_map (λ t. (c, t)) (slice_get z 1))) e

    go : (k : MadeKind) → MadeWell g find k m.slots → is_server (Some (record { kind = k; slots = m.slots })) ≡ false → (l : Label) × (label_of_kind g k ≡ Some l)
    go kind.Array h q = (_, refl)
    go (kind.Object names) h q = (_, refl)
    go kind.Map h q = (_, refl)
    go kind.Set h q = (_, refl)
    go kind.Element h q = (_, refl)
    go kind.Promise h q = (_, refl)
    go (kind.Bound a) h q = (_, refl)
    go (kind.Server c) h q = absurd (false≢true (sym q ∙ second m.slots c h.1.0 h.1.1.0 h.1.1.1))

abbrev HasShape : Ground → List Bool → Key → Type 0
HasShape g s k = (shape : Shape Value) × NodeIs g s k shape

key_or : Target Key → Key → Key
key_or (target.node_at i) k = i
key_or (target.atom a) k = k

-- the key that a value leads to
led : (g : Ground) (s : List Bool) (k l : Key) → ◌≡◌ {A = Target Key} (target.node_at k) (target.node_at l) → HasShape g s l → HasShape g s k
unfolding key_or
led g s k l e h = subst (HasShape g s) (sym (ap (λ z. key_or z k) e)) h

IsAtomTarget : Target Key → Type 0
IsAtomTarget (target.atom a) = Unit {0}
IsAtomTarget (target.node_at k) = ⊥

made_has-shape : (g : Ground) → IsValidGround g → (s : List Bool) (n : Name) (m : Made) → node_at g s n ≡ Some m → job_of g s (shown (tree.Made n)) ≡ None → HasShape g s (key.Made n)
made_has-shape g v s n m is none = go (made_label g (node_at g s) m w.1 (not (is_server (Some m)) refl))
  where
    w : AllByRecursion (IsKnown g s) m.slots × MadeWell g (node_at g s) m.kind m.slots
    w = node_known g v s n m is

    not : (b : Bool) → is_server (Some m) ≡ b → is_server (Some m) ≡ false
    not false e = e
    not true e = absurd (none-some (element n) (sym none ∙ ap (λ z. cond z (Some (element n)) None) (ap is_server is ∙ e)))

    go : (l : Label) × (label_of_kind g m.kind ≡ Some l) → HasShape g s (key.Made n)
    go l = (record { label = l.0; slots = map shown m.slots }, ap (option_and_then (made_shape g)) is ∙ ap (option_map (λ label. record { label = label; slots = map shown m.slots })) l.1)

source_has-shape : (g : Ground) (s : List Bool) (i n : ℕ) (o : Outcome) → slice_get (outcomes g) i ≡ Some o → n < length (outcome_nodes o) → HasShape g s (key.Source i n)
source_has-shape g s i n o e l =
    let x = some_at (outcome_nodes o) n l in
    (source_shape o i x.0, ap (option_and_then (λ y. option_map (source_shape y i) (node_in y n))) e ∙ ap (option_map (source_shape o i)) x.1)

-- the node that a reached value leads to has a shape
pub closed : (g : Ground) → IsValidGround g → (s : List Bool) (x : Value) → Reached g s x → job_of g s x ≡ None → (k : Key) → IsTarget g s x (target.node_at k) → HasShape g s k
unfolding IsAtomTarget
closed g v s x r none k is = go x (reached_known g v s x r) none is
  where
    go : (x : Value) → ShowsKnown g s x → job_of g s x ≡ None → ◌≡◌ {A = Target Key} (target.node_at k) (target_of x) → HasShape g s k
    go (shown (tree.Made n)) w no_job e = led g s k (key.Made n) e (made_has-shape g v s n w.0 w.1 no_job)
    go (shown (tree.FromSource i n)) w no_job e = led g s k (key.Source i n) e (source_has-shape g s i n w.0 w.1 w.2)
    go (shown (tree.Promise i)) w no_job e = led g s k (key.Settled i) e (_, refl)
    go (shown (tree.Stream f)) w no_job e = let x = some_at g.script.streams f w in led g s k (key.Stream f) e (flow_shape g s x.0, ap (option_map (flow_shape g s)) x.1)
    go (shown (tree.Action a)) w no_job e = led g s k (key.Action a) e (_, refl)
    go (shown (tree.Atom a)) w no_job e = elim (subst IsAtomTarget (sym e) tt) [ ]
    go (failed d) w no_job e = elim (subst IsAtomTarget (sym e) tt) [ ]
    go (stopped i) w no_job e = elim (subst IsAtomTarget (sym e) tt) [ ]
    go (of_job j) w no_job e = elim (subst IsAtomTarget (sym e) tt) [ ]

-- ---- more settled sources

reached_leads : (g : Ground) (s : List Bool) (x : Value) (js : List Job) (w : Value) → Reached g s x → Leads g s x js w → Reached g s w
reached_leads g s x [] w r l = subst (Reached g s) l r
reached_leads g s x (j ∷ js) w r l = reached_leads g s (value_of g s j l.1.0) js w (through r l.0 l.1.1) l.1.2

there_of : (g : Ground) (s : List Bool) (x : Value) → ShowsKnown g s x → IsThere g s x
there_of g s (shown (tree.Made n)) w = w
there_of g s (shown (tree.Atom a)) w = tt
there_of g s (shown (tree.FromSource i n)) w = tt
there_of g s (shown (tree.Promise i)) w = tt
there_of g s (shown (tree.Stream i)) w = tt
there_of g s (shown (tree.Action i)) w = tt
there_of g s (of_job j) w = tt
there_of g s (failed d) w = tt
there_of g s (stopped i) w = tt

-- a value that stands for what is not pending goes on standing for it
pub stands-keeps : (g : Ground) → IsValidGround g → (few many : List Bool) → Grows few many → (x : Value) → Reached g few x → (t : Target Key) → Stands g few x t → (t ≡ target.atom atom.Pending → ⊥) → Stands g many x t
stands-keeps g v few many gr x r t a not =
    record {
      jobs = a.jobs;
      last = a.last;
      leads = leads-keeps g few many gr x a.jobs a.last a.leads (final a.last a.is_target);
      no_job = job_of-none g few many gr a.last (there_of g few a.last (reached_known g v few a.last (reached_leads g few x a.jobs a.last r a.leads))) a.no_job;
      is_target = a.is_target;
    }
  where
    final : (w : Value) → t ≡ target_of w → IsFinal w
    final (shown y) e = tt
    final (of_job j) e = tt
    final (failed d) e = tt
    final (stopped i) e = absurd (not e)
