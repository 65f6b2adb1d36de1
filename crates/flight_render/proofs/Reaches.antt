-- Every value that is reached stands for one slot.
use Rattle.std.proofs.Common.{◌≡◌, ℕ, Bool, inl, inr, List, [], ◌∷◌, map, Option, Some, None, slice_get, refl, sym, ap, ◌∙◌, subst}
use Rattle.std.specs.Prelude.{option_map, option_and_then}
use Rattle.std.proofs.lemmas.Option.{none-some}
use Rattle.flight_value.specs.Graph.{slots_of}
use Rattle.flight_value.specs.Store.{Target, Shape}
use Rattle.flight_value.specs.declared.graph.Slot.{Slot}
use Rattle.flight_value.specs.declared.graph.Node.{Node}
use Rattle.flight_value.specs.declared.graph.Node.TheVariants as node
use Rattle.flight_value.specs.declared.key.Key.{Key}
use Rattle.flight_value.specs.declared.key.Key.TheVariants as key
use Rattle.flight_value.specs.declared.made.Made.{Made}
use Rattle.flight_value.specs.declared.made.Tree.{Tree}
use Rattle.flight_syntax.specs.declared.script.Outcome.{Outcome}
use Rattle.flight_render.specs.declared.root.Ground.{Ground}
use Rattle.flight_render.specs.Run.{gave, threw, waits, End}
use Rattle.flight_render.specs.Values.{outcomes, node_in, tree_of}
use Rattle.flight_render.specs.Bodies.{node_at}
use Rattle.flight_render.specs.Jobs.{Job, outcome, Value, shown, of_job, comes, target_of, Stands}
use Rattle.flight_render.specs.Plain.{flow_slots, last_job, flow_last, flow_item, flow, label_of_kind, made_shape, source_slots, source_shape, flow_shape, NodeIs}
use Rattle.flight_value.specs.Listed.{In}
use Rattle.flight_render.specs.Costs.{Reached, at_root, through, in_slot}
use Rattle.flight_render.proofs.Names.{some-injective}
use Rattle.flight_render.proofs.Falling.{IsOwnJob, value_own, chain_ends, one_end}

-- ---- what slots hold

abbrev AllOwnJobs : List Value → Type 0
AllOwnJobs vs = (v : Value) → In v vs → IsOwnJob v

shown_jobs : (ts : List Tree) → AllOwnJobs (map shown ts)
shown_jobs [] v i = elim i [ ]
shown_jobs (t ∷ ts) v (inl e) = subst IsOwnJob (sym e) tt
shown_jobs (t ∷ ts) v (inr i) = shown_jobs ts v i

slots_jobs : (o : Outcome) (s : ℕ) (xs : List Slot) → AllOwnJobs (map (λ x. shown (tree_of o s x)) xs)
slots_jobs o s [] v i = elim i [ ]
slots_jobs o s (x ∷ xs) v (inl e) = subst IsOwnJob (sym e) tt
slots_jobs o s (x ∷ xs) v (inr i) = slots_jobs o s xs v i

source_jobs : (o : Outcome) (s : ℕ) (x : Node) → AllOwnJobs (source_slots o s x)
source_jobs o s (node.Promise held) v (inl e) = subst IsOwnJob (sym e) tt
source_jobs o s (node.Promise held) v (inr i) = elim i [ ]
source_jobs o s (node.Array items) v i = slots_jobs o s (slots_of (node.Array items)) v i
source_jobs o s (node.Object props) v i = slots_jobs o s (slots_of (node.Object props)) v i
source_jobs o s (node.Map pairs) v i = slots_jobs o s (slots_of (node.Map pairs)) v i
source_jobs o s (node.Set items) v i = slots_jobs o s (slots_of (node.Set items)) v i
source_jobs o s (node.Element t k p) v i = slots_jobs o s (slots_of (node.Element t k p)) v i
source_jobs o s (node.Stream f items end) v i = slots_jobs o s (slots_of (node.Stream f items end)) v i
source_jobs o s (node.Action id bound) v i = slots_jobs o s (slots_of (node.Action id bound)) v i

last_own : (last : Option ℕ) → IsOwnJob (of_job (last_job last))
last_own None = tt
last_own (Some l) = tt

flow_last-jobs : (j : Job) → IsOwnJob (of_job j) → (o : Option End) → AllOwnJobs (flow_slots (flow_last j o))
flow_last-jobs j w None v i = elim i [ ]
flow_last-jobs j w (Some (gave t)) v (inl e) = subst IsOwnJob (sym e) w
flow_last-jobs j w (Some (gave t)) v (inr i) = elim i [ ]
flow_last-jobs j w (Some (threw d)) v i = elim i [ ]
flow_last-jobs j w (Some (waits s)) v i = elim i [ ]

flow_jobs : (g : Ground) (s : List Bool) (is : List ℕ) (last : Option ℕ) → AllOwnJobs (flow_slots (flow g s is last))
flow_jobs g s [] last v i = flow_last-jobs (last_job last) (last_own last) (comes g s (last_job last)) v i
flow_jobs g s (x ∷ rest) last v i = go (comes g s (outcome x)) (flow_jobs g s rest last v) i
  where
    go : (o : Option End) → (In v (flow_slots (flow g s rest last)) → IsOwnJob v) → In v (flow_slots (flow_item (outcome x) o (flow g s rest last))) → IsOwnJob v
    go None later k = elim k [ ]
    go (Some (threw d)) later k = elim k [ ]
    go (Some (waits n)) later k = elim k [ ]
    go (Some (gave t)) later (inl e) = subst IsOwnJob (sym e) tt
    go (Some (gave t)) later (inr k) = later k

-- of the shape that an option gives
given_jobs : {A : Type 0} (f : A → Shape Value) (o : Option A) → ((a : A) → AllOwnJobs (f a).slots) → (shape : Shape Value) → option_map f o ≡ Some shape → AllOwnJobs shape.slots
given_jobs f None h shape is = absurd (none-some shape is)
given_jobs f (Some a) h shape is = subst (λ z. AllOwnJobs z.slots) (some-injective _ shape is) (h a)

node_jobs : (g : Ground) (s : List Bool) (k : Key) (shape : Shape Value) → NodeIs g s k shape → AllOwnJobs shape.slots
node_jobs g s (key.Made n) shape is = go (node_at g s n) is
  where
    go : (o : Option Made) → option_and_then (made_shape g) o ≡ Some shape → AllOwnJobs shape.slots
    go None e = absurd (none-some shape e)
    go (Some m) e = given_jobs (λ label. record { label = label; slots = map shown m.slots }) (label_of_kind g m.kind) (λ l. shown_jobs m.slots) shape e
node_jobs g s (key.Source i n) shape is = go (slice_get (outcomes g) i) is
  where
    go : (o : Option Outcome) → option_and_then (λ x. option_map (source_shape x i) (node_in x n)) o ≡ Some shape → AllOwnJobs shape.slots
    go None e = absurd (none-some shape e)
    go (Some x) e = given_jobs (source_shape x i) (node_in x n) (source_jobs x i) shape e
node_jobs g s (key.Settled i) shape is = subst (λ z. AllOwnJobs z.slots) (some-injective _ shape is) one
  where
    one : AllOwnJobs (of_job (outcome i) ∷ [])
    one v (inl e) = subst IsOwnJob (sym e) tt
    one v (inr e) = elim e [ ]
node_jobs g s (key.Stream f) shape is = given_jobs (flow_shape g s) (slice_get g.script.streams f) (λ fl. flow_jobs g s fl.items fl.last) shape is
node_jobs g s (key.Action a) shape is = subst (λ z. AllOwnJobs z.slots) (some-injective _ shape is) (shown_jobs (_ ∷ []))
node_jobs g s (key.Client c) shape is = absurd (none-some shape is)
node_jobs g s (key.Symbol c) shape is = absurd (none-some shape is)
node_jobs g s (key.Server c) shape is = absurd (none-some shape is)

pub reached_own : (g : Ground) (s : List Bool) (v : Value) → Reached g s v → IsOwnJob v
reached_own g s v at_root = tt
reached_own g s v (through {v = d} {j = j} {end = h} y is by) = value_own g s j h
reached_own g s v (in_slot {v = d} {k = k} {shape = shape} y stops is at among) = node_jobs g s k shape at v among

-- what is reached stands for a slot, and for no other
pub stands_for : (g : Ground) (s : List Bool) (v : Value) → Reached g s v → (t : Target Key) × Stands g s v t
stands_for g s v r =
    let e = chain_ends g s v (reached_own g s v r) in
    (target_of e.1, record { jobs = e.0; last = e.1; leads = e.2; no_job = e.3; is_target = refl })

pub one_slot : (g : Ground) (s : List Bool) (v : Value) (t u : Target Key) → Stands g s v t → Stands g s v u → t ≡ u
one_slot g s v t u a b = a.is_target ∙ ap target_of (one_end g s v a.jobs b.jobs a.last b.last a.leads b.leads a.no_job b.no_job) ∙ sym b.is_target

pub one_node : (g : Ground) (s : List Bool) (k : Key) (shape other : Shape Value) → NodeIs g s k shape → NodeIs g s k other → shape ≡ other
one_node g s k shape other h i = some-injective shape other (sym h ∙ i)
