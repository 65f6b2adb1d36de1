-- What a valid ground's sources hold, and which atoms operators make.
use Rattle.std.proofs.Common.{◌≡◌, ℕ, zero, suc, ◌<◌, Bool, true, false, cond, nat_lt, ◌&&◌, ℤ, pos, negsuc, List, [], ◌∷◌, ◌++◌, map, length, Option, Some, None, slice_get, refl, sym, subst, arith}
use Rattle.std.specs.Prelude.{◌^◌, ◌-◌, ◌+ℤ◌, ◌-ℤ◌, ◌*ℤ◌, All, position, bytes_eq, T, int_le}
use Rattle.std.specs.List.{AllByRecursion, position_or_len}
use Rattle.std.proofs.lemmas.Option.{none-some}
use Rattle.std.proofs.lemmas.Bool.{false≢true}
use Rattle.std.proofs.lemmas.Bool.Decides.{nat_tests}
use Rattle.flight_value.specs.Graph.{IsValid, IsValidAtom, IsValidSlot, IsValidNode, slots_of}
use Rattle.flight_value.specs.declared.graph.Atom.{Atom}
use Rattle.flight_value.specs.declared.graph.Atom.TheVariants as atom
use Rattle.flight_value.specs.declared.graph.Slot.{Slot}
use Rattle.flight_value.specs.declared.graph.Slot.TheVariants as slot
use Rattle.flight_value.specs.declared.graph.Prop.{Prop}
use Rattle.flight_value.specs.declared.graph.Node.{Node}
use Rattle.flight_value.specs.declared.graph.Node.TheVariants as node
use Rattle.flight_value.specs.declared.made.Made.{Made}
use Rattle.flight_value.specs.declared.made.Tree.{Tree}
use Rattle.flight_value.specs.declared.made.Tree.TheVariants as tree
use Rattle.flight_value.specs.declared.made.Made.{Made}
use Rattle.flight_value.specs.declared.name.Name.{Name}
use Rattle.flight_syntax.specs.declared.expr.Op.{Op}
use Rattle.flight_syntax.specs.declared.expr.Op.TheVariants as op
use Rattle.flight_syntax.specs.declared.script.Outcome.{Outcome}
use Rattle.flight_syntax.specs.declared.script.Outcome.TheVariants as outcome
use Rattle.flight_syntax.specs.declared.script.Data.{Data}
use Rattle.flight_syntax.specs.Script.{IsSourceSlot, IsSourceNode, IsData, IsOutcome}
use Rattle.flight_render.specs.declared.root.Ground.{Ground}
use Rattle.flight_render.specs.declared.root.Root.{Root}
use Rattle.flight_render.specs.declared.root.Root.TheVariants as root
use Rattle.flight_render.specs.Run.{Step, gave, threw, waits}
use Rattle.flight_render.specs.Values.{arguments, outcomes, tree_of, outcome_nodes, node_in, node_items, node_property, named_slot, end_if}
use Rattle.flight_render.specs.Operators.{range_digest, type_digest, is_safe, is_big, is_plain, whole, big, counted, same_plain, added, equal, less, operate, operated, key_of}
use Rattle.flight_render.specs.Valid.{IsArgumentSlot, IsArgumentKind, IsValidGround, IsRoot, IsValueAtom, IsNamed, IsLiteral, IsKey}
use Rattle.flight_render.proofs.Names.{some-injective}

-- ---- lists

pub each_of : {A : Type 0} (P : A → Type 0) (xs : List A) → All P xs → AllByRecursion P xs
each_of P [] h = tt
each_of P (x ∷ xs) h = (h 0 x (omega arith), each_of P xs (λ k d l. h (suc k) d (omega (arith, l))))

pub each_at : {A : Type 0} (P : A → Type 0) (xs : List A) (i : ℕ) (x : A) → AllByRecursion P xs → slice_get xs i ≡ Some x → P x
each_at P [] i x h e = absurd (none-some x e)
each_at P (y ∷ xs) zero x h e = subst P (some-injective y x e) h.0
each_at P (y ∷ xs) (suc i) x h e = each_at P xs i x h.1 e

pub each_append : {A : Type 0} (P : A → Type 0) (xs ys : List A) → AllByRecursion P xs → AllByRecursion P ys → AllByRecursion P (xs ++ ys)
each_append P [] ys h w = w
each_append P (x ∷ xs) ys h w = (h.0, each_append P xs ys h.1 w)

pub each_map : {A : Type 0} (P Q : A → Type 0) → ((x : A) → P x → Q x) → (xs : List A) → AllByRecursion P xs → AllByRecursion Q xs
each_map P Q f [] h = tt
each_map P Q f (x ∷ xs) h = (f x h.0, each_map P Q f xs h.1)

pub mapped_each : {A B : Type 0} (P : A → Type 0) (Q : B → Type 0) (f : A → B) → ((x : A) → P x → Q (f x)) → (xs : List A) → AllByRecursion P xs → AllByRecursion Q (map f xs)
mapped_each P Q f h [] w = tt
mapped_each P Q f h (x ∷ xs) w = (h x w.0, mapped_each P Q f h xs w.1)

each_both : {A : Type 0} (P Q : A → Type 0) (xs : List A) → AllByRecursion P xs → AllByRecursion Q xs → AllByRecursion (λ x. P x × Q x) xs
each_both P Q [] h w = tt
each_both P Q (x ∷ xs) h w = ((h.0, w.0), each_both P Q xs h.1 w.1)

-- a position is within the list
pub position_within : {A : Type 0} (p : A → Bool) (xs : List A) (i : ℕ) → position p xs ≡ Some i → i < length xs
position_within p xs i e = go (nat_lt (position_or_len p xs) (length xs)) refl e
  where
    go : (b : Bool) → nat_lt (position_or_len p xs) (length xs) ≡ b → cond b (Some (position_or_len p xs)) None ≡ Some i → i < length xs
    go true q r = subst (λ z. z < length xs) (some-injective (position_or_len p xs) i r) (grind (arith, nat_tests, q))
    go false q r = absurd (none-some i r)

-- ---- sources

abbrev pub IsValidOutcome : Outcome → Type 0
IsValidOutcome (outcome.Value g) = IsValid g
IsValidOutcome (outcome.Reject digest) = Unit {0}

pub data_valid : (d : Data) → IsData d → IsValidOutcome d.outcome
data_valid d h = go d.outcome h.1
  where
    go : (o : Outcome) → IsOutcome o → IsValidOutcome o
    go (outcome.Value g) w = w.valid
    go (outcome.Reject digest) w = tt

arguments_valid : (g : Ground) (r : Root) → IsRoot g r → AllByRecursion IsValidOutcome (arguments r)
arguments_valid g root.App h = tt
arguments_valid g (root.Call number args) h = (h.2.valid, tt)

pub outcome_valid : (g : Ground) → IsValidGround g → (s : ℕ) (o : Outcome) → slice_get (outcomes g) s ≡ Some o → IsValidOutcome o
outcome_valid g v s o e =
    each_at IsValidOutcome (outcomes g) s o
    (each_append IsValidOutcome (map (λ d. d.outcome) g.script.sources) (arguments g.root)
    (mapped_each IsData IsValidOutcome (λ d. d.outcome) data_valid g.script.sources (each_of IsData g.script.sources v.script.each_source))
    (arguments_valid g g.root v.first)) e

-- no slot holds an import, a failure or what is pending
abbrev IsCleanOutcome : Outcome → Type 0
IsCleanOutcome (outcome.Value g) = IsSourceSlot g.root × AllByRecursion (λ n. AllByRecursion IsSourceSlot (slots_of n)) g.nodes
IsCleanOutcome (outcome.Reject digest) = Unit {0}

data_clean : (d : Data) → IsData d → IsCleanOutcome d.outcome
data_clean d h = go d.outcome h.1
  where
    go : (o : Outcome) → IsOutcome o → IsCleanOutcome o
    go (outcome.Value g) w = (w.root, each_map IsSourceNode (λ n. AllByRecursion IsSourceSlot (slots_of n)) (λ n q. each_of IsSourceSlot (slots_of n) q.1) g.nodes (each_of IsSourceNode g.nodes w.nodes))
    go (outcome.Reject digest) w = tt

argument_clean : (x : Slot) → IsArgumentSlot x → IsSourceSlot x
argument_clean (slot.Atom (atom.Symbol text)) h = tt
argument_clean (slot.Atom (atom.Import text)) h = h
argument_clean (slot.Atom (atom.Failed digest)) h = h
argument_clean (slot.Atom atom.Pending) h = h
argument_clean _ h = tt

arguments_clean : (g : Ground) (r : Root) → IsRoot g r → AllByRecursion IsCleanOutcome (arguments r)
arguments_clean g root.App h = tt
arguments_clean g (root.Call number args) h =
    let w = h.2 in (
      (
        subst IsSourceSlot (sym w.is_root) tt,
        each_map (λ n. IsArgumentKind n × All IsArgumentSlot (slots_of n)) (λ n. AllByRecursion IsSourceSlot (slots_of n))
            (λ n q. each_map IsArgumentSlot IsSourceSlot argument_clean (slots_of n) (each_of IsArgumentSlot (slots_of n) q.1)) args.nodes
            (each_of (λ n. IsArgumentKind n × All IsArgumentSlot (slots_of n)) args.nodes w.nodes),
      ),
      tt,
    )

pub outcome_clean : (g : Ground) → IsValidGround g → (s : ℕ) (o : Outcome) → slice_get (outcomes g) s ≡ Some o → IsCleanOutcome o
outcome_clean g v s o e =
    each_at IsCleanOutcome (outcomes g) s o
    (each_append IsCleanOutcome (map (λ d. d.outcome) g.script.sources) (arguments g.root)
    (mapped_each IsData IsCleanOutcome (λ d. d.outcome) data_clean g.script.sources (each_of IsData g.script.sources v.script.each_source))
    (arguments_clean g g.root v.first)) e

-- a slot that a source's value may hold, among so many nodes
abbrev pub IsHeldSlot : ℕ → Slot → Type 0
IsHeldSlot count x = IsValidSlot count x × IsSourceSlot x

held_atom : (g : Ground) (a : Atom) → IsValidAtom a → IsSourceSlot (slot.Atom a) → IsValueAtom g a
held_atom g (atom.Import text) v h = elim h [ ]
held_atom g (atom.Failed digest) v h = elim h [ ]
held_atom g atom.Pending v h = elim h [ ]
held_atom g _ v h = v

pub value_valid : (g : Ground) (a : Atom) → IsValueAtom g a → IsValidAtom a
value_valid g (atom.Import text) h = tt
value_valid g (atom.Failed digest) h = tt
value_valid g atom.Pending h = tt
value_valid g _ h = h

-- a slot of a source is a value of it
pub slot_named : (g : Ground) (find : Name → Option Made) (s : ℕ) (o : Outcome) → slice_get (outcomes g) s ≡ Some o → (x : Slot) → IsHeldSlot (length (outcome_nodes o)) x → IsNamed g find (tree_of o s x)
slot_named g find s o e (slot.Atom a) h = held_atom g a h.0 h.1
slot_named g find s o e (slot.Node n) h = (o, e, h.0)

node_valid : (o : Outcome) (n : ℕ) (x : Node) → IsValidOutcome o → node_in o n ≡ Some x → AllByRecursion (IsValidSlot (length (outcome_nodes o))) (slots_of x)
node_valid (outcome.Value g) n x v e = each_of (IsValidSlot (length g.nodes)) (slots_of x) ((each_at (IsValidNode g.nodes) g.nodes n x (each_of (IsValidNode g.nodes) g.nodes v.each) e).slots)
node_valid (outcome.Reject d) n x v e = absurd (none-some x e)

node_clean : (o : Outcome) (n : ℕ) (x : Node) → IsCleanOutcome o → node_in o n ≡ Some x → AllByRecursion IsSourceSlot (slots_of x)
node_clean (outcome.Value g) n x v e = each_at (λ y. AllByRecursion IsSourceSlot (slots_of y)) g.nodes n x v.1 e
node_clean (outcome.Reject d) n x v e = absurd (none-some x e)

-- the slots of a source's node
pub node_held : (g : Ground) → IsValidGround g → (s : ℕ) (o : Outcome) → slice_get (outcomes g) s ≡ Some o → (n : ℕ) (x : Node) → node_in o n ≡ Some x → AllByRecursion (IsHeldSlot (length (outcome_nodes o))) (slots_of x)
node_held g v s o e n x is = each_both (IsValidSlot (length (outcome_nodes o))) IsSourceSlot (slots_of x) (node_valid o n x (outcome_valid g v s o e) is) (node_clean o n x (outcome_clean g v s o e) is)

-- of what a step gave
abbrev pub OnGave : {A : Type 0} → (A → Type 0) → Step A → Type 0
OnGave P (gave a) = P a
OnGave P (threw d) = Unit {0}
OnGave P (waits s) = Unit {0}

pub source_is-named : (g : Ground) → IsValidGround g → (find : Name → Option Made) (b : Bool) (s : ℕ) (o : Option Outcome) → slice_get (outcomes g) s ≡ o → OnGave (IsNamed g find) (end_if b s o)
source_is-named g v find true s (Some (outcome.Value gr)) e = slot_named g find s (outcome.Value gr) e gr.root ((outcome_valid g v s (outcome.Value gr) e).valid_root, (outcome_clean g v s (outcome.Value gr) e).0)
source_is-named g v find true s (Some (outcome.Reject d)) e = tt
source_is-named g v find true s None e = tt
source_is-named g v find false s (Some o) e = tt
source_is-named g v find false s None e = tt

-- ---- what stands in a source's array or object

slots_named : (g : Ground) (find : Name → Option Made) (s : ℕ) (o : Outcome) → slice_get (outcomes g) s ≡ Some o → (xs : List Slot) → AllByRecursion (IsHeldSlot (length (outcome_nodes o))) xs → AllByRecursion (IsNamed g find) (map (tree_of o s) xs)
slots_named g find s o e xs h = mapped_each (IsHeldSlot (length (outcome_nodes o))) (IsNamed g find) (tree_of o s) (slot_named g find s o e) xs h

prop_slots : (g : Ground) (find : Name → Option Made) (s : ℕ) (o : Outcome) → slice_get (outcomes g) s ≡ Some o → (ps : List Prop) → AllByRecursion (IsHeldSlot (length (outcome_nodes o))) (map (λ p. p.slot) ps) → AllByRecursion (IsNamed g find) (map (λ p. tree_of o s p.slot) ps)
prop_slots g find s o e [] h = tt
prop_slots g find s o e (p ∷ ps) h = (slot_named g find s o e p.slot h.0, prop_slots g find s o e ps h.1)

pub slot_of_name : (g : Ground) (find : Name → Option Made) (name : List ℕ) (names : List (List ℕ)) (ts : List Tree) → AllByRecursion (IsNamed g find) ts → IsNamed g find (named_slot name names ts)
slot_of_name g find name [] ts h = tt
slot_of_name g find name (n ∷ ns) [] h = tt
slot_of_name g find name (n ∷ ns) (t ∷ ts) h = go (bytes_eq name n) (slot_of_name g find name ns ts h.1)
  where
    go : (b : Bool) → IsNamed g find (named_slot name ns ts) → IsNamed g find (cond b t (named_slot name ns ts))
    go true rest = h.0
    go false rest = rest

pub source_items : (g : Ground) (find : Name → Option Made) (s : ℕ) (o : Outcome) → slice_get (outcomes g) s ≡ Some o → (x : Node) → AllByRecursion (IsHeldSlot (length (outcome_nodes o))) (slots_of x) → (ts : List Tree) → node_items o s x ≡ Some ts → AllByRecursion (IsNamed g find) ts
source_items g find s o e (node.Array items) h ts is = subst (AllByRecursion (IsNamed g find)) (some-injective _ ts is) (slots_named g find s o e items h)
source_items g find s o e (node.Object props) h ts is = absurd (none-some ts is)
source_items g find s o e (node.Map pairs) h ts is = absurd (none-some ts is)
source_items g find s o e (node.Set items) h ts is = absurd (none-some ts is)
source_items g find s o e (node.Element t k p) h ts is = absurd (none-some ts is)
source_items g find s o e (node.Promise x) h ts is = absurd (none-some ts is)
source_items g find s o e (node.Stream f items end) h ts is = absurd (none-some ts is)
source_items g find s o e (node.Action id bound) h ts is = absurd (none-some ts is)

pub source_property : (g : Ground) (find : Name → Option Made) (s : ℕ) (o : Outcome) → slice_get (outcomes g) s ≡ Some o → (name : List ℕ) (x : Node) → AllByRecursion (IsHeldSlot (length (outcome_nodes o))) (slots_of x) → (t : Tree) → node_property o s name x ≡ Some t → IsNamed g find t
source_property g find s o e name (node.Object props) h t is = subst (IsNamed g find) (some-injective _ t is) (slot_of_name g find name (map (λ p. p.name) props) _ (prop_slots g find s o e props h))
source_property g find s o e name (node.Array items) h t is = absurd (none-some t is)
source_property g find s o e name (node.Map pairs) h t is = absurd (none-some t is)
source_property g find s o e name (node.Set items) h t is = absurd (none-some t is)
source_property g find s o e name (node.Element u k p) h t is = absurd (none-some t is)
source_property g find s o e name (node.Promise x) h t is = absurd (none-some t is)
source_property g find s o e name (node.Stream f items end) h t is = absurd (none-some t is)
source_property g find s o e name (node.Action id bound) h t is = absurd (none-some t is)

-- ---- atoms

pub literal_valid : (g : Ground) (a : Atom) → IsLiteral a → IsValueAtom g a
literal_valid g (atom.Whole z) h = h
literal_valid g (atom.Date text) h = h
literal_valid g (atom.Import text) h = elim h [ ]
literal_valid g (atom.Failed digest) h = elim h [ ]
literal_valid g atom.Pending h = elim h [ ]
literal_valid g _ h = tt

both_true : (b c : Bool) → (b && c) ≡ true → (b ≡ true) × (c ≡ true)
both_true true c h = (refl, h)
both_true false c h = absurd (false≢true h)

valid_whole : (g : Ground) (z : ℤ) → OnGave (IsValueAtom g) (whole z)
valid_whole g z = go (is_safe z) refl
  where
    go : (b : Bool) → is_safe z ≡ b → OnGave (IsValueAtom g) (cond b (gave (atom.Whole z)) (threw range_digest))
    go true e = let h = both_true (int_le (negsuc (2 ^ 53 - 2)) z) (int_le z (pos (2 ^ 53 - 1))) e in (record { le = subst T (sym h.0) tt }, record { le = subst T (sym h.1) tt })
    go false e = tt

valid_big : (g : Ground) (z : ℤ) → OnGave (IsValueAtom g) (big z)
valid_big g z = go (is_big z)
  where
    go : (b : Bool) → OnGave (IsValueAtom g) (cond b (gave (atom.Big z)) (threw range_digest))
    go true = tt
    go false = tt

valid_counted : (g : Ground) (by : ℤ → ℤ → ℤ) (x y : Atom) → OnGave (IsValueAtom g) (counted by x y)
valid_counted g by (atom.Whole x) (atom.Whole y) = valid_whole g (by x y)
valid_counted g by (atom.Big x) (atom.Big y) = valid_big g (by x y)
valid_counted g by _ _ = tt

valid_added : (g : Ground) (x y : Atom) → OnGave (IsValueAtom g) (added x y)
valid_added g (atom.Text x) (atom.Text y) = tt
valid_added g (atom.Text x) (atom.Whole y) = tt
valid_added g x y = valid_counted g ◌+ℤ◌ x y

valid_equal : (g : Ground) (x y : Atom) → OnGave (IsValueAtom g) (equal x y)
valid_equal g x y = go (is_plain x && is_plain y)
  where
    go : (b : Bool) → OnGave (IsValueAtom g) (cond b (gave (atom.Bool (same_plain x y))) (threw type_digest))
    go true = tt
    go false = tt

valid_less : (g : Ground) (x y : Atom) → OnGave (IsValueAtom g) (less x y)
valid_less g (atom.Whole x) (atom.Whole y) = tt
valid_less g (atom.Big x) (atom.Big y) = tt
valid_less g (atom.Text x) (atom.Text y) = tt
valid_less g _ _ = tt

valid_operate : (g : Ground) (o : Op) (x y : Atom) → OnGave (IsValueAtom g) (operate o x y)
valid_operate g op.Plus x y = valid_added g x y
valid_operate g op.Minus x y = valid_counted g ◌-ℤ◌ x y
valid_operate g op.Times x y = valid_counted g ◌*ℤ◌ x y
valid_operate g op.Equal x y = valid_equal g x y
valid_operate g op.Less x y = valid_less g x y
valid_operate g op.And x y = tt
valid_operate g op.Or x y = tt

pub valid_operated : (g : Ground) (o : Op) (x y : Tree) → OnGave (IsValueAtom g) (operated o x y)
valid_operated g o (tree.Atom x) (tree.Atom y) = valid_operate g o x y
valid_operated g o _ _ = tt

pub key_is-key : (g : Ground) (t : Tree) → OnGave (λ a. IsKey (tree.Atom a) × IsValueAtom g a) (key_of t)
key_is-key g (tree.Atom (atom.Text text)) = (tt, tt)
key_is-key g (tree.Atom (atom.Whole z)) = (tt, tt)
key_is-key g _ = tt
