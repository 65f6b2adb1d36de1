-- A body meets only nodes of shorter addresses that were made before its element, and those that it makes.
use Rattle.std.proofs.Common.{◌≡◌, ℕ, zero, suc, ◌+◌, ◌≤◌, ◌<◌, Bool, true, false, cond, pos, negsuc, inl, inr, ⊎_elim, List, [], ◌∷◌, ◌++◌, map, length, Option, Some, None, unwrap_or, slice_get, refl, sym, ap, ◌∙◌, subst, arith, length-append, append_assoc, append-nil}
use Rattle.std.specs.Prelude.{bytes_eq, codes, option_and_then}
use Rattle.std.specs.Ordering.{nat_cmp, is_lt}
use Rattle.std.specs.Cmp.Lexicographic.{slice_cmp}
use Rattle.std.proofs.lemmas.Option.{none-some}
use Rattle.flight_value.specs.declared.graph.Atom.{Atom}
use Rattle.flight_value.specs.declared.graph.Atom.TheVariants as atom
use Rattle.flight_value.specs.declared.graph.Slot.{Slot}
use Rattle.flight_value.specs.declared.graph.Slot.TheVariants as slot
use Rattle.flight_value.specs.declared.graph.Prop.{Prop}
use Rattle.flight_value.specs.declared.graph.Node.{Node}
use Rattle.flight_value.specs.declared.graph.Node.TheVariants as node
use Rattle.flight_value.specs.declared.made.Made.{Made}
use Rattle.flight_value.specs.declared.made.MadeKind.{MadeKind}
use Rattle.flight_value.specs.declared.made.MadeKind.TheVariants as kind
use Rattle.flight_value.specs.declared.made.Tree.{Tree}
use Rattle.flight_value.specs.declared.made.Tree.TheVariants as tree
use Rattle.flight_value.specs.declared.name.Name.{Name}
use Rattle.flight_syntax.specs.declared.expr.Op.TheVariants as op
use Rattle.flight_syntax.specs.declared.expr.Tag.{Tag}
use Rattle.flight_syntax.specs.declared.expr.Tag.TheVariants as tag
use Rattle.flight_syntax.specs.declared.script.Outcome.{Outcome}
use Rattle.flight_syntax.specs.declared.script.Outcome.TheVariants as outcome
use Rattle.flight_syntax.specs.Term as term
use Rattle.flight_syntax.specs.Term.{Term, Terms, Props, Pairs}
use Rattle.flight_render.specs.declared.root.Ground.{Ground}
use Rattle.flight_render.specs.Run.{Machine, Step, gave, threw, waits, Run, pay, on_step, and_then, ends, give, fail}
use Rattle.flight_render.specs.Values.{tree_of, is_settled, end_if, source_named, stream_named, source_end, outcomes, import_at, made_in, made_items, node_items, node_in, items_in, made_property, node_property, named_slot, property_in, undefined}
use Rattle.flight_render.specs.Operators.{type_digest, missing_digest, operated, key_of, thrown}
use Rattle.flight_render.specs.Eval.{Context, Attributes, known, make_here, give_or_fail, give_atom, item_at, branch, each, make_bound, insert_named, by_name, make_object, with_attribute, with_children, tag_tree, make_tagged, make_element, eval, eval_all, eval_props, eval_pairs, eval_attrs}
use Rattle.flight_render.specs.Laws.{Met, Own, AllOwn, LeadBack, TablesLeadBack}

pub some-injective : {A : Type 0} (a b : A) → Some a ≡ Some b → a ≡ b
some-injective a b h = ap (λ o. unwrap_or o a) h

-- ---- own nodes

pub own_more : (a : List ℕ) (k l : ℕ) (t : Tree) → k ≤ l → Own a k t → Own a l t
own_more a k l (tree.Made n) le (inl h) = inl (h.0, omega (arith, h.1))
own_more a k l (tree.Made n) le (inr h) = inr h
own_more a k l (tree.Atom x) le h = tt
own_more a k l (tree.FromSource s p) le h = tt
own_more a k l (tree.Promise s) le h = tt
own_more a k l (tree.Stream s) le h = tt
own_more a k l (tree.Action s) le h = tt

pub all_more : (a : List ℕ) (k l : ℕ) (ts : List Tree) → k ≤ l → AllOwn a k ts → AllOwn a l ts
all_more a k l [] le h = tt
all_more a k l (t ∷ ts) le h = (own_more a k l t le h.0, all_more a k l ts le h.1)

all_append : (a : List ℕ) (k : ℕ) (ts us : List Tree) → AllOwn a k ts → AllOwn a k us → AllOwn a k (ts ++ us)
all_append a k [] us x y = y
all_append a k (t ∷ ts) us x y = (x.0, all_append a k ts us x.1 y)

all_get : (a : List ℕ) (k : ℕ) (ts : List Tree) (n : ℕ) → AllOwn a k ts → Own a k (unwrap_or (slice_get ts n) undefined)
all_get a k [] n h = tt
all_get a k (t ∷ ts) zero h = h.0
all_get a k (t ∷ ts) (suc n) h = all_get a k ts n h.1

all_item : (a : List ℕ) (k : ℕ) (ts : List Tree) (n : ℕ) (t : Tree) → AllOwn a k ts → slice_get ts n ≡ Some t → Own a k t
all_item a k ts n t h is = subst (λ o. Own a k (unwrap_or o undefined)) is (all_get a k ts n h)

pub tree_of-own : (a : List ℕ) (k : ℕ) (o : Outcome) (s : ℕ) (x : Slot) → Own a k (tree_of o s x)
tree_of-own a k o s (slot.Atom x) = tt
tree_of-own a k o s (slot.Node x) = tt

sources_own : (a : List ℕ) (k : ℕ) (o : Outcome) (s : ℕ) (xs : List Slot) → AllOwn a k (map (tree_of o s) xs)
sources_own a k o s [] = tt
sources_own a k o s (x ∷ xs) = (tree_of-own a k o s x, sources_own a k o s xs)

props_own : (a : List ℕ) (k : ℕ) (o : Outcome) (s : ℕ) (xs : List Prop) → AllOwn a k (map (λ p. tree_of o s p.slot) xs)
props_own a k o s [] = tt
props_own a k o s (x ∷ xs) = (tree_of-own a k o s x.slot, props_own a k o s xs)

back_append : (a : List ℕ) (i : ℕ) (xs : List Made) (x : Made) → LeadBack a i xs → AllOwn a (i + length xs) x.slots → LeadBack a i (xs ++ x ∷ [])
back_append a i [] x g h = (subst (λ z. AllOwn a z x.slots) (let e : i + 0 ≡ i = omega arith in e) h, tt)
back_append a i (y ∷ ys) x g h = (g.0, back_append a (suc i) ys x g.1 (subst (λ z. AllOwn a z x.slots) (let e : i + suc (length ys) ≡ suc i + length ys = omega arith in e) h))

pub back_get : (a : List ℕ) (i : ℕ) (xs : List Made) (n : ℕ) (x : Made) → LeadBack a i xs → slice_get xs n ≡ Some x → AllOwn a (i + n) x.slots
back_get a i [] n x g h = absurd (none-some x h)
back_get a i (y ∷ ys) zero x g h =
    subst (λ z. AllOwn a z x.slots) (let e : i ≡ i + 0 = omega arith in e) (subst (λ z. AllOwn a i z.slots) (some-injective y x h) g.0)
back_get a i (y ∷ ys) (suc n) x g h = subst (λ z. AllOwn a z x.slots) (let e : suc i + n ≡ i + suc n = omega arith in e) (back_get a (suc i) ys n x g.1 h)

pub back_at : (a : List ℕ) (xs : List Made) (n : ℕ) (x : Made) → LeadBack a 0 xs → slice_get xs n ≡ Some x → AllOwn a n x.slots
back_at a xs n x g h = subst (λ z. AllOwn a z x.slots) (let e : 0 + n ≡ n = omega arith in e) (back_get a 0 xs n x g h)

-- ---- nodes that are met

pub met_snoc : (a b : List ℕ) (m n : ℕ) → Met a b m → Met (a ++ n ∷ []) b m
met_snoc [] b m n h = elim h [ ]
met_snoc (i ∷ a) [] m n h = h
met_snoc (i ∷ a) (j ∷ b) m n h = (h.0, met_snoc a b m n h.1)

pub met_last : (a : List ℕ) (n k : ℕ) → k < n → Met (a ++ n ∷ []) a k
met_last [] n k h = h
met_last (i ∷ a) n k h = (refl, met_last a n k h)

met_less : (a b : List ℕ) (m k : ℕ) → Met a b m → k < m → Met a b k
met_less [] b m k h l = elim h [ ]
met_less (i ∷ a) [] m k h l = omega (arith, h, l)
met_less (i ∷ a) (j ∷ b) m k h l = (h.0, met_less a b m k h.1 l)

met_trans : (a b c : List ℕ) (m k : ℕ) → Met a b m → Met b c k → Met a c k
met_trans [] b c m k h l = elim h [ ]
met_trans (i ∷ a) [] c m k h l = elim l [ ]
met_trans (i ∷ a) (j ∷ b) [] m k h l = subst (λ z. k < z) h.0 l
met_trans (i ∷ a) (j ∷ b) (x ∷ c) m k h l = (l.0 ∙ h.0, met_trans a b c m k h.1 l.1)

-- what a node that is met has in its slots is met too
met_slot : (a : List ℕ) (k : ℕ) (q : Name) (t : Tree) → Met a q.render q.serial → Own q.render q.serial t → Own a k t
met_slot a k q (tree.Made w) h (inl l) = inr (subst (λ z. Met a z w.serial) (sym l.0) (met_less a q.render q.serial w.serial h l.1))
met_slot a k q (tree.Made w) h (inr l) = inr (met_trans a q.render w.render q.serial w.serial h l)
met_slot a k q (tree.Atom x) h l = tt
met_slot a k q (tree.FromSource s x) h l = tt
met_slot a k q (tree.Promise s) h l = tt
met_slot a k q (tree.Stream s) h l = tt
met_slot a k q (tree.Action s) h l = tt

met_slots : (a : List ℕ) (k : ℕ) (q : Name) (ts : List Tree) → Met a q.render q.serial → AllOwn q.render q.serial ts → AllOwn a k ts
met_slots a k q [] h l = tt
met_slots a k q (t ∷ ts) h l = (met_slot a k q t h l.0, met_slots a k q ts h l.1)

-- ---- tables

pub tables_snoc : (at a : List ℕ) (ts : List (List Made)) (t : List Made) (i : ℕ) → TablesLeadBack at a ts → LeadBack (at ++ a) 0 t → TablesLeadBack at (a ++ i ∷ []) (ts ++ t ∷ [])
tables_snoc at [] [] t i g h = (subst (λ z. LeadBack z 0 t) (append-nil at) h, tt)
tables_snoc at [] (x ∷ ts) t i g h = elim g [ ]
tables_snoc at (j ∷ a) [] t i g h = elim g [ ]
tables_snoc at (j ∷ a) (x ∷ ts) t i g h = (g.0, tables_snoc (at ++ j ∷ []) a ts t i g.1 (subst (λ z. LeadBack z 0 t) (sym (append_assoc at (j ∷ []) a)) h))

-- the table of an address that is met, and that of the own address
met_table : (at a b c : List ℕ) (m : ℕ) (ts : List (List Made)) (made t : List Made) → c ≡ at ++ b → TablesLeadBack at a ts → Met a b m → slice_get (ts ++ made ∷ []) (length b) ≡ Some t → LeadBack c 0 t
met_table at [] b c m ts made t is g met h = elim met [ ]
met_table at (i ∷ a) b c m [] made t is g met h = elim g [ ]
met_table at (i ∷ a) [] c m (x ∷ ts) made t is g met h =
    subst (λ z. LeadBack z 0 t) (sym (is ∙ append-nil at)) (subst (λ z. LeadBack at 0 z) (some-injective x t h) g.0)
met_table at (i ∷ a) (j ∷ b) c m (x ∷ ts) made t is g met h =
    met_table (at ++ i ∷ []) a b c m ts made t (is ∙ ap (λ z. at ++ z ∷ b) met.0 ∙ sym (append_assoc at (i ∷ []) b)) g.1 met.1 h

pub own_table : (at a : List ℕ) (ts : List (List Made)) (made : List Made) → TablesLeadBack at a ts → slice_get (ts ++ made ∷ []) (length a) ≡ Some made
own_table at [] [] made g = refl
own_table at [] (x ∷ ts) made g = elim g [ ]
own_table at (i ∷ a) [] made g = elim g [ ]
own_table at (i ∷ a) (x ∷ ts) made g = own_table (at ++ i ∷ []) a ts made g.1

-- the slots of a node that a body may name are such that it may name them too
slots_own : (a : List ℕ) (k : ℕ) (ts : List (List Made)) (made : List Made) → TablesLeadBack [] a ts → LeadBack a 0 made → (n : Name) → Own a k (tree.Made n) → (x : Made) → made_in (ts ++ made ∷ []) n ≡ Some x → AllOwn a k x.slots
slots_own a k ts made g h n own x is = ⊎_elim (λ w. here w) (λ w. there w (slice_get (ts ++ made ∷ []) (length n.render)) refl is) own
  where
    here : (n.render ≡ a) × (n.serial < k) → AllOwn a k x.slots
    here w =
        let found : slice_get made n.serial ≡ Some x = sym (ap (λ o. option_and_then (λ t. slice_get t n.serial) o) (ap (λ z. slice_get (ts ++ made ∷ []) (length z)) w.0 ∙ own_table [] a ts made g)) ∙ is in
        all_more a n.serial k x.slots (omega (arith, w.1)) (back_at a made n.serial x h found)

    there : Met a n.render n.serial → (o : Option (List Made)) → slice_get (ts ++ made ∷ []) (length n.render) ≡ o → option_and_then (λ t. slice_get t n.serial) o ≡ Some x → AllOwn a k x.slots
    there w None e f = absurd (none-some x f)
    there w (Some t) e f = met_slots a k n x.slots w (back_at n.render t n.serial x (met_table [] a n.render n.render n.serial ts made t refl g w e) f)

-- ---- what arrays and objects hold

named_own : (a : List ℕ) (k : ℕ) (name : List ℕ) (names : List (List ℕ)) (ts : List Tree) → AllOwn a k ts → Own a k (named_slot name names ts)
named_own a k name [] ts h = tt
named_own a k name (n ∷ ns) [] h = tt
named_own a k name (n ∷ ns) (t ∷ ts) h = go (bytes_eq name n) (named_own a k name ns ts h.1)
  where
    go : (b : Bool) → Own a k (named_slot name ns ts) → Own a k (cond b t (named_slot name ns ts))
    go true rest = h.0
    go false rest = rest

-- of what is read at a node, where there is one
read_own : {A B : Type 0} (P : B → Type 0) (f : A → Option B) (o : Option A) → ((x : A) → o ≡ Some x → (y : B) → f x ≡ Some y → P y) → (y : B) → option_and_then f o ≡ Some y → P y
read_own P f None h y is = absurd (none-some y is)
read_own P f (Some x) h y is = h x refl y is

made_items-own : (a : List ℕ) (k : ℕ) (x : Made) → AllOwn a k x.slots → (ts : List Tree) → made_items x ≡ Some ts → AllOwn a k ts
made_items-own a k x h ts is = go x.kind is
  where
    go : (j : MadeKind) → made_items (record { kind = j; slots = x.slots }) ≡ Some ts → AllOwn a k ts
    go kind.Array e = subst (AllOwn a k) (some-injective x.slots ts e) h
    go (kind.Object names) e = absurd (none-some ts e)
    go kind.Map e = absurd (none-some ts e)
    go kind.Set e = absurd (none-some ts e)
    go kind.Element e = absurd (none-some ts e)
    go (kind.Server c) e = absurd (none-some ts e)
    go kind.Promise e = absurd (none-some ts e)
    go (kind.Bound c) e = absurd (none-some ts e)

made_property-own : (a : List ℕ) (k : ℕ) (name : List ℕ) (x : Made) → AllOwn a k x.slots → (t : Tree) → made_property name x ≡ Some t → Own a k t
made_property-own a k name x h t is = go x.kind is
  where
    go : (j : MadeKind) → made_property name (record { kind = j; slots = x.slots }) ≡ Some t → Own a k t
    go kind.Array e = absurd (none-some t e)
    go (kind.Object names) e = subst (Own a k) (some-injective (named_slot name names x.slots) t e) (named_own a k name names x.slots h)
    go kind.Map e = absurd (none-some t e)
    go kind.Set e = absurd (none-some t e)
    go kind.Element e = absurd (none-some t e)
    go (kind.Server c) e = absurd (none-some t e)
    go kind.Promise e = absurd (none-some t e)
    go (kind.Bound c) e = absurd (none-some t e)

node_items-own : (a : List ℕ) (k : ℕ) (o : Outcome) (s : ℕ) (x : Node) (ts : List Tree) → node_items o s x ≡ Some ts → AllOwn a k ts
node_items-own a k o s (node.Array items) ts is = subst (AllOwn a k) (some-injective _ ts is) (sources_own a k o s items)
node_items-own a k o s (node.Object props) ts is = absurd (none-some ts is)
node_items-own a k o s (node.Map pairs) ts is = absurd (none-some ts is)
node_items-own a k o s (node.Set items) ts is = absurd (none-some ts is)
node_items-own a k o s (node.Element t key props) ts is = absurd (none-some ts is)
node_items-own a k o s (node.Promise x) ts is = absurd (none-some ts is)
node_items-own a k o s (node.Stream f items end) ts is = absurd (none-some ts is)
node_items-own a k o s (node.Action id bound) ts is = absurd (none-some ts is)

node_property-own : (a : List ℕ) (k : ℕ) (o : Outcome) (s : ℕ) (name : List ℕ) (x : Node) (t : Tree) → node_property o s name x ≡ Some t → Own a k t
node_property-own a k o s name (node.Array items) t is = absurd (none-some t is)
node_property-own a k o s name (node.Object props) t is = subst (Own a k) (some-injective _ t is) (named_own a k name (map (λ p. p.name) props) _ (props_own a k o s props))
node_property-own a k o s name (node.Map pairs) t is = absurd (none-some t is)
node_property-own a k o s name (node.Set items) t is = absurd (none-some t is)
node_property-own a k o s name (node.Element u key props) t is = absurd (none-some t is)
node_property-own a k o s name (node.Promise x) t is = absurd (none-some t is)
node_property-own a k o s name (node.Stream f items end) t is = absurd (none-some t is)
node_property-own a k o s name (node.Action id bound) t is = absurd (none-some t is)

pub items-own : (g : Ground) (a : List ℕ) (k : ℕ) (ts : List (List Made)) (made : List Made) → TablesLeadBack [] a ts → LeadBack a 0 made → (t : Tree) → Own a k t → (items : List Tree) → items_in g (ts ++ made ∷ []) t ≡ Some items → AllOwn a k items
items-own g a k ts made h l (tree.Made n) own items is =
    read_own (AllOwn a k) made_items (made_in (ts ++ made ∷ []) n) (λ x e ys f. made_items-own a k x (slots_own a k ts made h l n own x e) ys f) items is
items-own g a k ts made h l (tree.FromSource s n) own items is =
    read_own (AllOwn a k) (λ o. option_and_then (node_items o s) (node_in o n)) (slice_get (outcomes g) s)
    (λ o e ys f. read_own (AllOwn a k) (node_items o s) (node_in o n) (λ x q zs r. node_items-own a k o s x zs r) ys f) items is
items-own g a k ts made h l (tree.Atom x) own items is = absurd (none-some items is)
items-own g a k ts made h l (tree.Promise x) own items is = absurd (none-some items is)
items-own g a k ts made h l (tree.Stream x) own items is = absurd (none-some items is)
items-own g a k ts made h l (tree.Action x) own items is = absurd (none-some items is)

pub property-own : (g : Ground) (a : List ℕ) (k : ℕ) (ts : List (List Made)) (made : List Made) → TablesLeadBack [] a ts → LeadBack a 0 made → (name : List ℕ) (t : Tree) → Own a k t → (u : Tree) → property_in g (ts ++ made ∷ []) name t ≡ Some u → Own a k u
property-own g a k ts made h l name (tree.Made n) own u is =
    read_own (Own a k) (made_property name) (made_in (ts ++ made ∷ []) n) (λ x e y f. made_property-own a k name x (slots_own a k ts made h l n own x e) y f) u is
property-own g a k ts made h l name (tree.FromSource s n) own u is =
    read_own (Own a k) (λ o. option_and_then (node_property o s name) (node_in o n)) (slice_get (outcomes g) s)
    (λ o e y f. read_own (Own a k) (node_property o s name) (node_in o n) (λ x q z r. node_property-own a k o s name x z r) y f) u is
property-own g a k ts made h l name (tree.Atom x) own u is = absurd (none-some u is)
property-own g a k ts made h l name (tree.Promise x) own u is = absurd (none-some u is)
property-own g a k ts made h l name (tree.Stream x) own u is = absurd (none-some u is)
property-own g a k ts made h l name (tree.Action x) own u is = absurd (none-some u is)

-- ---- runs

abbrev pub StepOwn : {A : Type 0} → (ℕ → A → Type 0) → ℕ → Step A → Type 0
StepOwn P k (gave t) = P k t
StepOwn P k (threw d) = Unit {0}
StepOwn P k (waits s) = Unit {0}

-- a run from so many nodes on: its nodes lead back, and so does what it gives
pub record Good {A : Type 0} (a : List ℕ) (P : ℕ → A → Type 0) (n : ℕ) (r : Run A) : Type 0 where
  pub nodes : LeadBack a 0 r.after.made
  pub grows : n ≤ length r.after.made
  pub own : StepOwn P (length r.after.made) r.step

good_then : {A B : Type 0} (a : List ℕ) (P : ℕ → A → Type 0) (Q : ℕ → B → Type 0) (n : ℕ) (r : Run A) (f : A → Machine → Run B) → Good a P n r
    → ((t : A) (m : Machine) → LeadBack a 0 m.made → n ≤ length m.made → P (length m.made) t → Good a Q (length m.made) (f t m)) → Good a Q n (and_then r f)
good_then {A} {B} a P Q n r f g rest = go r.step g.own
  where
    go : (s : Step A) → StepOwn P (length r.after.made) s → Good a Q n (on_step s f r.after)
    go (gave t) h = let x = rest t r.after g.nodes g.grows h in record { nodes = x.nodes; grows = omega (arith, g.grows, x.grows); own = x.own }
    go (threw d) h = record { nodes = g.nodes; grows = g.grows; own = tt }
    go (waits s) h = record { nodes = g.nodes; grows = g.grows; own = tt }

good_make : (cx : Context) (k : MadeKind) (slots : List Tree) (m : Machine) → LeadBack cx.address 0 m.made → AllOwn cx.address (length m.made) slots → Good cx.address (Own cx.address) (length m.made) (make_here cx k slots m)
good_make cx k slots m g h =
    record {
      nodes = back_append cx.address 0 m.made (record { kind = k; slots = slots }) g (subst (λ z. AllOwn cx.address z slots) (let e : length m.made ≡ 0 + length m.made = omega arith in e) h);
      grows = omega (arith, length-append m.made (record { kind = k; slots = slots } ∷ []));
      own = inl (refl, omega (arith, length-append m.made (record { kind = k; slots = slots } ∷ [])));
    }

good_end : {A : Type 0} (a : List ℕ) (P : ℕ → A → Type 0) (s : Step A) (m : Machine) → LeadBack a 0 m.made → StepOwn P (length m.made) s → Good a P (length m.made) (ends s m)
good_end a P s m g h = record { nodes = g; grows = omega arith; own = h }

good_option : {A : Type 0} (a : List ℕ) (P : ℕ → A → Type 0) (d : List ℕ) (o : Option A) (m : Machine) → LeadBack a 0 m.made → ((x : A) → o ≡ Some x → P (length m.made) x) → Good a P (length m.made) (give_or_fail d o m)
good_option a P d None m g h = record { nodes = g; grows = omega arith; own = tt }
good_option a P d (Some x) m g h = record { nodes = g; grows = omega arith; own = h x refl }

good_atom : (a : List ℕ) (s : Step Atom) (m : Machine) → LeadBack a 0 m.made → Good a (Own a) (length m.made) (give_atom s m)
good_atom a (gave x) m g = record { nodes = g; grows = omega arith; own = tt }
good_atom a (threw d) m g = record { nodes = g; grows = omega arith; own = tt }
good_atom a (waits s) m g = record { nodes = g; grows = omega arith; own = tt }

pub source-own : (a : List ℕ) (k : ℕ) (b : Bool) (s : ℕ) (o : Option Outcome) → StepOwn (Own a) k (end_if b s o)
source-own a k true s (Some (outcome.Value g)) = tree_of-own a k (outcome.Value g) s g.root
source-own a k true s (Some (outcome.Reject d)) = tt
source-own a k true s None = tt
source-own a k false s (Some o) = tt
source-own a k false s None = tt

good_branch : {A : Type 0} (a : List ℕ) (P : ℕ → A → Type 0) (t : Tree) (y n : Machine → Run A) (m : Machine) → LeadBack a 0 m.made → Good a P (length m.made) (y m) → Good a P (length m.made) (n m) → Good a P (length m.made) (branch t y n m)
good_branch a P (tree.Atom (atom.Bool true)) y n m g hy hn = hy
good_branch a P (tree.Atom (atom.Bool false)) y n m g hy hn = hn
good_branch a P _ y n m g hy hn = record { nodes = g; grows = omega arith; own = tt }

good_each : (a : List ℕ) (run : Tree → Machine → Run Tree) (low : ℕ)
    → ((t : Tree) (m : Machine) → LeadBack a 0 m.made → low ≤ length m.made → Own a (length m.made) t → Good a (Own a) (length m.made) (run t m))
    → (items so_far : List Tree) (m : Machine) → LeadBack a 0 m.made → low ≤ length m.made → AllOwn a (length m.made) items → AllOwn a (length m.made) so_far → Good a (AllOwn a) (length m.made) (each run items so_far m)
good_each a run low one [] so_far m g le h k = record { nodes = g; grows = omega arith; own = k }
good_each a run low one (item ∷ items) so_far m g le h k =
    good_then a (Own a) (AllOwn a) (length m.made) (run item m) (λ result n. each run items (so_far ++ result ∷ []) n) (one item m g le h.0)
    (λ t n gn up own. good_each a run low one items (so_far ++ t ∷ []) n gn (omega (arith, le, up)) (all_more a (length m.made) (length n.made) items up h.1)
    (all_append a (length n.made) so_far (t ∷ []) (all_more a (length m.made) (length n.made) so_far up k) (own, tt)))

-- ---- objects and elements

abbrev pub PropsOwn : List ℕ → ℕ → List (List ℕ × Tree) → Type 0
PropsOwn a k ps = AllOwn a k (map (λ p. p.1) ps)

abbrev pub AttributesOwn : List ℕ → ℕ → Attributes → Type 0
AttributesOwn a k x = Own a k x.key × PropsOwn a k x.props

props_more : (a : List ℕ) (k l : ℕ) (ps : List (List ℕ × Tree)) → k ≤ l → PropsOwn a k ps → PropsOwn a l ps
props_more a k l ps le h = all_more a k l (map (λ p. p.1) ps) le h

props_append : (a : List ℕ) (k : ℕ) (ps : List (List ℕ × Tree)) (p : List ℕ × Tree) → PropsOwn a k ps → Own a k p.1 → PropsOwn a k (ps ++ p ∷ [])
props_append a k [] p h w = (w, tt)
props_append a k (x ∷ ps) p h w = (h.0, props_append a k ps p h.1 w)

insert_own : (a : List ℕ) (k : ℕ) (q : List ℕ × Tree) (ps : List (List ℕ × Tree)) → Own a k q.1 → PropsOwn a k ps → PropsOwn a k (insert_named q ps)
insert_own a k q [] w h = (w, tt)
insert_own a k q (p ∷ ps) w h = go (is_lt (slice_cmp nat_cmp p.0 q.0)) (insert_own a k q ps w h.1)
  where
    go : (b : Bool) → PropsOwn a k (insert_named q ps) → PropsOwn a k (cond b (p ∷ insert_named q ps) (q ∷ p ∷ ps))
    go true rest = (h.0, rest)
    go false rest = (w, (h.0, h.1))

sorted_own : (a : List ℕ) (k : ℕ) (ps : List (List ℕ × Tree)) → PropsOwn a k ps → PropsOwn a k (by_name ps)
sorted_own a k [] h = tt
sorted_own a k (p ∷ ps) h = insert_own a k p (by_name ps) h.0 (sorted_own a k ps h.1)

good_object : (cx : Context) (ps : List (List ℕ × Tree)) (m : Machine) → LeadBack cx.address 0 m.made → PropsOwn cx.address (length m.made) ps → Good cx.address (Own cx.address) (length m.made) (make_object cx ps m)
good_object cx ps m g h = good_make cx (kind.Object (map (λ p. p.0) (by_name ps))) (map (λ p. p.1) (by_name ps)) m g (sorted_own cx.address (length m.made) ps h)

good_attribute : (a : List ℕ) (x : Attributes) (name : List ℕ) (t : Tree) (m : Machine) → LeadBack a 0 m.made → AttributesOwn a (length m.made) x → Own a (length m.made) t → Good a (AttributesOwn a) (length m.made) (with_attribute x name t m)
good_attribute a x name t m g h w = go (bytes_eq name (codes "key"))
  where
    keyed : (s : Step Atom) → Good a (AttributesOwn a) (length m.made) (on_step s (λ key n. give (record { key = tree.Atom key; props = x.props }) n) m)
    keyed (gave k) = record { nodes = g; grows = omega arith; own = (tt, h.1) }
    keyed (threw d) = record { nodes = g; grows = omega arith; own = tt }
    keyed (waits s) = record { nodes = g; grows = omega arith; own = tt }

    go : (b : Bool) → Good a (AttributesOwn a) (length m.made) (cond b (on_step (key_of t) (λ key n. give (record { key = tree.Atom key; props = x.props }) n) m) (give (record { key = x.key; props = x.props ++ (name, t) ∷ [] }) m))
    go true = keyed (key_of t)
    go false = record { nodes = g; grows = omega arith; own = (h.0, props_append a (length m.made) x.props (name, t) h.1 w) }

good_children : (cx : Context) (x : Attributes) (ts : List Tree) (m : Machine) → LeadBack cx.address 0 m.made → AttributesOwn cx.address (length m.made) x → AllOwn cx.address (length m.made) ts → Good cx.address (AttributesOwn cx.address) (length m.made) (with_children cx x ts m)
good_children cx x [] m g h w = record { nodes = g; grows = omega arith; own = h }
good_children cx x (t ∷ []) m g h w = record { nodes = g; grows = omega arith; own = (h.0, props_append cx.address (length m.made) x.props (codes "children", t) h.1 w.0) }
good_children cx x (t ∷ u ∷ ts) m g h w =
    good_then cx.address (Own cx.address) (AttributesOwn cx.address) (length m.made) (make_here cx kind.Array (t ∷ u ∷ ts) m) (λ array n. give (record { key = x.key; props = x.props ++ (codes "children", array) ∷ [] }) n)
    (good_make cx kind.Array (t ∷ u ∷ ts) m g w)
    (λ array n gn up own. record {
      nodes = gn;
      grows = omega arith;
      own = (own_more cx.address (length m.made) (length n.made) x.key up h.0, props_append cx.address (length n.made) x.props (codes "children", array) (props_more cx.address (length m.made) (length n.made) x.props up h.1) own);
    })

good_tagged : (cx : Context) (t : Tag) (key props : Tree) (m : Machine) → LeadBack cx.address 0 m.made → Own cx.address (length m.made) key → Own cx.address (length m.made) props → Good cx.address (Own cx.address) (length m.made) (make_tagged cx t key props m)
good_tagged cx (tag.Server c) key props m g h w = good_make cx (kind.Server c) (key ∷ props ∷ []) m g (h, (w, tt))
good_tagged cx (tag.Host name) key props m g h w = good_make cx kind.Element (tag_tree cx (tag.Host name) ∷ key ∷ props ∷ []) m g (tt, (h, (w, tt)))
good_tagged cx (tag.Client c) key props m g h w = good_make cx kind.Element (tag_tree cx (tag.Client c) ∷ key ∷ props ∷ []) m g (tt, (h, (w, tt)))
good_tagged cx tag.Suspense key props m g h w = good_make cx kind.Element (tag_tree cx tag.Suspense ∷ key ∷ props ∷ []) m g (tt, (h, (w, tt)))

good_element : (cx : Context) (t : Tag) (x : Attributes) (m : Machine) → LeadBack cx.address 0 m.made → AttributesOwn cx.address (length m.made) x → Good cx.address (Own cx.address) (length m.made) (make_element cx t x m)
good_element cx t x m g h =
    good_then cx.address (Own cx.address) (Own cx.address) (length m.made) (make_object cx x.props m) (λ props n. make_tagged cx t x.key props n) (good_object cx x.props m g h.1)
    (λ props n gn up own. good_tagged cx t x.key props n gn (own_more cx.address (length m.made) (length n.made) x.key up h.0) own)

good_bound : (cx : Context) (action : ℕ) (ts : List Tree) (m : Machine) → LeadBack cx.address 0 m.made → AllOwn cx.address (length m.made) ts → Good cx.address (Own cx.address) (length m.made) (make_bound cx action ts m)
good_bound cx action ts m g h =
    good_then cx.address (Own cx.address) (Own cx.address) (length m.made) (make_here cx kind.Array ts m)
    (λ array n. and_then (make_here cx kind.Promise (array ∷ []) n) (λ promise k. make_here cx (kind.Bound action) (promise ∷ []) k)) (good_make cx kind.Array ts m g h)
    (λ array n gn up own. good_then cx.address (Own cx.address) (Own cx.address) (length n.made) (make_here cx kind.Promise (array ∷ []) n) (λ promise k. make_here cx (kind.Bound action) (promise ∷ []) k)
    (good_make cx kind.Promise (array ∷ []) n gn (own, tt))
    (λ promise k gk uk ok. good_make cx (kind.Bound action) (promise ∷ []) k gk (ok, tt)))

-- ---- expressions

module _ (cx : Context) (tables : TablesLeadBack [] cx.address cx.tables) where
  good_items : (t : Tree) (m : Machine) → LeadBack cx.address 0 m.made → Own cx.address (length m.made) t → Good cx.address (AllOwn cx.address) (length m.made) (give_or_fail type_digest (items_in cx.over (known cx m) t) m)
  good_items t m g h = good_option cx.address (AllOwn cx.address) type_digest (items_in cx.over (known cx m) t) m g (λ ts is. items-own cx.over cx.address (length m.made) cx.tables m.made tables g t h ts is)

  good_index : (t i : Tree) (m : Machine) → LeadBack cx.address 0 m.made → Own cx.address (length m.made) t → Good cx.address (Own cx.address) (length m.made) (item_at cx t i m)
  good_index t (tree.Atom (atom.Whole (pos n))) m g h =
      good_then cx.address (AllOwn cx.address) (Own cx.address) (length m.made) (give_or_fail type_digest (items_in cx.over (known cx m) t) m) (λ items k. give_or_fail missing_digest (slice_get items n) k) (good_items t m g h)
      (λ items k gk up own. good_option cx.address (Own cx.address) missing_digest (slice_get items n) k gk (λ x is. all_item cx.address (length k.made) items n x own is))
  good_index t (tree.Atom (atom.Whole (negsuc n))) m g h =
      good_then cx.address (AllOwn cx.address) (Own cx.address) (length m.made) (give_or_fail type_digest (items_in cx.over (known cx m) t) m) (λ items k. fail missing_digest k) (good_items t m g h)
      (λ items k gk up own. record { nodes = gk; grows = omega arith; own = tt })
  good_index t _ m g h = record { nodes = g; grows = omega arith; own = tt }

  mutual
    pub eval-good : (t : Term) (env : List Tree) (m : Machine) → LeadBack cx.address 0 m.made → AllOwn cx.address (length m.made) env → Good cx.address (Own cx.address) (length m.made) (eval cx t env m)
    eval-good (term.let_in name value rest) env m g h =
        good_then _ _ _ _ _ _ (eval-good value env (pay 1 m) g h)
        (λ t n gn up own. eval-good rest (env ++ t ∷ []) n gn (all_append cx.address (length n.made) env (t ∷ []) (all_more cx.address (length m.made) (length n.made) env up h) (own, tt)))
    eval-good (term.if_else test yes_one other) env m g h =
        good_then _ _ _ _ _ _ (eval-good test env (pay 1 m) g h)
        (λ t n gn up own. good_branch cx.address (Own cx.address) t (eval cx yes_one env) (eval cx other env) n gn
        (eval-good yes_one env n gn (all_more cx.address (length m.made) (length n.made) env up h)) (eval-good other env n gn (all_more cx.address (length m.made) (length n.made) env up h)))
    eval-good (term.for_in name over give_one) env m g h =
        good_then _ _ _ _ _ _ (eval-good over env (pay 1 m) g h)
        (λ t n gn up own. good_then _ _ _ _ _ _ (good_items t n gn own)
        (λ items k gk uk ok. good_then _ _ _ _ _ _
        (good_each cx.address (λ item l. eval cx give_one (env ++ item ∷ []) l) (length k.made)
        (λ item l gl le oi. eval-good give_one (env ++ item ∷ []) l gl
        (all_append cx.address (length l.made) env (item ∷ []) (all_more cx.address (length m.made) (length l.made) env (omega (arith, up, uk, le)) h) (oi, tt)))
        items [] k gk (omega arith) ok tt)
        (λ ts l gl ul ol. good_make cx kind.Array ts l gl ol)))
    eval-good (term.throw value) env m g h = good_then _ _ _ _ _ _ (eval-good value env (pay 1 m) g h) (λ t n gn up own. good_end cx.address (Own cx.address) (threw (thrown t)) n gn tt)
    eval-good (term.member of name) env m g h =
        good_then _ _ _ _ _ _ (eval-good of env (pay 1 m) g h)
        (λ t n gn up own. good_option cx.address (Own cx.address) type_digest (property_in cx.over (known cx n) name t) n gn (λ x is. property-own cx.over cx.address (length n.made) cx.tables n.made tables gn name t own x is))
    eval-good (term.index of at_one) env m g h =
        good_then _ _ _ _ _ _ (eval-good of env (pay 1 m) g h)
        (λ t n gn up own. good_then _ _ _ _ _ _ (eval-good at_one env n gn (all_more cx.address (length m.made) (length n.made) env up h))
        (λ i k gk uk ok. good_index t i k gk (own_more cx.address (length n.made) (length k.made) t uk own)))
    eval-good (term.atom a) env m g h = good_end cx.address (Own cx.address) (gave (tree.Atom a)) (pay 1 m) g tt
    eval-good (term.variable number) env m g h = good_end cx.address (Own cx.address) (gave (unwrap_or (slice_get env number) undefined)) (pay 1 m) g (all_get cx.address (length m.made) env number h)
    eval-good (term.client number) env m g h = good_end cx.address (Own cx.address) (gave (tree.Atom (atom.Import (import_at cx.over number)))) (pay 1 m) g tt
    eval-good (term.array items) env m g h = good_then _ _ _ _ _ _ (all-good items env [] (pay 1 m) g h tt) (λ ts n gn up own. good_make cx kind.Array ts n gn own)
    eval-good (term.object props) env m g h = good_then _ _ _ _ _ _ (props-good props env [] (pay 1 m) g h tt) (λ ps n gn up own. good_object cx ps n gn own)
    eval-good (term.map pairs) env m g h = good_then _ _ _ _ _ _ (pairs-good pairs env [] (pay 1 m) g h tt) (λ ts n gn up own. good_make cx kind.Map ts n gn own)
    eval-good (term.set items) env m g h = good_then _ _ _ _ _ _ (all-good items env [] (pay 1 m) g h tt) (λ ts n gn up own. good_make cx kind.Set ts n gn own)
    eval-good (term.source name) env m g h =
        good_then cx.address (λ k s. Unit {0}) (Own cx.address) (length m.made) (give_or_fail type_digest (source_named cx.over name) (pay 1 m)) (λ s n. ends (source_end cx.over cx.settled s) n)
        (good_option cx.address (λ k s. Unit {0}) type_digest (source_named cx.over name) (pay 1 m) g (λ x is. tt))
        (λ s n gn up own. good_end cx.address (Own cx.address) (source_end cx.over cx.settled s) n gn (source-own cx.address (length n.made) (is_settled cx.settled s) s (slice_get (outcomes cx.over) s)))
    eval-good (term.promise name) env m g h =
        good_then cx.address (λ k s. Unit {0}) (Own cx.address) (length m.made) (give_or_fail type_digest (source_named cx.over name) (pay 1 m)) (λ s n. give (tree.Promise s) n)
        (good_option cx.address (λ k s. Unit {0}) type_digest (source_named cx.over name) (pay 1 m) g (λ x is. tt)) (λ s n gn up own. good_end cx.address (Own cx.address) (gave (tree.Promise s)) n gn tt)
    eval-good (term.stream name) env m g h =
        good_then cx.address (λ k s. Unit {0}) (Own cx.address) (length m.made) (give_or_fail type_digest (stream_named cx.over name) (pay 1 m)) (λ s n. give (tree.Stream s) n)
        (good_option cx.address (λ k s. Unit {0}) type_digest (stream_named cx.over name) (pay 1 m) g (λ x is. tt)) (λ s n gn up own. good_end cx.address (Own cx.address) (gave (tree.Stream s)) n gn tt)
    eval-good (term.action number) env m g h = good_end cx.address (Own cx.address) (gave (tree.Action number)) (pay 1 m) g tt
    eval-good (term.action_with number bound) env m g h = good_then _ _ _ _ _ _ (all-good bound env [] (pay 1 m) g h tt) (λ ts n gn up own. good_bound cx number ts n gn own)
    eval-good (term.paren inside) env m g h = eval-good inside env m g h
    eval-good (term.binary op.And left right) env m g h =
        good_then _ _ _ _ _ _ (eval-good left env (pay 1 m) g h)
        (λ t n gn up own. good_branch cx.address (Own cx.address) t (eval cx right env) (give t) n gn (eval-good right env n gn (all_more cx.address (length m.made) (length n.made) env up h)) (good_end cx.address (Own cx.address) (gave t) n gn own))
    eval-good (term.binary op.Or left right) env m g h =
        good_then _ _ _ _ _ _ (eval-good left env (pay 1 m) g h)
        (λ t n gn up own. good_branch cx.address (Own cx.address) t (give t) (eval cx right env) n gn (good_end cx.address (Own cx.address) (gave t) n gn own) (eval-good right env n gn (all_more cx.address (length m.made) (length n.made) env up h)))
    eval-good (term.binary op.Plus left right) env m g h =
        good_then _ _ _ _ _ _ (eval-good left env (pay 1 m) g h) (λ x n gn up own. good_then _ _ _ _ _ _ (eval-good right env n gn (all_more cx.address (length m.made) (length n.made) env up h)) (λ y k gk uk ok. good_atom cx.address (operated op.Plus x y) k gk))
    eval-good (term.binary op.Minus left right) env m g h =
        good_then _ _ _ _ _ _ (eval-good left env (pay 1 m) g h) (λ x n gn up own. good_then _ _ _ _ _ _ (eval-good right env n gn (all_more cx.address (length m.made) (length n.made) env up h)) (λ y k gk uk ok. good_atom cx.address (operated op.Minus x y) k gk))
    eval-good (term.binary op.Times left right) env m g h =
        good_then _ _ _ _ _ _ (eval-good left env (pay 1 m) g h) (λ x n gn up own. good_then _ _ _ _ _ _ (eval-good right env n gn (all_more cx.address (length m.made) (length n.made) env up h)) (λ y k gk uk ok. good_atom cx.address (operated op.Times x y) k gk))
    eval-good (term.binary op.Equal left right) env m g h =
        good_then _ _ _ _ _ _ (eval-good left env (pay 1 m) g h) (λ x n gn up own. good_then _ _ _ _ _ _ (eval-good right env n gn (all_more cx.address (length m.made) (length n.made) env up h)) (λ y k gk uk ok. good_atom cx.address (operated op.Equal x y) k gk))
    eval-good (term.binary op.Less left right) env m g h =
        good_then _ _ _ _ _ _ (eval-good left env (pay 1 m) g h) (λ x n gn up own. good_then _ _ _ _ _ _ (eval-good right env n gn (all_more cx.address (length m.made) (length n.made) env up h)) (λ y k gk uk ok. good_atom cx.address (operated op.Less x y) k gk))
    eval-good (term.element t attrs children) env m g h =
        good_then _ _ _ _ _ _ (attrs-good attrs env (record { key = tree.Atom atom.Null; props = [] }) (pay 1 m) g h (tt, tt))
        (λ more n gn up own. good_then _ _ _ _ _ _ (all-good children env [] n gn (all_more cx.address (length m.made) (length n.made) env up h) tt)
        (λ inside k gk uk ok. good_then _ _ _ _ _ _
        (good_children cx more inside k gk (own_more cx.address (length n.made) (length k.made) more.key uk own.0, props_more cx.address (length n.made) (length k.made) more.props uk own.1) ok)
        (λ x l gl ul ol. good_element cx t x l gl ol)))

    pub all-good : (ts : Terms) (env so_far : List Tree) (m : Machine) → LeadBack cx.address 0 m.made → AllOwn cx.address (length m.made) env → AllOwn cx.address (length m.made) so_far → Good cx.address (AllOwn cx.address) (length m.made) (eval_all cx ts env so_far m)
    all-good term.no_terms env so_far m g h k = good_end cx.address (AllOwn cx.address) (gave so_far) m g k
    all-good (term.term_and t rest) env so_far m g h k =
        good_then _ _ _ _ _ _ (eval-good t env m g h)
        (λ v n gn up own. all-good rest env (so_far ++ v ∷ []) n gn (all_more cx.address (length m.made) (length n.made) env up h)
        (all_append cx.address (length n.made) so_far (v ∷ []) (all_more cx.address (length m.made) (length n.made) so_far up k) (own, tt)))

    pub props-good : (ts : Props) (env : List Tree) (so_far : List (List ℕ × Tree)) (m : Machine) → LeadBack cx.address 0 m.made → AllOwn cx.address (length m.made) env → PropsOwn cx.address (length m.made) so_far → Good cx.address (PropsOwn cx.address) (length m.made) (eval_props cx ts env so_far m)
    props-good term.no_props env so_far m g h k = good_end cx.address (PropsOwn cx.address) (gave so_far) m g k
    props-good (term.prop_and name t rest) env so_far m g h k =
        good_then _ _ _ _ _ _ (eval-good t env m g h)
        (λ v n gn up own. props-good rest env (so_far ++ (name, v) ∷ []) n gn (all_more cx.address (length m.made) (length n.made) env up h)
        (props_append cx.address (length n.made) so_far (name, v) (props_more cx.address (length m.made) (length n.made) so_far up k) own))

    pub pairs-good : (ts : Pairs) (env so_far : List Tree) (m : Machine) → LeadBack cx.address 0 m.made → AllOwn cx.address (length m.made) env → AllOwn cx.address (length m.made) so_far → Good cx.address (AllOwn cx.address) (length m.made) (eval_pairs cx ts env so_far m)
    pairs-good term.no_pairs env so_far m g h k = good_end cx.address (AllOwn cx.address) (gave so_far) m g k
    pairs-good (term.pair_and key value rest) env so_far m g h k =
        good_then _ _ _ _ _ _ (eval-good key env m g h)
        (λ x n gn up own. good_then _ _ _ _ _ _ (eval-good value env n gn (all_more cx.address (length m.made) (length n.made) env up h))
        (λ v l gl ul ol. pairs-good rest env (so_far ++ x ∷ v ∷ []) l gl (all_more cx.address (length m.made) (length l.made) env (omega (arith, up, ul)) h)
        (all_append cx.address (length l.made) so_far (x ∷ v ∷ []) (all_more cx.address (length m.made) (length l.made) so_far (omega (arith, up, ul)) k)
        (own_more cx.address (length n.made) (length l.made) x ul own, (ol, tt)))))

    pub attrs-good : (ts : Props) (env : List Tree) (so_far : Attributes) (m : Machine) → LeadBack cx.address 0 m.made → AllOwn cx.address (length m.made) env → AttributesOwn cx.address (length m.made) so_far → Good cx.address (AttributesOwn cx.address) (length m.made) (eval_attrs cx ts env so_far m)
    attrs-good term.no_props env so_far m g h k = good_end cx.address (AttributesOwn cx.address) (gave so_far) m g k
    attrs-good (term.prop_and name t rest) env so_far m g h k =
        good_then _ _ _ _ _ _ (eval-good t env m g h)
        (λ v n gn up own. good_then cx.address (AttributesOwn cx.address) (AttributesOwn cx.address) (length n.made) (with_attribute so_far name v n) (λ more l. eval_attrs cx rest env more l)
        (good_attribute cx.address so_far name v n gn (own_more cx.address (length m.made) (length n.made) so_far.key up k.0, props_more cx.address (length m.made) (length n.made) so_far.props up k.1) own)
        (λ more l gl ul ol. attrs-good rest env more l gl (all_more cx.address (length m.made) (length l.made) env (omega (arith, up, ul)) h) ol))
