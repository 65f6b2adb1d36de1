-- The nodes that a body makes over a valid ground are made well, and every node that it names is there.
use Rattle.std.proofs.Common.{◌≡◌, ℕ, zero, suc, ◌+◌, ◌<◌, Bool, true, false, cond, pos, negsuc, List, [], ◌∷◌, ◌++◌, map, length, Option, Some, None, unwrap_or, slice_get, refl, sym, ap, ◌∙◌, subst, arith, length-append, append_assoc, append-nil}
use Rattle.std.specs.Prelude.{bytes_eq, codes, option_and_then}
use Rattle.std.specs.List.{AllByRecursion}
use Rattle.std.proofs.lemmas.Option.{none-some}
use Rattle.flight_value.specs.declared.graph.Atom.{Atom}
use Rattle.flight_value.specs.declared.graph.Atom.TheVariants as atom
use Rattle.flight_value.specs.declared.made.Made.{Made}
use Rattle.flight_value.specs.declared.made.MadeKind.{MadeKind}
use Rattle.flight_value.specs.declared.made.MadeKind.TheVariants as kind
use Rattle.flight_value.specs.declared.made.Tree.{Tree}
use Rattle.flight_value.specs.declared.made.Tree.TheVariants as tree
use Rattle.flight_value.specs.declared.name.Name.{Name}
use Rattle.flight_syntax.specs.declared.expr.Op.TheVariants as op
use Rattle.flight_syntax.specs.declared.expr.Tag.{Tag}
use Rattle.flight_syntax.specs.declared.expr.Tag.TheVariants as tag
use Rattle.flight_syntax.specs.Term as term
use Rattle.flight_syntax.specs.Term.{Term, Terms, Props, Pairs}
use Rattle.flight_render.specs.declared.root.Ground.{Ground}
use Rattle.flight_render.specs.Run.{Machine, Step, gave, threw, waits, Run, pay, on_step, and_then, ends, give, fail}
use Rattle.flight_render.specs.Values.{is_settled, source_named, stream_named, source_end, outcomes, import_at, made_in, made_items, node_items, node_in, items_in, made_property, node_property, named_slot, property_in, undefined}
use Rattle.flight_render.specs.Operators.{type_digest, missing_digest, operated, key_of, thrown}
use Rattle.flight_render.specs.Eval.{Context, Attributes, known, make_here, give_or_fail, give_atom, item_at, branch, each, make_bound, by_name, make_object, with_attribute, with_children, tag_tree, make_tagged, make_element, eval, eval_all, eval_props, eval_pairs, eval_attrs}
use Rattle.flight_render.specs.Laws.{TablesLeadBack}
use Rattle.flight_render.specs.Valid.{IsActionAt, NoneTwice, names_of, IsTagOf, IsLawful, AreLawful, PropsLawful, PairsLawful, IsValidGround, IsValueAtom, IsNamed, MadeAs, IsArrayKind, IsObjectKind, IsPromiseKind, IsKey, MadeWell, IsMade, TablesMade}
use Rattle.flight_render.proofs.Names.{some-injective, own_table}
use Rattle.flight_render.proofs.Ordered.{names_in, sorted_ascends, each_sorted, twice_drop, twice_last}
use Rattle.flight_render.proofs.Sourced.{each_at, each_append, each_map, mapped_each, position_within, node_held, OnGave, source_is-named, slot_of_name, source_items, source_property, literal_valid, valid_operated, key_is-key}

-- ---- tables that gain

get_append : {A : Type 0} (xs ys : List A) (i : ℕ) (x : A) → slice_get xs i ≡ Some x → slice_get (xs ++ ys) i ≡ Some x
get_append [] ys i x h = absurd (none-some x h)
get_append (y ∷ xs) ys zero x h = h
get_append (y ∷ xs) ys (suc i) x h = get_append xs ys i x h

get_push : {A : Type 0} (xs : List A) (x : A) → slice_get (xs ++ x ∷ []) (length xs) ≡ Some x
get_push [] x = refl
get_push (y ∷ xs) x = get_push xs x

-- what is there in some tables is there in others
abbrev pub Has : List (List Made) → List (List Made) → Type 0
Has us vs = (n : Name) (m : Made) → made_in us n ≡ Some m → made_in vs n ≡ Some m

in_table : List (List Made) → ℕ → ℕ → Option Made
in_table us l s = option_and_then (λ t. slice_get t s) (slice_get us l)

table_grows : (ts : List (List Made)) (made more : List Made) (l s : ℕ) (m : Made) → in_table (ts ++ made ∷ []) l s ≡ Some m → in_table (ts ++ (made ++ more) ∷ []) l s ≡ Some m
unfolding in_table
table_grows [] made more zero s m h = get_append made more s m h
table_grows [] made more (suc l) s m h = absurd (none-some m h)
table_grows (t ∷ ts) made more zero s m h = h
table_grows (t ∷ ts) made more (suc l) s m h = table_grows ts made more l s m h

table_added : (ts : List (List Made)) (made : List Made) (l s : ℕ) (m : Made) → in_table ts l s ≡ Some m → in_table (ts ++ made ∷ []) l s ≡ Some m
unfolding in_table
table_added [] made l s m h = absurd (none-some m h)
table_added (t ∷ ts) made zero s m h = h
table_added (t ∷ ts) made (suc l) s m h = table_added ts made l s m h

pub has_grown : (ts : List (List Made)) (made more : List Made) → Has (ts ++ made ∷ []) (ts ++ (made ++ more) ∷ [])
unfolding in_table
has_grown ts made more n m h = table_grows ts made more (length n.render) n.serial m h

pub has_added : (ts : List (List Made)) (made : List Made) → Has ts (ts ++ made ∷ [])
unfolding in_table
has_added ts made n m h = table_added ts made (length n.render) n.serial m h

pub named_has : (g : Ground) (us vs : List (List Made)) → Has us vs → (t : Tree) → IsNamed g (made_in us) t → IsNamed g (made_in vs) t
named_has g us vs has (tree.Made n) h = (h.0, has n h.0 h.1)
named_has g us vs has (tree.Atom a) h = h
named_has g us vs has (tree.FromSource s n) h = h
named_has g us vs has (tree.Promise s) h = h
named_has g us vs has (tree.Stream s) h = h
named_has g us vs has (tree.Action s) h = h

as_has : (us vs : List (List Made)) (P : MadeKind → Type 0) → Has us vs → (t : Tree) → MadeAs (made_in us) P t → MadeAs (made_in vs) P t
as_has us vs P has (tree.Made n) h = (h.0, has n h.0 h.1, h.2)
as_has us vs P has (tree.Atom a) h = elim h [ ]
as_has us vs P has (tree.FromSource s n) h = elim h [ ]
as_has us vs P has (tree.Promise s) h = elim h [ ]
as_has us vs P has (tree.Stream s) h = elim h [ ]
as_has us vs P has (tree.Action s) h = elim h [ ]

well_has : (g : Ground) (us vs : List (List Made)) → Has us vs → (k : MadeKind) (slots : List Tree) → MadeWell g (made_in us) k slots → MadeWell g (made_in vs) k slots
well_has g us vs has kind.Array slots h = h
well_has g us vs has (kind.Object names) slots h = h
well_has g us vs has kind.Map slots h = h
well_has g us vs has kind.Set slots h = h
well_has g us vs has kind.Element slots h = h
well_has g us vs has (kind.Server c) slots h = (h.0, (h.1.0, (h.1.1.0, h.1.1.1, h.1.1.2, as_has us vs IsObjectKind has h.1.1.0 h.1.1.3)))
well_has g us vs has kind.Promise slots h = (h.0, h.1, as_has us vs IsArrayKind has h.0 h.2)
well_has g us vs has (kind.Bound a) slots h = (h.0, (h.1.0, h.1.1, as_has us vs IsPromiseKind has h.1.0 h.1.2))

pub made_has : (g : Ground) (us vs : List (List Made)) → Has us vs → (m : Made) → IsMade g us m → IsMade g vs m
made_has g us vs has m h = (each_map (IsNamed g (made_in us)) (IsNamed g (made_in vs)) (named_has g us vs has) m.slots h.0, well_has g us vs has m.kind m.slots h.1)

-- a node of tables that are made well is made well
pub found_made : (P : Made → Type 0) (us : List (List Made)) → AllByRecursion (AllByRecursion P) us → (n : Name) (m : Made) → made_in us n ≡ Some m → P m
found_made P us h n m e = go (slice_get us (length n.render)) refl e
  where
    go : (o : Option (List Made)) → slice_get us (length n.render) ≡ o → option_and_then (λ t. slice_get t n.serial) o ≡ Some m → P m
    go None q r = absurd (none-some m r)
    go (Some t) q r = each_at P t n.serial m (each_at (AllByRecursion P) us (length n.render) t h q) r

-- ---- runs

module _ (cx : Context) (valid : IsValidGround cx.over) (back : TablesLeadBack [] cx.address cx.tables) (tables : TablesMade cx.over cx.tables) where
  -- the tables with so many nodes of this body
  abbrev with_made : List Made → List (List Made)
  with_made made = cx.tables ++ made ∷ []

  abbrev Fine : List Made → Tree → Type 0
  Fine made t = IsNamed cx.over (made_in (with_made made)) t

  abbrev AllFine : List Made → List Tree → Type 0
  AllFine made ts = AllByRecursion (IsNamed cx.over (made_in (with_made made))) ts

  abbrev Nodes : List Made → Type 0
  Nodes made = AllByRecursion (IsMade cx.over (with_made made)) made

  abbrev Extends : List Made → List Made → Type 0
  Extends before after = (more : List Made) × (after ≡ before ++ more)

  extends_has : (before after : List Made) → Extends before after → Has (with_made before) (with_made after)
  extends_has before after e = subst (λ z. Has (with_made before) (with_made z)) (sym e.1) (has_grown cx.tables before e.0)

  fine_more : (before after : List Made) → Extends before after → (t : Tree) → Fine before t → Fine after t
  fine_more before after e t h = named_has cx.over (with_made before) (with_made after) (extends_has before after e) t h

  all_fine_more : (before after : List Made) → Extends before after → (ts : List Tree) → AllFine before ts → AllFine after ts
  all_fine_more before after e ts h = each_map (Fine before) (Fine after) (fine_more before after e) ts h

  same_nodes : (made : List Made) → Extends made made
  same_nodes made = ([], sym (append-nil made))

  extends_trans : (a b c : List Made) → Extends a b → Extends b c → Extends a c
  extends_trans a b c x y = (x.0 ++ y.0, y.1 ∙ ap (λ z. z ++ y.0) x.1 ∙ append_assoc a x.0 y.0)

  -- a run from these nodes on: its nodes are made well, and so is what it gives
  pub record Well {A : Type 0} (P : List Made → A → Type 0) (before : List Made) (r : Run A) : Type 0 where
    pub grows : Extends before r.after.made
    pub nodes : Nodes r.after.made
    pub value : OnGave (P r.after.made) r.step

  well_then : {A B : Type 0} (P : List Made → A → Type 0) (Q : List Made → B → Type 0) (before : List Made) (r : Run A) (f : A → Machine → Run B) → Well P before r
      → ((a : A) (m : Machine) → Extends before m.made → Nodes m.made → P m.made a → Well Q m.made (f a m)) → Well Q before (and_then r f)
  well_then {A} {B} P Q before r f w rest = go r.step w.value
    where
      go : (s : Step A) → OnGave (P r.after.made) s → Well Q before (on_step s f r.after)
      go (gave a) h = let x = rest a r.after w.grows w.nodes h in record { grows = extends_trans before r.after.made (f a r.after).after.made w.grows x.grows; nodes = x.nodes; value = x.value }
      go (threw d) h = record { grows = w.grows; nodes = w.nodes; value = tt }
      go (waits s) h = record { grows = w.grows; nodes = w.nodes; value = tt }

  well_end : {A : Type 0} (P : List Made → A → Type 0) (s : Step A) (m : Machine) → Nodes m.made → OnGave (P m.made) s → Well P m.made (ends s m)
  well_end P s m n h = record { grows = same_nodes m.made; nodes = n; value = h }

  well_option : {A : Type 0} (P : List Made → A → Type 0) (d : List ℕ) (o : Option A) (m : Machine) → Nodes m.made → ((x : A) → o ≡ Some x → P m.made x) → Well P m.made (give_or_fail d o m)
  well_option P d None m n h = record { grows = same_nodes m.made; nodes = n; value = tt }
  well_option P d (Some x) m n h = record { grows = same_nodes m.made; nodes = n; value = h x refl }

  well_atom : (s : Step Atom) (m : Machine) → Nodes m.made → OnGave (IsValueAtom cx.over) s → Well Fine m.made (give_atom s m)
  well_atom (gave a) m n h = record { grows = same_nodes m.made; nodes = n; value = h }
  well_atom (threw d) m n h = record { grows = same_nodes m.made; nodes = n; value = tt }
  well_atom (waits s) m n h = record { grows = same_nodes m.made; nodes = n; value = tt }

  -- a node that is made well
  FineAs : (MadeKind → Type 0) → List Made → Tree → Type 0
  FineAs Q made t = Fine made t × MadeAs (made_in (with_made made)) Q t

  well_make : (Q : MadeKind → Type 0) (k : MadeKind) (slots : List Tree) (m : Machine) → Q k → Nodes m.made → AllFine m.made slots → MadeWell cx.over (made_in (with_made m.made)) k slots → Well (FineAs Q) m.made (make_here cx k slots m)
  unfolding FineAs
  well_make Q k slots m is n h w =
      record { grows = (x ∷ [], refl); nodes = each_append (IsMade cx.over (with_made after)) m.made (x ∷ []) old (new, tt); value = ((x, found), (x, found, is)) }
    where
      x : Made
      x = record { kind = k; slots = slots }

      after : List Made
      after = m.made ++ x ∷ []

      has : Has (with_made m.made) (with_made after)
      has = has_grown cx.tables m.made (x ∷ [])

      old : AllByRecursion (IsMade cx.over (with_made after)) m.made
      old = each_map (IsMade cx.over (with_made m.made)) (IsMade cx.over (with_made after)) (made_has cx.over (with_made m.made) (with_made after) has) m.made n

      new : IsMade cx.over (with_made after) x
      new = made_has cx.over (with_made m.made) (with_made after) has x (h, w)

      found : made_in (with_made after) (record { render = cx.address; serial = length m.made }) ≡ Some x
      found = ap (option_and_then (λ t. slice_get t (length m.made))) (own_table [] cx.address cx.tables after back) ∙ get_push m.made x

  AnyKind : MadeKind → Type 0
  AnyKind k = Unit {0}

  -- where the kind does not matter
  well_node : (k : MadeKind) (slots : List Tree) (m : Machine) → Nodes m.made → AllFine m.made slots → MadeWell cx.over (made_in (with_made m.made)) k slots → Well Fine m.made (make_here cx k slots m)
  unfolding FineAs AnyKind
  well_node k slots m n h w = let r = well_make AnyKind k slots m tt n h w in record { grows = r.grows; nodes = r.nodes; value = r.value.0 }

  -- ---- what arrays and objects hold

  node_made : (made : List Made) → Nodes made → (n : Name) (m : Made) → made_in (with_made made) n ≡ Some m → IsMade cx.over (with_made made) m
  node_made made n name m e =
      found_made (IsMade cx.over (with_made made)) (with_made made)
      (each_append (AllByRecursion (IsMade cx.over (with_made made))) cx.tables (made ∷ [])
      (each_map (AllByRecursion (IsMade cx.over cx.tables)) (AllByRecursion (IsMade cx.over (with_made made)))
      (λ t h. each_map (IsMade cx.over cx.tables) (IsMade cx.over (with_made made)) (made_has cx.over cx.tables (with_made made) (has_added cx.tables made)) t h) cx.tables tables)
      (n, tt)) name m e

  read_fine : {A B : Type 0} (P : B → Type 0) (f : A → Option B) (o : Option A) → ((x : A) → o ≡ Some x → (y : B) → f x ≡ Some y → P y) → (y : B) → option_and_then f o ≡ Some y → P y
  read_fine P f None h y is = absurd (none-some y is)
  read_fine P f (Some x) h y is = h x refl y is

  made_items-fine : (made : List Made) (x : Made) → AllFine made x.slots → (ts : List Tree) → made_items x ≡ Some ts → AllFine made ts
  made_items-fine made x h ts is = go x.kind is
    where
      go : (j : MadeKind) → made_items (record { kind = j; slots = x.slots }) ≡ Some ts → AllFine made ts
      go kind.Array e = subst (AllFine made) (some-injective x.slots ts e) h
      go (kind.Object names) e = absurd (none-some ts e)
      go kind.Map e = absurd (none-some ts e)
      go kind.Set e = absurd (none-some ts e)
      go kind.Element e = absurd (none-some ts e)
      go (kind.Server c) e = absurd (none-some ts e)
      go kind.Promise e = absurd (none-some ts e)
      go (kind.Bound c) e = absurd (none-some ts e)

  made_property-fine : (made : List Made) (name : List ℕ) (x : Made) → AllFine made x.slots → (t : Tree) → made_property name x ≡ Some t → Fine made t
  made_property-fine made name x h t is = go x.kind is
    where
      go : (j : MadeKind) → made_property name (record { kind = j; slots = x.slots }) ≡ Some t → Fine made t
      go kind.Array e = absurd (none-some t e)
      go (kind.Object names) e = subst (Fine made) (some-injective (named_slot name names x.slots) t e) (slot_of_name cx.over (made_in (with_made made)) name names x.slots h)
      go kind.Map e = absurd (none-some t e)
      go kind.Set e = absurd (none-some t e)
      go kind.Element e = absurd (none-some t e)
      go (kind.Server c) e = absurd (none-some t e)
      go kind.Promise e = absurd (none-some t e)
      go (kind.Bound c) e = absurd (none-some t e)

  pub items_fine : (made : List Made) → Nodes made → (t : Tree) (items : List Tree) → items_in cx.over (with_made made) t ≡ Some items → AllFine made items
  items_fine made n (tree.Made name) items is = read_fine (AllFine made) made_items (made_in (with_made made) name) (λ x e ys f. made_items-fine made x (node_made made n name x e).0 ys f) items is
  items_fine made n (tree.FromSource s i) items is =
      read_fine (AllFine made) (λ o. option_and_then (node_items o s) (node_in o i)) (slice_get (outcomes cx.over) s)
      (λ o e ys f. read_fine (AllFine made) (node_items o s) (node_in o i) (λ x q zs r. source_items cx.over (made_in (with_made made)) s o e x (node_held cx.over valid s o e i x q) zs r) ys f) items is
  items_fine made n (tree.Atom a) items is = absurd (none-some items is)
  items_fine made n (tree.Promise s) items is = absurd (none-some items is)
  items_fine made n (tree.Stream s) items is = absurd (none-some items is)
  items_fine made n (tree.Action s) items is = absurd (none-some items is)

  pub property_fine : (made : List Made) → Nodes made → (name : List ℕ) (t u : Tree) → property_in cx.over (with_made made) name t ≡ Some u → Fine made u
  property_fine made n name (tree.Made q) u is = read_fine (Fine made) (made_property name) (made_in (with_made made) q) (λ x e y f. made_property-fine made name x (node_made made n q x e).0 y f) u is
  property_fine made n name (tree.FromSource s i) u is =
      read_fine (Fine made) (λ o. option_and_then (node_property o s name) (node_in o i)) (slice_get (outcomes cx.over) s)
      (λ o e y f. read_fine (Fine made) (node_property o s name) (node_in o i) (λ x q z r. source_property cx.over (made_in (with_made made)) s o e name x (node_held cx.over valid s o e i x q) z r) y f) u is
  property_fine made n name (tree.Atom a) u is = absurd (none-some u is)
  property_fine made n name (tree.Promise s) u is = absurd (none-some u is)
  property_fine made n name (tree.Stream s) u is = absurd (none-some u is)
  property_fine made n name (tree.Action s) u is = absurd (none-some u is)

  variable_fine : (made : List Made) (ts : List Tree) (i : ℕ) → AllFine made ts → Fine made (unwrap_or (slice_get ts i) undefined)
  variable_fine made [] i h = tt
  variable_fine made (t ∷ ts) zero h = h.0
  variable_fine made (t ∷ ts) (suc i) h = variable_fine made ts i h.1

  item_fine : (made : List Made) (ts : List Tree) (i : ℕ) (t : Tree) → AllFine made ts → slice_get ts i ≡ Some t → Fine made t
  item_fine made ts i t h e = each_at (Fine made) ts i t h e

  well_index : (t i : Tree) (m : Machine) → Nodes m.made → Well Fine m.made (item_at cx t i m)
  well_index t (tree.Atom (atom.Whole (pos i))) m n =
      well_then AllFine Fine m.made (give_or_fail type_digest (items_in cx.over (known cx m) t) m) (λ items k. give_or_fail missing_digest (slice_get items i) k)
      (well_option AllFine type_digest (items_in cx.over (known cx m) t) m n (λ ts is. items_fine m.made n t ts is))
      (λ items k e nk h. well_option Fine missing_digest (slice_get items i) k nk (λ x is. item_fine k.made items i x h is))
  well_index t (tree.Atom (atom.Whole (negsuc i))) m n =
      well_then AllFine Fine m.made (give_or_fail type_digest (items_in cx.over (known cx m) t) m) (λ items k. fail missing_digest k)
      (well_option AllFine type_digest (items_in cx.over (known cx m) t) m n (λ ts is. items_fine m.made n t ts is))
      (λ items k e nk h. well_end Fine (threw missing_digest) k nk tt)
  well_index t _ m n = well_end Fine (threw type_digest) m n tt

  well_branch : (t : Tree) (y o : Machine → Run Tree) (m : Machine) → Nodes m.made → Well Fine m.made (y m) → Well Fine m.made (o m) → Well Fine m.made (branch t y o m)
  well_branch (tree.Atom (atom.Bool true)) y o m n hy ho = hy
  well_branch (tree.Atom (atom.Bool false)) y o m n hy ho = ho
  well_branch _ y o m n hy ho = well_end Fine (threw type_digest) m n tt

  well_each : (run : Tree → Machine → Run Tree) (low : List Made)
      → ((t : Tree) (m : Machine) → Nodes m.made → Extends low m.made → Fine m.made t → Well Fine m.made (run t m))
      → (items so_far : List Tree) (m : Machine) → Nodes m.made → Extends low m.made → AllFine m.made items → AllFine m.made so_far → Well AllFine m.made (each run items so_far m)
  well_each run low one [] so_far m n e h k = well_end AllFine (gave so_far) m n k
  well_each run low one (item ∷ items) so_far m n e h k =
      well_then Fine AllFine m.made (run item m) (λ result l. each run items (so_far ++ result ∷ []) l) (one item m n e h.0)
      (λ t l f nl own. well_each run low one items (so_far ++ t ∷ []) l nl (extends_trans low m.made l.made e f) (all_fine_more m.made l.made f items h.1)
      (each_append (Fine l.made) so_far (t ∷ []) (all_fine_more m.made l.made f so_far k) (own, tt)))

  -- ---- objects and elements

  PropsFine : List Made → List (List ℕ × Tree) → Type 0
  PropsFine made ps = AllByRecursion (λ p. Fine made p.1) ps

  -- with names of which none stands twice
  PropsDistinct : List Made → List (List ℕ × Tree) → Type 0
  PropsDistinct made ps = PropsFine made ps × NoneTwice (names_in ps)

  -- an element's key and attributes, with names of which none stands twice, nor is one of a tail
  AttrsDistinct : List (List ℕ) → List Made → Attributes → Type 0
  AttrsDistinct tail made x = IsKey x.key × Fine made x.key × PropsFine made x.props × NoneTwice (names_in x.props ++ tail)

  props_more : (before after : List Made) → Extends before after → (ps : List (List ℕ × Tree)) → PropsFine before ps → PropsFine after ps
  unfolding PropsFine
  props_more before after e ps h = each_map (λ p. Fine before p.1) (λ p. Fine after p.1) (λ p w. fine_more before after e p.1 w) ps h

  names_push : (ps : List (List ℕ × Tree)) (p : List ℕ × Tree) → names_in (ps ++ p ∷ []) ≡ names_in ps ++ p.0 ∷ []
  names_push [] p = refl
  names_push (q ∷ ps) p = ap (λ z. q.0 ∷ z) (names_push ps p)

  names_next : (ps : List (List ℕ × Tree)) (p : List ℕ × Tree) (tail : List (List ℕ)) → NoneTwice (names_in ps ++ p.0 ∷ tail) → NoneTwice (names_in (ps ++ p ∷ []) ++ tail)
  names_next ps p tail h = subst NoneTwice (sym (ap (λ z. z ++ tail) (names_push ps p) ∙ append_assoc (names_in ps) (p.0 ∷ []) tail)) h

  same_length : {A B C : Type 0} (f : A → B) (h : A → C) (xs : List A) → length (map f xs) ≡ length (map h xs)
  same_length f h [] = refl
  same_length f h (x ∷ xs) = ap suc (same_length f h xs)

  well_object : (ps : List (List ℕ × Tree)) (m : Machine) → Nodes m.made → PropsDistinct m.made ps → Well (FineAs IsObjectKind) m.made (make_object cx ps m)
  unfolding PropsDistinct PropsFine
  well_object ps m n h =
      well_make IsObjectKind (kind.Object (names_in (by_name ps))) (map (λ p. p.1) (by_name ps)) m tt n
      (mapped_each (λ p. Fine m.made p.1) (Fine m.made) (λ p. p.1) (λ p w. w) (by_name ps) (each_sorted (λ p. Fine m.made p.1) ps h.0))
      (sorted_ascends ps h.1, same_length (λ p. p.1) (λ p. p.0) (by_name ps))

  well_plain_object : (ps : List (List ℕ × Tree)) (m : Machine) → Nodes m.made → PropsDistinct m.made ps → Well Fine m.made (make_object cx ps m)
  unfolding FineAs
  well_plain_object ps m n h = let r = well_object ps m n h in record { grows = r.grows; nodes = r.nodes; value = r.value.0 }

  well_attribute : (tail : List (List ℕ)) (x : Attributes) (name : List ℕ) (t : Tree) (m : Machine) → Nodes m.made → AttrsDistinct (name ∷ tail) m.made x → Fine m.made t → Well (AttrsDistinct tail) m.made (with_attribute x name t m)
  unfolding AttrsDistinct PropsFine
  well_attribute tail x name t m n h w = go (bytes_eq name (codes "key"))
    where
      keyed : (s : Step Atom) → OnGave (λ a. IsKey (tree.Atom a) × IsValueAtom cx.over a) s → Well (AttrsDistinct tail) m.made (on_step s (λ key k. give (record { key = tree.Atom key; props = x.props }) k) m)
      keyed (gave k) q = record { grows = same_nodes m.made; nodes = n; value = (q.0, q.1, h.2, twice_drop (names_in x.props) tail name h.3) }
      keyed (threw d) q = record { grows = same_nodes m.made; nodes = n; value = tt }
      keyed (waits s) q = record { grows = same_nodes m.made; nodes = n; value = tt }

      go : (b : Bool) → Well (AttrsDistinct tail) m.made (cond b (on_step (key_of t) (λ key k. give (record { key = tree.Atom key; props = x.props }) k) m) (give (record { key = x.key; props = x.props ++ (name, t) ∷ [] }) m))
      go true = keyed (key_of t) (key_is-key cx.over t)
      go false = record { grows = same_nodes m.made; nodes = n; value = (h.0, h.1, each_append (λ p. Fine m.made p.1) x.props ((name, t) ∷ []) h.2 (w, tt), names_next x.props (name, t) tail h.3) }

  attrs_more : (tail : List (List ℕ)) (before after : List Made) → Extends before after → (x : Attributes) → AttrsDistinct tail before x → AttrsDistinct tail after x
  unfolding AttrsDistinct
  attrs_more tail before after e x h = (h.0, fine_more before after e x.key h.1, props_more before after e x.props h.2, h.3)

  well_children : (x : Attributes) (ts : List Tree) (m : Machine) → Nodes m.made → AttrsDistinct (codes "children" ∷ []) m.made x → AllFine m.made ts → Well (AttrsDistinct []) m.made (with_children cx x ts m)
  unfolding AttrsDistinct PropsFine
  well_children x [] m n h w = record { grows = same_nodes m.made; nodes = n; value = (h.0, h.1, h.2, twice_drop (names_in x.props) [] (codes "children") h.3) }
  well_children x (t ∷ []) m n h w =
      record { grows = same_nodes m.made; nodes = n; value = (h.0, h.1, each_append (λ p. Fine m.made p.1) x.props ((codes "children", t) ∷ []) h.2 (w.0, tt), names_next x.props (codes "children", t) [] h.3) }
  well_children x (t ∷ u ∷ ts) m n h w =
      well_then Fine (AttrsDistinct []) m.made (make_here cx kind.Array (t ∷ u ∷ ts) m) (λ array k. give (record { key = x.key; props = x.props ++ (codes "children", array) ∷ [] }) k)
      (well_node kind.Array (t ∷ u ∷ ts) m n w tt)
      (λ array k e nk own. record {
        grows = same_nodes k.made;
        nodes = nk;
        value = (h.0, fine_more m.made k.made e x.key h.1, each_append (λ p. Fine k.made p.1) x.props ((codes "children", array) ∷ []) (props_more m.made k.made e x.props h.2) (own, tt), names_next x.props (codes "children", array) [] h.3);
      })

  well_tagged : (t : Tag) (key props : Tree) (m : Machine) → IsTagOf cx.over t → Nodes m.made → IsKey key → Fine m.made key → FineAs IsObjectKind m.made props → Well Fine m.made (make_tagged cx t key props m)
  unfolding FineAs
  well_tagged (tag.Server c) key props m is n k h w = well_node (kind.Server c) (key ∷ props ∷ []) m n (h, (w.0, tt)) (is, (key, (props, refl, k, w.1)))
  well_tagged (tag.Host name) key props m is n k h w = well_node kind.Element (tag_tree cx (tag.Host name) ∷ key ∷ props ∷ []) m n (tt, (h, (w.0, tt))) (tag_tree cx (tag.Host name), (key, (props, refl, k)))
  well_tagged (tag.Client c) key props m is n k h w = well_node kind.Element (tag_tree cx (tag.Client c) ∷ key ∷ props ∷ []) m n ((c, is, refl), (h, (w.0, tt))) (tag_tree cx (tag.Client c), (key, (props, refl, k)))
  well_tagged tag.Suspense key props m is n k h w = well_node kind.Element (tag_tree cx tag.Suspense ∷ key ∷ props ∷ []) m n (tt, (h, (w.0, tt))) (tag_tree cx tag.Suspense, (key, (props, refl, k)))

  well_element : (t : Tag) (x : Attributes) (m : Machine) → IsTagOf cx.over t → Nodes m.made → AttrsDistinct [] m.made x → Well Fine m.made (make_element cx t x m)
  unfolding AttrsDistinct PropsDistinct
  well_element t x m is n h =
      well_then (FineAs IsObjectKind) Fine m.made (make_object cx x.props m) (λ props k. make_tagged cx t x.key props k)
      (well_object x.props m n (h.2, subst NoneTwice (append-nil (names_in x.props)) h.3))
      (λ props k e nk own. well_tagged t x.key props k is nk h.0 (fine_more m.made k.made e x.key h.1) own)

  well_bound : (action : ℕ) (ts : List Tree) (m : Machine) → IsActionAt cx.over action → Nodes m.made → AllFine m.made ts → Well Fine m.made (make_bound cx action ts m)
  unfolding FineAs
  well_bound action ts m is n h =
      well_then (FineAs IsArrayKind) Fine m.made (make_here cx kind.Array ts m) (λ array k. and_then (make_here cx kind.Promise (array ∷ []) k) (λ promise l. make_here cx (kind.Bound action) (promise ∷ []) l))
      (well_make IsArrayKind kind.Array ts m tt n h tt)
      (λ array k e nk own. well_then (FineAs IsPromiseKind) Fine k.made (make_here cx kind.Promise (array ∷ []) k) (λ promise l. make_here cx (kind.Bound action) (promise ∷ []) l)
      (well_make IsPromiseKind kind.Promise (array ∷ []) k tt nk (own.0, tt) (array, refl, own.1))
      (λ promise l f nl ol. well_node (kind.Bound action) (promise ∷ []) l nl (ol.0, tt) (is, (promise, refl, ol.1))))

  -- ---- expressions

  half_more : (entries : ℕ) (xs : List Tree) (k v : Tree) → length xs ≡ entries + entries → length (xs ++ k ∷ v ∷ []) ≡ suc entries + suc entries
  half_more entries xs k v e = let l = length-append xs (k ∷ v ∷ []) in omega (arith, l, e)

  -- keys and values in turn
  PairsFine : List Made → List Tree → Type 0
  PairsFine made ts = AllFine made ts × ((entries : ℕ) × (length ts ≡ entries + entries))

  mutual
    unfolding PropsDistinct PropsFine AttrsDistinct PairsFine

    pub eval-well : (scope : ℕ) (t : Term) (env : List Tree) (m : Machine) → IsLawful cx.over scope t → Nodes m.made → AllFine m.made env → Well Fine m.made (eval cx t env m)
    eval-well scope (term.let_in name value rest) env m l n h =
        well_then _ _ _ _ _ (eval-well scope value env (pay 1 m) l.0 n h)
        (λ t k e nk own. eval-well (suc scope) rest (env ++ t ∷ []) k l.1 nk (each_append (Fine k.made) env (t ∷ []) (all_fine_more m.made k.made e env h) (own, tt)))
    eval-well scope (term.if_else test yes_one other) env m l n h =
        well_then _ _ _ _ _ (eval-well scope test env (pay 1 m) l.0 n h)
        (λ t k e nk own. well_branch t (eval cx yes_one env) (eval cx other env) k nk
        (eval-well scope yes_one env k l.1 nk (all_fine_more m.made k.made e env h)) (eval-well scope other env k l.2 nk (all_fine_more m.made k.made e env h)))
    eval-well scope (term.for_in name over give_one) env m l n h =
        well_then _ _ _ _ _ (eval-well scope over env (pay 1 m) l.0 n h)
        (λ t k e nk own. well_then AllFine Fine k.made (give_or_fail type_digest (items_in cx.over (known cx k) t) k) _ (well_option AllFine type_digest (items_in cx.over (known cx k) t) k nk (λ ts is. items_fine k.made nk t ts is))
        (λ items i f ni oi. well_then AllFine Fine i.made (each (λ item j. eval cx give_one (env ++ item ∷ []) j) items [] i) _
        (well_each (λ item j. eval cx give_one (env ++ item ∷ []) j) i.made
        (λ item j nj up oj. eval-well (suc scope) give_one (env ++ item ∷ []) j l.1 nj
        (each_append (Fine j.made) env (item ∷ []) (all_fine_more m.made j.made (extends_trans m.made i.made j.made (extends_trans m.made k.made i.made e f) up) env h) (oj, tt)))
        items [] i ni (same_nodes i.made) oi tt)
        (λ ts j g nj oj. well_node kind.Array ts j nj oj tt)))
    eval-well scope (term.throw value) env m l n h = well_then _ _ _ _ _ (eval-well scope value env (pay 1 m) l n h) (λ t k e nk own. well_end Fine (threw (thrown t)) k nk tt)
    eval-well scope (term.member of name) env m l n h =
        well_then _ _ _ _ _ (eval-well scope of env (pay 1 m) l n h)
        (λ t k e nk own. well_option Fine type_digest (property_in cx.over (known cx k) name t) k nk (λ u is. property_fine k.made nk name t u is))
    eval-well scope (term.index of at_one) env m l n h =
        well_then _ _ _ _ _ (eval-well scope of env (pay 1 m) l.0 n h)
        (λ t k e nk own. well_then _ _ _ _ _ (eval-well scope at_one env k l.1 nk (all_fine_more m.made k.made e env h)) (λ i j f nj oj. well_index t i j nj))
    eval-well scope (term.atom a) env m l n h = well_end Fine (gave (tree.Atom a)) (pay 1 m) n (literal_valid cx.over a l)
    eval-well scope (term.variable number) env m l n h = well_end Fine (gave (unwrap_or (slice_get env number) undefined)) (pay 1 m) n (variable_fine m.made env number h)
    eval-well scope (term.client number) env m l n h = well_end Fine (gave (tree.Atom (atom.Import (import_at cx.over number)))) (pay 1 m) n (number, l, refl)
    eval-well scope (term.array items) env m l n h = well_then _ _ _ _ _ (all-well scope items env [] (pay 1 m) l n h tt) (λ ts k e nk own. well_node kind.Array ts k nk own tt)
    eval-well scope (term.object props) env m l n h = well_then PropsDistinct Fine m.made (eval_props cx props env [] (pay 1 m)) (make_object cx) (props-well scope props env [] (pay 1 m) l.1 n h tt l.0) (λ ps k e nk own. well_plain_object ps k nk own)
    eval-well scope (term.map pairs) env m l n h = well_then PairsFine Fine m.made (eval_pairs cx pairs env [] (pay 1 m)) (make_here cx kind.Map) (pairs-well scope pairs env [] (pay 1 m) l n h (tt, (0, refl))) (λ ts k e nk own. well_node kind.Map ts k nk own.0 own.1)
    eval-well scope (term.set items) env m l n h = well_then _ _ _ _ _ (all-well scope items env [] (pay 1 m) l n h tt) (λ ts k e nk own. well_node kind.Set ts k nk own tt)
    eval-well scope (term.source name) env m l n h =
        well_then (λ made s. Unit {0}) Fine m.made (give_or_fail type_digest (source_named cx.over name) (pay 1 m)) (λ s k. ends (source_end cx.over cx.settled s) k)
        (well_option (λ made s. Unit {0}) type_digest (source_named cx.over name) (pay 1 m) n (λ s is. tt))
        (λ s k e nk own. well_end Fine (source_end cx.over cx.settled s) k nk (source_is-named cx.over valid (made_in (with_made k.made)) (is_settled cx.settled s) s (slice_get (outcomes cx.over) s) refl))
    eval-well scope (term.promise name) env m l n h =
        well_then (λ made s. s < length cx.over.script.sources) Fine m.made (give_or_fail type_digest (source_named cx.over name) (pay 1 m)) (λ s k. give (tree.Promise s) k)
        (well_option (λ made s. s < length cx.over.script.sources) type_digest (source_named cx.over name) (pay 1 m) n (λ s is. position_within (λ d. bytes_eq name d.name) cx.over.script.sources s is))
        (λ s k e nk own. well_end Fine (gave (tree.Promise s)) k nk own)
    eval-well scope (term.stream name) env m l n h =
        well_then (λ made s. s < length cx.over.script.streams) Fine m.made (give_or_fail type_digest (stream_named cx.over name) (pay 1 m)) (λ s k. give (tree.Stream s) k)
        (well_option (λ made s. s < length cx.over.script.streams) type_digest (stream_named cx.over name) (pay 1 m) n (λ s is. position_within (λ d. bytes_eq name d.name) cx.over.script.streams s is))
        (λ s k e nk own. well_end Fine (gave (tree.Stream s)) k nk own)
    eval-well scope (term.action number) env m l n h = well_end Fine (gave (tree.Action number)) (pay 1 m) n l
    eval-well scope (term.action_with number bound) env m l n h = well_then _ _ _ _ _ (all-well scope bound env [] (pay 1 m) l.1 n h tt) (λ ts k e nk own. well_bound number ts k l.0 nk own)
    eval-well scope (term.paren inside) env m l n h = eval-well scope inside env m l n h
    eval-well scope (term.binary op.And left right) env m l n h =
        well_then _ _ _ _ _ (eval-well scope left env (pay 1 m) l.0 n h)
        (λ t k e nk own. well_branch t (eval cx right env) (give t) k nk (eval-well scope right env k l.1 nk (all_fine_more m.made k.made e env h)) (well_end Fine (gave t) k nk own))
    eval-well scope (term.binary op.Or left right) env m l n h =
        well_then _ _ _ _ _ (eval-well scope left env (pay 1 m) l.0 n h)
        (λ t k e nk own. well_branch t (give t) (eval cx right env) k nk (well_end Fine (gave t) k nk own) (eval-well scope right env k l.1 nk (all_fine_more m.made k.made e env h)))
    eval-well scope (term.binary op.Plus left right) env m l n h =
        well_then _ _ _ _ _ (eval-well scope left env (pay 1 m) l.0 n h)
        (λ x k e nk own. well_then _ _ _ _ _ (eval-well scope right env k l.1 nk (all_fine_more m.made k.made e env h)) (λ y i f ni oi. well_atom (operated op.Plus x y) i ni (valid_operated cx.over op.Plus x y)))
    eval-well scope (term.binary op.Minus left right) env m l n h =
        well_then _ _ _ _ _ (eval-well scope left env (pay 1 m) l.0 n h)
        (λ x k e nk own. well_then _ _ _ _ _ (eval-well scope right env k l.1 nk (all_fine_more m.made k.made e env h)) (λ y i f ni oi. well_atom (operated op.Minus x y) i ni (valid_operated cx.over op.Minus x y)))
    eval-well scope (term.binary op.Times left right) env m l n h =
        well_then _ _ _ _ _ (eval-well scope left env (pay 1 m) l.0 n h)
        (λ x k e nk own. well_then _ _ _ _ _ (eval-well scope right env k l.1 nk (all_fine_more m.made k.made e env h)) (λ y i f ni oi. well_atom (operated op.Times x y) i ni (valid_operated cx.over op.Times x y)))
    eval-well scope (term.binary op.Equal left right) env m l n h =
        well_then _ _ _ _ _ (eval-well scope left env (pay 1 m) l.0 n h)
        (λ x k e nk own. well_then _ _ _ _ _ (eval-well scope right env k l.1 nk (all_fine_more m.made k.made e env h)) (λ y i f ni oi. well_atom (operated op.Equal x y) i ni (valid_operated cx.over op.Equal x y)))
    eval-well scope (term.binary op.Less left right) env m l n h =
        well_then _ _ _ _ _ (eval-well scope left env (pay 1 m) l.0 n h)
        (λ x k e nk own. well_then _ _ _ _ _ (eval-well scope right env k l.1 nk (all_fine_more m.made k.made e env h)) (λ y i f ni oi. well_atom (operated op.Less x y) i ni (valid_operated cx.over op.Less x y)))
    eval-well scope (term.element t attrs term.no_terms) env m l n h =
        well_then (AttrsDistinct []) Fine m.made (eval_attrs cx attrs env (record { key = tree.Atom atom.Null; props = [] }) (pay 1 m)) (λ more k. make_element cx t more k)
        (attrs-well scope attrs env [] (record { key = tree.Atom atom.Null; props = [] }) (pay 1 m) l.3 n h (tt, tt, tt, subst NoneTwice (sym (append-nil (names_of attrs))) l.1))
        (λ more k e nk own. well_element t more k l.0 nk own)
    eval-well scope (term.element t attrs (term.term_and first others)) env m l n h =
        well_then (AttrsDistinct (codes "children" ∷ [])) Fine m.made (eval_attrs cx attrs env (record { key = tree.Atom atom.Null; props = [] }) (pay 1 m)) _
        (attrs-well scope attrs env (codes "children" ∷ []) (record { key = tree.Atom atom.Null; props = [] }) (pay 1 m) l.3 n h (tt, tt, tt, twice_last (codes "children") (names_of attrs) l.1 l.2))
        (λ more k e nk own. well_then AllFine Fine k.made (eval_all cx (term.term_and first others) env [] k) _ (all-well scope (term.term_and first others) env [] k l.4 nk (all_fine_more m.made k.made e env h) tt)
        (λ inside i f ni oi. well_then (AttrsDistinct []) Fine i.made (with_children cx more inside i) (make_element cx t) (well_children more inside i ni (attrs_more (codes "children" ∷ []) k.made i.made f more own) oi)
        (λ x j g nj oj. well_element t x j l.0 nj oj)))

    all-well : (scope : ℕ) (ts : Terms) (env so_far : List Tree) (m : Machine) → AreLawful cx.over scope ts → Nodes m.made → AllFine m.made env → AllFine m.made so_far → Well AllFine m.made (eval_all cx ts env so_far m)
    all-well scope term.no_terms env so_far m l n h k = well_end AllFine (gave so_far) m n k
    all-well scope (term.term_and t rest) env so_far m l n h k =
        well_then _ _ _ _ _ (eval-well scope t env m l.0 n h)
        (λ v i e ni own. all-well scope rest env (so_far ++ v ∷ []) i l.1 ni (all_fine_more m.made i.made e env h) (each_append (Fine i.made) so_far (v ∷ []) (all_fine_more m.made i.made e so_far k) (own, tt)))

    props-well : (scope : ℕ) (ts : Props) (env : List Tree) (so_far : List (List ℕ × Tree)) (m : Machine) → PropsLawful cx.over scope ts → Nodes m.made → AllFine m.made env → PropsFine m.made so_far → NoneTwice (names_in so_far ++ names_of ts)
        → Well PropsDistinct m.made (eval_props cx ts env so_far m)
    props-well scope term.no_props env so_far m l n h k d = well_end PropsDistinct (gave so_far) m n (k, subst NoneTwice (append-nil (names_in so_far)) d)
    props-well scope (term.prop_and name t rest) env so_far m l n h k d =
        well_then Fine PropsDistinct m.made (eval cx t env m) (λ v i. eval_props cx rest env (so_far ++ (name, v) ∷ []) i) (eval-well scope t env m l.0 n h)
        (λ v i e ni own. props-well scope rest env (so_far ++ (name, v) ∷ []) i l.1 ni (all_fine_more m.made i.made e env h)
        (each_append (λ p. Fine i.made p.1) so_far ((name, v) ∷ []) (props_more m.made i.made e so_far k) (own, tt)) (names_next so_far (name, v) (names_of rest) d))

    pairs-well : (scope : ℕ) (ts : Pairs) (env so_far : List Tree) (m : Machine) → PairsLawful cx.over scope ts → Nodes m.made → AllFine m.made env → PairsFine m.made so_far → Well PairsFine m.made (eval_pairs cx ts env so_far m)
    pairs-well scope term.no_pairs env so_far m l n h k = well_end PairsFine (gave so_far) m n k
    pairs-well scope (term.pair_and key value rest) env so_far m l n h k =
        well_then _ _ _ _ _ (eval-well scope key env m l.0 n h)
        (λ x i e ni own. well_then Fine PairsFine i.made (eval cx value env i) (λ v j. eval_pairs cx rest env (so_far ++ x ∷ v ∷ []) j) (eval-well scope value env i l.1 ni (all_fine_more m.made i.made e env h))
        (λ v j f nj oj. pairs-well scope rest env (so_far ++ x ∷ v ∷ []) j l.2 nj (all_fine_more m.made j.made (extends_trans m.made i.made j.made e f) env h) (
          each_append (Fine j.made) so_far (x ∷ v ∷ []) (all_fine_more m.made j.made (extends_trans m.made i.made j.made e f) so_far k.0) (fine_more i.made j.made f x own, (oj, tt)),
          (suc k.1.0, half_more k.1.0 so_far x v k.1.1),
        )))

    attrs-well : (scope : ℕ) (ts : Props) (env : List Tree) (tail : List (List ℕ)) (so_far : Attributes) (m : Machine) → PropsLawful cx.over scope ts → Nodes m.made → AllFine m.made env → AttrsDistinct (names_of ts ++ tail) m.made so_far
        → Well (AttrsDistinct tail) m.made (eval_attrs cx ts env so_far m)
    attrs-well scope term.no_props env tail so_far m l n h k = well_end (AttrsDistinct tail) (gave so_far) m n k
    attrs-well scope (term.prop_and name t rest) env tail so_far m l n h k =
        well_then Fine (AttrsDistinct tail) m.made (eval cx t env m) (λ v i. and_then (with_attribute so_far name v i) (λ more j. eval_attrs cx rest env more j)) (eval-well scope t env m l.0 n h)
        (λ v i e ni own. well_then (AttrsDistinct (names_of rest ++ tail)) (AttrsDistinct tail) i.made (with_attribute so_far name v i) (λ more j. eval_attrs cx rest env more j)
        (well_attribute (names_of rest ++ tail) so_far name v i ni (attrs_more (name ∷ (names_of rest ++ tail)) m.made i.made e so_far k) own)
        (λ more j f nj oj. attrs-well scope rest env tail more j l.1 nj (all_fine_more m.made j.made (extends_trans m.made i.made j.made e f) env h) oj))
