-- Over a valid ground every node that rendering names is there, and is made well.
use Rattle.std.proofs.Common.{◌≡◌, ℕ, Bool, true, false, cond, nat_lt, ◌⊎◌, inl, inr, ⊎_elim, List, [], ◌∷◌, ◌++◌, length, Option, Some, None, unwrap_or, slice_get, refl, sym, ap, ap₂, ◌∙◌, subst, append_assoc, append-nil}
use Rattle.std.specs.Prelude.{option_and_then}
use Rattle.std.specs.List.{AllByRecursion}
use Rattle.std.proofs.lemmas.Option.{none-some}
use Rattle.flight_value.specs.declared.graph.Graph.{Graph}
use Rattle.flight_value.specs.declared.graph.Slot.{Slot}
use Rattle.flight_value.specs.declared.graph.Slot.TheVariants as slot
use Rattle.flight_value.specs.declared.made.Made.{Made}
use Rattle.flight_value.specs.declared.made.MadeKind.{MadeKind}
use Rattle.flight_value.specs.declared.made.MadeKind.TheVariants as kind
use Rattle.flight_value.specs.declared.made.Tree.{Tree}
use Rattle.flight_value.specs.declared.made.Tree.TheVariants as tree
use Rattle.flight_value.specs.declared.name.Name.{Name}
use Rattle.flight_syntax.specs.declared.program.Declared.{Declared}
use Rattle.flight_syntax.specs.declared.program.Declared.TheVariants as declared
use Rattle.flight_syntax.specs.declared.script.Outcome.TheVariants as outcome
use Rattle.flight_render.specs.declared.root.Ground.{Ground}
use Rattle.flight_render.specs.declared.root.Root.{Root}
use Rattle.flight_render.specs.declared.root.Root.TheVariants as root
use Rattle.flight_render.specs.Run.{Step, gave, threw, waits, Run, fail, and_then, on_step}
use Rattle.flight_render.specs.Values.{made_in, items_in, property_in, tree_of, undefined}
use Rattle.flight_render.specs.Operators.{depth_digest, type_digest}
use Rattle.flight_render.specs.Eval.{Context, eval}
use Rattle.flight_render.specs.Body.{Start, started, run_start, params_of, component_start, args_tree, action_start, root_start, body, root_body, fresh, give_last}
use Rattle.flight_render.specs.Bodies.{inner, element_of, is_finished, finished, made_by, tables_with, next_body, body_at, node_at, tables_at, tables_for, TabledFor}
use Rattle.flight_render.specs.Laws.{Met, Own, AllOwn, LeadBack, TablesLeadBack}
use Rattle.flight_render.specs.Valid.{IsLawful, IsDeclared, IsValidGround, IsNamed, MadeAs, IsArrayKind, IsObjectKind, IsPromiseKind, MadeWell, IsMade, TablesMade, AreTables, BodyMade, IsKnown}
use Rattle.flight_render.proofs.Names.{some-injective, back_at, tables_snoc, own_table}
use Rattle.flight_render.proofs.Larger.{finished-is, node_body}
use Rattle.flight_render.proofs.Falling.{IsGave, gave_is, body_at-good, body_with-tables, tables_of-element}
use Rattle.flight_render.proofs.Sourced.{each_of, each_at, each_append, each_map, OnGave}
use Rattle.flight_render.proofs.Well.{has_added, named_has, made_has, Well, items_fine, property_fine, eval-well}

-- ---- one body

-- a run that is made well, with the cost of its value
made_run : (cx : Context) (v : IsValidGround cx.over) (b : TablesLeadBack [] cx.address cx.tables) (t : TablesMade cx.over cx.tables) (r : Run Tree)
    → Well cx v b t (λ made u. IsNamed cx.over (made_in (cx.tables ++ made ∷ [])) u) [] r → BodyMade cx.over cx.tables (and_then r give_last)
made_run cx v b t r w = go r.step w.value
  where
    go : (s : Step Tree) → OnGave (IsNamed cx.over (made_in (cx.tables ++ r.after.made ∷ []))) s → BodyMade cx.over cx.tables (on_step s give_last r.after)
    go (gave u) h = record { nodes = w.nodes; value = λ x is. subst (IsNamed cx.over (made_in (cx.tables ++ r.after.made ∷ []))) (gave_is u x is) h }
    go (threw d) h = record { nodes = w.nodes; value = λ x is. elim (subst IsGave (sym is) tt) [ ] }
    go (waits i) h = record { nodes = w.nodes; value = λ x is. elim (subst IsGave (sym is) tt) [ ] }

made_fail : (g : Ground) (tables : List (List Made)) (d : List ℕ) → BodyMade g tables (fail d fresh)
made_fail g tables d = record { nodes = tt; value = λ x is. elim (subst IsGave (sym is) tt) [ ] }

-- a start whose expression is lawful and whose variables are named
abbrev StartsWell : Ground → List (List Made) → Start → Type 0
StartsWell g tables x = ((scope : ℕ) × IsLawful g scope x.expression) × AllByRecursion (IsNamed g (made_in (tables ++ [] ∷ []))) x.env

made_start : (cx : Context) → IsValidGround cx.over → TablesLeadBack [] cx.address cx.tables → TablesMade cx.over cx.tables → (o : Option Start) → ((x : Start) → o ≡ Some x → StartsWell cx.over cx.tables x) → BodyMade cx.over cx.tables (run_start cx o)
made_start cx v b t None h = made_fail cx.over cx.tables type_digest
made_start cx v b t (Some x) h = go (nat_lt (length cx.address) 200)
  where
    go : (c : Bool) → BodyMade cx.over cx.tables (cond c (started cx x) (fail depth_digest fresh))
    go true = made_run cx v b t (eval cx x.expression x.env fresh) (eval-well cx v b t (h x refl).0.0 x.expression x.env fresh (h x refl).0.1 tt (h x refl).1)
    go false = made_fail cx.over cx.tables depth_digest

declared_lawful : (g : Ground) → IsValidGround g → (number : ℕ) (d : Declared) → slice_get g.program.declared number ≡ Some d → IsDeclared g d
declared_lawful g v number d e = each_at (IsDeclared g) g.program.declared number d (each_of (IsDeclared g) g.program.declared v.each) e

-- the tables below a body
tables_made : (g : Ground) (ts : List (List Made)) (made : List Made) → TablesMade g ts → AllByRecursion (IsMade g (ts ++ made ∷ [])) made → TablesMade g (ts ++ made ∷ [])
tables_made g ts made t n =
    each_append (AllByRecursion (IsMade g (ts ++ made ∷ []))) ts (made ∷ [])
    (each_map (AllByRecursion (IsMade g ts)) (AllByRecursion (IsMade g (ts ++ made ∷ [])))
    (λ x h. each_map (IsMade g ts) (IsMade g (ts ++ made ∷ [])) (made_has g ts (ts ++ made ∷ []) (has_added ts made)) x h) ts t)
    (n, tt)

-- ---- what a body begins with

params_named : (g : Ground) (us : List (List Made)) (props : Tree) → ((name : List ℕ) (u : Tree) → property_in g us name props ≡ Some u → IsNamed g (made_in us) u) → (params : List (List ℕ)) → AllByRecursion (IsNamed g (made_in (us ++ [] ∷ []))) (params_of g us props params)
params_named g us props h [] = tt
params_named g us props h (name ∷ names) = (go (property_in g us name props) refl, params_named g us props h names)
  where
    go : (o : Option Tree) → property_in g us name props ≡ o → IsNamed g (made_in (us ++ [] ∷ [])) (unwrap_or o undefined)
    go None e = tt
    go (Some u) e = named_has g us (us ++ [] ∷ []) (has_added us []) u (h name u e)

component_well : (g : Ground) → IsValidGround g → (us : List (List Made)) (props : Tree) → ((name : List ℕ) (u : Tree) → property_in g us name props ≡ Some u → IsNamed g (made_in us) u)
    → (o : Option Declared) → ((d : Declared) → o ≡ Some d → IsDeclared g d) → (x : Start) → component_start g us o props ≡ Some x → StartsWell g us x
component_well g v us props h None l x is = absurd (none-some x is)
component_well g v us props h (Some (declared.Client name import)) l x is = absurd (none-some x is)
component_well g v us props h (Some (declared.Action name params e)) l x is = absurd (none-some x is)
component_well g v us props h (Some (declared.Server name params e)) l x is =
    subst (StartsWell g us) (some-injective _ x is) ((length params, (l (declared.Server name params e) refl).1), params_named g us props h params)

made_body : (g : Ground) → IsValidGround g → (s : List Bool) (a : List ℕ) (n : ℕ) (ts : List (List Made)) (made : List Made) → TablesLeadBack [] a ts → LeadBack a 0 made → TablesMade g ts → AllByRecursion (IsMade g (ts ++ made ∷ [])) made
    → (c : ℕ) (props : Tree) → BodyMade g (ts ++ made ∷ []) (body g s (ts ++ made ∷ []) c props (a ++ n ∷ []))
unfolding body
made_body g v s a n ts made back lead t nodes c props =
    made_start (record { over = g; settled = s; address = a ++ n ∷ []; tables = ts ++ made ∷ [] }) v (tables_snoc [] a ts made n back lead) (tables_made g ts made t nodes)
    (component_start g (ts ++ made ∷ []) (slice_get g.program.declared c) props)
    (component_well g v (ts ++ made ∷ []) props
    (λ name u is. property_fine (record { over = g; settled = s; address = a; tables = ts }) v back t made nodes name props u is)
    (slice_get g.program.declared c) (λ d e. declared_lawful g v c d e))

made_root : (g : Ground) → IsValidGround g → (s : List Bool) → BodyMade g [] (root_body g s)
unfolding root_body
made_root g v s = made_start (record { over = g; settled = s; address = []; tables = [] }) v tt tt (root_start g g.root) (λ x is. go g.root x is)
  where
    found : (o : Option ℕ) (d : Declared) → option_and_then (slice_get g.program.declared) o ≡ Some d → IsDeclared g d
    found None d e = absurd (none-some d e)
    found (Some i) d e = declared_lawful g v i d e

    items : (args : Graph) (o : Option (List Tree)) → items_in g [] (args_tree g args) ≡ o → AllByRecursion (IsNamed g (made_in ([] ∷ []))) (unwrap_or o [])
    items args None e = tt
    items args (Some ts) e = from_slot args.root e
      where
        from_slot : (x : Slot) → items_in g [] (tree_of (outcome.Value args) (length g.script.sources) x) ≡ Some ts → AllByRecursion (IsNamed g (made_in ([] ∷ []))) ts
        from_slot (slot.Atom a) q = absurd (none-some ts q)
        from_slot (slot.Node n) q = items_fine (record { over = g; settled = s; address = []; tables = [] }) v tt tt [] tt (tree.FromSource (length g.script.sources) n) ts q

    action : (args : Graph) (o : Option Declared) → ((d : Declared) → o ≡ Some d → IsDeclared g d) → (x : Start) → action_start g o args ≡ Some x → StartsWell g [] x
    action args None l x is = absurd (none-some x is)
    action args (Some (declared.Client name import)) l x is = absurd (none-some x is)
    action args (Some (declared.Server name params e)) l x is = absurd (none-some x is)
    action args (Some (declared.Action name params e)) l x is =
        subst (StartsWell g []) (some-injective _ x is) ((length params, (l (declared.Action name params e) refl).1), items args (items_in g [] (args_tree g args)) refl)

    go : (r : Root) (x : Start) → root_start g r ≡ Some x → StartsWell g [] x
    go root.App x is = component_well g v [] undefined (λ name u q. absurd (none-some u q)) (option_and_then (slice_get g.program.declared) _) (found _) x is
    go (root.Call number args) x is = action args (slice_get g.program.declared number) (λ d e. declared_lawful g v number d e) x is

-- ---- the bodies of a whole rendering

onto : (P : List ℕ → Type 0) → ((a : List ℕ) (i : ℕ) → P a → P (a ++ i ∷ [])) → (at rest : List ℕ) → P at → P (at ++ rest)
onto P step at [] p = subst P (sym (append-nil at)) p
onto P step at (i ∷ rest) p = subst P (append_assoc at (i ∷ []) rest) (onto P step (at ++ i ∷ []) rest (step at i p))

met_cases : (a r : List ℕ) (k i : ℕ) → Met (a ++ i ∷ []) r k → Met a r k ⊎ (r ≡ a)
met_cases [] [] k i h = inr refl
met_cases [] (x ∷ r) k i h = elim h.1 [ ]
met_cases (j ∷ a) [] k i h = inl h
met_cases (j ∷ a) (x ∷ r) k i h = ⊎_elim (λ w. inl (h.0, w)) (λ e. inr (ap₂ (λ y z. y ∷ z) h.0 e)) (met_cases a r k i h.1)

table_below : (above a r : List ℕ) (k : ℕ) (ts : List (List Made)) (made : List Made) → TablesLeadBack above a ts → Met a r k → slice_get (ts ++ made ∷ []) (length r) ≡ slice_get ts (length r)
table_below above [] r k ts made g h = elim h [ ]
table_below above (i ∷ a) r k [] made g h = elim g [ ]
table_below above (i ∷ a) [] k (t ∷ ts) made g h = refl
table_below above (i ∷ a) (j ∷ r) k (t ∷ ts) made g h = table_below (above ++ i ∷ []) a r k ts made g.1 h.1

-- the tables of a body that is rendered: what the bodies at its proper prefixes made, which finish
pub record Tabled (g : Ground) (s : List Bool) (a : List ℕ) (b : Run Tree) : Type 0 where
  pub back : TablesLeadBack [] a (tables_at g s a)
  pub tables : TablesMade g (tables_at g s a)
  pub here : BodyMade g (tables_at g s a) b
  pub prefixes : (r : List ℕ) (k : ℕ) (t : List Made) → Met a r k → slice_get (tables_at g s a) (length r) ≡ Some t → (c : Run Tree) × (body_at g s r ≡ Some c) × (is_finished c.step ≡ true) × (c.after.made ≡ t)

AllTabled : Ground → List Bool → List ℕ → Type 0
AllTabled g s a = (b : Run Tree) → body_at g s a ≡ Some b → Tabled g s a b

tabled_root : (g : Ground) → IsValidGround g → (s : List Bool) → AllTabled g s []
unfolding AllTabled body_at tables_at
tabled_root g v s b is =
    record { back = tt; tables = tt; here = subst (BodyMade g []) (some-injective _ b is) (made_root g v s); prefixes = λ r k t m e. elim m [ ] }

tabled_next : (g : Ground) → IsValidGround g → (s : List Bool) (a : List ℕ) (i : ℕ) → AllTabled g s a → AllTabled g s (a ++ i ∷ [])
unfolding AllTabled
tabled_next g v s a i above b is = by_node (node_at g s name) refl
  where
    name : Name
    name = record { render = a; serial = i }

    next : next_body g s (tables_for g s name) (a ++ i ∷ []) (element_of (node_at g s name)) ≡ Some b
    next = sym (body_with-tables g s name) ∙ is

    build : (m : Made) → node_at g s name ≡ Some m → (c : Run Tree) → body_at g s a ≡ Some c → is_finished c.step ≡ true → (e : ℕ × Tree) → element_of (Some m) ≡ Some e → Tabled g s (a ++ i ∷ []) b
    build m at c here fin e elem =
        record {
          back = subst (TablesLeadBack [] (a ++ i ∷ [])) (sym all) (tables_snoc [] a (tables_at g s a) c.after.made i k.back (body_at-good g s a c here).nodes);
          tables = subst (TablesMade g) (sym all) (tables_made g (tables_at g s a) c.after.made k.tables k.here.nodes);
          here = subst (λ z. BodyMade g z b) (sym all)
              (subst (BodyMade g (tables_at g s a ++ c.after.made ∷ [])) same (made_body g v s a i (tables_at g s a) c.after.made k.back (body_at-good g s a c here).nodes k.tables k.here.nodes e.0 e.1));
          prefixes = λ r j t met get. prefix r j t met (subst (λ z. slice_get z (length r) ≡ Some t) all get);
        }
      where
        k : Tabled g s a c
        k = above c here

        tables : tables_for g s name ≡ tables_at g s a ++ c.after.made ∷ []
        tables = ap (λ z. tables_with (tables_at g s a) (finished z)) here ∙ ap (tables_with (tables_at g s a)) (finished-is c fin)

        all : tables_at g s (a ++ i ∷ []) ≡ tables_at g s a ++ c.after.made ∷ []
        all = tables_of-element g s name ∙ tables

        same : body g s (tables_at g s a ++ c.after.made ∷ []) e.0 e.1 (a ++ i ∷ []) ≡ b
        same = some-injective _ b (ap₂ (λ z o. next_body g s z (a ++ i ∷ []) o) (sym tables) (sym (ap element_of at ∙ elem)) ∙ next)

        prefix : (r : List ℕ) (j : ℕ) (t : List Made) → Met (a ++ i ∷ []) r j → slice_get (tables_at g s a ++ c.after.made ∷ []) (length r) ≡ Some t → (d : Run Tree) × (body_at g s r ≡ Some d) × (is_finished d.step ≡ true) × (d.after.made ≡ t)
        prefix r j t met get =
            ⊎_elim (λ w. k.prefixes r j t w (sym (table_below [] a r j (tables_at g s a) c.after.made k.back w) ∙ get))
            (λ w. (c, ap (body_at g s) w ∙ here, fin, some-injective c.after.made t (sym (own_table [] a (tables_at g s a) c.after.made k.back) ∙ ap (λ z. slice_get (tables_at g s a ++ c.after.made ∷ []) (length z)) (sym w) ∙ get)))
            (met_cases a r j i met)

    by_element : (m : Made) → node_at g s name ≡ Some m → (o : Option (ℕ × Tree)) → element_of (Some m) ≡ o → Tabled g s (a ++ i ∷ []) b
    by_element m at None e = absurd (none-some b (sym (ap (next_body g s (tables_for g s name) (a ++ i ∷ [])) (ap element_of at ∙ e)) ∙ next))
    by_element m at (Some x) e = let c = node_body g s name m at in build m at c.0 c.1 c.2 x e

    by_node : (o : Option Made) → node_at g s name ≡ o → Tabled g s (a ++ i ∷ []) b
    by_node None e = absurd (none-some b (sym (ap (λ z. next_body g s (tables_for g s name) (a ++ i ∷ []) (element_of z)) e) ∙ next))
    by_node (Some m) e = by_element m e (element_of (Some m)) refl

pub body_tabled : (g : Ground) → IsValidGround g → (s : List Bool) (a : List ℕ) (b : Run Tree) → body_at g s a ≡ Some b → Tabled g s a b
unfolding AllTabled
body_tabled g v s a b is = onto (AllTabled g s) (tabled_next g v s) [] a (tabled_root g v s) b is

-- ---- what is there

-- a node that a body may name is there
there : (g : Ground) → IsValidGround g → (s : List Bool) (a : List ℕ) (b : Run Tree) → body_at g s a ≡ Some b → is_finished b.step ≡ true → (k : ℕ) (n : Name) → Own a k (tree.Made n)
    → (m : Made) → made_in (tables_at g s a ++ b.after.made ∷ []) n ≡ Some m → node_at g s n ≡ Some m
unfolding node_at
there g v s a b is fin k n own m e = ⊎_elim (λ w. here w.0) (λ w. above w (slice_get (tables_at g s a ++ b.after.made ∷ []) (length n.render)) refl e) own
  where
    t : Tabled g s a b
    t = body_tabled g v s a b is

    here : n.render ≡ a → made_by (finished (body_at g s n.render)) n.serial ≡ Some m
    here q =
        ap (λ z. made_by (finished z) n.serial) (ap (body_at g s) q ∙ is) ∙ ap (λ z. made_by z n.serial) (finished-is b fin)
        ∙ sym (ap (option_and_then (λ z. slice_get z n.serial)) (ap (λ z. slice_get (tables_at g s a ++ b.after.made ∷ []) (length z)) q ∙ own_table [] a (tables_at g s a) b.after.made t.back)) ∙ e

    above : Met a n.render n.serial → (o : Option (List Made)) → slice_get (tables_at g s a ++ b.after.made ∷ []) (length n.render) ≡ o → option_and_then (λ z. slice_get z n.serial) o ≡ Some m → made_by (finished (body_at g s n.render)) n.serial ≡ Some m
    above w None q r = absurd (none-some m r)
    above w (Some x) q r =
        let c = t.prefixes n.render n.serial x w (sym (table_below [] a n.render n.serial (tables_at g s a) b.after.made t.back w) ∙ q) in
        ap (λ z. made_by (finished z) n.serial) c.1 ∙ ap (λ z. made_by z n.serial) (finished-is c.0 c.2) ∙ ap (λ z. slice_get z n.serial) c.3 ∙ r

known_named : (g : Ground) → IsValidGround g → (s : List Bool) (a : List ℕ) (b : Run Tree) → body_at g s a ≡ Some b → is_finished b.step ≡ true → (k : ℕ) (t : Tree) → Own a k t → IsNamed g (made_in (tables_at g s a ++ b.after.made ∷ [])) t → IsKnown g s t
known_named g v s a b is fin k (tree.Made n) own h = (h.0, there g v s a b is fin k n own h.0 h.1)
known_named g v s a b is fin k (tree.Atom x) own h = h
known_named g v s a b is fin k (tree.FromSource i n) own h = h
known_named g v s a b is fin k (tree.Promise i) own h = h
known_named g v s a b is fin k (tree.Stream i) own h = h
known_named g v s a b is fin k (tree.Action i) own h = h

-- what names no node made is there
pub known_alone : (g : Ground) (s : List Bool) (t : Tree) → IsNamed g (made_in []) t → IsKnown g s t
known_alone g s (tree.Made n) h = absurd (none-some h.0 h.1)
known_alone g s (tree.Atom x) h = h
known_alone g s (tree.FromSource i n) h = h
known_alone g s (tree.Promise i) h = h
known_alone g s (tree.Stream i) h = h
known_alone g s (tree.Action i) h = h

-- a node of a kind that a body may name is there as that kind
as_known : (g : Ground) → IsValidGround g → (s : List Bool) (a : List ℕ) (b : Run Tree) → body_at g s a ≡ Some b → is_finished b.step ≡ true → (k : ℕ) (P : MadeKind → Type 0) (t : Tree) → Own a k t → MadeAs (made_in (tables_at g s a ++ b.after.made ∷ [])) P t → MadeAs (node_at g s) P t
as_known g v s a b is fin k P (tree.Made n) own h = (h.0, there g v s a b is fin k n own h.0 h.1, h.2)
as_known g v s a b is fin k P (tree.Atom x) own h = elim h [ ]
as_known g v s a b is fin k P (tree.FromSource i n) own h = elim h [ ]
as_known g v s a b is fin k P (tree.Promise i) own h = elim h [ ]
as_known g v s a b is fin k P (tree.Stream i) own h = elim h [ ]
as_known g v s a b is fin k P (tree.Action i) own h = elim h [ ]

well_known : (g : Ground) → IsValidGround g → (s : List Bool) (a : List ℕ) (b : Run Tree) → body_at g s a ≡ Some b → is_finished b.step ≡ true → (k : ℕ) (j : MadeKind) (slots : List Tree) → AllOwn a k slots
    → MadeWell g (made_in (tables_at g s a ++ b.after.made ∷ [])) j slots → MadeWell g (node_at g s) j slots
well_known g v s a b is fin k kind.Array slots own h = h
well_known g v s a b is fin k (kind.Object names) slots own h = h
well_known g v s a b is fin k kind.Map slots own h = h
well_known g v s a b is fin k kind.Set slots own h = h
well_known g v s a b is fin k kind.Element slots own h = h
well_known g v s a b is fin k (kind.Server c) slots own h =
    let o : AllOwn a k (h.1.0 ∷ h.1.1.0 ∷ []) = subst (AllOwn a k) h.1.1.1 own in
    (h.0, (h.1.0, (h.1.1.0, h.1.1.1, h.1.1.2, as_known g v s a b is fin k IsObjectKind h.1.1.0 o.1.0 h.1.1.3)))
well_known g v s a b is fin k kind.Promise slots own h =
    let o : AllOwn a k (h.0 ∷ []) = subst (AllOwn a k) h.1 own in (h.0, h.1, as_known g v s a b is fin k IsArrayKind h.0 o.0 h.2)
well_known g v s a b is fin k (kind.Bound c) slots own h =
    let o : AllOwn a k (h.1.0 ∷ []) = subst (AllOwn a k) h.1.1 own in (h.0, (h.1.0, h.1.1, as_known g v s a b is fin k IsPromiseKind h.1.0 o.0 h.1.2))

-- the slots of a node that is there are there, and it is made well
pub node_known : (g : Ground) → IsValidGround g → (s : List Bool) (n : Name) (m : Made) → node_at g s n ≡ Some m → AllByRecursion (IsKnown g s) m.slots × MadeWell g (node_at g s) m.kind m.slots
node_known g v s n m is = (all m.slots own made.0, well_known g v s n.render b.0 b.1 b.2 n.serial m.kind m.slots own made.1)
  where
    b : (b : Run Tree) × (body_at g s n.render ≡ Some b) × (is_finished b.step ≡ true) × (slice_get b.after.made n.serial ≡ Some m)
    b = node_body g s n m is

    t : Tabled g s n.render b.0
    t = body_tabled g v s n.render b.0 b.1

    own : AllOwn n.render n.serial m.slots
    own = back_at n.render b.0.after.made n.serial m (body_at-good g s n.render b.0 b.1).nodes b.3

    made : IsMade g (tables_at g s n.render ++ b.0.after.made ∷ []) m
    made = each_at (IsMade g (tables_at g s n.render ++ b.0.after.made ∷ [])) b.0.after.made n.serial m t.here.nodes b.3

    all : (ts : List Tree) → AllOwn n.render n.serial ts → AllByRecursion (IsNamed g (made_in (tables_at g s n.render ++ b.0.after.made ∷ []))) ts → AllByRecursion (IsKnown g s) ts
    all [] o h = tt
    all (x ∷ ts) o h = (known_named g v s n.render b.0 b.1 b.2 n.serial x o.0 h.0, all ts o.1 h.1)

-- what a body gives is there
pub gives_known : (g : Ground) → IsValidGround g → (s : List Bool) (a : List ℕ) (b : Run Tree) → body_at g s a ≡ Some b → (t : Tree) → b.step ≡ gave t → IsKnown g s t
gives_known g v s a b is t e =
    known_named g v s a b is (ap is_finished e) (length b.after.made) t ((body_at-good g s a b is).value t e) ((body_tabled g v s a b is).here.value t e)

-- the tables of an element that is there are tables of its address, and the element is one of their nodes
pub tables_belong : (g : Ground) → IsValidGround g → (s : List Bool) (n : Name) (tables : List (List Made)) → TabledFor g s n tables → AreTables g (inner n) tables × (made_in tables n ≡ node_at g s n)
tables_belong g v s n tables x = (subst (AreTables g (inner n)) (sym whole) (record { back = back; made = made }), ap (λ z. made_in z n) whole ∙ found ∙ sym x.0.1)
  where
    b : (b : Run Tree) × (body_at g s n.render ≡ Some b) × (is_finished b.step ≡ true) × (slice_get b.after.made n.serial ≡ Some x.0.0)
    b = node_body g s n x.0.0 x.0.1

    t : Tabled g s n.render b.0
    t = body_tabled g v s n.render b.0 b.1

    whole : tables ≡ tables_at g s n.render ++ b.0.after.made ∷ []
    whole = x.1 ∙ ap (λ z. tables_with (tables_at g s n.render) (finished z)) b.1 ∙ ap (tables_with (tables_at g s n.render)) (finished-is b.0 b.2)

    back : TablesLeadBack [] (inner n) (tables_at g s n.render ++ b.0.after.made ∷ [])
    back = tables_snoc [] n.render (tables_at g s n.render) b.0.after.made n.serial t.back (body_at-good g s n.render b.0 b.1).nodes

    made : TablesMade g (tables_at g s n.render ++ b.0.after.made ∷ [])
    made = tables_made g (tables_at g s n.render) b.0.after.made t.tables t.here.nodes

    found : made_in (tables_at g s n.render ++ b.0.after.made ∷ []) n ≡ Some x.0.0
    found = ap (option_and_then (λ z. slice_get z n.serial)) (own_table [] n.render (tables_at g s n.render) b.0.after.made t.back) ∙ b.3

-- a body that is rendered makes its nodes well
pub rendered_made : (g : Ground) → IsValidGround g → (s : List Bool) (a : List ℕ) (b : Run Tree) → body_at g s a ≡ Some b → BodyMade g (tables_at g s a) b
rendered_made g v s a b is = (body_tabled g v s a b is).here
