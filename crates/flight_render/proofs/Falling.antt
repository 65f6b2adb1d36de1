-- A chain of server elements never comes back to an element, and ends.
use Rattle.std.proofs.Common.{◌≡◌, ℕ, zero, suc, ◌≤◌, ◌<◌, Bool, true, false, cond, nat_lt, ◌⊎◌, inl, inr, List, [], ◌∷◌, ◌++◌, length, Option, Some, None, unwrap_or, slice_get, refl, sym, ap, ap₂, ◌∙◌, subst, arith, append_assoc, append-nil, length-append}
use Rattle.std.specs.Prelude.{option_map, is_some}
use Rattle.std.proofs.lemmas.Option.{none-some}
use Rattle.std.proofs.lemmas.Bool.{false≢true}
use Rattle.std.proofs.lemmas.Bool.Decides.{nat_tests}
use Rattle.flight_value.specs.declared.graph.Graph.{Graph}
use Rattle.flight_value.specs.declared.graph.Slot.{Slot}
use Rattle.flight_value.specs.declared.graph.Slot.TheVariants as slot
use Rattle.flight_value.specs.declared.made.Made.{Made}
use Rattle.flight_value.specs.declared.made.MadeKind.{MadeKind}
use Rattle.flight_value.specs.declared.made.MadeKind.TheVariants as kind
use Rattle.flight_value.specs.declared.made.Tree.{Tree}
use Rattle.flight_value.specs.declared.made.Tree.TheVariants as tree
use Rattle.flight_value.specs.declared.name.Name.{Name}
use Rattle.flight_syntax.specs.declared.program.Declared.{Declared}
use Rattle.flight_syntax.specs.declared.program.Declared.TheVariants as declared
use Rattle.flight_syntax.specs.declared.script.Outcome.{Outcome}
use Rattle.flight_syntax.specs.declared.script.Outcome.TheVariants as outcomes_of
use Rattle.flight_render.specs.declared.root.Ground.{Ground}
use Rattle.flight_render.specs.declared.root.Root.{Root}
use Rattle.flight_render.specs.declared.root.Root.TheVariants as root
use Rattle.flight_render.specs.Run.{Step, gave, threw, waits, Run, End, fail, and_then, on_step}
use Rattle.flight_render.specs.Values.{is_settled, end_if, outcomes, arguments, tree_of, items_in, property_in, undefined}
use Rattle.flight_render.specs.Operators.{depth_digest, type_digest}
use Rattle.flight_render.specs.Eval.{Context, eval}
use Rattle.flight_render.specs.Body.{Start, started, run_start, params_of, component_start, args_tree, action_start, root_start, body, root_body, fresh, give_last}
use Rattle.flight_render.specs.Bodies.{inner, element_of, is_finished, finished, made_by, tables_with, next_body, body_below, body_at, node_at, tables_below, tables_at, tables_for, TabledFor}
use Rattle.flight_render.specs.Jobs.{Job, the_root, element, outcome, known, blank, Value, shown, of_job, failed, stopped, is_server, job_of, comes, value_of, Leads, argument}
use Rattle.flight_render.specs.Costs.{address_of}
use Rattle.flight_render.specs.Laws.{Grows, Stays, Met, Own, AllOwn, LeadBack, TablesLeadBack, NamesBack}
use Rattle.flight_render.proofs.Names.{some-injective, back_at, met_snoc, met_last, tables_snoc, items-own, property-own, StepOwn, Good, eval-good}
use Rattle.flight_render.proofs.Larger.{no_body_below, next-keeps}

-- ---- one body

abbrev pub IsGave : End → Type 0
IsGave (gave x) = Unit {0}
IsGave _ = ⊥

pub gave_is : (t u : Tree) → ◌≡◌ {A = End} (gave t) (gave u) → t ≡ u
gave_is t u h = ap tree_or h
  where
    tree_or : End → Tree
    tree_or (gave x) = x
    tree_or (threw d) = t
    tree_or (waits s) = t

-- a run that leads back, with the cost of its value, at an address of fewer than 200 items
good_run : (a : List ℕ) (r : Run Tree) → length a < 200 → Good a (Own a) 0 r → NamesBack a (and_then r give_last)
good_run a r few g = go r.step g.own
  where
    go : (s : Step Tree) → StepOwn (Own a) (length r.after.made) s → NamesBack a (on_step s give_last r.after)
    go (gave t) h = record { nodes = g.nodes; value = λ u is. subst (Own a (length r.after.made)) (gave_is t u is) h; shallow = λ u is. few }
    go (threw d) h = record { nodes = g.nodes; value = λ u is. elim (subst IsGave (sym is) tt) [ ]; shallow = λ u is. few }
    go (waits s) h = record { nodes = g.nodes; value = λ u is. elim (subst IsGave (sym is) tt) [ ]; shallow = λ u is. few }

good_fail : (a d : List ℕ) → NamesBack a (fail d fresh)
good_fail a d = record { nodes = tt; value = λ u is. elim (subst IsGave (sym is) tt) [ ]; shallow = λ u is. elim (subst IsGave (sym is) tt) [ ] }

good_start : (cx : Context) → TablesLeadBack [] cx.address cx.tables → (o : Option Start) → ((x : Start) → o ≡ Some x → AllOwn cx.address 0 x.env) → NamesBack cx.address (run_start cx o)
good_start cx tables None env = good_fail cx.address type_digest
good_start cx tables (Some x) env = go (nat_lt (length cx.address) 200) refl
  where
    go : (b : Bool) → nat_lt (length cx.address) 200 ≡ b → NamesBack cx.address (cond b (started cx x) (fail depth_digest fresh))
    go true e = good_run cx.address (eval cx x.expression x.env fresh) (grind (arith, nat_tests, e)) (eval-good cx tables x.expression x.env fresh tt (env x refl))
    go false e = good_fail cx.address depth_digest

-- ---- what a body begins with

-- the parameters of a server element, whose props its own body's address may name
params_own : (g : Ground) (a : List ℕ) (n : ℕ) (ts : List (List Made)) (made : List Made) → TablesLeadBack [] a ts → LeadBack a 0 made → (props : Tree) → Own a n props → (params : List (List ℕ)) → AllOwn (a ++ n ∷ []) 0 (params_of g (ts ++ made ∷ []) props params)
params_own g a n ts made h l props own [] = tt
params_own g a n ts made h l props own (name ∷ names) = (go (property_in g (ts ++ made ∷ []) name props) refl, params_own g a n ts made h l props own names)
  where
    outside : (t : Tree) → Own a n t → Own (a ++ n ∷ []) 0 t
    outside (tree.Made w) (inl k) = inr (subst (λ z. Met (a ++ n ∷ []) z w.serial) (sym k.0) (met_last a n w.serial k.1))
    outside (tree.Made w) (inr k) = inr (met_snoc a w.render w.serial n k)
    outside (tree.Atom x) k = tt
    outside (tree.FromSource s x) k = tt
    outside (tree.Promise s) k = tt
    outside (tree.Stream s) k = tt
    outside (tree.Action s) k = tt

    go : (o : Option Tree) → property_in g (ts ++ made ∷ []) name props ≡ o → Own (a ++ n ∷ []) 0 (unwrap_or o undefined)
    go None e = tt
    go (Some t) e = outside t (property-own g a n ts made h l name props own t e)

pub good_body : (g : Ground) (s : List Bool) (a : List ℕ) (n : ℕ) (ts : List (List Made)) (made : List Made) → TablesLeadBack [] a ts → LeadBack a 0 made → (c : ℕ) (props : Tree) → Own a n props → NamesBack (a ++ n ∷ []) (body g s (ts ++ made ∷ []) c props (a ++ n ∷ []))
unfolding body
good_body g s a n ts made h l c props own =
    good_start (record { over = g; settled = s; address = a ++ n ∷ []; tables = ts ++ made ∷ [] }) (tables_snoc [] a ts made n h l) (component_start g (ts ++ made ∷ []) (slice_get g.program.declared c) props)
    (go (slice_get g.program.declared c))
  where
    go : (o : Option Declared) (x : Start) → component_start g (ts ++ made ∷ []) o props ≡ Some x → AllOwn (a ++ n ∷ []) 0 x.env
    go None x is = absurd (none-some x is)
    go (Some (declared.Client name import)) x is = absurd (none-some x is)
    go (Some (declared.Action name params e)) x is = absurd (none-some x is)
    go (Some (declared.Server name params e)) x is = subst (λ z. AllOwn (a ++ n ∷ []) 0 z.env) (some-injective _ x is) (params_own g a n ts made h l props own params)

no_params : (g : Ground) (params : List (List ℕ)) → AllOwn [] 0 (params_of g [] undefined params)
no_params g [] = tt
no_params g (name ∷ names) = (tt, no_params g names)

pub good_root : (g : Ground) (s : List Bool) → NamesBack [] (root_body g s)
unfolding root_body
good_root g s = good_start (record { over = g; settled = s; address = []; tables = [] }) tt (root_start g g.root) (λ x is. go g.root x is)
  where
    component : (o : Option Declared) (x : Start) → component_start g [] o undefined ≡ Some x → AllOwn [] 0 x.env
    component None x is = absurd (none-some x is)
    component (Some (declared.Client name import)) x is = absurd (none-some x is)
    component (Some (declared.Action name params e)) x is = absurd (none-some x is)
    component (Some (declared.Server name params e)) x is = subst (λ z. AllOwn [] 0 z.env) (some-injective _ x is) (no_params g params)

    items : (args : Graph) (o : Option (List Tree)) → items_in g [] (args_tree g args) ≡ o → AllOwn [] 0 (unwrap_or o [])
    items args None e = tt
    items args (Some ts) e = from_slot args.root e
      where
        from_slot : (x : Slot) → items_in g [] (tree_of (outcomes_of.Value args) (length g.script.sources) x) ≡ Some ts → AllOwn [] 0 ts
        from_slot (slot.Atom a) q = absurd (none-some ts q)
        from_slot (slot.Node n) q = items-own g [] 0 [] [] tt tt (tree.FromSource (length g.script.sources) n) tt ts q

    action : (args : Graph) (o : Option Declared) (x : Start) → action_start g o args ≡ Some x → AllOwn [] 0 x.env
    action args None x is = absurd (none-some x is)
    action args (Some (declared.Client name import)) x is = absurd (none-some x is)
    action args (Some (declared.Server name params e)) x is = absurd (none-some x is)
    action args (Some (declared.Action name params e)) x is = subst (λ z. AllOwn [] 0 z.env) (some-injective _ x is) (items args (items_in g [] (args_tree g args)) refl)

    go : (r : Root) (x : Start) → root_start g r ≡ Some x → AllOwn [] 0 x.env
    go root.App x is = component _ x is
    go (root.Call number args) x is = action args (slice_get g.program.declared number) x is

-- ---- the body at an address

abbrev NamesBackHere : List ℕ → Option (Run Tree) → Type 0
NamesBackHere a o = (b : Run Tree) → o ≡ Some b → NamesBack a b

element_props : (a : List ℕ) (i : ℕ) (o : Option Made) (x : ℕ × Tree) → ((m : Made) → o ≡ Some m → AllOwn a i m.slots) → element_of o ≡ Some x → Own a i x.1
element_props a i None x h is = absurd (none-some x is)
element_props a i (Some m) x h is = go m.kind is
  where
    second : (ts : List Tree) → AllOwn a i ts → (c : ℕ) → option_map (λ t. (c, t)) (slice_get ts 1) ≡ Some x → Own a i x.1
    second [] w c q = absurd (none-some x q)
    second (t ∷ []) w c q = absurd (none-some x q)
    second (t ∷ u ∷ ts) w c q = subst (Own a i) (ap (λ z. z.1) (some-injective (c, u) x q)) w.1.0

    go : (k : MadeKind) → element_of (Some (record { kind = k; slots = m.slots })) ≡ Some x → Own a i x.1
    go kind.Array q = absurd (none-some x q)
    go (kind.Object names) q = absurd (none-some x q)
    go kind.Element q = absurd (none-some x q)
    go kind.Map q = absurd (none-some x q)
    go kind.Set q = absurd (none-some x q)
    go kind.Promise q = absurd (none-some x q)
    go (kind.Bound c) q = absurd (none-some x q)
    go (kind.Server c) q = second m.slots (h m refl) c q

finished-some : (o : Option (Run Tree)) (x : Run Tree) → finished o ≡ Some x → o ≡ Some x
finished-some None x e = e
finished-some (Some y) x e = go (is_finished y.step) e
  where
    go : (c : Bool) → cond c (Some y) None ≡ Some x → Some y ≡ Some x
    go true q = q
    go false q = absurd (none-some x q)

below_good : (g : Ground) (s : List Bool) (rest : List ℕ) (ts : List (List Made)) (at : List ℕ) (o : Option (Run Tree)) → TablesLeadBack [] at ts → NamesBackHere at o → NamesBackHere (at ++ rest) (body_below g s ts at o rest)
below_good g s [] ts at o gt gh b h = subst (λ z. NamesBack z b) (sym (append-nil at)) (gh b h)
below_good g s (i ∷ rest) ts at o gt gh b h = go (finished o) refl h
    (λ t m gt' gh' w. subst (λ z. NamesBack z b) (append_assoc at (i ∷ []) rest) (below_good g s rest t (at ++ i ∷ []) m gt' gh' b w))
  where
    next : (x : Run Tree) → NamesBack at x → (y : Option (ℕ × Tree)) → ((z : ℕ × Tree) → y ≡ Some z → Own at i z.1) → (c : Run Tree) → next_body g s (ts ++ x.after.made ∷ []) (at ++ i ∷ []) y ≡ Some c → NamesBack (at ++ i ∷ []) c
    next x gx None own c e = absurd (none-some c e)
    next x gx (Some y) own c e = subst (NamesBack (at ++ i ∷ [])) (some-injective _ c e) (good_body g s at i ts x.after.made gt gx.nodes y.0 y.1 (own y refl))

    go : (k : Option (Run Tree)) → finished o ≡ k → body_below g s (tables_with ts k) (at ++ i ∷ []) (next_body g s (tables_with ts k) (at ++ i ∷ []) (element_of (made_by k i))) rest ≡ Some b
        → ((t : List (List Made)) (m : Option (Run Tree)) → TablesLeadBack [] (at ++ i ∷ []) t → ((c : Run Tree) → m ≡ Some c → NamesBack (at ++ i ∷ []) c) → body_below g s t (at ++ i ∷ []) m rest ≡ Some b → NamesBack (at ++ i ∷ rest) b) → NamesBack (at ++ i ∷ rest) b
    go None e w step = absurd (no_body_below g s ts (at ++ i ∷ []) rest b w)
    go (Some x) e w step =
        let gx = gh x (finished-some o x e) in
        step (ts ++ x.after.made ∷ []) (next_body g s (ts ++ x.after.made ∷ []) (at ++ i ∷ []) (element_of (slice_get x.after.made i))) (tables_snoc [] at ts x.after.made i gt gx.nodes)
        (next x gx (element_of (slice_get x.after.made i)) (λ y q. element_props at i (slice_get x.after.made i) y (λ m r. back_at at x.after.made i m gx.nodes r) q)) w

pub body_at-good : (g : Ground) (s : List Bool) (a : List ℕ) (b : Run Tree) → body_at g s a ≡ Some b → NamesBack a b
unfolding body_at
body_at-good g s a b h =
    below_good g s a [] [] (Some (root_body g s)) tt (λ c is. subst (NamesBack []) (some-injective _ c is) (good_root g s)) b h

-- ---- the order of addresses

-- an address below another, or one that branches off before it
abbrev pub Lower : List ℕ → List ℕ → Type 0
Lower [] y = ⊥
Lower (i ∷ x) [] = Unit {0}
Lower (i ∷ x) (j ∷ y) = (i < j) ⊎ ((i ≡ j) × Lower x y)

lower_irreflexive : (x : List ℕ) → Lower x x → ⊥
lower_irreflexive [] h = h
lower_irreflexive (i ∷ x) (inl h) = omega (arith, h)
lower_irreflexive (i ∷ x) (inr h) = lower_irreflexive x h.1

lower_trans : (x y z : List ℕ) → Lower x y → Lower y z → Lower x z
lower_trans [] y z h k = h
lower_trans (i ∷ x) [] z h k = elim k [ ]
lower_trans (i ∷ x) (j ∷ y) [] h k = tt
lower_trans (i ∷ x) (j ∷ y) (l ∷ z) (inl h) (inl k) = inl (omega (arith, h, k))
lower_trans (i ∷ x) (j ∷ y) (l ∷ z) (inl h) (inr k) = inl (omega (arith, h, k.0))
lower_trans (i ∷ x) (j ∷ y) (l ∷ z) (inr h) (inl k) = inl (omega (arith, h.0, k))
lower_trans (i ∷ x) (j ∷ y) (l ∷ z) (inr h) (inr k) = inr (h.0 ∙ k.0, lower_trans x y z h.1 k.1)

lower_own : (a : List ℕ) (m : ℕ) → Lower (a ++ m ∷ []) a
lower_own [] m = tt
lower_own (i ∷ a) m = inr (refl, lower_own a m)

lower_met : (a b : List ℕ) (m : ℕ) → Met a b m → Lower (b ++ m ∷ []) a
lower_met [] b m h = elim h [ ]
lower_met (i ∷ a) [] m h = inl h
lower_met (i ∷ a) (j ∷ b) m h = inr (h.0, lower_met a b m h.1)

lower_inner : (a : List ℕ) (k : ℕ) (n : Name) → Own a k (tree.Made n) → Lower (inner n) a
lower_inner a k n (inl h) = subst (λ z. Lower (z ++ n.serial ∷ []) a) (sym h.0) (lower_own a n.serial)
lower_inner a k n (inr h) = lower_met a n.render n.serial h

-- it is well founded among addresses of so many items at most: by the first item, and below it by the rest
abbrev StepOf : ℕ → (List ℕ → Type 0) → Type 0
StepOf k P = (a : List ℕ) → length a ≤ k → ((b : List ℕ) → length b ≤ k → Lower b a → P b) → P a

inside_first : (k : ℕ) (P : List ℕ → Type 0) → StepOf (suc k) P → (i : ℕ) → ((j : ℕ) → j < i → (r : List ℕ) → length r ≤ k → P (j ∷ r)) → StepOf k (λ z. P (i ∷ z))
inside_first k P step i lesser a few h = step (i ∷ a) (omega (arith, few)) each
  where
    each : (b : List ℕ) → length b ≤ suc k → Lower b (i ∷ a) → P b
    each [] l w = elim w [ ]
    each (j ∷ b) l (inl w) = lesser j w b (omega (arith, l))
    each (j ∷ b) l (inr w) = subst (λ z. P (z ∷ b)) (sym w.0) (h b (omega (arith, l)) w.1)

below_first : (k : ℕ) (P : List ℕ → Type 0) → StepOf (suc k) P → ((Q : List ℕ → Type 0) → StepOf k Q → (a : List ℕ) → length a ≤ k → Q a)
    → (n i : ℕ) → i < n → (r : List ℕ) → length r ≤ k → P (i ∷ r)
below_first k P step wf zero i lt r few = absurd (omega (arith, lt))
below_first k P step wf (suc n) i lt r few = wf (λ z. P (i ∷ z)) (inside_first k P step i (λ j l q f. below_first k P step wf n j (omega (arith, l, lt)) q f)) r few

at_empty : (k : ℕ) (P : List ℕ → Type 0) → StepOf k P → ((j : ℕ) (r : List ℕ) → suc (length r) ≤ k → P (j ∷ r)) → P []
at_empty k P step below = step [] (omega arith) each
  where
    each : (b : List ℕ) → length b ≤ k → Lower b [] → P b
    each [] l w = elim w [ ]
    each (j ∷ b) l w = below j b l

lower_induction : (k : ℕ) (P : List ℕ → Type 0) → StepOf k P → (a : List ℕ) → length a ≤ k → P a
lower_induction zero P step [] few = at_empty zero P step (λ j r l. absurd (omega (arith, l)))
lower_induction zero P step (i ∷ a) few = absurd (omega (arith, few))
lower_induction (suc k) P step [] few = at_empty (suc k) P step (λ j r l. below_first k P step (lower_induction k) (suc j) j (omega arith) r (omega (arith, l)))
lower_induction (suc k) P step (i ∷ a) few = below_first k P step (lower_induction k) (suc i) i (omega arith) a (omega (arith, few))

-- ---- one step of a chain

abbrev NotMade : End → Type 0
NotMade (gave (tree.Made n)) = ⊥
NotMade _ = Unit {0}

tree_of-not_made : (o : Outcome) (i : ℕ) (x : Slot) → NotMade (gave (tree_of o i x))
tree_of-not_made o i (slot.Atom x) = tt
tree_of-not_made o i (slot.Node n) = tt

-- a source gives no node made, and no argument is one
source-not_made : (c : Bool) (i : ℕ) (o : Option Outcome) → NotMade (end_if c i o)
source-not_made true i (Some (outcomes_of.Value g)) = tree_of-not_made (outcomes_of.Value g) i g.root
source-not_made true i (Some (outcomes_of.Reject d)) = tt
source-not_made true i None = tt
source-not_made false i (Some o) = tt
source-not_made false i None = tt

argument-not_made : (os : List Outcome) (i : ℕ) (x : Slot) → NotMade (gave (argument os i x))
argument-not_made [] i x = tt
argument-not_made (o ∷ os) i x = tree_of-not_made o i x

-- what a body gives, where it gives a node made
pub bodied : (g : Ground) (s : List Bool) (a : List ℕ) (h : End) → option_map (λ b. b.step) (body_at g s a) ≡ Some h → (b : Run Tree) × (body_at g s a ≡ Some b) × (b.step ≡ h)
bodied g s a h = go (body_at g s a)
  where
    go : (o : Option (Run Tree)) → option_map (λ b. b.step) o ≡ Some h → (b : Run Tree) × (o ≡ Some b) × (b.step ≡ h)
    go None q = absurd (none-some h q)
    go (Some b) q = (b, refl, some-injective b.step h q)

-- what a job gives that is a node made, its own body gave
gives_made : (g : Ground) (s : List Bool) (k : Job) (n : Name) → comes g s k ≡ Some (gave (tree.Made n)) → (a : List ℕ) × (address_of k ≡ Some a) × ((b : Run Tree) × (body_at g s a ≡ Some b) × (b.step ≡ gave (tree.Made n)))
unfolding comes
gives_made g s the_root n q = ([], refl, bodied g s [] _ q)
gives_made g s (element m) n q = (inner m, refl, bodied g s (inner m) _ q)
gives_made g s (known x) n q = elim (subst NotMade (some-injective _ _ q) (argument-not_made (arguments g.root) (length g.script.sources) x)) [ ]
gives_made g s blank n q = elim (subst NotMade (some-injective _ _ q) tt) [ ]
gives_made g s (outcome i) n q = elim (subst NotMade (some-injective _ _ q) (source-not_made (is_settled s i) i (slice_get (outcomes g) i))) [ ]

-- a value that is a server element's job is its node
element_job : (g : Ground) (s : List Bool) (n : Name) (j : Job) → job_of g s (shown (tree.Made n)) ≡ Some j → (element n ≡ j) × (is_server (node_at g s n) ≡ true)
element_job g s n j is = go (is_server (node_at g s n)) refl is
  where
    go : (c : Bool) → is_server (node_at g s n) ≡ c → cond c (Some (element n)) None ≡ Some j → (element n ≡ j) × (is_server (node_at g s n) ≡ true)
    go true e q = (some-injective (element n) j q, e)
    go false e q = absurd (none-some j q)

-- one step of a chain goes to a lower address, which is not too long
pub one_step : (g : Ground) (s : List Bool) (k j : Job) (h : End) → comes g s k ≡ Some h → job_of g s (value_of g s k h) ≡ Some j
    → (a b : List ℕ) × (address_of k ≡ Some a) × (address_of j ≡ Some b) × Lower b a × (length b ≤ 200)
one_step g s k j (threw d) by is = absurd (none-some j is)
one_step g s k j (waits i) by is = absurd (none-some j is)
one_step g s k j (gave (tree.Atom x)) by is = absurd (none-some j is)
one_step g s k j (gave (tree.FromSource i x)) by is = absurd (none-some j is)
one_step g s k j (gave (tree.Promise i)) by is = absurd (none-some j is)
one_step g s k j (gave (tree.Stream i)) by is = absurd (none-some j is)
one_step g s k j (gave (tree.Action i)) by is = absurd (none-some j is)
one_step g s k j (gave (tree.Made n)) by is =
    let from = gives_made g s k n by in
    let back = body_at-good g s from.0 from.2.0 from.2.1 in
    let own = back.value (tree.Made n) from.2.2 in
    let few = back.shallow (tree.Made n) from.2.2 in
    (from.0, inner n, from.1, ap address_of (sym (element_job g s n j is).0), lower_inner from.0 (length from.2.0.after.made) n own, long from.0 (length from.2.0.after.made) few own)
  where
    met_long : (a b : List ℕ) (m : ℕ) → Met a b m → length b < length a
    met_long [] b m h = elim h [ ]
    met_long (i ∷ a) [] m h = omega arith
    met_long (i ∷ a) (x ∷ b) m h = let l = met_long a b m h.1 in omega (arith, l)

    long : (a : List ℕ) (c : ℕ) → length a < 200 → Own a c (tree.Made n) → length (inner n) ≤ 200
    long a c few (inl h) = let l = length-append n.render (n.serial ∷ []) in let e = ap length h.0 in omega (arith, l, e, few)
    long a c few (inr h) = let l = length-append n.render (n.serial ∷ []) in let e = met_long a n.render n.serial h in omega (arith, l, e, few)

falls : (g : Ground) (s : List Bool) (k j : Job) (h : End) (ks : List Job) (last : Value) → comes g s k ≡ Some h → Leads g s (value_of g s k h) ks last → job_of g s last ≡ Some j → (a b : List ℕ) × (address_of k ≡ Some a) × (address_of j ≡ Some b) × Lower b a
falls g s k j h [] last by l is = let one = one_step g s k j h by (ap (job_of g s) l ∙ is) in (one.0, one.1, one.2, one.3, one.4)
falls g s k j h (i ∷ ks) last by l is =
    let one = one_step g s k i h by l.0 in
    let rest = falls g s i j l.1.0 ks last l.1.1 l.1.2 is in
    let same : one.1 ≡ rest.0 = some-injective one.1 rest.0 (sym one.3 ∙ rest.2) in
    (one.0, rest.1, one.2, rest.3, lower_trans rest.1 rest.0 one.0 rest.4 (subst (λ z. Lower z one.0) same one.4))

-- a chain that begins with a job does not come back to it
pub no_loop : (g : Ground) (s : List Bool) (j : Job) (h : End) (ks : List Job) (last : Value) → comes g s j ≡ Some h → Leads g s (value_of g s j h) ks last → job_of g s last ≡ Some j → ⊥
no_loop g s j h ks last by l back =
    let f = falls g s j j h ks last by l back in
    let at : f.0 ≡ f.1 = some-injective f.0 f.1 (sym f.2 ∙ f.3) in
    lower_irreflexive f.1 (subst (λ z. Lower f.1 z) at f.4)

-- ---- the body of a server element, with its tables

body_snoc : (g : Ground) (s : List Bool) (a : List ℕ) (i : ℕ) (tables : List (List Made)) (at : List ℕ) (here : Option (Run Tree))
    → body_below g s tables at here (a ++ i ∷ []) ≡ next_body g s (tables_with (tables_below g s tables at here a) (finished (body_below g s tables at here a))) (at ++ (a ++ i ∷ [])) (element_of (made_by (finished (body_below g s tables at here a)) i))
body_snoc g s [] i tables at here = refl
body_snoc g s (j ∷ a) i tables at here =
    let t = tables_with tables (finished here) in
    let next = next_body g s t (at ++ j ∷ []) (element_of (made_by (finished here) j)) in
    body_snoc g s a i t (at ++ j ∷ []) next
    ∙ ap (λ z. next_body g s (tables_with (tables_below g s t (at ++ j ∷ []) next a) (finished (body_below g s t (at ++ j ∷ []) next a))) z (element_of (made_by (finished (body_below g s t (at ++ j ∷ []) next a)) i))) (append_assoc at (j ∷ []) (a ++ i ∷ []))

pub body_with-tables : (g : Ground) (s : List Bool) (n : Name) → body_at g s (inner n) ≡ next_body g s (tables_for g s n) (inner n) (element_of (node_at g s n))
unfolding body_at tables_at node_at
body_with-tables g s n = body_snoc g s n.render n.serial [] [] (Some (root_body g s))

tables_below_snoc : (g : Ground) (s : List Bool) (a : List ℕ) (i : ℕ) (tables : List (List Made)) (at : List ℕ) (here : Option (Run Tree))
    → tables_below g s tables at here (a ++ i ∷ []) ≡ tables_with (tables_below g s tables at here a) (finished (body_below g s tables at here a))
tables_below_snoc g s [] i tables at here = refl
tables_below_snoc g s (j ∷ a) i tables at here =
    tables_below_snoc g s a i (tables_with tables (finished here)) (at ++ j ∷ []) (next_body g s (tables_with tables (finished here)) (at ++ j ∷ []) (element_of (made_by (finished here) j)))

pub tables_of-element : (g : Ground) (s : List Bool) (n : Name) → tables_at g s (inner n) ≡ tables_for g s n
unfolding body_at tables_at
tables_of-element g s n = tables_below_snoc g s n.render n.serial [] [] (Some (root_body g s))

-- a server element that is there has a body, and its job comes to an end
element_ends : (g : Ground) (s : List Bool) (n : Name) → is_server (node_at g s n) ≡ true → (h : End) × (comes g s (element n) ≡ Some h)
unfolding comes
element_ends g s n is = go (element_of (node_at g s n)) refl is
  where
    go : (o : Option (ℕ × Tree)) → element_of (node_at g s n) ≡ o → is_some o ≡ true → (h : End) × (option_map (λ b. b.step) (body_at g s (inner n)) ≡ Some h)
    go None e q = absurd (false≢true q)
    go (Some x) e q = (_, ap (option_map (λ b. b.step)) (body_with-tables g s n ∙ ap (next_body g s (tables_for g s n) (inner n)) e))

-- ---- chains end

-- a value that is no bare job of a server element: such a job comes by its node alone
abbrev pub IsOwnJob : Value → Type 0
IsOwnJob (of_job (element n)) = ⊥
IsOwnJob v = Unit {0}

job_ends : (g : Ground) (s : List Bool) (v : Value) → IsOwnJob v → (j : Job) → job_of g s v ≡ Some j → (h : End) × (comes g s j ≡ Some h)
unfolding comes body_at
job_ends g s (of_job the_root) w j is = subst (λ z. (h : End) × (comes g s z ≡ Some h)) (some-injective the_root j is) (_, ap (option_map (λ b. b.step)) root)
  where
    root : body_at g s [] ≡ Some (root_body g s)
    root = refl
job_ends g s (of_job (element n)) w j is = elim w [ ]
job_ends g s (of_job (outcome i)) w j is = subst (λ z. (h : End) × (comes g s z ≡ Some h)) (some-injective (outcome i) j is) (_, refl)
job_ends g s (of_job (known x)) w j is = subst (λ z. (h : End) × (comes g s z ≡ Some h)) (some-injective (known x) j is) (_, refl)
job_ends g s (of_job blank) w j is = subst (λ z. (h : End) × (comes g s z ≡ Some h)) (some-injective blank j is) (_, refl)
job_ends g s (shown (tree.Made n)) w j is = let e = element_job g s n j is in subst (λ z. (h : End) × (comes g s z ≡ Some h)) e.0 (element_ends g s n e.1)
job_ends g s (shown (tree.Atom x)) w j is = absurd (none-some j is)
job_ends g s (shown (tree.FromSource i x)) w j is = absurd (none-some j is)
job_ends g s (shown (tree.Promise i)) w j is = absurd (none-some j is)
job_ends g s (shown (tree.Stream i)) w j is = absurd (none-some j is)
job_ends g s (shown (tree.Action i)) w j is = absurd (none-some j is)
job_ends g s (failed d) w j is = absurd (none-some j is)
job_ends g s (stopped i) w j is = absurd (none-some j is)

pub value_own : (g : Ground) (s : List Bool) (j : Job) (h : End) → IsOwnJob (value_of g s j h)
value_own g s j (gave t) = tt
value_own g s j (threw d) = tt
value_own g s j (waits i) = tt

abbrev pub ChainEnds : Ground → List Bool → Value → Type 0
ChainEnds g s v = (js : List Job) × (last : Value) × Leads g s v js last × (job_of g s last ≡ None)

-- from a value on, where the chains of jobs at lower addresses end
goes_down : (g : Ground) (s : List Bool) (v : Value) → IsOwnJob v → ((k : Job) (h : End) → job_of g s v ≡ Some k → comes g s k ≡ Some h → ChainEnds g s (value_of g s k h)) → ChainEnds g s v
goes_down g s v w below = go (job_of g s v) refl
  where
    go : (o : Option Job) → job_of g s v ≡ o → ChainEnds g s v
    go None e = ([], v, refl, e)
    go (Some k) e =
        let h = job_ends g s v w k e in
        let rest = below k h.0 e h.1 in
        (k ∷ rest.0, rest.1, (e, (h.0, h.1, rest.2)), rest.3)

JobsEnd : Ground → List Bool → List ℕ → Type 0
JobsEnd g s a = (k : Job) (h : End) → address_of k ≡ Some a → comes g s k ≡ Some h → ChainEnds g s (value_of g s k h)

jobs_end : (g : Ground) (s : List Bool) → StepOf 200 (JobsEnd g s)
unfolding JobsEnd
jobs_end g s a few lower k h at by =
    goes_down g s (value_of g s k h) (value_own g s k h)
    (λ j i is to. let one = one_step g s k j h by is in
    let same : one.0 ≡ a = some-injective one.0 a (sym one.2 ∙ at) in
    lower one.1 one.5 (subst (Lower one.1) same one.4) j i one.3 to)

pub chain_ends : (g : Ground) (s : List Bool) (v : Value) → IsOwnJob v → ChainEnds g s v
unfolding JobsEnd
chain_ends g s v w =
    goes_down g s v w
    (λ k h is by. goes_down g s (value_of g s k h) (value_own g s k h)
    (λ j i to from. let one = one_step g s k j h by to in lower_induction 200 (JobsEnd g s) (jobs_end g s) one.1 one.5 j i one.3 from))

-- ---- each value stands for one slot

pub one_end : (g : Ground) (s : List Bool) (v : Value) (js ks : List Job) (w x : Value) → Leads g s v js w → Leads g s v ks x → job_of g s w ≡ None → job_of g s x ≡ None → w ≡ x
one_end g s v [] [] w x l m e f = sym l ∙ m
one_end g s v [] (k ∷ ks) w x l m e f = absurd (none-some k (sym e ∙ ap (job_of g s) (sym l) ∙ m.0))
one_end g s v (j ∷ js) [] w x l m e f = absurd (none-some j (sym f ∙ ap (job_of g s) (sym m) ∙ l.0))
one_end g s v (j ∷ js) (k ∷ ks) w x l m e f =
    let same : k ≡ j = some-injective k j (sym m.0 ∙ l.0) in
    let ends : m.1.0 ≡ l.1.0 = some-injective m.1.0 l.1.0 (sym m.1.1 ∙ ap (comes g s) same ∙ l.1.1) in
    one_end g s (value_of g s j l.1.0) js ks w x l.1.2 (subst {A = Job × End} (λ z. Leads g s (value_of g s z.0 z.1) ks x) (ap₂ (λ a b. (a, b)) same ends) m.1.2) e f

-- what an attempt with the tables of an element finds under fewer settled sources, the element's job comes to
pub attempt_gives : (g : Ground) (few many : List Bool) → Grows few many → (n : Name) (tables : List (List Made)) (b : Run Tree) → TabledFor g many n tables
    → next_body g few tables (inner n) (element_of (node_at g many n)) ≡ Some b → Stays many b.step → comes g many (element n) ≡ Some b.step
unfolding comes
attempt_gives g few many gr n tables b tabled is stays =
    let now = next-keeps g few many gr tables (inner n) (element_of (node_at g many n)) b is stays in
    ap (option_map (λ x. x.step))
    (body_with-tables g many n ∙ ap (λ z. next_body g many z (inner n) (element_of (node_at g many n))) (sym tabled.1) ∙ now)
