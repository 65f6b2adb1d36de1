-- More settled sources never lower a cost.
use Rattle.std.proofs.Common.{◌≡◌, ℕ, ◌≤◌, Bool, true, false, cond, nat_lt, inl, inr, length, List, [], ◌∷◌, ◌++◌, Option, Some, None, slice_get, refl, sym, ap, ap₂, ◌∙◌, subst, arith}
use Rattle.std.proofs.lemmas.Option.{none-some}
use Rattle.flight_value.specs.declared.graph.Atom.TheVariants as atom
use Rattle.flight_value.specs.declared.made.Made.{Made}
use Rattle.flight_value.specs.declared.made.MadeKind.TheVariants as kind
use Rattle.flight_value.specs.declared.made.Tree.{Tree}
use Rattle.flight_value.specs.declared.made.Tree.TheVariants as tree
use Rattle.flight_value.specs.declared.name.Name.{Name}
use Rattle.flight_syntax.specs.declared.expr.Op.TheVariants as op
use Rattle.flight_syntax.specs.Term as term
use Rattle.flight_syntax.specs.Term.{Term, Terms, Props, Pairs}
use Rattle.flight_render.specs.declared.root.Ground.{Ground}
use Rattle.flight_render.specs.Run.{Machine, Step, gave, threw, waits, Run, pay, on_step, and_then, ends, give, fail}
use Rattle.flight_render.specs.Values.{source_named, source_end, items_in, property_in}
use Rattle.flight_render.specs.Operators.{type_digest, depth_digest, operated, thrown}
use Rattle.flight_render.specs.Eval.{Context, Attributes, known, make_here, give_or_fail, give_atom, item_at, make_object, make_bound, branch, each, with_attribute, with_children, make_element, eval, eval_all, eval_props, eval_pairs, eval_attrs}
use Rattle.flight_render.specs.Body.{Start, started, run_start, component_start, root_start, body, root_body, fresh, give_last}
use Rattle.flight_render.specs.Bodies.{inner, element_of, next_body, body_at, node_at, tables_for}
use Rattle.flight_render.specs.Jobs.{Job, the_root, element, outcome, known as known_job, blank, job_body}
use Rattle.flight_render.specs.Costs.{IsOver}
use Rattle.flight_render.specs.Laws.{Grows, Stays}
use Rattle.flight_render.proofs.Grows.{with_settled, each-keeps, eval-keeps, all-keeps, props-keeps, pairs-keeps, attrs-keeps}
use Rattle.flight_render.proofs.Names.{some-injective}
use Rattle.flight_render.proofs.Paid.{Paid, paid-then, paid_option, paid_atom, paid_make, paid_fail, paid_object, paid_item, paid_branch, paid_each, paid_bound, paid_attribute, paid_children, paid_element, eval-paid, all-paid, props-paid, pairs-paid, attrs-paid}
use Rattle.flight_render.proofs.Larger.{node_at-keeps, tables_for-keeps, job_of-keeps, reached-keeps, has_job-final, rendered-keeps}
use Rattle.flight_render.proofs.Falling.{body_with-tables}

-- the second run costs no less
pub record Dearer {A : Type 0} (r q : Run A) : Type 0 where
  pub least : r.after.cost ≤ q.after.cost

alike : {A : Type 0} (r : Run A) → Dearer r r
alike r = record { least = omega arith }

-- where the first run waits for what is settled in the second, the second goes on
dearer-then : {A B : Type 0} (many : List Bool) (r q : Run A) (f h : A → Machine → Run B) → (Stays many r.step → q ≡ r) → Dearer r q → ((a : A) (m : Machine) → Dearer (f a m) (h a m)) → ((a : A) (m : Machine) → Paid m.cost (h a m))
    → Dearer (and_then r f) (and_then q h)
dearer-then {A} {B} many r q f h same less later paid = go r.step refl
  where
    whole : Paid q.after.cost (and_then q h)
    whole = paid-then q.after.cost q h (record { least = omega arith }) paid

    is : (s : Step A) → r.step ≡ s → Stays many s → and_then q h ≡ on_step s h r.after
    is s e w = ap (λ z. and_then z h) (same (subst (Stays many) (sym e) w)) ∙ ap (λ z. on_step z h r.after) e

    go : (s : Step A) → r.step ≡ s → Dearer (on_step s f r.after) (and_then q h)
    go (gave a) e = subst (Dearer (f a r.after)) (sym (is (gave a) e tt)) (later a r.after)
    go (threw d) e = subst (Dearer (fail d r.after)) (sym (is (threw d) e tt)) (record { least = omega arith })
    go (waits s) e = let a = less.least in let b = whole.least in record { least = omega (arith, a, b) }

dearer-same : {A B : Type 0} (r : Run A) (f h : A → Machine → Run B) → ((a : A) (m : Machine) → Dearer (f a m) (h a m)) → Dearer (and_then r f) (and_then r h)
dearer-same {A} {B} r f h later = go r.step
  where
    go : (s : Step A) → Dearer (on_step s f r.after) (on_step s h r.after)
    go (gave a) = later a r.after
    go (threw d) = record { least = omega arith }
    go (waits s) = record { least = omega arith }

dearer-branch : {A : Type 0} (t : Tree) (y n y' n' : Machine → Run A) (m : Machine) → Dearer (y m) (y' m) → Dearer (n m) (n' m) → Dearer (branch t y n m) (branch t y' n' m)
dearer-branch (tree.Atom (atom.Bool true)) y n y' n' m hy hn = hy
dearer-branch (tree.Atom (atom.Bool false)) y n y' n' m hy hn = hn
dearer-branch _ y n y' n' m hy hn = record { least = omega arith }

dearer-each : (many : List Bool) (run run' : Tree → Machine → Run Tree) → ((t : Tree) (m : Machine) → Stays many (run t m).step → run' t m ≡ run t m) → ((t : Tree) (m : Machine) → Dearer (run t m) (run' t m)) → ((t : Tree) (m : Machine) → Paid m.cost (run' t m))
    → (items so_far : List Tree) (m : Machine) → Dearer (each run items so_far m) (each run' items so_far m)
dearer-each many run run' same less paid [] so_far m = alike (give so_far m)
dearer-each many run run' same less paid (item ∷ items) so_far m =
    dearer-then many (run item m) (run' item m) (λ t n. each run items (so_far ++ t ∷ []) n) (λ t n. each run' items (so_far ++ t ∷ []) n) (same item m) (less item m)
    (λ t n. dearer-each many run run' same less paid items (so_far ++ t ∷ []) n) (λ t n. paid_each run' paid items (so_far ++ t ∷ []) n)

module _ (cx : Context) (many : List Bool) (g : Grows cx.settled many) where
  abbrev more : Context
  more = with_settled cx many

  mutual
    pub eval-dearer : (t : Term) (env : List Tree) (m : Machine) → Dearer (eval cx t env m) (eval (with_settled cx many) t env m)
    eval-dearer (term.let_in name value rest) env m =
        dearer-then many _ _ _ _ (eval-keeps cx many g value env (pay 1 m)) (eval-dearer value env (pay 1 m)) (λ t n. eval-dearer rest (env ++ t ∷ []) n) (λ t n. eval-paid more rest (env ++ t ∷ []) n)
    eval-dearer (term.if_else test yes_one other) env m =
        dearer-then many _ _ _ _ (eval-keeps cx many g test env (pay 1 m)) (eval-dearer test env (pay 1 m))
        (λ t n. dearer-branch t (eval cx yes_one env) (eval cx other env) (eval more yes_one env) (eval more other env) n (eval-dearer yes_one env n) (eval-dearer other env n))
        (λ t n. paid_branch t (eval more yes_one env) (eval more other env) n (eval-paid more yes_one env n) (eval-paid more other env n))
    eval-dearer (term.for_in name over give_one) env m =
        dearer-then many _ _ _ _ (eval-keeps cx many g over env (pay 1 m)) (eval-dearer over env (pay 1 m))
        (λ t n. dearer-same (give_or_fail type_digest (items_in cx.over (known cx n) t) n) _ _
        (λ items k. dearer-then many (each (λ item l. eval cx give_one (env ++ item ∷ []) l) items [] k) (each (λ item l. eval more give_one (env ++ item ∷ []) l) items [] k) _ _
        (each-keeps many (λ item l. eval cx give_one (env ++ item ∷ []) l) (λ item l. eval more give_one (env ++ item ∷ []) l) (λ item. eval-keeps cx many g give_one (env ++ item ∷ [])) items [] k)
        (dearer-each many (λ item l. eval cx give_one (env ++ item ∷ []) l) (λ item l. eval more give_one (env ++ item ∷ []) l) (λ item. eval-keeps cx many g give_one (env ++ item ∷ []))
        (λ item l. eval-dearer give_one (env ++ item ∷ []) l) (λ item l. eval-paid more give_one (env ++ item ∷ []) l) items [] k)
        (λ ts l. alike (make_here cx kind.Array ts l)) (λ ts l. paid_make more kind.Array ts l)))
        (λ t n. paid-then n.cost (give_or_fail type_digest (items_in cx.over (known cx n) t) n) _ (paid_option _ _ n)
        (λ items k. paid-then k.cost (each (λ item l. eval more give_one (env ++ item ∷ []) l) items [] k) _ (paid_each (λ item l. eval more give_one (env ++ item ∷ []) l) (λ item l. eval-paid more give_one (env ++ item ∷ []) l) items [] k) (λ ts l. paid_make more kind.Array ts l)))
    eval-dearer (term.throw value) env m =
        dearer-then many _ _ _ _ (eval-keeps cx many g value env (pay 1 m)) (eval-dearer value env (pay 1 m)) (λ t n. alike (fail {A = Tree} (thrown t) n)) (λ t n. paid_fail (thrown t) n)
    eval-dearer (term.member of name) env m =
        dearer-then many _ _ _ _ (eval-keeps cx many g of env (pay 1 m)) (eval-dearer of env (pay 1 m)) (λ t n. alike (give_or_fail type_digest (property_in cx.over (known cx n) name t) n)) (λ t n. paid_option type_digest (property_in cx.over (known cx n) name t) n)
    eval-dearer (term.index of at_one) env m =
        dearer-then many _ _ _ _ (eval-keeps cx many g of env (pay 1 m)) (eval-dearer of env (pay 1 m))
        (λ t n. dearer-then many _ _ _ _ (eval-keeps cx many g at_one env n) (eval-dearer at_one env n) (λ i k. alike (item_at cx t i k)) (λ i k. paid_item more t i k))
        (λ t n. paid-then n.cost (eval more at_one env n) (λ i k. item_at more t i k) (eval-paid more at_one env n) (λ i k. paid_item more t i k))
    eval-dearer (term.atom a) env m = alike (eval cx (term.atom a) env m)
    eval-dearer (term.variable number) env m = alike (eval cx (term.variable number) env m)
    eval-dearer (term.client number) env m = alike (eval cx (term.client number) env m)
    eval-dearer (term.array items) env m = dearer-then many _ _ _ _ (all-keeps cx many g items env [] (pay 1 m)) (all-dearer items env [] (pay 1 m)) (λ ts n. alike (make_here cx kind.Array ts n)) (λ ts n. paid_make more kind.Array ts n)
    eval-dearer (term.object props) env m = dearer-then many _ _ _ _ (props-keeps cx many g props env [] (pay 1 m)) (props-dearer props env [] (pay 1 m)) (λ ps n. alike (make_object cx ps n)) (λ ps n. paid_object more ps n)
    eval-dearer (term.map pairs) env m = dearer-then many _ _ _ _ (pairs-keeps cx many g pairs env [] (pay 1 m)) (pairs-dearer pairs env [] (pay 1 m)) (λ ts n. alike (make_here cx kind.Map ts n)) (λ ts n. paid_make more kind.Map ts n)
    eval-dearer (term.set items) env m = dearer-then many _ _ _ _ (all-keeps cx many g items env [] (pay 1 m)) (all-dearer items env [] (pay 1 m)) (λ ts n. alike (make_here cx kind.Set ts n)) (λ ts n. paid_make more kind.Set ts n)
    eval-dearer (term.source name) env m =
        dearer-same (give_or_fail type_digest (source_named cx.over name) (pay 1 m)) (λ s n. ends (source_end cx.over cx.settled s) n) (λ s n. ends (source_end cx.over many s) n) (λ s n. record { least = omega arith })
    eval-dearer (term.promise name) env m = alike (eval cx (term.promise name) env m)
    eval-dearer (term.stream name) env m = alike (eval cx (term.stream name) env m)
    eval-dearer (term.action number) env m = alike (eval cx (term.action number) env m)
    eval-dearer (term.action_with number bound) env m = dearer-then many _ _ _ _ (all-keeps cx many g bound env [] (pay 1 m)) (all-dearer bound env [] (pay 1 m)) (λ ts n. alike (make_bound cx number ts n)) (λ ts n. paid_bound more number ts n)
    eval-dearer (term.paren inside) env m = eval-dearer inside env m
    eval-dearer (term.binary op.And left right) env m =
        dearer-then many _ _ _ _ (eval-keeps cx many g left env (pay 1 m)) (eval-dearer left env (pay 1 m))
        (λ t n. dearer-branch t (eval cx right env) (give t) (eval more right env) (give t) n (eval-dearer right env n) (alike (give t n)))
        (λ t n. paid_branch t (eval more right env) (give t) n (eval-paid more right env n) (record { least = omega arith }))
    eval-dearer (term.binary op.Or left right) env m =
        dearer-then many _ _ _ _ (eval-keeps cx many g left env (pay 1 m)) (eval-dearer left env (pay 1 m))
        (λ t n. dearer-branch t (give t) (eval cx right env) (give t) (eval more right env) n (alike (give t n)) (eval-dearer right env n))
        (λ t n. paid_branch t (give t) (eval more right env) n (record { least = omega arith }) (eval-paid more right env n))
    eval-dearer (term.binary op.Plus left right) env m =
        dearer-then many _ _ _ _ (eval-keeps cx many g left env (pay 1 m)) (eval-dearer left env (pay 1 m))
        (λ x n. dearer-then many _ _ _ _ (eval-keeps cx many g right env n) (eval-dearer right env n) (λ y k. alike (give_atom (operated op.Plus x y) k)) (λ y k. paid_atom (operated op.Plus x y) k))
        (λ x n. paid-then n.cost (eval more right env n) (λ y k. give_atom (operated op.Plus x y) k) (eval-paid more right env n) (λ y k. paid_atom (operated op.Plus x y) k))
    eval-dearer (term.binary op.Minus left right) env m =
        dearer-then many _ _ _ _ (eval-keeps cx many g left env (pay 1 m)) (eval-dearer left env (pay 1 m))
        (λ x n. dearer-then many _ _ _ _ (eval-keeps cx many g right env n) (eval-dearer right env n) (λ y k. alike (give_atom (operated op.Minus x y) k)) (λ y k. paid_atom (operated op.Minus x y) k))
        (λ x n. paid-then n.cost (eval more right env n) (λ y k. give_atom (operated op.Minus x y) k) (eval-paid more right env n) (λ y k. paid_atom (operated op.Minus x y) k))
    eval-dearer (term.binary op.Times left right) env m =
        dearer-then many _ _ _ _ (eval-keeps cx many g left env (pay 1 m)) (eval-dearer left env (pay 1 m))
        (λ x n. dearer-then many _ _ _ _ (eval-keeps cx many g right env n) (eval-dearer right env n) (λ y k. alike (give_atom (operated op.Times x y) k)) (λ y k. paid_atom (operated op.Times x y) k))
        (λ x n. paid-then n.cost (eval more right env n) (λ y k. give_atom (operated op.Times x y) k) (eval-paid more right env n) (λ y k. paid_atom (operated op.Times x y) k))
    eval-dearer (term.binary op.Equal left right) env m =
        dearer-then many _ _ _ _ (eval-keeps cx many g left env (pay 1 m)) (eval-dearer left env (pay 1 m))
        (λ x n. dearer-then many _ _ _ _ (eval-keeps cx many g right env n) (eval-dearer right env n) (λ y k. alike (give_atom (operated op.Equal x y) k)) (λ y k. paid_atom (operated op.Equal x y) k))
        (λ x n. paid-then n.cost (eval more right env n) (λ y k. give_atom (operated op.Equal x y) k) (eval-paid more right env n) (λ y k. paid_atom (operated op.Equal x y) k))
    eval-dearer (term.binary op.Less left right) env m =
        dearer-then many _ _ _ _ (eval-keeps cx many g left env (pay 1 m)) (eval-dearer left env (pay 1 m))
        (λ x n. dearer-then many _ _ _ _ (eval-keeps cx many g right env n) (eval-dearer right env n) (λ y k. alike (give_atom (operated op.Less x y) k)) (λ y k. paid_atom (operated op.Less x y) k))
        (λ x n. paid-then n.cost (eval more right env n) (λ y k. give_atom (operated op.Less x y) k) (eval-paid more right env n) (λ y k. paid_atom (operated op.Less x y) k))
    eval-dearer (term.element t attrs children) env m =
        dearer-then many _ _ _ _ (attrs-keeps cx many g attrs env (record { key = tree.Atom atom.Null; props = [] }) (pay 1 m)) (attrs-dearer attrs env (record { key = tree.Atom atom.Null; props = [] }) (pay 1 m))
        (λ x n. dearer-then many _ _ _ _ (all-keeps cx many g children env [] n) (all-dearer children env [] n)
        (λ inside k. alike (and_then (with_children cx x inside k) (make_element cx t)))
        (λ inside k. paid-then k.cost (with_children more x inside k) (make_element more t) (paid_children more x inside k) (λ y l. paid_element more t y l)))
        (λ x n. paid-then n.cost (eval_all more children env [] n) (λ inside k. and_then (with_children more x inside k) (make_element more t)) (all-paid more children env [] n)
        (λ inside k. paid-then k.cost (with_children more x inside k) (make_element more t) (paid_children more x inside k) (λ y l. paid_element more t y l)))

    all-dearer : (ts : Terms) (env so_far : List Tree) (m : Machine) → Dearer (eval_all cx ts env so_far m) (eval_all (with_settled cx many) ts env so_far m)
    all-dearer term.no_terms env so_far m = alike (give so_far m)
    all-dearer (term.term_and t rest) env so_far m =
        dearer-then many _ _ _ _ (eval-keeps cx many g t env m) (eval-dearer t env m) (λ v n. all-dearer rest env (so_far ++ v ∷ []) n) (λ v n. all-paid more rest env (so_far ++ v ∷ []) n)

    props-dearer : (ts : Props) (env : List Tree) (so_far : List (List ℕ × Tree)) (m : Machine) → Dearer (eval_props cx ts env so_far m) (eval_props (with_settled cx many) ts env so_far m)
    props-dearer term.no_props env so_far m = alike (give so_far m)
    props-dearer (term.prop_and name t rest) env so_far m =
        dearer-then many _ _ _ _ (eval-keeps cx many g t env m) (eval-dearer t env m) (λ v n. props-dearer rest env (so_far ++ (name, v) ∷ []) n) (λ v n. props-paid more rest env (so_far ++ (name, v) ∷ []) n)

    pairs-dearer : (ts : Pairs) (env so_far : List Tree) (m : Machine) → Dearer (eval_pairs cx ts env so_far m) (eval_pairs (with_settled cx many) ts env so_far m)
    pairs-dearer term.no_pairs env so_far m = alike (give so_far m)
    pairs-dearer (term.pair_and key value rest) env so_far m =
        dearer-then many _ _ _ _ (eval-keeps cx many g key env m) (eval-dearer key env m)
        (λ x n. dearer-then many _ _ _ _ (eval-keeps cx many g value env n) (eval-dearer value env n) (λ v l. pairs-dearer rest env (so_far ++ x ∷ v ∷ []) l) (λ v l. pairs-paid more rest env (so_far ++ x ∷ v ∷ []) l))
        (λ x n. paid-then n.cost (eval more value env n) (λ v l. eval_pairs more rest env (so_far ++ x ∷ v ∷ []) l) (eval-paid more value env n) (λ v l. pairs-paid more rest env (so_far ++ x ∷ v ∷ []) l))

    attrs-dearer : (ts : Props) (env : List Tree) (so_far : Attributes) (m : Machine) → Dearer (eval_attrs cx ts env so_far m) (eval_attrs (with_settled cx many) ts env so_far m)
    attrs-dearer term.no_props env so_far m = alike (give so_far m)
    attrs-dearer (term.prop_and name t rest) env so_far m =
        dearer-then many _ _ _ _ (eval-keeps cx many g t env m) (eval-dearer t env m)
        (λ v n. dearer-same (with_attribute so_far name v n) (λ x k. eval_attrs cx rest env x k) (λ x k. eval_attrs more rest env x k) (λ x k. attrs-dearer rest env x k))
        (λ v n. paid-then n.cost (with_attribute so_far name v n) (λ x l. eval_attrs more rest env x l) (paid_attribute so_far name v n) (λ x l. attrs-paid more rest env x l))

-- ---- bodies

start_dearer : (cx : Context) (many : List Bool) → Grows cx.settled many → (o : Option Start) → Dearer (run_start cx o) (run_start (with_settled cx many) o)
start_dearer cx many g None = alike (run_start cx None)
start_dearer cx many g (Some x) = go (nat_lt (length cx.address) 200)
  where
    go : (b : Bool) → Dearer (cond b (started cx x) (fail depth_digest fresh)) (cond b (started (with_settled cx many) x) (fail depth_digest fresh))
    go true =
        dearer-then many (eval cx x.expression x.env fresh) (eval (with_settled cx many) x.expression x.env fresh) give_last give_last (eval-keeps cx many g x.expression x.env fresh) (eval-dearer cx many g x.expression x.env fresh)
        (λ t m. alike (give_last t m)) (λ t m. record { least = omega arith })
    go false = alike (fail {A = Tree} depth_digest fresh)

pub body_dearer : (g : Ground) (few many : List Bool) → Grows few many → (tables : List (List Made)) (number : ℕ) (props : Tree) (address : List ℕ) → (body g few tables number props address).after.cost ≤ (body g many tables number props address).after.cost
unfolding body
body_dearer g few many gr tables number props address =
    (start_dearer (record { over = g; settled = few; address = address; tables = tables }) many gr (component_start g tables (slice_get g.program.declared number) props)).least

root_dearer : (g : Ground) (few many : List Bool) → Grows few many → (root_body g few).after.cost ≤ (root_body g many).after.cost
unfolding root_body
root_dearer g few many gr = (start_dearer (record { over = g; settled = few; address = []; tables = [] }) many gr (root_start g g.root)).least

-- a body that is there costs no less with more sources settled
abbrev CostsMore : Ground → List Bool → List ℕ → Run Tree → Type 0
CostsMore g many address b = (c : Run Tree) × (body_at g many address ≡ Some c) × (b.after.cost ≤ c.after.cost)

root_costs : (g : Ground) (few many : List Bool) → Grows few many → (b : Run Tree) → body_at g few [] ≡ Some b → CostsMore g many [] b
unfolding body_at
root_costs g few many gr b is = (root_body g many, refl, subst (λ z. z.after.cost ≤ (root_body g many).after.cost) (some-injective (root_body g few) b is) (root_dearer g few many gr))

element_costs : (g : Ground) (few many : List Bool) → Grows few many → (n : Name) (b : Run Tree) → body_at g few (inner n) ≡ Some b → CostsMore g many (inner n) b
element_costs g few many gr n b is = by_node (node_at g few n) refl
  where
    next : next_body g few (tables_for g few n) (inner n) (element_of (node_at g few n)) ≡ Some b
    next = sym (body_with-tables g few n) ∙ is

    by_element : (m : Made) → node_at g few n ≡ Some m → (o : Option (ℕ × Tree)) → element_of (Some m) ≡ o → CostsMore g many (inner n) b
    by_element m at None e = absurd (none-some b (sym (ap (next_body g few (tables_for g few n) (inner n)) (ap element_of at ∙ e)) ∙ next))
    by_element m at (Some x) e = (
      body g many (tables_for g few n) x.0 x.1 (inner n),
      body_with-tables g many n ∙ ap₂ (λ z o. next_body g many z (inner n) o) (sym (tables_for-keeps g few many gr n m at)) (ap element_of (node_at-keeps g few many gr n m at) ∙ e),
      subst (λ z. z.after.cost ≤ (body g many (tables_for g few n) x.0 x.1 (inner n)).after.cost)
          (some-injective (body g few (tables_for g few n) x.0 x.1 (inner n)) b (sym (ap (next_body g few (tables_for g few n) (inner n)) (ap element_of at ∙ e)) ∙ next))
          (body_dearer g few many gr (tables_for g few n) x.0 x.1 (inner n)),
    )

    by_node : (o : Option Made) → node_at g few n ≡ o → CostsMore g many (inner n) b
    by_node None e = absurd (none-some b (sym (ap (λ z. next_body g few (tables_for g few n) (inner n) (element_of z)) e) ∙ next))
    by_node (Some m) e = by_element m e (element_of (Some m)) refl

job_costs : (g : Ground) (few many : List Bool) → Grows few many → (j : Job) (b : Run Tree) → job_body g few j ≡ Some b → (c : Run Tree) × (job_body g many j ≡ Some c) × (b.after.cost ≤ c.after.cost)
job_costs g few many gr the_root b is = root_costs g few many gr b is
job_costs g few many gr (element n) b is = element_costs g few many gr n b is
job_costs g few many gr (outcome i) b is = absurd (none-some b is)
job_costs g few many gr (known_job x) b is = absurd (none-some b is)
job_costs g few many gr blank b is = absurd (none-some b is)

-- what costs more than the fuel goes on doing so
pub over-keeps : (g : Ground) (few many : List Bool) → Grows few many → (fuel : ℕ) → IsOver g few fuel → IsOver g many fuel
over-keeps g few many gr fuel (inl x) = inl (record { counted = x.counted; once = x.once; only = λ a c i. rendered-keeps g few many gr a c (x.only a c i); more = x.more })
over-keeps g few many gr fuel (inr x) =
    let c = job_costs g few many gr x.job x.here x.is_body in
    let l = x.more in
    let k = c.2 in
    inr (record {
      value = x.value;
      met = reached-keeps g few many gr x.value x.met (has_job-final g few x.value x.job x.is_job);
      job = x.job;
      is_job = job_of-keeps g few many gr x.value x.job x.is_job;
      here = c.0;
      is_body = c.1;
      more = omega (arith, l, k);
    })
