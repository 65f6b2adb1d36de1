-- Evaluation never lowers the cost.
use Rattle.std.proofs.Common.{ℕ, ◌+◌, ◌≤◌, Bool, true, false, cond, pos, negsuc, List, [], ◌∷◌, ◌++◌, Option, Some, None, slice_get, arith}
use Rattle.std.specs.Prelude.{bytes_eq, codes}
use Rattle.flight_value.specs.declared.graph.Atom.{Atom}
use Rattle.flight_value.specs.declared.graph.Atom.TheVariants as atom
use Rattle.flight_value.specs.declared.made.MadeKind.{MadeKind}
use Rattle.flight_value.specs.declared.made.MadeKind.TheVariants as kind
use Rattle.flight_value.specs.declared.made.Tree.{Tree}
use Rattle.flight_value.specs.declared.made.Tree.TheVariants as tree
use Rattle.flight_syntax.specs.declared.expr.Op.TheVariants as op
use Rattle.flight_syntax.specs.declared.expr.Tag.{Tag}
use Rattle.flight_syntax.specs.declared.expr.Tag.TheVariants as tag
use Rattle.flight_syntax.specs.Term as term
use Rattle.flight_syntax.specs.Term.{Term, Terms, Props, Pairs}
use Rattle.flight_render.specs.Run.{Machine, Step, gave, threw, waits, Run, pay, on_step, and_then, ends, give, fail}
use Rattle.flight_render.specs.Values.{source_named, stream_named, source_end, items_in, property_in}
use Rattle.flight_render.specs.Operators.{type_digest, missing_digest, operated, key_of, thrown}
use Rattle.flight_render.specs.Eval.{Context, Attributes, known, make_here, give_or_fail, give_atom, item_at, branch, each, make_bound, make_object, with_attribute, with_children, make_tagged, make_element, eval, eval_all, eval_props, eval_pairs, eval_attrs}

-- the cost after a run is no less than so much
pub record Paid {A : Type 0} (cost : ℕ) (r : Run A) : Type 0 where
  pub least : cost ≤ r.after.cost

pub paid-then : {A B : Type 0} (cost : ℕ) (r : Run A) (f : A → Machine → Run B) → Paid cost r → ((a : A) (m : Machine) → Paid m.cost (f a m)) → Paid cost (and_then r f)
paid-then {A} {B} cost r f paid later = go r.step
  where
    go : (s : Step A) → Paid cost (on_step s f r.after)
    go (gave a) = let h = later a r.after in record { least = omega (arith, paid.least, h.least) }
    go (threw d) = record { least = paid.least }
    go (waits s) = record { least = paid.least }

-- after a charge
pub paid-more : {A : Type 0} (m : Machine) (n : ℕ) (r : Run A) → Paid (m.cost + n) r → Paid m.cost r
paid-more m n r h = let l = h.least in record { least = omega (arith, l) }

pub paid_option : {A : Type 0} (d : List ℕ) (o : Option A) (m : Machine) → Paid m.cost (give_or_fail d o m)
paid_option d None m = record { least = omega arith }
paid_option d (Some a) m = record { least = omega arith }

pub paid_atom : (s : Step Atom) (m : Machine) → Paid m.cost (give_atom s m)
paid_atom (gave a) m = record { least = omega arith }
paid_atom (threw d) m = record { least = omega arith }
paid_atom (waits s) m = record { least = omega arith }

pub paid_make : (cx : Context) (k : MadeKind) (slots : List Tree) (m : Machine) → Paid m.cost (make_here cx k slots m)
paid_make cx k slots m = record { least = omega arith }

pub paid_fail : (d : List ℕ) (m : Machine) → Paid {A = Tree} m.cost (fail d m)
paid_fail d m = record { least = omega arith }

pub paid_object : (cx : Context) (ps : List (List ℕ × Tree)) (m : Machine) → Paid m.cost (make_object cx ps m)
paid_object cx ps m = record { least = omega arith }

pub paid_item : (cx : Context) (t i : Tree) (m : Machine) → Paid m.cost (item_at cx t i m)
paid_item cx t (tree.Atom (atom.Whole (pos n))) m = paid-then m.cost (give_or_fail type_digest (items_in cx.over (known cx m) t) m) _ (paid_option _ _ m) (λ items k. paid_option missing_digest (slice_get items n) k)
paid_item cx t (tree.Atom (atom.Whole (negsuc n))) m = paid-then m.cost (give_or_fail type_digest (items_in cx.over (known cx m) t) m) _ (paid_option _ _ m) (λ items k. record { least = omega arith })
paid_item cx t _ m = record { least = omega arith }

pub paid_branch : {A : Type 0} (t : Tree) (y n : Machine → Run A) (m : Machine) → Paid m.cost (y m) → Paid m.cost (n m) → Paid m.cost (branch t y n m)
paid_branch (tree.Atom (atom.Bool true)) y n m hy hn = hy
paid_branch (tree.Atom (atom.Bool false)) y n m hy hn = hn
paid_branch _ y n m hy hn = record { least = omega arith }

pub paid_each : (run : Tree → Machine → Run Tree) → ((t : Tree) (m : Machine) → Paid m.cost (run t m)) → (items so_far : List Tree) (m : Machine) → Paid m.cost (each run items so_far m)
paid_each run one [] so_far m = record { least = omega arith }
paid_each run one (item ∷ items) so_far m = paid-then m.cost (run item m) (λ result n. each run items (so_far ++ result ∷ []) n) (one item m) (λ t n. paid_each run one items (so_far ++ t ∷ []) n)

pub paid_bound : (cx : Context) (action : ℕ) (ts : List Tree) (m : Machine) → Paid m.cost (make_bound cx action ts m)
paid_bound cx action ts m =
    paid-then m.cost (make_here cx kind.Array ts m) (λ array n. and_then (make_here cx kind.Promise (array ∷ []) n) (λ promise k. make_here cx (kind.Bound action) (promise ∷ []) k)) (paid_make cx kind.Array ts m)
    (λ array n. paid-then n.cost (make_here cx kind.Promise (array ∷ []) n) (λ promise k. make_here cx (kind.Bound action) (promise ∷ []) k) (paid_make cx kind.Promise (array ∷ []) n) (λ promise k. paid_make cx (kind.Bound action) (promise ∷ []) k))

pub paid_attribute : (x : Attributes) (name : List ℕ) (t : Tree) (m : Machine) → Paid m.cost (with_attribute x name t m)
paid_attribute x name t m = go (bytes_eq name (codes "key"))
  where
    keyed : (s : Step Atom) → Paid {A = Attributes} m.cost (on_step s (λ key n. give (record { key = tree.Atom key; props = x.props }) n) m)
    keyed (gave k) = record { least = omega arith }
    keyed (threw d) = record { least = omega arith }
    keyed (waits s) = record { least = omega arith }

    go : (b : Bool) → Paid {A = Attributes} m.cost (cond b (on_step (key_of t) (λ key n. give (record { key = tree.Atom key; props = x.props }) n) m) (give (record { key = x.key; props = x.props ++ (name, t) ∷ [] }) m))
    go true = keyed (key_of t)
    go false = record { least = omega arith }

pub paid_children : (cx : Context) (x : Attributes) (ts : List Tree) (m : Machine) → Paid m.cost (with_children cx x ts m)
paid_children cx x [] m = record { least = omega arith }
paid_children cx x (t ∷ []) m = record { least = omega arith }
paid_children cx x (t ∷ u ∷ ts) m =
    paid-then {B = Attributes} m.cost (make_here cx kind.Array (t ∷ u ∷ ts) m) (λ array n. give (record { key = x.key; props = x.props ++ (codes "children", array) ∷ [] }) n) (paid_make cx kind.Array (t ∷ u ∷ ts) m) (λ array n. record { least = omega arith })

pub paid_tagged : (cx : Context) (t : Tag) (key props : Tree) (m : Machine) → Paid m.cost (make_tagged cx t key props m)
paid_tagged cx (tag.Server c) key props m = record { least = omega arith }
paid_tagged cx (tag.Host name) key props m = record { least = omega arith }
paid_tagged cx (tag.Client c) key props m = record { least = omega arith }
paid_tagged cx tag.Suspense key props m = record { least = omega arith }

pub paid_element : (cx : Context) (t : Tag) (x : Attributes) (m : Machine) → Paid m.cost (make_element cx t x m)
paid_element cx t x m = paid-then m.cost (make_object cx x.props m) (λ props n. make_tagged cx t x.key props n) (record { least = omega arith }) (λ props n. paid_tagged cx t x.key props n)

module _ (cx : Context) where
  mutual
    pub eval-paid : (t : Term) (env : List Tree) (m : Machine) → Paid m.cost (eval cx t env m)
    eval-paid (term.let_in name value rest) env m = paid-more m 1 _ (paid-then _ _ _ (eval-paid value env (pay 1 m)) (λ t n. eval-paid rest (env ++ t ∷ []) n))
    eval-paid (term.if_else test yes_one other) env m =
        paid-more m 1 _ (paid-then _ _ _ (eval-paid test env (pay 1 m)) (λ t n. paid_branch t (eval cx yes_one env) (eval cx other env) n (eval-paid yes_one env n) (eval-paid other env n)))
    eval-paid (term.for_in name over give_one) env m =
        paid-more m 1 _ (paid-then _ _ _ (eval-paid over env (pay 1 m)) (λ t n. paid-then n.cost (give_or_fail type_digest (items_in cx.over (known cx n) t) n) _ (paid_option _ _ n)
        (λ items k. paid-then k.cost (each (λ item l. eval cx give_one (env ++ item ∷ []) l) items [] k) _ (paid_each (λ item l. eval cx give_one (env ++ item ∷ []) l) (λ item l. eval-paid give_one (env ++ item ∷ []) l) items [] k) (λ ts l. paid_make cx kind.Array ts l))))
    eval-paid (term.throw value) env m = paid-more m 1 _ (paid-then _ _ _ (eval-paid value env (pay 1 m)) (λ t n. paid_fail (thrown t) n))
    eval-paid (term.member of name) env m = paid-more m 1 _ (paid-then _ _ _ (eval-paid of env (pay 1 m)) (λ t n. paid_option type_digest (property_in cx.over (known cx n) name t) n))
    eval-paid (term.index of at_one) env m = paid-more m 1 _ (paid-then _ _ _ (eval-paid of env (pay 1 m)) (λ t n. paid-then _ _ _ (eval-paid at_one env n) (λ i k. paid_item cx t i k)))
    eval-paid (term.atom a) env m = record { least = omega arith }
    eval-paid (term.variable number) env m = record { least = omega arith }
    eval-paid (term.client number) env m = record { least = omega arith }
    eval-paid (term.array items) env m = paid-more m 1 _ (paid-then _ _ _ (all-paid items env [] (pay 1 m)) (λ ts n. paid_make cx kind.Array ts n))
    eval-paid (term.object props) env m = paid-more m 1 _ (paid-then _ _ _ (props-paid props env [] (pay 1 m)) (λ ps n. paid_object cx ps n))
    eval-paid (term.map pairs) env m = paid-more m 1 _ (paid-then _ _ _ (pairs-paid pairs env [] (pay 1 m)) (λ ts n. paid_make cx kind.Map ts n))
    eval-paid (term.set items) env m = paid-more m 1 _ (paid-then _ _ _ (all-paid items env [] (pay 1 m)) (λ ts n. paid_make cx kind.Set ts n))
    eval-paid (term.source name) env m = paid-more m 1 _ (paid-then (m.cost + 1) (give_or_fail type_digest (source_named cx.over name) (pay 1 m)) (λ s n. ends (source_end cx.over cx.settled s) n) (paid_option _ _ (pay 1 m)) (λ s n. record { least = omega arith }))
    eval-paid (term.promise name) env m = paid-more m 1 _ (paid-then (m.cost + 1) (give_or_fail type_digest (source_named cx.over name) (pay 1 m)) (λ s n. give (tree.Promise s) n) (paid_option _ _ (pay 1 m)) (λ s n. record { least = omega arith }))
    eval-paid (term.stream name) env m = paid-more m 1 _ (paid-then (m.cost + 1) (give_or_fail type_digest (stream_named cx.over name) (pay 1 m)) (λ s n. give (tree.Stream s) n) (paid_option _ _ (pay 1 m)) (λ s n. record { least = omega arith }))
    eval-paid (term.action number) env m = record { least = omega arith }
    eval-paid (term.action_with number bound) env m = paid-more m 1 _ (paid-then _ _ _ (all-paid bound env [] (pay 1 m)) (λ ts n. paid_bound cx number ts n))
    eval-paid (term.paren inside) env m = eval-paid inside env m
    eval-paid (term.binary op.And left right) env m = paid-more m 1 _ (paid-then _ _ _ (eval-paid left env (pay 1 m)) (λ t n. paid_branch t (eval cx right env) (give t) n (eval-paid right env n) (record { least = omega arith })))
    eval-paid (term.binary op.Or left right) env m = paid-more m 1 _ (paid-then _ _ _ (eval-paid left env (pay 1 m)) (λ t n. paid_branch t (give t) (eval cx right env) n (record { least = omega arith }) (eval-paid right env n)))
    eval-paid (term.binary op.Plus left right) env m = paid-more m 1 _ (paid-then _ _ _ (eval-paid left env (pay 1 m)) (λ x n. paid-then _ _ _ (eval-paid right env n) (λ y k. paid_atom (operated op.Plus x y) k)))
    eval-paid (term.binary op.Minus left right) env m = paid-more m 1 _ (paid-then _ _ _ (eval-paid left env (pay 1 m)) (λ x n. paid-then _ _ _ (eval-paid right env n) (λ y k. paid_atom (operated op.Minus x y) k)))
    eval-paid (term.binary op.Times left right) env m = paid-more m 1 _ (paid-then _ _ _ (eval-paid left env (pay 1 m)) (λ x n. paid-then _ _ _ (eval-paid right env n) (λ y k. paid_atom (operated op.Times x y) k)))
    eval-paid (term.binary op.Equal left right) env m = paid-more m 1 _ (paid-then _ _ _ (eval-paid left env (pay 1 m)) (λ x n. paid-then _ _ _ (eval-paid right env n) (λ y k. paid_atom (operated op.Equal x y) k)))
    eval-paid (term.binary op.Less left right) env m = paid-more m 1 _ (paid-then _ _ _ (eval-paid left env (pay 1 m)) (λ x n. paid-then _ _ _ (eval-paid right env n) (λ y k. paid_atom (operated op.Less x y) k)))
    eval-paid (term.element t attrs children) env m =
        paid-more m 1 _ (paid-then _ _ _ (attrs-paid attrs env (record { key = tree.Atom atom.Null; props = [] }) (pay 1 m))
        (λ more n. paid-then _ _ _ (all-paid children env [] n) (λ inside k. paid-then k.cost (with_children cx more inside k) (make_element cx t) (paid_children cx more inside k) (λ x l. paid_element cx t x l))))

    pub all-paid : (ts : Terms) (env so_far : List Tree) (m : Machine) → Paid m.cost (eval_all cx ts env so_far m)
    all-paid term.no_terms env so_far m = record { least = omega arith }
    all-paid (term.term_and t rest) env so_far m = paid-then _ _ _ (eval-paid t env m) (λ v n. all-paid rest env (so_far ++ v ∷ []) n)

    pub props-paid : (ts : Props) (env : List Tree) (so_far : List (List ℕ × Tree)) (m : Machine) → Paid m.cost (eval_props cx ts env so_far m)
    props-paid term.no_props env so_far m = record { least = omega arith }
    props-paid (term.prop_and name t rest) env so_far m = paid-then _ _ _ (eval-paid t env m) (λ v n. props-paid rest env (so_far ++ (name, v) ∷ []) n)

    pub pairs-paid : (ts : Pairs) (env so_far : List Tree) (m : Machine) → Paid m.cost (eval_pairs cx ts env so_far m)
    pairs-paid term.no_pairs env so_far m = record { least = omega arith }
    pairs-paid (term.pair_and key value rest) env so_far m = paid-then _ _ _ (eval-paid key env m) (λ x n. paid-then _ _ _ (eval-paid value env n) (λ v l. pairs-paid rest env (so_far ++ x ∷ v ∷ []) l))

    pub attrs-paid : (ts : Props) (env : List Tree) (so_far : Attributes) (m : Machine) → Paid m.cost (eval_attrs cx ts env so_far m)
    attrs-paid term.no_props env so_far m = record { least = omega arith }
    attrs-paid (term.prop_and name t rest) env so_far m = paid-then _ _ _ (eval-paid t env m) (λ v n. paid-then n.cost (with_attribute so_far name v n) (λ more l. eval_attrs cx rest env more l) (paid_attribute so_far name v n) (λ more l. attrs-paid rest env more l))
