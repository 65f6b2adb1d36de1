-- What stopped a part stops the whole, and an expression is charged when it begins.
use Rattle.std.proofs.Common.{ℕ, ◌+◌, ◌≤◌, ◌<◌, ◌≡◌, suc, ap, sym, Bool, true, false, cond, pos, negsuc, List, [], ◌∷◌, ◌++◌, Option, Some, None, slice_get, length, arith}
use Rattle.std.specs.Prelude.{bytes_eq, codes}
use Rattle.flight_value.specs.declared.graph.Atom.{Atom}
use Rattle.flight_value.specs.declared.graph.Atom.TheVariants as atom
use Rattle.flight_value.specs.declared.made.MadeKind.{MadeKind}
use Rattle.flight_value.specs.declared.made.MadeKind.TheVariants as kind
use Rattle.flight_value.specs.declared.made.Tree.{Tree}
use Rattle.flight_value.specs.declared.made.Tree.TheVariants as tree
use Rattle.flight_syntax.specs.declared.expr.Op.{Op}
use Rattle.flight_syntax.specs.declared.expr.Op.TheVariants as op
use Rattle.flight_syntax.specs.declared.expr.Tag.{Tag}
use Rattle.flight_syntax.specs.declared.expr.Tag.TheVariants as tag
use Rattle.flight_syntax.specs.Term as term
use Rattle.flight_syntax.specs.Term.{Term, Terms, Props, Pairs, Post}
use Rattle.flight_render.specs.Run.{Machine, Step, gave, threw, waits, Run, pay, on_step, and_then, ends, give, fail}
use Rattle.flight_render.specs.Values.{source_named, stream_named, source_end, items_in, property_in}
use Rattle.flight_render.specs.Operators.{type_digest, missing_digest, operated, key_of, thrown}
use Rattle.flight_render.specs.Eval.{Context, Attributes, known, make_here, give_or_fail, give_atom, item_at, branch, each, make_bound, make_object, with_attribute, with_children, make_tagged, make_element, eval, eval_all, eval_props, eval_pairs, eval_attrs}
use Rattle.flight_render.proofs.Paid.{Paid, paid-then, paid_option, paid_make, paid_fail, paid_object, paid_item, paid_branch, paid_each, paid_bound, paid_atom, paid_attribute, paid_children, paid_element, eval-paid, all-paid, props-paid, pairs-paid, attrs-paid}
use Rattle.flight_eval.specs.Productions.{least_charge, post_run, posts_run}
use Rattle.flight_eval.specs.declared.stop.Stop.{Stop}
use Rattle.flight_eval.specs.declared.stop.Stop.TheVariants as stop
use Rattle.flight_eval.specs.Gives.{Stopped}

pub stopped_then : {A B : Type 0} (fuel : ℕ) (r : Run A) (f : A → Machine → Run B) (s : Stop) (m : Machine) → ((a : A) (n : Machine) → Paid n.cost (f a n)) → Stopped fuel r s m → Stopped fuel (and_then r f) s m
stopped_then fuel r f (stop.Threw d) m later h = (ap (λ z. and_then z f) h.0, h.1)
stopped_then fuel r f (stop.Waits s) m later h = (ap (λ z. and_then z f) h.0, h.1)
stopped_then fuel r f stop.OverFuel m later h = let p = paid-then (suc fuel) r f (record { least = omega (arith, h) }) later in let l = p.least in omega (arith, l)
stopped_then fuel r f stop.Memory m later h = tt

one_more : (cx : Context) (t : Term) (env : List Tree) (m : Machine) → Paid (m.cost + 1 + least_charge t) (eval cx t env (pay 1 m)) → Paid (m.cost + suc (least_charge t)) (eval cx t env (pay 1 m))
one_more cx t env m h = let l = h.least in record { least = omega (arith, l) }

pub charged : (cx : Context) (t : Term) (env : List Tree) (m : Machine) → Paid (m.cost + least_charge t) (eval cx t env m)
charged cx (term.let_in name value rest) env m = (paid-then _ _ _ (eval-paid cx value env (pay 1 m)) (λ t n. eval-paid cx rest (env ++ t ∷ []) n))
charged cx (term.if_else test yes_one other) env m =
    (paid-then _ _ _ (eval-paid cx test env (pay 1 m)) (λ t n. paid_branch t (eval cx yes_one env) (eval cx other env) n (eval-paid cx yes_one env n) (eval-paid cx other env n)))
charged cx (term.for_in name over give_one) env m =
    (paid-then _ _ _ (eval-paid cx over env (pay 1 m)) (λ t n. paid-then n.cost (give_or_fail type_digest (items_in cx.over (known cx n) t) n) _ (paid_option _ _ n)
    (λ items k. paid-then k.cost (each (λ item l. eval cx give_one (env ++ item ∷ []) l) items [] k) _ (paid_each (λ item l. eval cx give_one (env ++ item ∷ []) l) (λ item l. eval-paid cx give_one (env ++ item ∷ []) l) items [] k) (λ ts l. paid_make cx kind.Array ts l))))
charged cx (term.throw value) env m = (paid-then _ _ _ (eval-paid cx value env (pay 1 m)) (λ t n. paid_fail (thrown t) n))
charged cx (term.member of name) env m = (paid-then _ _ _ (one_more cx of env m (charged cx of env (pay 1 m))) (λ t n. paid_option type_digest (property_in cx.over (known cx n) name t) n))
charged cx (term.index of at_one) env m = (paid-then _ _ _ (one_more cx of env m (charged cx of env (pay 1 m))) (λ t n. paid-then _ _ _ (eval-paid cx at_one env n) (λ i k. paid_item cx t i k)))
charged cx (term.atom a) env m = record { least = omega arith }
charged cx (term.variable number) env m = record { least = omega arith }
charged cx (term.client number) env m = record { least = omega arith }
charged cx (term.array items) env m = (paid-then _ _ _ (all-paid cx items env [] (pay 1 m)) (λ ts n. paid_make cx kind.Array ts n))
charged cx (term.object props) env m = (paid-then _ _ _ (props-paid cx props env [] (pay 1 m)) (λ ps n. paid_object cx ps n))
charged cx (term.map pairs) env m = (paid-then _ _ _ (pairs-paid cx pairs env [] (pay 1 m)) (λ ts n. paid_make cx kind.Map ts n))
charged cx (term.set items) env m = (paid-then _ _ _ (all-paid cx items env [] (pay 1 m)) (λ ts n. paid_make cx kind.Set ts n))
charged cx (term.source name) env m = (paid-then (m.cost + 1) (give_or_fail type_digest (source_named cx.over name) (pay 1 m)) (λ s n. ends (source_end cx.over cx.settled s) n) (paid_option _ _ (pay 1 m)) (λ s n. record { least = omega arith }))
charged cx (term.promise name) env m = (paid-then (m.cost + 1) (give_or_fail type_digest (source_named cx.over name) (pay 1 m)) (λ s n. give (tree.Promise s) n) (paid_option _ _ (pay 1 m)) (λ s n. record { least = omega arith }))
charged cx (term.stream name) env m = (paid-then (m.cost + 1) (give_or_fail type_digest (stream_named cx.over name) (pay 1 m)) (λ s n. give (tree.Stream s) n) (paid_option _ _ (pay 1 m)) (λ s n. record { least = omega arith }))
charged cx (term.action number) env m = record { least = omega arith }
charged cx (term.action_with number bound) env m = (paid-then _ _ _ (all-paid cx bound env [] (pay 1 m)) (λ ts n. paid_bound cx number ts n))
charged cx (term.paren inside) env m = let h = eval-paid cx inside env m in let l = h.least in record { least = omega (arith, l) }
charged cx (term.binary op.And left right) env m = (paid-then _ _ _ (eval-paid cx left env (pay 1 m)) (λ t n. paid_branch t (eval cx right env) (give t) n (eval-paid cx right env n) (record { least = omega arith })))
charged cx (term.binary op.Or left right) env m = (paid-then _ _ _ (eval-paid cx left env (pay 1 m)) (λ t n. paid_branch t (give t) (eval cx right env) n (record { least = omega arith }) (eval-paid cx right env n)))
charged cx (term.binary op.Plus left right) env m = (paid-then _ _ _ (eval-paid cx left env (pay 1 m)) (λ x n. paid-then _ _ _ (eval-paid cx right env n) (λ y k. paid_atom (operated op.Plus x y) k)))
charged cx (term.binary op.Minus left right) env m = (paid-then _ _ _ (eval-paid cx left env (pay 1 m)) (λ x n. paid-then _ _ _ (eval-paid cx right env n) (λ y k. paid_atom (operated op.Minus x y) k)))
charged cx (term.binary op.Times left right) env m = (paid-then _ _ _ (eval-paid cx left env (pay 1 m)) (λ x n. paid-then _ _ _ (eval-paid cx right env n) (λ y k. paid_atom (operated op.Times x y) k)))
charged cx (term.binary op.Equal left right) env m = (paid-then _ _ _ (eval-paid cx left env (pay 1 m)) (λ x n. paid-then _ _ _ (eval-paid cx right env n) (λ y k. paid_atom (operated op.Equal x y) k)))
charged cx (term.binary op.Less left right) env m = (paid-then _ _ _ (eval-paid cx left env (pay 1 m)) (λ x n. paid-then _ _ _ (eval-paid cx right env n) (λ y k. paid_atom (operated op.Less x y) k)))
charged cx (term.element t attrs children) env m =
    (paid-then _ _ _ (attrs-paid cx attrs env (record { key = tree.Atom atom.Null; props = [] }) (pay 1 m))
    (λ more n. paid-then _ _ _ (all-paid cx children env [] n) (λ inside k. paid-then k.cost (with_children cx more inside k) (make_element cx t) (paid_children cx more inside k) (λ x l. paid_element cx t x l))))

give-paid : {A : Type 0} (a : A) (m : Machine) → Paid m.cost (give a m)
give-paid a m = record { least = omega arith }

post-paid : (cx : Context) (p : Post) (env : List Tree) (v : Tree) (m : Machine) → Paid m.cost (post_run cx p env v m)
post-paid cx (term.named name) env v m = paid_option type_digest (property_in cx.over (known cx m) name v) m
post-paid cx (term.indexed at) env v m = paid-then m.cost (eval cx at env m) (λ i k. item_at cx v i k) (eval-paid cx at env m) (λ i k. paid_item cx v i k)

posts-paid : (cx : Context) (ps : List Post) (env : List Tree) (v : Tree) (m : Machine) → Paid m.cost (posts_run cx ps env v m)
posts-paid cx [] env v m = give-paid v m
posts-paid cx (p ∷ ps) env v m = paid-then m.cost (post_run cx p env v m) (λ u k. posts_run cx ps env u k) (post-paid cx p env v m) (λ u k. posts-paid cx ps env u k)

-- ---- each production, stopped in its first part

module _ (fuel : ℕ) (cx : Context) (s : Stop) (n : Machine) where
  pub let_stopped : (v t : Term) (env : List Tree) (m : Machine) → Stopped fuel (eval cx v env m) s n → Stopped fuel (and_then (eval cx v env m) (λ x k. eval cx t (env ++ x ∷ []) k)) s n
  let_stopped v t env m = stopped_then fuel (eval cx v env m) (λ x k. eval cx t (env ++ x ∷ []) k) s n (λ x k. eval-paid cx t (env ++ x ∷ []) k)

  pub if_stopped : (v y o : Term) (env : List Tree) (m : Machine) → Stopped fuel (eval cx v env m) s n → Stopped fuel (and_then (eval cx v env m) (λ x k. branch x (eval cx y env) (eval cx o env) k)) s n
  if_stopped v y o env m = stopped_then fuel (eval cx v env m) (λ x k. branch x (eval cx y env) (eval cx o env) k) s n (λ x k. paid_branch x (eval cx y env) (eval cx o env) k (eval-paid cx y env k) (eval-paid cx o env k))

  pub and_stopped : (v t : Term) (env : List Tree) (m : Machine) → Stopped fuel (eval cx v env m) s n → Stopped fuel (and_then (eval cx v env m) (λ x k. branch x (eval cx t env) (give x) k)) s n
  and_stopped v t env m = stopped_then fuel (eval cx v env m) (λ x k. branch x (eval cx t env) (give x) k) s n (λ x k. paid_branch x (eval cx t env) (give x) k (eval-paid cx t env k) (give-paid x k))

  pub or_stopped : (v t : Term) (env : List Tree) (m : Machine) → Stopped fuel (eval cx v env m) s n → Stopped fuel (and_then (eval cx v env m) (λ x k. branch x (give x) (eval cx t env) k)) s n
  or_stopped v t env m = stopped_then fuel (eval cx v env m) (λ x k. branch x (give x) (eval cx t env) k) s n (λ x k. paid_branch x (give x) (eval cx t env) k (give-paid x k) (eval-paid cx t env k))

  pub for_stopped : (v t : Term) (env : List Tree) (m : Machine) → Stopped fuel (eval cx v env m) s n → Stopped fuel (and_then (eval cx v env m) (λ x l. and_then (give_or_fail type_digest (items_in cx.over (known cx l) x) l) (λ items k. and_then (each (λ item j. eval cx t (env ++ item ∷ []) j) items [] k) (make_here cx kind.Array)))) s n
  for_stopped v t env m = stopped_then fuel (eval cx v env m) (λ x l. and_then (give_or_fail type_digest (items_in cx.over (known cx l) x) l) (λ items k. and_then (each (λ item j. eval cx t (env ++ item ∷ []) j) items [] k) (make_here cx kind.Array))) s n
      (λ x l. paid-then l.cost (give_or_fail type_digest (items_in cx.over (known cx l) x) l) _ (paid_option _ _ l)
      (λ items k. paid-then k.cost (each (λ item j. eval cx t (env ++ item ∷ []) j) items [] k) _ (paid_each (λ item j. eval cx t (env ++ item ∷ []) j) (λ item j. eval-paid cx t (env ++ item ∷ []) j) items [] k) (λ ts j. paid_make cx kind.Array ts j)))

  pub number_stopped : (v : Tree) (t : Term) (env : List Tree) (m : Machine) → Stopped fuel (eval cx t env m) s n → Stopped fuel (and_then (eval cx t env m) (λ i k. item_at cx v i k)) s n
  number_stopped v t env m = stopped_then fuel (eval cx t env m) (λ i k. item_at cx v i k) s n (λ i k. paid_item cx v i k)

  pub post_stopped : (p : Post) (ps : List Post) (env : List Tree) (v : Tree) (m : Machine) → Stopped fuel (post_run cx p env v m) s n → Stopped fuel (posts_run cx (p ∷ ps) env v m) s n
  post_stopped p ps env v m = stopped_then fuel (post_run cx p env v m) (λ u k. posts_run cx ps env u k) s n (λ u k. posts-paid cx ps env u k)

  pub posted_stopped : (t : Term) (ps : List Post) (env : List Tree) (m : Machine) → Stopped fuel (eval cx t env m) s n → Stopped fuel (and_then (eval cx t env m) (posts_run cx ps env)) s n
  posted_stopped t ps env m = stopped_then fuel (eval cx t env m) (posts_run cx ps env) s n (λ u k. posts-paid cx ps env u k)

  pub both_stopped : (o : Op) (v t : Term) (env : List Tree) (m : Machine) → Stopped fuel (eval cx v env m) s n → Stopped fuel (and_then (eval cx v env m) (λ x l. and_then (eval cx t env l) (λ y k. give_atom (operated o x y) k))) s n
  both_stopped o v t env m = stopped_then fuel (eval cx v env m) (λ x l. and_then (eval cx t env l) (λ y k. give_atom (operated o x y) k)) s n (λ x l. paid-then l.cost (eval cx t env l) (λ y k. give_atom (operated o x y) k) (eval-paid cx t env l) (λ y k. paid_atom (operated o x y) k))

  pub each_stopped : (t : Term) (item : Tree) (items so_far env : List Tree) (m : Machine) → Stopped fuel (eval cx t (env ++ item ∷ []) m) s n → Stopped fuel (each (λ i l. eval cx t (env ++ i ∷ []) l) (item ∷ items) so_far m) s n
  each_stopped t item items so_far env m = stopped_then fuel (eval cx t (env ++ item ∷ []) m) (λ x l. each (λ i j. eval cx t (env ++ i ∷ []) j) items (so_far ++ x ∷ []) l) s n (λ x l. paid_each (λ i j. eval cx t (env ++ i ∷ []) j) (λ i j. eval-paid cx t (env ++ i ∷ []) j) items (so_far ++ x ∷ []) l)

  pub each_then : (t : Term) (items env : List Tree) (m : Machine) → Stopped fuel (each (λ i l. eval cx t (env ++ i ∷ []) l) items [] m) s n → Stopped fuel (and_then (each (λ i l. eval cx t (env ++ i ∷ []) l) items [] m) (make_here cx kind.Array)) s n
  each_then t items env m = stopped_then fuel (each (λ i l. eval cx t (env ++ i ∷ []) l) items [] m) (make_here cx kind.Array) s n (λ ts l. paid_make cx kind.Array ts l)

  pub all_stopped : (t : Term) (rest : Terms) (env so_far : List Tree) (m : Machine) → Stopped fuel (eval cx t env m) s n → Stopped fuel (eval_all cx (term.term_and t rest) env so_far m) s n
  all_stopped t rest env so_far m = stopped_then fuel (eval cx t env m) (λ v l. eval_all cx rest env (so_far ++ v ∷ []) l) s n (λ v l. all-paid cx rest env (so_far ++ v ∷ []) l)

  pub props_stopped : (name : List ℕ) (t : Term) (rest : Props) (env : List Tree) (so_far : List (List ℕ × Tree)) (m : Machine) → Stopped fuel (eval cx t env m) s n → Stopped fuel (eval_props cx (term.prop_and name t rest) env so_far m) s n
  props_stopped name t rest env so_far m = stopped_then fuel (eval cx t env m) (λ v l. eval_props cx rest env (so_far ++ (name, v) ∷ []) l) s n (λ v l. props-paid cx rest env (so_far ++ (name, v) ∷ []) l)

  pub value_stopped : (x : Tree) (t : Term) (rest : Pairs) (env so_far : List Tree) (m : Machine) → Stopped fuel (eval cx t env m) s n → Stopped fuel (and_then (eval cx t env m) (λ v l. eval_pairs cx rest env (so_far ++ x ∷ v ∷ []) l)) s n
  value_stopped x t rest env so_far m = stopped_then fuel (eval cx t env m) (λ v l. eval_pairs cx rest env (so_far ++ x ∷ v ∷ []) l) s n (λ v l. pairs-paid cx rest env (so_far ++ x ∷ v ∷ []) l)

  pub key_stopped : (t u : Term) (rest : Pairs) (env so_far : List Tree) (m : Machine) → Stopped fuel (eval cx t env m) s n → Stopped fuel (eval_pairs cx (term.pair_and t u rest) env so_far m) s n
  key_stopped t u rest env so_far m = stopped_then fuel (eval cx t env m) (λ x k. and_then (eval cx u env k) (λ v l. eval_pairs cx rest env (so_far ++ x ∷ v ∷ []) l)) s n
      (λ x k. paid-then k.cost (eval cx u env k) (λ v l. eval_pairs cx rest env (so_far ++ x ∷ v ∷ []) l) (eval-paid cx u env k) (λ v l. pairs-paid cx rest env (so_far ++ x ∷ v ∷ []) l))

  pub attr_stopped : (name : List ℕ) (t : Term) (rest : Props) (env : List Tree) (so_far : Attributes) (m : Machine) → Stopped fuel (eval cx t env m) s n → Stopped fuel (eval_attrs cx (term.prop_and name t rest) env so_far m) s n
  attr_stopped name t rest env so_far m = stopped_then fuel (eval cx t env m) (λ v l. and_then (with_attribute so_far name v l) (λ more k. eval_attrs cx rest env more k)) s n
      (λ v l. paid-then l.cost (with_attribute so_far name v l) (λ more k. eval_attrs cx rest env more k) (paid_attribute so_far name v l) (λ more k. attrs-paid cx rest env more k))

  pub named_stopped : (name : List ℕ) (v : Tree) (rest : Props) (env : List Tree) (so_far : Attributes) (m : Machine) → Stopped fuel (with_attribute so_far name v m) s n → Stopped fuel (and_then (with_attribute so_far name v m) (λ more k. eval_attrs cx rest env more k)) s n
  named_stopped name v rest env so_far m = stopped_then fuel (with_attribute so_far name v m) (λ more k. eval_attrs cx rest env more k) s n (λ more k. attrs-paid cx rest env more k)

  pub children_stopped : (t : Tag) (x : Attributes) (ts : Terms) (env : List Tree) (m : Machine) → Stopped fuel (eval_all cx ts env [] m) s n → Stopped fuel (and_then (eval_all cx ts env [] m) (λ inside k. and_then (with_children cx x inside k) (make_element cx t))) s n
  children_stopped t x ts env m = stopped_then fuel (eval_all cx ts env [] m) (λ inside k. and_then (with_children cx x inside k) (make_element cx t)) s n (λ inside k. paid-then k.cost (with_children cx x inside k) (make_element cx t) (paid_children cx x inside k) (λ more l. paid_element cx t more l))

  pub inside_stopped : (t : Tag) (x : Attributes) (inside : List Tree) (m : Machine) → Stopped fuel (with_children cx x inside m) s n → Stopped fuel (and_then (with_children cx x inside m) (make_element cx t)) s n
  inside_stopped t x inside m = stopped_then fuel (with_children cx x inside m) (make_element cx t) s n (λ more l. paid_element cx t more l)

  pub element_stopped : (t : Tag) (ps : Props) (ts : Terms) (env : List Tree) (x : Attributes) (m : Machine) → Stopped fuel (eval_attrs cx ps env x m) s n → Stopped fuel (and_then (eval_attrs cx ps env x m) (λ more l. and_then (eval_all cx ts env [] l) (λ inside k. and_then (with_children cx more inside k) (make_element cx t)))) s n
  element_stopped t ps ts env x m = stopped_then fuel (eval_attrs cx ps env x m) (λ more l. and_then (eval_all cx ts env [] l) (λ inside k. and_then (with_children cx more inside k) (make_element cx t))) s n
      (λ more l. paid-then l.cost (eval_all cx ts env [] l) (λ inside k. and_then (with_children cx more inside k) (make_element cx t)) (all-paid cx ts env [] l) (λ inside k. paid-then k.cost (with_children cx more inside k) (make_element cx t) (paid_children cx more inside k) (λ y j. paid_element cx t y j)))

pub over_charged : (fuel : ℕ) (cx : Context) (t : Term) (env : List Tree) (m n : Machine) (amount : ℕ) → amount ≤ least_charge t → fuel < m.cost + amount → Stopped fuel (eval cx t env m) stop.OverFuel n
over_charged fuel cx t env m n amount least h = let p = charged cx t env m in let l = p.least in omega (arith, h, l, least)

-- postfixes on an expression are charged each
pub posts_charge : (t : Term) (ps : List Post) → length ps ≤ least_charge (term.posted t ps)
posts_charge t ps = let l = charges t ps in omega (arith, l)
  where
    charges : (u : Term) (qs : List Post) → length qs + least_charge u ≤ least_charge (term.posted u qs)
    charges u [] = omega arith
    charges u (term.named name ∷ qs) = let l = charges (term.member u name) qs in omega (arith, l)
    charges u (term.indexed at ∷ qs) = let l = charges (term.index u at) qs in omega (arith, l)

-- the items of `for`
pub items_stopped : (fuel : ℕ) (cx : Context) (s : Stop) (n : Machine) (o : Option (List Tree)) (t : Term) (env : List Tree) (m : Machine) → Stopped fuel (give_or_fail type_digest o m) s n → Stopped fuel (and_then (give_or_fail type_digest o m) (λ items k. and_then (each (λ item j. eval cx t (env ++ item ∷ []) j) items [] k) (make_here cx kind.Array))) s n
items_stopped fuel cx s n o t env m = stopped_then fuel (give_or_fail type_digest o m) (λ items k. and_then (each (λ item j. eval cx t (env ++ item ∷ []) j) items [] k) (make_here cx kind.Array)) s n
    (λ items k. paid-then k.cost (each (λ item j. eval cx t (env ++ item ∷ []) j) items [] k) _ (paid_each (λ item j. eval cx t (env ++ item ∷ []) j) (λ item j. eval-paid cx t (env ++ item ∷ []) j) items [] k) (λ ts j. paid_make cx kind.Array ts j))
