-- One step of an evaluation, over the lists of the code: what goes on, and what stops.
use Rattle.std.proofs.Common.{ℕ, suc, ◌+◌, ◌<◌, ◌≡◌, ap, sym, subst, refl, ◌∙◌, List, [], ◌∷◌, ◌++◌, map, drop, length, get_or, Option, Result, arith}
use Rattle.std.proofs.lemmas.List.{at_drop_more}
use Rattle.flight_value.specs.declared.made.MadeKind.TheVariants as kind
use Rattle.flight_value.specs.declared.made.Tree.{Tree}
use Rattle.flight_syntax.specs.declared.expr.Op.{Op}
use Rattle.flight_syntax.specs.declared.expr.Op.TheVariants as op
use Rattle.flight_syntax.specs.declared.expr.Expr.{Expr}
use Rattle.flight_syntax.specs.declared.expr.PropExpr.{PropExpr}
use Rattle.flight_syntax.specs.declared.expr.PairExpr.{PairExpr}
use Rattle.flight_syntax.specs.declared.expr.Postfix.{Postfix}
use Rattle.flight_syntax.specs.declared.expr.Tag.{Tag}
use Rattle.flight_syntax.specs.Term.{Term, Terms, term, prop, pair, terms_of, props_of, pairs_of, for_in, binary, term_and, prop_and, pair_and, Post, named, indexed, post, posted, posted_one}
use Rattle.flight_syntax.proofs.Terms.{prop-value, pair-value}
use Rattle.flight_render.specs.Run.{Machine, Step, gave, threw, waits, Run, pay, on_step, and_then, ends, give}
use Rattle.flight_render.specs.Values.{items_in}
use Rattle.flight_render.specs.Operators.{type_digest}
use Rattle.flight_render.specs.Eval.{Context, Attributes, known, make_here, give_or_fail, each, with_attribute, with_children, make_element, eval, eval_all, eval_props, eval_pairs, eval_attrs}
use Rattle.flight_eval.specs.declared.stop.Stop.{Stop}
use Rattle.flight_eval.specs.Gives.{Stopped, Gives}
use Rattle.flight_eval.specs.Productions.{both_run, operator_run, no_attributes, post_run, posts_run}
use Rattle.flight_eval.proofs.Stopped.{stopped_then, post_stopped, all_stopped, props_stopped, key_stopped, value_stopped, attr_stopped, named_stopped, children_stopped, each_stopped, each_then}

-- ---- `for`

abbrev for_run : Context → Term → Term → List Tree → Machine → Run Tree
for_run cx over give_one env m =
    and_then (eval cx over env m) (λ t n.
    and_then (give_or_fail type_digest (items_in cx.over (known cx n) t) n) (λ items k.
    and_then (each (λ item l. eval cx give_one (env ++ item ∷ []) l) items [] k) (make_here cx kind.Array)))

pub for_begun : (fuel : ℕ) (cx : Context) (name : List ℕ) (over give_one : Term) (env : List Tree) (m n : Machine) (r : Result Tree Stop) (after : Machine) → n ≡ pay 1 m → Gives (λ t. t) fuel (for_run cx over give_one env n) r after → Gives (λ t. t) fuel (eval cx (for_in name over give_one) env m) r after
for_begun fuel cx name over give_one env m n r after paid h = subst (λ z. Gives (λ t. t) fuel (for_run cx over give_one env z) r after) paid h

pub for_given : (fuel : ℕ) (cx : Context) (over give_one : Term) (env : List Tree) (m n k : Machine) (array : Tree) (items slots : List Tree) (r : Result Tree Stop) (after : Machine) → eval cx over env m ≡ ends (gave array) n → give_or_fail type_digest (items_in cx.over (known cx n) array) n ≡ ends (gave items) n → each (λ item l. eval cx give_one (env ++ item ∷ []) l) items [] n ≡ ends (gave slots) k → Gives (λ t. t) fuel (make_here cx kind.Array slots k) r after → Gives (λ t. t) fuel (for_run cx over give_one env m) r after
for_given fuel cx over give_one env m n k array items slots r after e1 e2 e3 h =
    subst (λ z. Gives (λ t. t) fuel (and_then z (λ t l. and_then (give_or_fail type_digest (items_in cx.over (known cx l) t) l) (λ xs j. and_then (each (λ item i. eval cx give_one (env ++ item ∷ []) i) xs [] j) (make_here cx kind.Array)))) r after) (sym e1)
    (subst (λ z. Gives (λ t. t) fuel (and_then z (λ xs j. and_then (each (λ item i. eval cx give_one (env ++ item ∷ []) i) xs [] j) (make_here cx kind.Array))) r after) (sym e2)
    (subst (λ z. Gives (λ t. t) fuel (and_then z (make_here cx kind.Array)) r after) (sym e3) h))

pub for_slots : (fuel : ℕ) (cx : Context) (over give_one : Term) (env : List Tree) (m n k : Machine) (array : Tree) (items : List Tree) (s : Stop) → eval cx over env m ≡ ends (gave array) n → give_or_fail type_digest (items_in cx.over (known cx n) array) n ≡ ends (gave items) n → Stopped fuel (each (λ item l. eval cx give_one (env ++ item ∷ []) l) items [] n) s k → Stopped fuel (for_run cx over give_one env m) s k
for_slots fuel cx over give_one env m n k array items s e1 e2 h =
    subst (λ z. Stopped fuel (and_then z (λ t l. and_then (give_or_fail type_digest (items_in cx.over (known cx l) t) l) (λ xs j. and_then (each (λ item i. eval cx give_one (env ++ item ∷ []) i) xs [] j) (make_here cx kind.Array)))) s k) (sym e1)
    (subst (λ z. Stopped fuel (and_then z (λ xs j. and_then (each (λ item i. eval cx give_one (env ++ item ∷ []) i) xs [] j) (make_here cx kind.Array))) s k) (sym e2)
    (each_then fuel cx s k give_one items env n h))

pub each_stop : (fuel : ℕ) (cx : Context) (s : Stop) (n : Machine) (t : Term) (item : Tree) (items rest so_far env pushed : List Tree) (m : Machine) → items ≡ item ∷ rest → pushed ≡ env ++ item ∷ [] → Stopped fuel (eval cx t pushed m) s n → Stopped fuel (each (λ i l. eval cx t (env ++ i ∷ []) l) items so_far m) s n
each_stop fuel cx s n t item items rest so_far env pushed m is is_pushed h =
    subst (λ z. Stopped fuel (each (λ i l. eval cx t (env ++ i ∷ []) l) z so_far m) s n) (sym is)
    (each_stopped fuel cx s n t item rest so_far env m (subst (λ z. Stopped fuel (eval cx t z m) s n) is_pushed h))

-- ---- operators

pub binary_begun : (fuel : ℕ) (cx : Context) (o : Op) (left right : Term) (env : List Tree) (m n : Machine) (r : Result Tree Stop) (after : Machine) → n ≡ pay 1 m → Gives (λ t. t) fuel (operator_run cx o left right env n) r after → Gives (λ t. t) fuel (eval cx (binary o left right) env m) r after
binary_begun fuel cx op.Plus left right env m n r after paid h = subst (λ z. Gives (λ t. t) fuel (operator_run cx op.Plus left right env z) r after) paid h
binary_begun fuel cx op.Minus left right env m n r after paid h = subst (λ z. Gives (λ t. t) fuel (operator_run cx op.Minus left right env z) r after) paid h
binary_begun fuel cx op.Times left right env m n r after paid h = subst (λ z. Gives (λ t. t) fuel (operator_run cx op.Times left right env z) r after) paid h
binary_begun fuel cx op.Equal left right env m n r after paid h = subst (λ z. Gives (λ t. t) fuel (operator_run cx op.Equal left right env z) r after) paid h
binary_begun fuel cx op.Less left right env m n r after paid h = subst (λ z. Gives (λ t. t) fuel (operator_run cx op.Less left right env z) r after) paid h
binary_begun fuel cx op.And left right env m n r after paid h = subst (λ z. Gives (λ t. t) fuel (operator_run cx op.And left right env z) r after) paid h
binary_begun fuel cx op.Or left right env m n r after paid h = subst (λ z. Gives (λ t. t) fuel (operator_run cx op.Or left right env z) r after) paid h

pub both_operator : (cx : Context) (o : Op) (left right : Term) (env : List Tree) (m : Machine) → (o ≡ op.And → ⊥) → (o ≡ op.Or → ⊥) → both_run cx o left right env m ≡ operator_run cx o left right env m
both_operator cx op.Plus left right env m no_and no_or = refl
both_operator cx op.Minus left right env m no_and no_or = refl
both_operator cx op.Times left right env m no_and no_or = refl
both_operator cx op.Equal left right env m no_and no_or = refl
both_operator cx op.Less left right env m no_and no_or = refl
both_operator cx op.And left right env m no_and no_or = absurd (no_and refl)
both_operator cx op.Or left right env m no_and no_or = absurd (no_or refl)

-- ---- lists of expressions

all_at : (cx : Context) (items : List Expr) (i : ℕ) (x : Expr) (env so_far : List Tree) (m : Machine) → i < length items → x ≡ get_or items i x → eval_all cx (terms_of (map term (drop i items))) env so_far m ≡ eval_all cx (term_and (term x) (terms_of (map term (drop (i + 1) items)))) env so_far m
all_at cx items i x env so_far m lt is =
    let run : List Expr → Run (List Tree) = λ xs. eval_all cx (terms_of (map term xs)) env so_far m in
    at_drop_more run items i x lt ∙ ap (λ z. run (z ∷ drop (i + 1) items)) (sym is)

pub all_stop : (fuel : ℕ) (cx : Context) (s : Stop) (n : Machine) (items : List Expr) (i : ℕ) (x : Expr) (env so_far : List Tree) (m : Machine) → i < length items → x ≡ get_or items i x → Stopped fuel (eval cx (term x) env m) s n → Stopped fuel (eval_all cx (terms_of (map term (drop i items))) env so_far m) s n
all_stop fuel cx s n items i x env so_far m lt is h =
    subst (λ z. Stopped fuel z s n) (sym (all_at cx items i x env so_far m lt is)) (all_stopped fuel cx s n (term x) (terms_of (map term (drop (i + 1) items))) env so_far m h)

-- ---- postfixes

give-then : (r : Run Tree) → and_then r (λ t n. give t n) ≡ r
give-then r = of r.step
  where
    of : (s : Step Tree) → on_step s (λ t n. give t n) r.after ≡ ends s r.after
    of (gave t) = refl
    of (threw d) = refl
    of (waits n) = refl

then-then : (r : Run Tree) (f g : Tree → Machine → Run Tree) → and_then (and_then r f) g ≡ and_then r (λ t n. and_then (f t n) g)
then-then r f g = of r.step
  where
    of : (s : Step Tree) → and_then (on_step s f r.after) g ≡ on_step s (λ t n. and_then (f t n) g) r.after
    of (gave t) = refl
    of (threw d) = refl
    of (waits n) = refl

one_posted : (cx : Context) (t : Term) (p : Post) (env : List Tree) (m : Machine) → eval cx (posted_one t p) env m ≡ and_then (eval cx t env (pay 1 m)) (λ u n. post_run cx p env u n)
one_posted cx t (named name) env m = refl
one_posted cx t (indexed at) env m = refl

abbrev at_cost : Machine → ℕ → Machine
at_cost m k = record { made = m.made; cost = k }

paid_more : (n : ℕ) (m : Machine) → pay 1 (pay n m) ≡ pay (suc n) m
paid_more n m = let e : m.cost + n + 1 ≡ m.cost + suc n = omega arith in ap (at_cost m) e

-- postfixes are charged all at once, before what they stand on
posted_run : (cx : Context) (t : Term) (ps : List Post) (env : List Tree) (m : Machine) → eval cx (posted t ps) env m ≡ and_then (eval cx t env (pay (length ps) m)) (posts_run cx ps env)
posted_run cx t [] env m =
    let e : m.cost ≡ m.cost + 0 = omega arith in
    ap (λ k. eval cx t env (at_cost m k)) e ∙ sym (give-then (eval cx t env (pay 0 m)))
posted_run cx t (p ∷ ps) env m =
    posted_run cx (posted_one t p) ps env m
    ∙ (ap (λ r. and_then r (posts_run cx ps env)) (one_posted cx t p env (pay (length ps) m) ∙ ap (λ k. and_then (eval cx t env k) (λ u n. post_run cx p env u n)) (paid_more (length ps) m))
    ∙ then-then (eval cx t env (pay (suc (length ps)) m)) (λ u n. post_run cx p env u n) (posts_run cx ps env))

pub posted_begun : (fuel : ℕ) (cx : Context) (t : Term) (ps : List Post) (env : List Tree) (m n : Machine) (r : Result Tree Stop) (after : Machine) → n ≡ pay (length ps) m → Gives (λ u. u) fuel (and_then (eval cx t env n) (posts_run cx ps env)) r after → Gives (λ u. u) fuel (eval cx (posted t ps) env m) r after
posted_begun fuel cx t ps env m n r after paid h =
    subst (λ z. Gives (λ u. u) fuel z r after) (sym (posted_run cx t ps env m))
    (subst (λ z. Gives (λ u. u) fuel (and_then (eval cx t env z) (posts_run cx ps env)) r after) paid h)

posts_at : (cx : Context) (posts : List Postfix) (i : ℕ) (x : Postfix) (env : List Tree) (v : Tree) (m : Machine) → i < length posts → x ≡ get_or posts i x → posts_run cx (map post (drop i posts)) env v m ≡ posts_run cx (post x ∷ map post (drop (i + 1) posts)) env v m
posts_at cx posts i x env v m lt is =
    let run : List Postfix → Run Tree = λ xs. posts_run cx (map post xs) env v m in
    at_drop_more run posts i x lt ∙ ap (λ z. run (z ∷ drop (i + 1) posts)) (sym is)

pub posts_stop : (fuel : ℕ) (cx : Context) (s : Stop) (n : Machine) (posts : List Postfix) (i : ℕ) (x : Postfix) (env : List Tree) (v : Tree) (m : Machine) → i < length posts → x ≡ get_or posts i x → Stopped fuel (post_run cx (post x) env v m) s n → Stopped fuel (posts_run cx (map post (drop i posts)) env v m) s n
posts_stop fuel cx s n posts i x env v m lt is h =
    subst (λ z. Stopped fuel z s n) (sym (posts_at cx posts i x env v m lt is)) (post_stopped fuel cx s n (post x) (map post (drop (i + 1) posts)) env v m h)

pub posts_step : (cx : Context) (posts : List Postfix) (i : ℕ) (x : Postfix) (v u : Tree) (env : List Tree) (m n : Machine) → i < length posts → x ≡ get_or posts i x → post_run cx (post x) env v m ≡ ends (gave u) n → posts_run cx (map post (drop (i + 1) posts)) env u n ≡ posts_run cx (map post (drop i posts)) env v m
posts_step cx posts i x v u env m n lt is e =
    sym (posts_at cx posts i x env v m lt is ∙ ap (λ r. and_then r (λ w k. posts_run cx (map post (drop (i + 1) posts)) env w k)) e)

-- ---- properties

props_at : (cx : Context) (props : List PropExpr) (i : ℕ) (x : PropExpr) (env : List Tree) (so_far : List (List ℕ × Tree)) (m : Machine) → i < length props → x ≡ get_or props i x → eval_props cx (props_of (map prop (drop i props))) env so_far m ≡ eval_props cx (prop_and x.name (term x.value) (props_of (map prop (drop (i + 1) props)))) env so_far m
props_at cx props i x env so_far m lt is =
    let run : List PropExpr → Run (List (List ℕ × Tree)) = λ xs. eval_props cx (props_of (map prop xs)) env so_far m in
    at_drop_more run props i x lt ∙ ap (λ z. run (z ∷ drop (i + 1) props)) (sym is)
    ∙ ap (λ q. eval_props cx (prop_and q.0 q.1 (props_of (map prop (drop (i + 1) props)))) env so_far m) (prop-value x)

pub props_stop : (fuel : ℕ) (cx : Context) (s : Stop) (n : Machine) (props : List PropExpr) (i : ℕ) (x : PropExpr) (env : List Tree) (so_far : List (List ℕ × Tree)) (m : Machine) → i < length props → x ≡ get_or props i x → Stopped fuel (eval cx (term x.value) env m) s n → Stopped fuel (eval_props cx (props_of (map prop (drop i props))) env so_far m) s n
props_stop fuel cx s n props i x env so_far m lt is h =
    subst (λ z. Stopped fuel z s n) (sym (props_at cx props i x env so_far m lt is)) (props_stopped fuel cx s n x.name (term x.value) (props_of (map prop (drop (i + 1) props))) env so_far m h)

pub props_step : (cx : Context) (props : List PropExpr) (i : ℕ) (x : PropExpr) (v : Tree) (env : List Tree) (so_far more : List (List ℕ × Tree)) (m n : Machine) → i < length props → x ≡ get_or props i x → eval cx (term x.value) env m ≡ ends (gave v) n → more ≡ so_far ++ (x.name, v) ∷ [] → eval_props cx (props_of (map prop (drop (i + 1) props))) env more n ≡ eval_props cx (props_of (map prop (drop i props))) env so_far m
props_step cx props i x v env so_far more m n lt is e is_more =
    let rest = props_of (map prop (drop (i + 1) props)) in
    ap (λ z. eval_props cx rest env z n) is_more
    ∙ sym (props_at cx props i x env so_far m lt is ∙ ap (λ r. and_then r (λ w k. eval_props cx rest env (so_far ++ (x.name, w) ∷ []) k)) e)

-- ---- entries of a map

pairs_at : (cx : Context) (pairs : List PairExpr) (i : ℕ) (x : PairExpr) (env so_far : List Tree) (m : Machine) → i < length pairs → x ≡ get_or pairs i x → eval_pairs cx (pairs_of (map pair (drop i pairs))) env so_far m ≡ eval_pairs cx (pair_and (term x.key) (term x.value) (pairs_of (map pair (drop (i + 1) pairs)))) env so_far m
pairs_at cx pairs i x env so_far m lt is =
    let run : List PairExpr → Run (List Tree) = λ xs. eval_pairs cx (pairs_of (map pair xs)) env so_far m in
    at_drop_more run pairs i x lt ∙ ap (λ z. run (z ∷ drop (i + 1) pairs)) (sym is)
    ∙ ap (λ q. eval_pairs cx (pair_and q.0 q.1 (pairs_of (map pair (drop (i + 1) pairs)))) env so_far m) (pair-value x)

pub key_stop : (fuel : ℕ) (cx : Context) (s : Stop) (n : Machine) (pairs : List PairExpr) (i : ℕ) (x : PairExpr) (env so_far : List Tree) (m : Machine) → i < length pairs → x ≡ get_or pairs i x → Stopped fuel (eval cx (term x.key) env m) s n → Stopped fuel (eval_pairs cx (pairs_of (map pair (drop i pairs))) env so_far m) s n
key_stop fuel cx s n pairs i x env so_far m lt is h =
    subst (λ z. Stopped fuel z s n) (sym (pairs_at cx pairs i x env so_far m lt is)) (key_stopped fuel cx s n (term x.key) (term x.value) (pairs_of (map pair (drop (i + 1) pairs))) env so_far m h)

pair_keyed : (cx : Context) (pairs : List PairExpr) (i : ℕ) (x : PairExpr) (key : Tree) (env so_far : List Tree) (m n : Machine) → i < length pairs → x ≡ get_or pairs i x → eval cx (term x.key) env m ≡ ends (gave key) n → eval_pairs cx (pairs_of (map pair (drop i pairs))) env so_far m ≡ and_then (eval cx (term x.value) env n) (λ v l. eval_pairs cx (pairs_of (map pair (drop (i + 1) pairs))) env (so_far ++ key ∷ v ∷ []) l)
pair_keyed cx pairs i x key env so_far m n lt is e =
    pairs_at cx pairs i x env so_far m lt is
    ∙ ap (λ r. and_then r (λ y k. and_then (eval cx (term x.value) env k) (λ v l. eval_pairs cx (pairs_of (map pair (drop (i + 1) pairs))) env (so_far ++ y ∷ v ∷ []) l))) e

pub value_stop : (fuel : ℕ) (cx : Context) (s : Stop) (k : Machine) (pairs : List PairExpr) (i : ℕ) (x : PairExpr) (key : Tree) (env so_far : List Tree) (m n : Machine) → i < length pairs → x ≡ get_or pairs i x → eval cx (term x.key) env m ≡ ends (gave key) n → Stopped fuel (eval cx (term x.value) env n) s k → Stopped fuel (eval_pairs cx (pairs_of (map pair (drop i pairs))) env so_far m) s k
value_stop fuel cx s k pairs i x key env so_far m n lt is e h =
    subst (λ z. Stopped fuel z s k) (sym (pair_keyed cx pairs i x key env so_far m n lt is e)) (value_stopped fuel cx s k key (term x.value) (pairs_of (map pair (drop (i + 1) pairs))) env so_far n h)

pub pairs_step : (cx : Context) (pairs : List PairExpr) (i : ℕ) (x : PairExpr) (key v : Tree) (env so_far more : List Tree) (m n k : Machine) → i < length pairs → x ≡ get_or pairs i x → eval cx (term x.key) env m ≡ ends (gave key) n → eval cx (term x.value) env n ≡ ends (gave v) k → more ≡ so_far ++ key ∷ v ∷ [] → eval_pairs cx (pairs_of (map pair (drop (i + 1) pairs))) env more k ≡ eval_pairs cx (pairs_of (map pair (drop i pairs))) env so_far m
pairs_step cx pairs i x key v env so_far more m n k lt is e1 e2 is_more =
    let rest = pairs_of (map pair (drop (i + 1) pairs)) in
    ap (λ z. eval_pairs cx rest env z k) is_more
    ∙ sym (pair_keyed cx pairs i x key env so_far m n lt is e1 ∙ ap (λ r. and_then r (λ w l. eval_pairs cx rest env (so_far ++ key ∷ w ∷ []) l)) e2)

-- ---- attributes

attrs_at : (cx : Context) (attrs : List PropExpr) (i : ℕ) (x : PropExpr) (env : List Tree) (so_far : Attributes) (m : Machine) → i < length attrs → x ≡ get_or attrs i x → eval_attrs cx (props_of (map prop (drop i attrs))) env so_far m ≡ eval_attrs cx (prop_and x.name (term x.value) (props_of (map prop (drop (i + 1) attrs)))) env so_far m
attrs_at cx attrs i x env so_far m lt is =
    let run : List PropExpr → Run Attributes = λ xs. eval_attrs cx (props_of (map prop xs)) env so_far m in
    at_drop_more run attrs i x lt ∙ ap (λ z. run (z ∷ drop (i + 1) attrs)) (sym is)
    ∙ ap (λ q. eval_attrs cx (prop_and q.0 q.1 (props_of (map prop (drop (i + 1) attrs)))) env so_far m) (prop-value x)

pub attr_stop : (fuel : ℕ) (cx : Context) (s : Stop) (n : Machine) (attrs : List PropExpr) (i : ℕ) (x : PropExpr) (env : List Tree) (so_far : Attributes) (m : Machine) → i < length attrs → x ≡ get_or attrs i x → Stopped fuel (eval cx (term x.value) env m) s n → Stopped fuel (eval_attrs cx (props_of (map prop (drop i attrs))) env so_far m) s n
attr_stop fuel cx s n attrs i x env so_far m lt is h =
    subst (λ z. Stopped fuel z s n) (sym (attrs_at cx attrs i x env so_far m lt is)) (attr_stopped fuel cx s n x.name (term x.value) (props_of (map prop (drop (i + 1) attrs))) env so_far m h)

attr_valued : (cx : Context) (attrs : List PropExpr) (i : ℕ) (x : PropExpr) (v : Tree) (env : List Tree) (so_far : Attributes) (m n : Machine) → i < length attrs → x ≡ get_or attrs i x → eval cx (term x.value) env m ≡ ends (gave v) n → eval_attrs cx (props_of (map prop (drop i attrs))) env so_far m ≡ and_then (with_attribute so_far x.name v n) (λ more k. eval_attrs cx (props_of (map prop (drop (i + 1) attrs))) env more k)
attr_valued cx attrs i x v env so_far m n lt is e =
    attrs_at cx attrs i x env so_far m lt is
    ∙ ap (λ r. and_then r (λ w l. and_then (with_attribute so_far x.name w l) (λ more k. eval_attrs cx (props_of (map prop (drop (i + 1) attrs))) env more k))) e

pub named_stop : (fuel : ℕ) (cx : Context) (s : Stop) (attrs : List PropExpr) (i : ℕ) (x : PropExpr) (v : Tree) (env : List Tree) (so_far : Attributes) (m n : Machine) → i < length attrs → x ≡ get_or attrs i x → eval cx (term x.value) env m ≡ ends (gave v) n → Stopped fuel (with_attribute so_far x.name v n) s n → Stopped fuel (eval_attrs cx (props_of (map prop (drop i attrs))) env so_far m) s n
named_stop fuel cx s attrs i x v env so_far m n lt is e h =
    subst (λ z. Stopped fuel z s n) (sym (attr_valued cx attrs i x v env so_far m n lt is e)) (named_stopped fuel cx s n x.name v (props_of (map prop (drop (i + 1) attrs))) env so_far n h)

pub attrs_step : (cx : Context) (attrs : List PropExpr) (i : ℕ) (x : PropExpr) (v : Tree) (env : List Tree) (so_far more : Attributes) (m n : Machine) → i < length attrs → x ≡ get_or attrs i x → eval cx (term x.value) env m ≡ ends (gave v) n → with_attribute so_far x.name v n ≡ ends (gave more) n → eval_attrs cx (props_of (map prop (drop (i + 1) attrs))) env more n ≡ eval_attrs cx (props_of (map prop (drop i attrs))) env so_far m
attrs_step cx attrs i x v env so_far more m n lt is e1 e2 =
    let rest = props_of (map prop (drop (i + 1) attrs)) in
    sym (attr_valued cx attrs i x v env so_far m n lt is e1 ∙ ap (λ r. and_then r (λ w k. eval_attrs cx rest env w k)) e2)

-- ---- elements

pub inside_stop : (fuel : ℕ) (cx : Context) (s : Stop) (k : Machine) (t : Tag) (attrs : List PropExpr) (children : Terms) (x : Attributes) (env : List Tree) (m n : Machine) → eval_attrs cx (props_of (map prop attrs)) env no_attributes m ≡ ends (gave x) n → Stopped fuel (eval_all cx children env [] n) s k → Stopped fuel (and_then (eval_attrs cx (props_of (map prop attrs)) env no_attributes m) (λ y l. and_then (eval_all cx children env [] l) (λ inside j. and_then (with_children cx y inside j) (make_element cx t)))) s k
inside_stop fuel cx s k t attrs children x env m n e h =
    subst (λ z. Stopped fuel (and_then z (λ y l. and_then (eval_all cx children env [] l) (λ inside j. and_then (with_children cx y inside j) (make_element cx t)))) s k) (sym e) (children_stopped fuel cx s k t x children env n h)
