-- A run waits only for a source of the script that is not settled.
use Rattle.std.specs.Prelude.{◌+ℤ◌, ◌-ℤ◌, ◌*ℤ◌}
use Rattle.std.proofs.lemmas.Option.{none-some}
use Rattle.std.proofs.Common.{nat_lt, ◌≡◌, map, Option, Some, None, slice_get, ℤ, zero, suc, length, refl, sym, subst, ◌<◌, ◌&&◌, ℕ, Bool, true, false, cond, pos, negsuc, List, [], ◌∷◌, ◌++◌, arith}
use Rattle.std.specs.Prelude.{bytes_eq, codes}
use Rattle.flight_value.specs.declared.graph.Atom.{Atom}
use Rattle.flight_value.specs.declared.graph.Atom.TheVariants as atom
use Rattle.flight_value.specs.declared.made.MadeKind.{MadeKind}
use Rattle.flight_value.specs.declared.made.MadeKind.TheVariants as kind
use Rattle.flight_value.specs.declared.made.Tree.{Tree}
use Rattle.flight_value.specs.declared.made.Tree.TheVariants as tree
use Rattle.flight_syntax.specs.declared.expr.Op.TheVariants as op
use Rattle.flight_syntax.specs.declared.expr.Tag.{Tag}
use Rattle.flight_syntax.specs.declared.expr.Tag.TheVariants as tag
use Rattle.flight_syntax.specs.Term as term
use Rattle.flight_syntax.specs.Term.{Term, Terms, Props, Pairs}
use Rattle.flight_syntax.specs.declared.expr.Op.{Op}
use Rattle.flight_syntax.specs.declared.script.Outcome.{Outcome}
use Rattle.flight_syntax.specs.declared.script.Outcome.TheVariants as outcome
use Rattle.flight_syntax.specs.declared.script.Data.{Data}
use Rattle.flight_render.specs.declared.root.Ground.{Ground}
use Rattle.flight_value.specs.declared.made.Made.{Made}
use Rattle.flight_render.specs.Body.{Start, started, run_start, component_start, root_start, body, root_body, fresh, give_last}
use Rattle.flight_render.specs.Bodies.{element_of, finished, made_by, tables_with, next_body, body_below, body_at}
use Rattle.flight_render.proofs.Names.{some-injective}
use Rattle.flight_render.proofs.Sourced.{position_within}
use Rattle.flight_render.specs.Run.{Machine, Step, gave, threw, waits, Run, pay, on_step, and_then, ends, give, fail}
use Rattle.flight_render.specs.Values.{is_settled, end_if, outcome_end, arguments, source_named, stream_named, source_end, items_in, property_in}
use Rattle.flight_render.specs.Operators.{depth_digest, range_digest, is_safe, is_big, is_plain, same_plain, counted, added, less, operate, type_digest, missing_digest, operated, key_of, thrown}
use Rattle.flight_render.specs.Eval.{Context, Attributes, known, make_here, give_or_fail, give_atom, item_at, branch, each, make_bound, make_object, with_attribute, with_children, make_tagged, make_element, eval, eval_all, eval_props, eval_pairs, eval_attrs}

-- a step that waits for no source but one of the script that is not settled
abbrev pub WaitsRight : {A : Type 0} → Ground → List Bool → Step A → Type 0
WaitsRight g settled (gave a) = Unit {0}
WaitsRight g settled (threw d) = Unit {0}
WaitsRight g settled (waits source) = (is_settled settled source ≡ false) × (source < length g.script.sources)

-- an operator does not wait
abbrev NoWait : {A : Type 0} → Step A → Type 0
NoWait (gave a) = Unit {0}
NoWait (threw d) = Unit {0}
NoWait (waits source) = ⊥

no_wait-if : {A : Type 0} (b : Bool) (x y : Step A) → NoWait x → NoWait y → NoWait (cond b x y)
no_wait-if true x y h k = h
no_wait-if false x y h k = k

counted-no_wait : (by : ℤ → ℤ → ℤ) (x y : Atom) → NoWait (counted by x y)
counted-no_wait by (atom.Whole x) (atom.Whole y) = no_wait-if (is_safe (by x y)) (gave (atom.Whole (by x y))) (threw range_digest) tt tt
counted-no_wait by (atom.Big x) (atom.Big y) = no_wait-if (is_big (by x y)) (gave (atom.Big (by x y))) (threw range_digest) tt tt
counted-no_wait by _ _ = tt

added-no_wait : (x y : Atom) → NoWait (added x y)
added-no_wait (atom.Text x) (atom.Text y) = tt
added-no_wait (atom.Text x) (atom.Whole y) = tt
added-no_wait x y = counted-no_wait ◌+ℤ◌ x y

less-no_wait : (x y : Atom) → NoWait (less x y)
less-no_wait (atom.Whole x) (atom.Whole y) = tt
less-no_wait (atom.Big x) (atom.Big y) = tt
less-no_wait (atom.Text x) (atom.Text y) = tt
less-no_wait _ _ = tt

operate-no_wait : (o : Op) (x y : Atom) → NoWait (operate o x y)
operate-no_wait op.Plus x y = added-no_wait x y
operate-no_wait op.Minus x y = counted-no_wait ◌-ℤ◌ x y
operate-no_wait op.Times x y = counted-no_wait ◌*ℤ◌ x y
operate-no_wait op.Equal x y = no_wait-if (is_plain x && is_plain y) (gave (atom.Bool (same_plain x y))) (threw type_digest) tt tt
operate-no_wait op.Less x y = less-no_wait x y
operate-no_wait op.And x y = tt
operate-no_wait op.Or x y = tt

operated-no_wait : (o : Op) (x y : Tree) → NoWait (operated o x y)
operated-no_wait o (tree.Atom x) (tree.Atom y) = operate-no_wait o x y
operated-no_wait o _ _ = tt

key-no_wait : (t : Tree) → NoWait (key_of t)
key-no_wait (tree.Atom (atom.Text text)) = tt
key-no_wait (tree.Atom (atom.Whole z)) = tt
key-no_wait _ = tt

-- a source that is named is one of the script
named_within : (g : Ground) (name : List ℕ) (s : ℕ) → source_named g name ≡ Some s → s < length g.script.sources
named_within g name s e = position_within (λ d. bytes_eq name d.name) g.script.sources s e

outcome_there : (ds : List Data) (os : List Outcome) (i : ℕ) → i < length ds → (o : Outcome) × (slice_get (map (λ d. d.outcome) ds ++ os) i ≡ Some o)
outcome_there [] os i l = absurd (omega (arith, l))
outcome_there (d ∷ ds) os zero l = (d.outcome, refl)
outcome_there (d ∷ ds) os (suc i) l = outcome_there ds os i (omega (arith, l))

source_waits : (g : Ground) (settled : List Bool) (s : ℕ) → s < length g.script.sources → WaitsRight g settled (source_end g settled s)
source_waits g settled s l = let o = outcome_there g.script.sources (arguments g.root) s l in subst (λ z. WaitsRight g settled (end_if (is_settled settled s) s z)) (sym o.1) (go (is_settled settled s) refl o.0)
  where
    ended : (o : Outcome) → WaitsRight g settled (outcome_end s o)
    ended (outcome.Value gr) = tt
    ended (outcome.Reject d) = tt

    go : (b : Bool) → is_settled settled s ≡ b → (o : Outcome) → WaitsRight g settled (end_if b s (Some o))
    go true e o = ended o
    go false e o = (e, l)

module _ (cx : Context) where
  -- a run that waits for no source but one of the script that is not settled
  pub record Idle {A : Type 0} (r : Run A) : Type 0 where
    pub right : WaitsRight cx.over cx.settled r.step

  idle-then : {A B : Type 0} (r : Run A) (f : A → Machine → Run B) → Idle r → ((a : A) (m : Machine) → Idle (f a m)) → Idle (and_then r f)
  idle-then {A} {B} r f idle later = go r.step idle.right
    where
      go : (s : Step A) → WaitsRight cx.over cx.settled s → Idle (on_step s f r.after)
      go (gave a) h = record { right = (later a r.after).right }
      go (threw d) h = record { right = tt }
      go (waits s) h = record { right = h }

  -- behind an option, with what it is
  idle-option_then : (o : Option ℕ) (m : Machine) (f : ℕ → Machine → Run Tree) → ((s : ℕ) (n : Machine) → o ≡ Some s → Idle (f s n)) → Idle (and_then (give_or_fail type_digest o m) f)
  idle-option_then None m f h = record { right = tt }
  idle-option_then (Some s) m f h = record { right = (h s m refl).right }

  idle_option : {A : Type 0} (d : List ℕ) (o : Option A) (m : Machine) → Idle (give_or_fail d o m)
  idle_option d None m = record { right = tt }
  idle_option d (Some a) m = record { right = tt }

  idle_atom : (s : Step Atom) (m : Machine) → NoWait s → Idle (give_atom s m)
  idle_atom (gave a) m h = record { right = tt }
  idle_atom (threw d) m h = record { right = tt }
  idle_atom (waits s) m h = elim h [ ]

  idle_make : (k : MadeKind) (slots : List Tree) (m : Machine) → Idle (make_here cx k slots m)
  idle_make k slots m = record { right = tt }

  idle_fail : (d : List ℕ) (m : Machine) → Idle {A = Tree} (fail d m)
  idle_fail d m = record { right = tt }

  idle_object : (ps : List (List ℕ × Tree)) (m : Machine) → Idle (make_object cx ps m)
  idle_object ps m = record { right = tt }

  idle_item : (t i : Tree) (m : Machine) → Idle (item_at cx t i m)
  idle_item t (tree.Atom (atom.Whole (pos n))) m = idle-then (give_or_fail type_digest (items_in cx.over (known cx m) t) m) _ (idle_option _ _ m) (λ items k. idle_option missing_digest (slice_get items n) k)
  idle_item t (tree.Atom (atom.Whole (negsuc n))) m = idle-then (give_or_fail type_digest (items_in cx.over (known cx m) t) m) _ (idle_option _ _ m) (λ items k. record { right = tt })
  idle_item t _ m = record { right = tt }

  idle_branch : {A : Type 0} (t : Tree) (y n : Machine → Run A) (m : Machine) → Idle (y m) → Idle (n m) → Idle (branch t y n m)
  idle_branch (tree.Atom (atom.Bool true)) y n m hy hn = hy
  idle_branch (tree.Atom (atom.Bool false)) y n m hy hn = hn
  idle_branch _ y n m hy hn = record { right = tt }

  idle_each : (run : Tree → Machine → Run Tree) → ((t : Tree) (m : Machine) → Idle (run t m)) → (items so_far : List Tree) (m : Machine) → Idle (each run items so_far m)
  idle_each run one [] so_far m = record { right = tt }
  idle_each run one (item ∷ items) so_far m = idle-then (run item m) (λ result n. each run items (so_far ++ result ∷ []) n) (one item m) (λ t n. idle_each run one items (so_far ++ t ∷ []) n)

  idle_bound : (action : ℕ) (ts : List Tree) (m : Machine) → Idle (make_bound cx action ts m)
  idle_bound action ts m =
      idle-then (make_here cx kind.Array ts m) (λ array n. and_then (make_here cx kind.Promise (array ∷ []) n) (λ promise k. make_here cx (kind.Bound action) (promise ∷ []) k)) (idle_make kind.Array ts m)
      (λ array n. idle-then (make_here cx kind.Promise (array ∷ []) n) (λ promise k. make_here cx (kind.Bound action) (promise ∷ []) k) (idle_make kind.Promise (array ∷ []) n) (λ promise k. idle_make (kind.Bound action) (promise ∷ []) k))

  idle_attribute : (x : Attributes) (name : List ℕ) (t : Tree) (m : Machine) → Idle (with_attribute x name t m)
  idle_attribute x name t m = go (bytes_eq name (codes "key"))
    where
      keyed : (s : Step Atom) → NoWait s → Idle {A = Attributes} (on_step s (λ key n. give (record { key = tree.Atom key; props = x.props }) n) m)
      keyed (gave k) h = record { right = tt }
      keyed (threw d) h = record { right = tt }
      keyed (waits s) h = elim h [ ]

      go : (b : Bool) → Idle {A = Attributes} (cond b (on_step (key_of t) (λ key n. give (record { key = tree.Atom key; props = x.props }) n) m) (give (record { key = x.key; props = x.props ++ (name, t) ∷ [] }) m))
      go true = keyed (key_of t) (key-no_wait t)
      go false = record { right = tt }

  idle_children : (x : Attributes) (ts : List Tree) (m : Machine) → Idle (with_children cx x ts m)
  idle_children x [] m = record { right = tt }
  idle_children x (t ∷ []) m = record { right = tt }
  idle_children x (t ∷ u ∷ ts) m =
      idle-then {B = Attributes} (make_here cx kind.Array (t ∷ u ∷ ts) m) (λ array n. give (record { key = x.key; props = x.props ++ (codes "children", array) ∷ [] }) n) (idle_make kind.Array (t ∷ u ∷ ts) m) (λ array n. record { right = tt })

  idle_tagged : (t : Tag) (key props : Tree) (m : Machine) → Idle (make_tagged cx t key props m)
  idle_tagged (tag.Server c) key props m = record { right = tt }
  idle_tagged (tag.Host name) key props m = record { right = tt }
  idle_tagged (tag.Client c) key props m = record { right = tt }
  idle_tagged tag.Suspense key props m = record { right = tt }

  idle_element : (t : Tag) (x : Attributes) (m : Machine) → Idle (make_element cx t x m)
  idle_element t x m = idle-then (make_object cx x.props m) (λ props n. make_tagged cx t x.key props n) (record { right = tt }) (λ props n. idle_tagged t x.key props n)

  mutual
    pub eval-idle : (t : Term) (env : List Tree) (m : Machine) → Idle (eval cx t env m)
    eval-idle (term.let_in name value rest) env m = (idle-then _ _ (eval-idle value env (pay 1 m)) (λ t n. eval-idle rest (env ++ t ∷ []) n))
    eval-idle (term.if_else test yes_one other) env m =
        (idle-then _ _ (eval-idle test env (pay 1 m)) (λ t n. idle_branch t (eval cx yes_one env) (eval cx other env) n (eval-idle yes_one env n) (eval-idle other env n)))
    eval-idle (term.for_in name over give_one) env m =
        (idle-then _ _ (eval-idle over env (pay 1 m)) (λ t n. idle-then (give_or_fail type_digest (items_in cx.over (known cx n) t) n) _ (idle_option _ _ n)
        (λ items k. idle-then (each (λ item l. eval cx give_one (env ++ item ∷ []) l) items [] k) _ (idle_each (λ item l. eval cx give_one (env ++ item ∷ []) l) (λ item l. eval-idle give_one (env ++ item ∷ []) l) items [] k) (λ ts l. idle_make kind.Array ts l))))
    eval-idle (term.throw value) env m = (idle-then _ _ (eval-idle value env (pay 1 m)) (λ t n. idle_fail (thrown t) n))
    eval-idle (term.member of name) env m = (idle-then _ _ (eval-idle of env (pay 1 m)) (λ t n. idle_option type_digest (property_in cx.over (known cx n) name t) n))
    eval-idle (term.index of at_one) env m = (idle-then _ _ (eval-idle of env (pay 1 m)) (λ t n. idle-then _ _ (eval-idle at_one env n) (λ i k. idle_item t i k)))
    eval-idle (term.atom a) env m = record { right = tt }
    eval-idle (term.variable number) env m = record { right = tt }
    eval-idle (term.client number) env m = record { right = tt }
    eval-idle (term.array items) env m = (idle-then _ _ (all-idle items env [] (pay 1 m)) (λ ts n. idle_make kind.Array ts n))
    eval-idle (term.object props) env m = (idle-then _ _ (props-idle props env [] (pay 1 m)) (λ ps n. idle_object ps n))
    eval-idle (term.map pairs) env m = (idle-then _ _ (pairs-idle pairs env [] (pay 1 m)) (λ ts n. idle_make kind.Map ts n))
    eval-idle (term.set items) env m = (idle-then _ _ (all-idle items env [] (pay 1 m)) (λ ts n. idle_make kind.Set ts n))
    eval-idle (term.source name) env m =
        idle-option_then (source_named cx.over name) (pay 1 m) (λ s n. ends (source_end cx.over cx.settled s) n) (λ s n is. record { right = source_waits cx.over cx.settled s (named_within cx.over name s is) })
    eval-idle (term.promise name) env m = (idle-then (give_or_fail type_digest (source_named cx.over name) (pay 1 m)) (λ s n. give (tree.Promise s) n) (idle_option _ _ (pay 1 m)) (λ s n. record { right = tt }))
    eval-idle (term.stream name) env m = (idle-then (give_or_fail type_digest (stream_named cx.over name) (pay 1 m)) (λ s n. give (tree.Stream s) n) (idle_option _ _ (pay 1 m)) (λ s n. record { right = tt }))
    eval-idle (term.action number) env m = record { right = tt }
    eval-idle (term.action_with number bound) env m = (idle-then _ _ (all-idle bound env [] (pay 1 m)) (λ ts n. idle_bound number ts n))
    eval-idle (term.paren inside) env m = eval-idle inside env m
    eval-idle (term.binary op.And left right) env m = (idle-then _ _ (eval-idle left env (pay 1 m)) (λ t n. idle_branch t (eval cx right env) (give t) n (eval-idle right env n) (record { right = tt })))
    eval-idle (term.binary op.Or left right) env m = (idle-then _ _ (eval-idle left env (pay 1 m)) (λ t n. idle_branch t (give t) (eval cx right env) n (record { right = tt }) (eval-idle right env n)))
    eval-idle (term.binary op.Plus left right) env m = (idle-then _ _ (eval-idle left env (pay 1 m)) (λ x n. idle-then _ _ (eval-idle right env n) (λ y k. idle_atom (operated op.Plus x y) k (operated-no_wait op.Plus x y))))
    eval-idle (term.binary op.Minus left right) env m = (idle-then _ _ (eval-idle left env (pay 1 m)) (λ x n. idle-then _ _ (eval-idle right env n) (λ y k. idle_atom (operated op.Minus x y) k (operated-no_wait op.Minus x y))))
    eval-idle (term.binary op.Times left right) env m = (idle-then _ _ (eval-idle left env (pay 1 m)) (λ x n. idle-then _ _ (eval-idle right env n) (λ y k. idle_atom (operated op.Times x y) k (operated-no_wait op.Times x y))))
    eval-idle (term.binary op.Equal left right) env m = (idle-then _ _ (eval-idle left env (pay 1 m)) (λ x n. idle-then _ _ (eval-idle right env n) (λ y k. idle_atom (operated op.Equal x y) k (operated-no_wait op.Equal x y))))
    eval-idle (term.binary op.Less left right) env m = (idle-then _ _ (eval-idle left env (pay 1 m)) (λ x n. idle-then _ _ (eval-idle right env n) (λ y k. idle_atom (operated op.Less x y) k (operated-no_wait op.Less x y))))
    eval-idle (term.element t attrs children) env m =
        (idle-then _ _ (attrs-idle attrs env (record { key = tree.Atom atom.Null; props = [] }) (pay 1 m))
        (λ more n. idle-then _ _ (all-idle children env [] n) (λ inside k. idle-then (with_children cx more inside k) (make_element cx t) (idle_children more inside k) (λ x l. idle_element t x l))))

    all-idle : (ts : Terms) (env so_far : List Tree) (m : Machine) → Idle (eval_all cx ts env so_far m)
    all-idle term.no_terms env so_far m = record { right = tt }
    all-idle (term.term_and t rest) env so_far m = idle-then _ _ (eval-idle t env m) (λ v n. all-idle rest env (so_far ++ v ∷ []) n)

    props-idle : (ts : Props) (env : List Tree) (so_far : List (List ℕ × Tree)) (m : Machine) → Idle (eval_props cx ts env so_far m)
    props-idle term.no_props env so_far m = record { right = tt }
    props-idle (term.prop_and name t rest) env so_far m = idle-then _ _ (eval-idle t env m) (λ v n. props-idle rest env (so_far ++ (name, v) ∷ []) n)

    pairs-idle : (ts : Pairs) (env so_far : List Tree) (m : Machine) → Idle (eval_pairs cx ts env so_far m)
    pairs-idle term.no_pairs env so_far m = record { right = tt }
    pairs-idle (term.pair_and key value rest) env so_far m = idle-then _ _ (eval-idle key env m) (λ x n. idle-then _ _ (eval-idle value env n) (λ v l. pairs-idle rest env (so_far ++ x ∷ v ∷ []) l))

    attrs-idle : (ts : Props) (env : List Tree) (so_far : Attributes) (m : Machine) → Idle (eval_attrs cx ts env so_far m)
    attrs-idle term.no_props env so_far m = record { right = tt }
    attrs-idle (term.prop_and name t rest) env so_far m = idle-then _ _ (eval-idle t env m) (λ v n. idle-then (with_attribute so_far name v n) (λ more l. eval_attrs cx rest env more l) (idle_attribute so_far name v n) (λ more l. attrs-idle rest env more l))

-- ---- bodies

start_idle : (cx : Context) (o : Option Start) → WaitsRight cx.over cx.settled (run_start cx o).step
start_idle cx None = tt
start_idle cx (Some x) = go (nat_lt (length cx.address) 200)
  where
    last : (t : Tree) (m : Machine) → Idle cx (give_last t m)
    last t m = record { right = tt }

    go : (b : Bool) → WaitsRight cx.over cx.settled (cond b (started cx x) (fail depth_digest fresh)).step
    go true = (idle-then cx (eval cx x.expression x.env fresh) give_last (eval-idle cx x.expression x.env fresh) last).right
    go false = tt

pub body_idle : (g : Ground) (settled : List Bool) (tables : List (List Made)) (number : ℕ) (props : Tree) (address : List ℕ) → WaitsRight g settled (body g settled tables number props address).step
unfolding body
body_idle g settled tables number props address =
    start_idle (record { over = g; settled = settled; address = address; tables = tables }) (component_start g tables (slice_get g.program.declared number) props)

root_idle : (g : Ground) (settled : List Bool) → WaitsRight g settled (root_body g settled).step
unfolding root_body
root_idle g settled = start_idle (record { over = g; settled = settled; address = []; tables = [] }) (root_start g g.root)

abbrev IdleHere : Ground → List Bool → Option (Run Tree) → Type 0
IdleHere g settled o = (b : Run Tree) → o ≡ Some b → WaitsRight g settled b.step

next_idle : (g : Ground) (settled : List Bool) (tables : List (List Made)) (address : List ℕ) (o : Option (ℕ × Tree)) → IdleHere g settled (next_body g settled tables address o)
next_idle g settled tables address None b e = absurd (none-some b e)
next_idle g settled tables address (Some x) b e = subst (λ z. WaitsRight g settled z.step) (some-injective _ b e) (body_idle g settled tables x.0 x.1 address)

below_idle : (g : Ground) (settled : List Bool) (rest : List ℕ) (tables : List (List Made)) (address : List ℕ) (here : Option (Run Tree)) → IdleHere g settled here → IdleHere g settled (body_below g settled tables address here rest)
below_idle g settled [] tables address here h = h
below_idle g settled (i ∷ rest) tables address here h =
    below_idle g settled rest (tables_with tables (finished here)) (address ++ i ∷ []) (next_body g settled (tables_with tables (finished here)) (address ++ i ∷ []) (element_of (made_by (finished here) i)))
    (next_idle g settled (tables_with tables (finished here)) (address ++ i ∷ []) (element_of (made_by (finished here) i)))

pub body_at-idle : (g : Ground) (settled : List Bool) (address : List ℕ) (b : Run Tree) → body_at g settled address ≡ Some b → WaitsRight g settled b.step
unfolding body_at
body_at-idle g settled address = below_idle g settled address [] [] (Some (root_body g settled)) (λ c e. subst (λ z. WaitsRight g settled z.step) (some-injective _ c e) (root_idle g settled))

pub body_waits : (g : Ground) (settled : List Bool) (address : List ℕ) (b : Run Tree) (source : ℕ) → body_at g settled address ≡ Some b → b.step ≡ waits source → (is_settled settled source ≡ false) × (source < length g.script.sources)
body_waits g settled address b source is e = subst (WaitsRight g settled) e (body_at-idle g settled address b is)

pub component_waits : (g : Ground) (settled : List Bool) (tables : List (List Made)) (number : ℕ) (props : Tree) (address : List ℕ) (source : ℕ) → (body g settled tables number props address).step ≡ waits source → (is_settled settled source ≡ false) × (source < length g.script.sources)
component_waits g settled tables number props address source e = subst (WaitsRight g settled) e (body_idle g settled tables number props address)
