-- What an expression evaluates to: from left to right, each part charged when it begins.
use Rattle.std.specs.Prelude.{ℕ, pos, negsuc, Bool, true, false, if◌then◌else◌, List, [], ◌∷◌, ◌++◌, map, Option, Some, None, slice_get, unwrap_or, bytes_eq, codes}
use Rattle.std.specs.Ordering.{nat_cmp, is_lt}
use Rattle.std.specs.Cmp.Lexicographic.{slice_cmp}
use Rattle.flight_value.specs.declared.graph.Atom.{Atom}
use Rattle.flight_value.specs.declared.graph.Atom.TheVariants as atom
use Rattle.flight_value.specs.declared.made.MadeKind.{MadeKind}
use Rattle.flight_value.specs.declared.made.MadeKind.TheVariants as kind
use Rattle.flight_value.specs.declared.made.Made.{Made}
use Rattle.flight_value.specs.declared.made.Tree.{Tree}
use Rattle.flight_value.specs.declared.made.Tree.TheVariants as tree
use Rattle.flight_syntax.specs.declared.expr.Op.TheVariants as op
use Rattle.flight_syntax.specs.declared.expr.Tag.{Tag}
use Rattle.flight_syntax.specs.declared.expr.Tag.TheVariants as tag
use Rattle.flight_syntax.specs.Term as term
use Rattle.flight_syntax.specs.Term.{Term, Terms, Props, Pairs}
use Rattle.flight_render.specs.declared.root.Ground.{Ground}
use Rattle.flight_render.specs.Run.{Machine, Step, gave, threw, waits, Run, pay, ends, give, fail, on_step, and_then, make, atom_weight}
use Rattle.flight_render.specs.Values.{source_end, source_named, stream_named, import_at, items_in, property_in, undefined}
use Rattle.flight_render.specs.Operators.{type_digest, missing_digest, operated, key_of, thrown}

-- where an expression is evaluated: over what, with which sources settled, at which address, and with the
-- nodes that the bodies at its proper prefixes made
pub record Context : Type 0 where
  pub over : Ground
  pub settled : List Bool
  pub address : List ℕ
  pub tables : List (List Made)

-- the nodes that may be met: those of the tables, and those that this body made so far
abbrev pub known : Context → Machine → List (List Made)
known cx m = cx.tables ++ m.made ∷ []

abbrev pub make_here : Context → MadeKind → List Tree → Machine → Run Tree
make_here cx kind slots m = make cx.address kind slots m

-- ---- the parts of single productions

abbrev pub give_or_fail : {A : Type 0} → List ℕ → Option A → Machine → Run A
give_or_fail digest None m = fail digest m
give_or_fail digest (Some a) m = give a m

-- an atom that an operator made; a text costs its bytes
abbrev pub give_atom : Step Atom → Machine → Run Tree
give_atom (gave a) m = give (tree.Atom a) (pay (atom_weight a) m)
give_atom (threw digest) m = fail digest m
give_atom (waits source) m = ends (waits source) m

abbrev pub item_at : Context → Tree → Tree → Machine → Run Tree
item_at cx of (tree.Atom (atom.Whole (pos at))) m = and_then (give_or_fail type_digest (items_in cx.over (known cx m) of) m) (λ items n. give_or_fail missing_digest (slice_get items at) n)
item_at cx of (tree.Atom (atom.Whole (negsuc below))) m = and_then (give_or_fail type_digest (items_in cx.over (known cx m) of) m) (λ items n. fail missing_digest n)
item_at cx of _ m = fail type_digest m

-- goes on by a boolean
abbrev pub branch : {A : Type 0} → Tree → (Machine → Run A) → (Machine → Run A) → Machine → Run A
branch (tree.Atom (atom.Bool true)) yes_run no_run m = yes_run m
branch (tree.Atom (atom.Bool false)) yes_run no_run m = no_run m
branch _ yes_run no_run m = fail type_digest m

-- each item in turn, after the results so far
abbrev pub each : (Tree → Machine → Run Tree) → List Tree → List Tree → Machine → Run (List Tree)
each run [] so_far m = give so_far m
each run (item ∷ items) so_far m = and_then (run item m) (λ result n. each run items (so_far ++ result ∷ []) n)

-- an array, the promise of it, and a server reference bound to that promise
abbrev pub make_bound : Context → ℕ → List Tree → Machine → Run Tree
make_bound cx action slots m =
    and_then (make_here cx kind.Array slots m) (λ array n.
    and_then (make_here cx kind.Promise (array ∷ []) n) (λ promise k.
    make_here cx (kind.Bound action) (promise ∷ []) k))

-- ---- objects and elements

-- a property behind those of lesser names
abbrev pub insert_named : List ℕ × Tree → List (List ℕ × Tree) → List (List ℕ × Tree)
insert_named q [] = q ∷ []
insert_named q (p ∷ ps) = if is_lt (slice_cmp nat_cmp p.0 q.0) then p ∷ insert_named q ps else q ∷ p ∷ ps

-- properties by the bytes of their names
abbrev pub by_name : List (List ℕ × Tree) → List (List ℕ × Tree)
by_name [] = []
by_name (p ∷ ps) = insert_named p (by_name ps)

abbrev pub make_sorted : Context → List (List ℕ × Tree) → Machine → Run Tree
make_sorted cx props m = make_here cx (kind.Object (map (λ p. p.0) props)) (map (λ p. p.1) props) m

abbrev pub make_object : Context → List (List ℕ × Tree) → Machine → Run Tree
make_object cx props m = make_sorted cx (by_name props) m

-- an element's key, and its other attributes in order
pub record Attributes : Type 0 where
  pub key : Tree
  pub props : List (List ℕ × Tree)

-- an attribute: `key` wants a text or a whole, and is no property
abbrev pub with_attribute : Attributes → List ℕ → Tree → Machine → Run Attributes
with_attribute attrs name value m =
    if bytes_eq name (codes "key")
    then on_step (key_of value) (λ key n. give (record { key = tree.Atom key; props = attrs.props }) n) m
    else give (record { key = attrs.key; props = attrs.props ++ (name, value) ∷ [] }) m

-- no child is no property, one stands for itself, more are a new array
abbrev pub with_children : Context → Attributes → List Tree → Machine → Run Attributes
with_children cx attrs [] m = give attrs m
with_children cx attrs (child ∷ []) m = give (record { key = attrs.key; props = attrs.props ++ (codes "children", child) ∷ [] }) m
with_children cx attrs (first ∷ second ∷ others) m =
    and_then (make_here cx kind.Array (first ∷ second ∷ others) m) (λ array n.
    give (record { key = attrs.key; props = attrs.props ++ (codes "children", array) ∷ [] }) n)

abbrev pub tag_tree : Context → Tag → Tree
tag_tree cx (tag.Host name) = tree.Atom (atom.Text name)
tag_tree cx (tag.Client client) = tree.Atom (atom.Import (import_at cx.over client))
tag_tree cx _ = tree.Atom (atom.Symbol (codes "react.suspense"))

-- a server element has a component for a tag
abbrev pub make_tagged : Context → Tag → Tree → Tree → Machine → Run Tree
make_tagged cx (tag.Server component) key props m = make_here cx (kind.Server component) (key ∷ props ∷ []) m
make_tagged cx t key props m = make_here cx kind.Element (tag_tree cx t ∷ key ∷ props ∷ []) m

-- the props object, and then the element
abbrev pub make_element : Context → Tag → Attributes → Machine → Run Tree
make_element cx t attrs m = and_then (make_object cx attrs.props m) (λ props n. make_tagged cx t attrs.key props n)

-- ---- expressions

abbrev mutual
  pub eval : Context → Term → List Tree → Machine → Run Tree
  eval cx (term.let_in name value rest) env m = and_then (eval cx value env (pay 1 m)) (λ t n. eval cx rest (env ++ t ∷ []) n)
  eval cx (term.if_else test yes_one other) env m = and_then (eval cx test env (pay 1 m)) (λ t n. branch t (eval cx yes_one env) (eval cx other env) n)
  eval cx (term.for_in name over give_one) env m =
      and_then (eval cx over env (pay 1 m)) (λ t n.
      and_then (give_or_fail type_digest (items_in cx.over (known cx n) t) n) (λ items k.
      and_then (each (λ item l. eval cx give_one (env ++ item ∷ []) l) items [] k) (make_here cx kind.Array)))
  eval cx (term.throw value) env m = and_then (eval cx value env (pay 1 m)) (λ t n. fail (thrown t) n)
  eval cx (term.member of name) env m = and_then (eval cx of env (pay 1 m)) (λ t n. give_or_fail type_digest (property_in cx.over (known cx n) name t) n)
  eval cx (term.index of at_one) env m = and_then (eval cx of env (pay 1 m)) (λ t n. and_then (eval cx at_one env n) (λ i k. item_at cx t i k))
  eval cx (term.atom a) env m = give (tree.Atom a) (pay 1 m)
  eval cx (term.variable number) env m = give (unwrap_or (slice_get env number) undefined) (pay 1 m)
  eval cx (term.client number) env m = give (tree.Atom (atom.Import (import_at cx.over number))) (pay 1 m)
  eval cx (term.array items) env m = and_then (eval_all cx items env [] (pay 1 m)) (make_here cx kind.Array)
  eval cx (term.object props) env m = and_then (eval_props cx props env [] (pay 1 m)) (make_object cx)
  eval cx (term.map pairs) env m = and_then (eval_pairs cx pairs env [] (pay 1 m)) (make_here cx kind.Map)
  eval cx (term.set items) env m = and_then (eval_all cx items env [] (pay 1 m)) (make_here cx kind.Set)
  eval cx (term.source name) env m = and_then (give_or_fail type_digest (source_named cx.over name) (pay 1 m)) (λ s n. ends (source_end cx.over cx.settled s) n)
  eval cx (term.promise name) env m = and_then (give_or_fail type_digest (source_named cx.over name) (pay 1 m)) (λ s n. give (tree.Promise s) n)
  eval cx (term.stream name) env m = and_then (give_or_fail type_digest (stream_named cx.over name) (pay 1 m)) (λ f n. give (tree.Stream f) n)
  eval cx (term.action number) env m = give (tree.Action number) (pay 1 m)
  eval cx (term.action_with number bound) env m = and_then (eval_all cx bound env [] (pay 1 m)) (make_bound cx number)
  eval cx (term.paren inside) env m = eval cx inside env m
  eval cx (term.binary op.And left right) env m = and_then (eval cx left env (pay 1 m)) (λ t n. branch t (eval cx right env) (give t) n)
  eval cx (term.binary op.Or left right) env m = and_then (eval cx left env (pay 1 m)) (λ t n. branch t (give t) (eval cx right env) n)
  eval cx (term.binary o left right) env m = and_then (eval cx left env (pay 1 m)) (λ x n. and_then (eval cx right env n) (λ y k. give_atom (operated o x y) k))
  eval cx (term.element t attrs children) env m =
      and_then (eval_attrs cx attrs env (record { key = tree.Atom atom.Null; props = [] }) (pay 1 m)) (λ with_attrs n.
      and_then (eval_all cx children env [] n) (λ inside k.
      and_then (with_children cx with_attrs inside k) (make_element cx t)))

  -- one after another, after those that are done
  pub eval_all : Context → Terms → List Tree → List Tree → Machine → Run (List Tree)
  eval_all cx term.no_terms env so_far m = give so_far m
  eval_all cx (term.term_and t rest) env so_far m = and_then (eval cx t env m) (λ v n. eval_all cx rest env (so_far ++ v ∷ []) n)

  pub eval_props : Context → Props → List Tree → List (List ℕ × Tree) → Machine → Run (List (List ℕ × Tree))
  eval_props cx term.no_props env so_far m = give so_far m
  eval_props cx (term.prop_and name t rest) env so_far m = and_then (eval cx t env m) (λ v n. eval_props cx rest env (so_far ++ (name, v) ∷ []) n)

  -- key, value, key, value and so on
  pub eval_pairs : Context → Pairs → List Tree → List Tree → Machine → Run (List Tree)
  eval_pairs cx term.no_pairs env so_far m = give so_far m
  eval_pairs cx (term.pair_and key value rest) env so_far m =
      and_then (eval cx key env m) (λ k n. and_then (eval cx value env n) (λ v l. eval_pairs cx rest env (so_far ++ k ∷ v ∷ []) l))

  pub eval_attrs : Context → Props → List Tree → Attributes → Machine → Run Attributes
  eval_attrs cx term.no_props env so_far m = give so_far m
  eval_attrs cx (term.prop_and name t rest) env so_far m =
      and_then (eval cx t env m) (λ v n. and_then (with_attribute so_far name v n) (λ more k. eval_attrs cx rest env more k))
