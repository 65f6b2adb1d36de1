-- More settled sources change no run that does not wait, and none that waits for a source that still is not settled.
use Rattle.std.proofs.Common.{◌≡◌, ℕ, Bool, true, false, List, [], ◌∷◌, ◌++◌, Option, Some, None, slice_get, refl, sym, ap, ◌∙◌, subst}
use Rattle.std.proofs.lemmas.Bool.{false≢true}
use Rattle.flight_value.specs.declared.graph.Atom.TheVariants as atom
use Rattle.flight_value.specs.declared.made.Tree.{Tree}
use Rattle.flight_value.specs.declared.made.Tree.TheVariants as tree
use Rattle.flight_syntax.specs.declared.expr.Op.TheVariants as op
use Rattle.flight_syntax.specs.declared.script.Outcome.{Outcome}
use Rattle.flight_syntax.specs.Term as term
use Rattle.flight_syntax.specs.Term.{Term, Terms, Props, Pairs}
use Rattle.flight_render.specs.Run.{Machine, Step, gave, threw, waits, Run, pay, on_step, and_then, ends}
use Rattle.flight_render.specs.Values.{is_settled, end_if, source_named, source_end, outcomes, items_in}
use Rattle.flight_render.specs.Eval.{Context, Attributes, give_or_fail, known, with_attribute, branch, each, eval, eval_all, eval_props, eval_pairs, eval_attrs}
use Rattle.flight_render.specs.Operators.{type_digest}
use Rattle.flight_render.specs.Laws.{Grows, Stays}

pub keeps : {A B : Type 0} (many : List Bool) (r q : Run A) (f h : A → Machine → Run B) → (Stays many r.step → q ≡ r) → ((a : A) (m : Machine) → Stays many (f a m).step → h a m ≡ f a m)
    → Stays many (and_then r f).step → and_then q h ≡ and_then r f
keeps {A} {B} many r q f h same later stays = go r.step refl stays
  where
    go : (s : Step A) → r.step ≡ s → Stays many (on_step s f r.after).step → and_then q h ≡ on_step s f r.after
    go (gave a) e w =
        let eq : q ≡ r = same (subst (λ z. Stays many z) (sym e) tt) in
        ap (λ z. and_then z h) eq ∙ ap (λ z. on_step z h r.after) e ∙ later a r.after w
    go (threw d) e w = let eq : q ≡ r = same (subst (λ z. Stays many z) (sym e) tt) in ap (λ z. and_then z h) eq ∙ ap (λ z. on_step z h r.after) e
    go (waits s) e w = let eq : q ≡ r = same (subst (λ z. Stays many z) (sym e) w) in ap (λ z. and_then z h) eq ∙ ap (λ z. on_step z h r.after) e

-- a run that does not depend on what is settled, and then one that does
then-keeps : {A B : Type 0} (many : List Bool) (r : Run A) (f h : A → Machine → Run B) → ((a : A) (m : Machine) → Stays many (f a m).step → h a m ≡ f a m) → Stays many (and_then r f).step → and_then r h ≡ and_then r f
then-keeps many r f h later w = keeps many r r f h (λ x. refl) later w

-- the same place with more sources settled
abbrev pub with_settled : Context → List Bool → Context
with_settled cx many = record { over = cx.over; settled = many; address = cx.address; tables = cx.tables }

pub source-keeps : (few many : List Bool) → Grows few many → (source : ℕ) (o : Option Outcome) → Stays many (end_if (is_settled few source) source o) → end_if (is_settled many source) source o ≡ end_if (is_settled few source) source o
source-keeps few many grows source o = go (is_settled few source) (is_settled many source) (grows source) o refl
  where
    go : (b c : Bool) → (b ≡ true → c ≡ true) → (o : Option Outcome) → is_settled many source ≡ c → Stays many (end_if b source o) → end_if c source o ≡ end_if b source o
    go true true h o q w = refl
    go false false h o q w = refl
    go true false h o q w = absurd (false≢true (h refl))
    go false true h (Some o) q w = absurd (false≢true (sym w ∙ q))
    go false true h None q w = refl

branch-keeps : {A : Type 0} (many : List Bool) (t : Tree) (y n y' n' : Machine → Run A) → ((m : Machine) → Stays many (y m).step → y' m ≡ y m) → ((m : Machine) → Stays many (n m).step → n' m ≡ n m)
    → (m : Machine) → Stays many (branch t y n m).step → branch t y' n' m ≡ branch t y n m
branch-keeps many (tree.Atom (atom.Bool true)) y n y' n' hy hn m w = hy m w
branch-keeps many (tree.Atom (atom.Bool false)) y n y' n' hy hn m w = hn m w
branch-keeps many _ y n y' n' hy hn m w = refl

pub each-keeps : (many : List Bool) (run run' : Tree → Machine → Run Tree) → ((t : Tree) (m : Machine) → Stays many (run t m).step → run' t m ≡ run t m)
    → (items so_far : List Tree) (m : Machine) → Stays many (each run items so_far m).step → each run' items so_far m ≡ each run items so_far m
each-keeps many run run' same [] so_far m w = refl
each-keeps many run run' same (item ∷ items) so_far m w =
    keeps many _ _ _ _ (same item m) (λ t n. each-keeps many run run' same items (so_far ++ t ∷ []) n) w

mutual
  pub eval-keeps : (cx : Context) (many : List Bool) → Grows cx.settled many → (t : Term) (env : List Tree) (m : Machine) → Stays many (eval cx t env m).step → eval (with_settled cx many) t env m ≡ eval cx t env m
  eval-keeps cx many g (term.let_in name value rest) env m w = keeps many _ _ _ _ (eval-keeps cx many g value env (pay 1 m)) (λ t n. eval-keeps cx many g rest (env ++ t ∷ []) n) w
  eval-keeps cx many g (term.if_else test yes_one other) env m w =
      keeps many _ _ _ _ (eval-keeps cx many g test env (pay 1 m)) (λ t n. branch-keeps many t _ _ _ _ (eval-keeps cx many g yes_one env) (eval-keeps cx many g other env) n) w
  eval-keeps cx many g (term.for_in name over give_one) env m w =
      keeps many _ _ _ _ (eval-keeps cx many g over env (pay 1 m)) (λ t n. then-keeps many (give_or_fail type_digest (items_in cx.over (known cx n) t) n) _ _ (λ items k.
      keeps many _ _ _ _ (each-keeps many (λ item l. eval cx give_one (env ++ item ∷ []) l) (λ item l. eval (with_settled cx many) give_one (env ++ item ∷ []) l) (λ item. eval-keeps cx many g give_one (env ++ item ∷ [])) items [] k) (λ ts l x. refl))) w
  eval-keeps cx many g (term.throw value) env m w = keeps many _ _ _ _ (eval-keeps cx many g value env (pay 1 m)) (λ t n x. refl) w
  eval-keeps cx many g (term.member of name) env m w = keeps many _ _ _ _ (eval-keeps cx many g of env (pay 1 m)) (λ t n x. refl) w
  eval-keeps cx many g (term.index of at_one) env m w = keeps many _ _ _ _ (eval-keeps cx many g of env (pay 1 m)) (λ t n. keeps many _ _ _ _ (eval-keeps cx many g at_one env n) (λ i k x. refl)) w
  eval-keeps cx many g (term.atom a) env m w = refl
  eval-keeps cx many g (term.variable number) env m w = refl
  eval-keeps cx many g (term.client number) env m w = refl
  eval-keeps cx many g (term.array items) env m w = keeps many _ _ _ _ (all-keeps cx many g items env [] (pay 1 m)) (λ ts n x. refl) w
  eval-keeps cx many g (term.object props) env m w = keeps many _ _ _ _ (props-keeps cx many g props env [] (pay 1 m)) (λ ts n x. refl) w
  eval-keeps cx many g (term.map pairs) env m w = keeps many _ _ _ _ (pairs-keeps cx many g pairs env [] (pay 1 m)) (λ ts n x. refl) w
  eval-keeps cx many g (term.set items) env m w = keeps many _ _ _ _ (all-keeps cx many g items env [] (pay 1 m)) (λ ts n x. refl) w
  eval-keeps cx many g (term.source name) env m w = then-keeps many (give_or_fail type_digest (source_named cx.over name) (pay 1 m)) (λ s n. ends (source_end cx.over cx.settled s) n) (λ s n. ends (source_end cx.over many s) n) (λ s n x. ap (λ z. ends z n) (source-keeps cx.settled many g s (slice_get (outcomes cx.over) s) x)) w
  eval-keeps cx many g (term.promise name) env m w = refl
  eval-keeps cx many g (term.stream name) env m w = refl
  eval-keeps cx many g (term.action number) env m w = refl
  eval-keeps cx many g (term.action_with number bound) env m w = keeps many _ _ _ _ (all-keeps cx many g bound env [] (pay 1 m)) (λ ts n x. refl) w
  eval-keeps cx many g (term.paren inside) env m w = eval-keeps cx many g inside env m w
  eval-keeps cx many g (term.binary op.And left right) env m w = keeps many _ _ _ _ (eval-keeps cx many g left env (pay 1 m)) (λ t n. branch-keeps many t _ _ _ _ (eval-keeps cx many g right env) (λ k x. refl) n) w
  eval-keeps cx many g (term.binary op.Or left right) env m w = keeps many _ _ _ _ (eval-keeps cx many g left env (pay 1 m)) (λ t n. branch-keeps many t _ _ _ _ (λ k x. refl) (eval-keeps cx many g right env) n) w
  eval-keeps cx many g (term.binary op.Plus left right) env m w = keeps many _ _ _ _ (eval-keeps cx many g left env (pay 1 m)) (λ x n. keeps many _ _ _ _ (eval-keeps cx many g right env n) (λ y k z. refl)) w
  eval-keeps cx many g (term.binary op.Minus left right) env m w = keeps many _ _ _ _ (eval-keeps cx many g left env (pay 1 m)) (λ x n. keeps many _ _ _ _ (eval-keeps cx many g right env n) (λ y k z. refl)) w
  eval-keeps cx many g (term.binary op.Times left right) env m w = keeps many _ _ _ _ (eval-keeps cx many g left env (pay 1 m)) (λ x n. keeps many _ _ _ _ (eval-keeps cx many g right env n) (λ y k z. refl)) w
  eval-keeps cx many g (term.binary op.Equal left right) env m w = keeps many _ _ _ _ (eval-keeps cx many g left env (pay 1 m)) (λ x n. keeps many _ _ _ _ (eval-keeps cx many g right env n) (λ y k z. refl)) w
  eval-keeps cx many g (term.binary op.Less left right) env m w = keeps many _ _ _ _ (eval-keeps cx many g left env (pay 1 m)) (λ x n. keeps many _ _ _ _ (eval-keeps cx many g right env n) (λ y k z. refl)) w
  eval-keeps cx many g (term.element t attrs children) env m w =
      keeps many _ _ _ _ (attrs-keeps cx many g attrs env (record { key = tree.Atom atom.Null; props = [] }) (pay 1 m))
      (λ more n. keeps many _ _ _ _ (all-keeps cx many g children env [] n) (λ inside k x. refl)) w

  pub all-keeps : (cx : Context) (many : List Bool) → Grows cx.settled many → (ts : Terms) (env so_far : List Tree) (m : Machine) → Stays many (eval_all cx ts env so_far m).step → eval_all (with_settled cx many) ts env so_far m ≡ eval_all cx ts env so_far m
  all-keeps cx many g term.no_terms env so_far m w = refl
  all-keeps cx many g (term.term_and t rest) env so_far m w = keeps many _ _ _ _ (eval-keeps cx many g t env m) (λ v n. all-keeps cx many g rest env (so_far ++ v ∷ []) n) w

  pub props-keeps : (cx : Context) (many : List Bool) → Grows cx.settled many → (ts : Props) (env : List Tree) (so_far : List (List ℕ × Tree)) (m : Machine) → Stays many (eval_props cx ts env so_far m).step → eval_props (with_settled cx many) ts env so_far m ≡ eval_props cx ts env so_far m
  props-keeps cx many g term.no_props env so_far m w = refl
  props-keeps cx many g (term.prop_and name t rest) env so_far m w = keeps many _ _ _ _ (eval-keeps cx many g t env m) (λ v n. props-keeps cx many g rest env (so_far ++ (name, v) ∷ []) n) w

  pub pairs-keeps : (cx : Context) (many : List Bool) → Grows cx.settled many → (ts : Pairs) (env so_far : List Tree) (m : Machine) → Stays many (eval_pairs cx ts env so_far m).step → eval_pairs (with_settled cx many) ts env so_far m ≡ eval_pairs cx ts env so_far m
  pairs-keeps cx many g term.no_pairs env so_far m w = refl
  pairs-keeps cx many g (term.pair_and key value rest) env so_far m w =
      keeps many _ _ _ _ (eval-keeps cx many g key env m) (λ k n. keeps many _ _ _ _ (eval-keeps cx many g value env n) (λ v l. pairs-keeps cx many g rest env (so_far ++ k ∷ v ∷ []) l)) w

  pub attrs-keeps : (cx : Context) (many : List Bool) → Grows cx.settled many → (ts : Props) (env : List Tree) (so_far : Attributes) (m : Machine) → Stays many (eval_attrs cx ts env so_far m).step → eval_attrs (with_settled cx many) ts env so_far m ≡ eval_attrs cx ts env so_far m
  attrs-keeps cx many g term.no_props env so_far m w = refl
  attrs-keeps cx many g (term.prop_and name t rest) env so_far m w =
      keeps many _ _ _ _ (eval-keeps cx many g t env m) (λ v n. then-keeps many (with_attribute so_far name v n) _ _ (λ more k. attrs-keeps cx many g rest env more k)) w
