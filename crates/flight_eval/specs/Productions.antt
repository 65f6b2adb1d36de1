-- Parts of productions that the code speaks of.
use Rattle.std.specs.Prelude.{ℕ, suc, List, [], ◌∷◌, length}
use Rattle.flight_value.specs.declared.graph.Atom.TheVariants as atom
use Rattle.flight_value.specs.declared.made.Tree.{Tree}
use Rattle.flight_value.specs.declared.made.Tree.TheVariants as tree
use Rattle.flight_syntax.specs.declared.expr.Op.{Op}
use Rattle.flight_syntax.specs.declared.expr.Op.TheVariants as op
use Rattle.flight_syntax.specs.declared.expr.Expr.{Expr, out-Expr}
use Rattle.flight_syntax.specs.declared.expr.Expr.TheOpen.{Expr-F}
use Rattle.flight_syntax.specs.declared.expr.PairExpr.{PairExpr}
use Rattle.flight_syntax.specs.declared.expr.Postfix.{Postfix}
use Rattle.flight_syntax.specs.declared.expr.PropExpr.{PropExpr}
use Rattle.flight_syntax.specs.Term as term
use Rattle.flight_syntax.specs.Term.{Term, Post}
use Rattle.flight_render.specs.Run.{Machine, Run, and_then, give}
use Rattle.flight_render.specs.Values.{property_in}
use Rattle.flight_render.specs.Operators.{type_digest, operated}
use Rattle.flight_render.specs.Eval.{Context, Attributes, known, eval, branch, give_atom, give_or_fail, item_at}

-- an element without attributes
abbrev pub no_attributes : Attributes
no_attributes = record { key = tree.Atom atom.Null; props = [] }

-- what an expression is charged when it begins: each of its postfixes, or once, and parentheses are free
abbrev pub charge_step : Expr-F Expr Postfix PairExpr PropExpr → ℕ
charge_step (Expr-F.Paren inside) = 0
charge_step (Expr-F.Postfixed of posts) = length posts
charge_step _ = 1

abbrev pub charge : Expr → ℕ
charge e = charge_step (out-Expr e)

-- no expression costs less: each postfix 1, and what they stand on 1, if it is not in parentheses
abbrev pub least_charge : Term → ℕ
least_charge (term.paren inside) = 0
least_charge (term.member of name) = suc (least_charge of)
least_charge (term.index of at) = suc (least_charge of)
least_charge _ = 1

-- a postfix on a value, and postfixes one after another, once they are charged
abbrev pub post_run : Context → Post → List Tree → Tree → Machine → Run Tree
post_run cx (term.named name) env t m = give_or_fail type_digest (property_in cx.over (known cx m) name t) m
post_run cx (term.indexed at) env t m = and_then (eval cx at env m) (λ i n. item_at cx t i n)

abbrev pub posts_run : Context → List Post → List Tree → Tree → Machine → Run Tree
posts_run cx [] env t m = give t m
posts_run cx (p ∷ ps) env t m = and_then (post_run cx p env t m) (λ u n. posts_run cx ps env u n)

-- both sides, and then the operator
abbrev pub both_run : Context → Op → Term → Term → List Tree → Machine → Run Tree
both_run cx o left right env m = and_then (eval cx left env m) (λ x n. and_then (eval cx right env n) (λ y k. give_atom (operated o x y) k))

-- an operator between two expressions, once it is charged
abbrev pub operator_run : Context → Op → Term → Term → List Tree → Machine → Run Tree
operator_run cx op.And left right env m = and_then (eval cx left env m) (λ t n. branch t (eval cx right env) (give t) n)
operator_run cx op.Or left right env m = and_then (eval cx left env m) (λ t n. branch t (give t) (eval cx right env) n)
operator_run cx o left right env m = both_run cx o left right env m
