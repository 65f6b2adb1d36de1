-- What an expression is charged when it begins, for some variants, and how large one with postfixes is.
use Rattle.std.proofs.Common.{◌≡◌, ◌<◌, ◌+◌, ◌*◌, ℕ, suc, max, List, length, arith, rules}
use denote.Param.Weighed.{most}
use Rattle.flight_syntax.specs.declared.expr.Op.{Op}
use Rattle.flight_syntax.specs.declared.expr.Expr as expr
use Rattle.flight_syntax.specs.declared.expr.Expr.{Expr, size-Expr, the_lemmas}
use Rattle.flight_syntax.specs.declared.expr.Postfix.{Postfix, size-Postfix}
use Rattle.flight_eval.specs.Productions.{charge}

pub charge-For : (name : List ℕ) (over give : Expr) → charge (expr.For name over give) ≡ 1
charge-For name over give = search (rules, the_lemmas)

pub charge-Binary : (op : Op) (left right : Expr) → charge (expr.Binary op left right) ≡ 1
charge-Binary op left right = search (rules, the_lemmas)

pub charge-Postfixed : (of : Expr) (posts : List Postfix) → charge (expr.Postfixed of posts) ≡ length posts
charge-Postfixed of posts = search (rules, the_lemmas)

pub size-Postfixed : (of : Expr) (posts : List Postfix) → 3 * max (size-Expr of) (most size-Postfix posts) + 2 < 3 * size-Expr (expr.Postfixed of posts)
size-Postfixed of posts =
    let e : size-Expr (expr.Postfixed of posts) ≡ suc (max (size-Expr of) (most size-Postfix posts)) = search (rules, the_lemmas) in
    omega (arith, e)
