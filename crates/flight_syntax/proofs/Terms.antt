-- An expression as plain data, variant by variant.
use Rattle.std.proofs.Common.{◌≡◌, ℕ, List, refl, rules, Option, Some, None}
use Rattle.std.proofs.Common as common
use Rattle.flight_value.specs.declared.graph.Atom.{Atom}
use Rattle.flight_syntax.specs.declared.expr.Op.{Op}
use Rattle.flight_syntax.specs.declared.expr.Tag.{Tag}
use Rattle.flight_syntax.specs.declared.expr.Expr as expr
use Rattle.flight_syntax.specs.declared.expr.Expr.{Expr, the_lemmas}
use Rattle.flight_syntax.specs.declared.expr.PropExpr.{PropExpr}
use Rattle.flight_syntax.specs.declared.expr.PairExpr.{PairExpr}
use Rattle.flight_syntax.specs.declared.expr.Postfix as postfixes
use Rattle.flight_syntax.specs.declared.expr.Postfix.{Postfix}
use Rattle.flight_syntax.specs.Term.{term, prop, pair, terms_of, props_of, pairs_of, action_of, let_in, if_else, for_in, throw, posted, named, indexed, post, atom, variable, client, array, object, map, set, source, promise, stream, paren, binary, element}

pub term-Let : (name : List ℕ) (value rest : Expr) → term (expr.Let name value rest) ≡ let_in name (term value) (term rest)
term-Let name value rest = search (rules, the_lemmas)

pub term-If : (test yes_one other : Expr) → term (expr.If test yes_one other) ≡ if_else (term test) (term yes_one) (term other)
term-If test yes_one other = search (rules, the_lemmas)

pub term-For : (name : List ℕ) (over give : Expr) → term (expr.For name over give) ≡ for_in name (term over) (term give)
term-For name over give = search (rules, the_lemmas)

pub term-Throw : (value : Expr) → term (expr.Throw value) ≡ throw (term value)
term-Throw value = search (rules, the_lemmas)

pub term-Postfixed : (of : Expr) (posts : List Postfix) → term (expr.Postfixed of posts) ≡ posted (term of) (common.map post posts)
term-Postfixed of posts = search (rules, the_lemmas)

pub term-Atom : (value : Atom) → term (expr.Atom value) ≡ atom value
term-Atom value = search (rules, the_lemmas)

pub term-Variable : (number : ℕ) → term (expr.Variable number) ≡ variable number
term-Variable number = search (rules, the_lemmas)

pub term-Client : (number : ℕ) → term (expr.Client number) ≡ client number
term-Client number = search (rules, the_lemmas)

pub term-Array : (items : List Expr) → term (expr.Array items) ≡ array (terms_of (common.map term items))
term-Array items = search (rules, the_lemmas)

pub term-Object : (props : List PropExpr) → term (expr.Object props) ≡ object (props_of (common.map prop props))
term-Object props = search (rules, the_lemmas)

pub term-Map : (pairs : List PairExpr) → term (expr.Map pairs) ≡ map (pairs_of (common.map pair pairs))
term-Map pairs = search (rules, the_lemmas)

pub term-Set : (items : List Expr) → term (expr.Set items) ≡ set (terms_of (common.map term items))
term-Set items = search (rules, the_lemmas)

pub term-Source : (name : List ℕ) → term (expr.Source name) ≡ source name
term-Source name = search (rules, the_lemmas)

pub term-Promise : (name : List ℕ) → term (expr.Promise name) ≡ promise name
term-Promise name = search (rules, the_lemmas)

pub term-Stream : (name : List ℕ) → term (expr.Stream name) ≡ stream name
term-Stream name = search (rules, the_lemmas)

pub term-Action : (number : ℕ) (bound : Option (List Expr)) → term (expr.Action number bound) ≡ action_of number (common.option_map (common.map term) bound)
term-Action number bound = search (rules, the_lemmas)

pub term-Paren : (inside : Expr) → term (expr.Paren inside) ≡ paren (term inside)
term-Paren inside = search (rules, the_lemmas)

pub term-Binary : (op : Op) (left right : Expr) → term (expr.Binary op left right) ≡ binary op (term left) (term right)
term-Binary op left right = search (rules, the_lemmas)

pub term-Element : (tag : Tag) (attrs : List PropExpr) (children : List Expr) → term (expr.Element tag attrs children) ≡ element tag (props_of (common.map prop attrs)) (terms_of (common.map term children))
term-Element tag attrs children = search (rules, the_lemmas)

pub prop-value : (p : PropExpr) → prop p ≡ (p.name, term p.value)
prop-value p = search (rules, the_lemmas)

pub pair-value : (p : PairExpr) → pair p ≡ (term p.key, term p.value)
pair-value p = search (rules, the_lemmas)

pub post-Member : (name : List ℕ) → post (postfixes.Member name) ≡ named name
post-Member name = search (rules, the_lemmas)

pub post-Index : (at : Expr) → post (postfixes.Index at) ≡ indexed (term at)
post-Index at = search (rules, the_lemmas)
