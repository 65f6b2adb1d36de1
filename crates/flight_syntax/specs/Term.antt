-- The trees of the language as plain data, without where they lie in memory.
use Rattle.std.specs.Prelude.{ℕ, List, [], ◌∷◌, Option, Some, None}
use Rattle.flight_value.specs.declared.graph.Atom.{Atom}
use Rattle.flight_syntax.specs.declared.expr.Op.{Op}
use Rattle.flight_syntax.specs.declared.expr.Tag.{Tag}
use Rattle.flight_syntax.specs.declared.expr.Expr.{Expr}
use Rattle.flight_syntax.specs.declared.expr.Expr.TheOpen.{Expr-F, PropExpr-F, PairExpr-F, Postfix-F}
use Rattle.flight_syntax.specs.declared.expr.Expr.TheFolds.{fold-Expr, fold-PropExpr, fold-PairExpr, fold-Postfix}
use Rattle.flight_syntax.specs.declared.expr.PropExpr.{PropExpr}
use Rattle.flight_syntax.specs.declared.expr.PairExpr.{PairExpr}
use Rattle.flight_syntax.specs.declared.expr.Postfix.{Postfix}

-- an expression; a variable, a component and an action are numbers, a source and a stream are names
mutual
  pub data Term : Type 0 where
    let_in : (name : List ℕ) (value rest : Term) → Term
    if_else : (test yes other : Term) → Term
    for_in : (name : List ℕ) (over give : Term) → Term
    throw : (value : Term) → Term
    member : (of : Term) (name : List ℕ) → Term
    index : (of at : Term) → Term
    atom : (value : Atom) → Term
    variable : (number : ℕ) → Term
    client : (number : ℕ) → Term
    array : (items : Terms) → Term
    object : (props : Props) → Term
    map : (pairs : Pairs) → Term
    set : (items : Terms) → Term
    source : (name : List ℕ) → Term
    promise : (name : List ℕ) → Term
    stream : (name : List ℕ) → Term
    action : (number : ℕ) → Term
    action_with : (number : ℕ) (bound : Terms) → Term
    paren : (inside : Term) → Term
    binary : (op : Op) (left right : Term) → Term
    element : (tag : Tag) (attrs : Props) (children : Terms) → Term

  pub data Terms : Type 0 where
    no_terms : Terms
    term_and : (first : Term) (rest : Terms) → Terms

  pub data Props : Type 0 where
    no_props : Props
    prop_and : (name : List ℕ) (value : Term) (rest : Props) → Props

  pub data Pairs : Type 0 where
    no_pairs : Pairs
    pair_and : (key value : Term) (rest : Pairs) → Pairs

abbrev pub terms_of : List Term → Terms
terms_of [] = no_terms
terms_of (t ∷ ts) = term_and t (terms_of ts)

abbrev pub props_of : List (List ℕ × Term) → Props
props_of [] = no_props
props_of (p ∷ ps) = prop_and p.0 p.1 (props_of ps)

abbrev pub pairs_of : List (Term × Term) → Pairs
pairs_of [] = no_pairs
pairs_of (p ∷ ps) = pair_and p.0 p.1 (pairs_of ps)

-- a postfix: the name behind a dot, or the expression in brackets
pub data Post : Type 0 where
  named : (name : List ℕ) → Post
  indexed : (at : Term) → Post

-- an expression with one postfix, and with several, in the order written
abbrev pub posted_one : Term → Post → Term
posted_one of (named name) = member of name
posted_one of (indexed at) = index of at

abbrev pub posted : Term → List Post → Term
posted of [] = of
posted of (p ∷ ps) = posted (posted_one of p) ps

-- an action, with the arguments behind `with`, if any
abbrev pub action_of : ℕ → Option (List Term) → Term
action_of number None = action number
action_of number (Some bound) = action_with number (terms_of bound)

-- one level, with each tree inside already seen as plain data
abbrev pub term_step : Expr-F Term Post (Term × Term) (List ℕ × Term) → Term
term_step (Expr-F.Let name value rest) = let_in name value rest
term_step (Expr-F.If test yes_one other) = if_else test yes_one other
term_step (Expr-F.For name over give) = for_in name over give
term_step (Expr-F.Throw value) = throw value
term_step (Expr-F.Postfixed of posts) = posted of posts
term_step (Expr-F.Atom value) = atom value
term_step (Expr-F.Variable number) = variable number
term_step (Expr-F.Client number) = client number
term_step (Expr-F.Array items) = array (terms_of items)
term_step (Expr-F.Object props) = object (props_of props)
term_step (Expr-F.Map pairs) = map (pairs_of pairs)
term_step (Expr-F.Set items) = set (terms_of items)
term_step (Expr-F.Source name) = source name
term_step (Expr-F.Promise name) = promise name
term_step (Expr-F.Stream name) = stream name
term_step (Expr-F.Action number bound) = action_of number bound
term_step (Expr-F.Paren inside) = paren inside
term_step (Expr-F.Binary op left right) = binary op left right
term_step (Expr-F.Element tag attrs children) = element tag (props_of attrs) (terms_of children)

abbrev pub prop_step : PropExpr-F Term Post (Term × Term) (List ℕ × Term) → List ℕ × Term
prop_step p = (p.name, p.value)

abbrev pub pair_step : PairExpr-F Term Post (Term × Term) (List ℕ × Term) → Term × Term
pair_step p = (p.key, p.value)

abbrev pub post_step : Postfix-F Term Post (Term × Term) (List ℕ × Term) → Post
post_step (Postfix-F.Member name) = named name
post_step (Postfix-F.Index at) = indexed at

-- an expression, a property, an entry and a postfix as plain data
abbrev pub term : Expr → Term
term = fold-Expr Term Post (Term × Term) (List ℕ × Term) term_step post_step pair_step prop_step

abbrev pub prop : PropExpr → List ℕ × Term
prop = fold-PropExpr Term Post (Term × Term) (List ℕ × Term) term_step post_step pair_step prop_step

abbrev pub pair : PairExpr → Term × Term
pair = fold-PairExpr Term Post (Term × Term) (List ℕ × Term) term_step post_step pair_step prop_step

abbrev pub post : Postfix → Post
post = fold-Postfix Term Post (Term × Term) (List ℕ × Term) term_step post_step pair_step prop_step
