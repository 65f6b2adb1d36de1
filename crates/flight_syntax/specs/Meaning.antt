-- The term that a tree means, as a function; a name that is unknown is number 0. For private clauses.
use Rattle.std.specs.Prelude.{ℕ, zero, suc, Bool, true, false, if◌then◌else◌, List, [], ◌∷◌, ◌++◌, Option, Some, None}
use Rattle.std.specs.Str.{bytes_eq}
use Rattle.flight_syntax.specs.declared.expr.Tag.{Tag}
use Rattle.flight_syntax.specs.declared.expr.Tag.TheVariants.{Suspense}
use Rattle.flight_syntax.specs.Tree as tree
use Rattle.flight_syntax.specs.Tree.{Tree, Trees, TreeProps, TreePairs, Declaration}
use Rattle.flight_syntax.specs.Term as term
use Rattle.flight_syntax.specs.Term.{Term, Terms, Props, Pairs}
use Rattle.flight_syntax.specs.Scope.{client_number, action_number, tag_of}

-- whether a variable of the name is in scope
abbrev pub occurs : List ℕ → List (List ℕ) → Bool
occurs named [] = false
occurs named (n ∷ scope) = if bytes_eq n named then true else occurs named scope

-- the number of the innermost variable
abbrev pub innermost : List (List ℕ) → List ℕ → ℕ
innermost [] named = zero
innermost (n ∷ scope) named = if occurs named scope then suc (innermost scope named) else zero

-- the number, and the tag, or some other where there is none
abbrev pub given : Option ℕ → ℕ
given (Some n) = n
given None = 0

abbrev pub given_tag : Option Tag → Tag
given_tag (Some t) = t
given_tag None = Suspense

abbrev mutual
  pub meaning : List Declaration → List (List ℕ) → Tree → Term
  meaning all scope (tree.let_in named bound rest) = term.let_in named.bytes (meaning all scope bound) (meaning all (scope ++ named.bytes ∷ []) rest)
  meaning all scope (tree.if_else test yes_one other) = term.if_else (meaning all scope test) (meaning all scope yes_one) (meaning all scope other)
  meaning all scope (tree.for_in named over give) = term.for_in named.bytes (meaning all scope over) (meaning all (scope ++ named.bytes ∷ []) give)
  meaning all scope (tree.throw thrown) = term.throw (meaning all scope thrown)
  meaning all scope (tree.member of named) = term.member (meaning all scope of) named.bytes
  meaning all scope (tree.index of at) = term.index (meaning all scope of) (meaning all scope at)
  meaning all scope (tree.atom value) = term.atom value
  meaning all scope (tree.variable named) = term.variable (innermost scope named.bytes)
  meaning all scope (tree.client named) = term.client (given (client_number all named.bytes))
  meaning all scope (tree.array items) = term.array (meanings all scope items)
  meaning all scope (tree.object props) = term.object (meaning_props all scope props)
  meaning all scope (tree.map pairs) = term.map (meaning_pairs all scope pairs)
  meaning all scope (tree.set items) = term.set (meanings all scope items)
  meaning all scope (tree.source named) = term.source named.bytes
  meaning all scope (tree.promise named) = term.promise named.bytes
  meaning all scope (tree.stream named) = term.stream named.bytes
  meaning all scope (tree.action named) = term.action (given (action_number all named.bytes))
  meaning all scope (tree.action_with named bound) = term.action_with (given (action_number all named.bytes)) (meanings all scope bound)
  meaning all scope (tree.paren inside) = term.paren (meaning all scope inside)
  meaning all scope (tree.binary op left right) = term.binary op (meaning all scope left) (meaning all scope right)
  meaning all scope (tree.element named attrs children) = term.element (given_tag (tag_of all named.bytes)) (meaning_props all scope attrs) (meanings all scope children)
  meaning all scope tree.too_deep = term.variable 0
  meaning all scope (tree.too_many of) = term.variable 0

  pub meanings : List Declaration → List (List ℕ) → Trees → Terms
  meanings all scope tree.no_trees = term.no_terms
  meanings all scope (tree.tree_and first rest) = term.term_and (meaning all scope first) (meanings all scope rest)

  pub meaning_props : List Declaration → List (List ℕ) → TreeProps → Props
  meaning_props all scope tree.no_props = term.no_props
  meaning_props all scope (tree.prop_and named value rest) = term.prop_and named.bytes (meaning all scope value) (meaning_props all scope rest)

  pub meaning_pairs : List Declaration → List (List ℕ) → TreePairs → Pairs
  meaning_pairs all scope tree.no_pairs = term.no_pairs
  meaning_pairs all scope (tree.pair_and key value rest) = term.pair_and (meaning all scope key) (meaning all scope value) (meaning_pairs all scope rest)
