-- How programs are printed: each word, and a space behind it; a line for each declaration.
use Rattle.std.specs.Prelude.{ℕ, suc, Bool, true, false, List, [], ◌∷◌, ◌++◌, slice_get, map, codes, pos, negsuc, unwrap_or, decimal}
use Rattle.json.specs.Print.{quoted}
use Rattle.flight_value.specs.declared.graph.Atom.{Atom}
use Rattle.flight_value.specs.declared.graph.Atom.TheVariants as value
use Rattle.flight_value.specs.declared.graph.Constant.TheVariants as constant
use Rattle.flight_syntax.specs.declared.expr.Op.{Op}
use Rattle.flight_syntax.specs.declared.expr.Op.TheVariants as op
use Rattle.flight_syntax.specs.declared.expr.Tag.{Tag}
use Rattle.flight_syntax.specs.declared.expr.Tag.TheVariants as tag
use Rattle.flight_syntax.specs.Term as term
use Rattle.flight_syntax.specs.Term.{Term, Terms, Props, Pairs}
use Rattle.flight_syntax.specs.Derives.{Said, server, client, action}

-- a word, and a space
abbrev pub word : List ℕ → List ℕ
word bytes = bytes ++ 32 ∷ []

-- a text as a literal
abbrev pub literal : List ℕ → List ℕ
literal text = word (quoted text)

-- in brackets and in braces
abbrev pub bracketed : List ℕ → List ℕ
bracketed text = word (codes "[") ++ (text ++ word (codes "]"))

abbrev pub braced : List ℕ → List ℕ
braced text = word (codes "{") ++ (text ++ word (codes "}"))

-- the one of these names that has the number, where there is one
abbrev pub name_at : List (List ℕ) → ℕ → List ℕ
name_at names number = unwrap_or (slice_get names number) []

abbrev pub op_text : Op → List ℕ
op_text op.Plus = codes "+"
op_text op.Minus = codes "-"
op_text op.Times = codes "*"
op_text op.Equal = codes "=="
op_text op.Less = codes "<"
op_text op.And = codes "&&"
op_text op.Or = codes "||"

-- a literal; what no text says has no text
abbrev pub atom_text : Atom → List ℕ
atom_text value.Null = word (codes "null")
atom_text value.Undefined = word (codes "undefined")
atom_text (value.Bool true) = word (codes "true")
atom_text (value.Bool false) = word (codes "false")
atom_text (value.Whole (pos n)) = word (decimal n)
atom_text (value.Whole (negsuc n)) = word (codes "-") ++ word (decimal (suc n))
atom_text (value.Big (pos n)) = word (decimal n ++ codes "n")
atom_text (value.Big (negsuc n)) = word (codes "-") ++ word (decimal (suc n) ++ codes "n")
atom_text (value.Text text) = literal text
atom_text (value.Date text) = word (codes "date") ++ literal text
atom_text (value.Symbol text) = word (codes "symbol") ++ literal text
atom_text (value.Constant constant.NotANumber) = word (codes "NaN")
atom_text (value.Constant constant.Infinity) = word (codes "Infinity")
atom_text (value.Constant constant.MinusInfinity) = word (codes "-") ++ word (codes "Infinity")
atom_text (value.Constant constant.MinusZero) = word (codes "-") ++ word (codes "0")
atom_text _ = []

-- what a tag is called
abbrev pub tag_name : List (List ℕ) → Tag → List ℕ
tag_name names (tag.Host name) = name
tag_name names (tag.Server number) = name_at names number
tag_name names (tag.Client number) = name_at names number
tag_name names tag.Suspense = codes "Suspense"

-- a comma, where something stands before
abbrev pub comma_if : Bool → List ℕ
comma_if true = word (codes ",")
comma_if false = []

-- how an attribute's value and a child stand: a text and, as a child, an element as they are, and anything else in braces
pub data Shape : Type 0 where
  bare : (text : List ℕ) → Shape
  element : Shape
  other : Shape

abbrev pub shape_of : Term → Shape
shape_of (term.atom (value.Text text)) = bare text
shape_of (term.element named attrs children) = element
shape_of _ = other

abbrev pub given_text : Shape → List ℕ → List ℕ
given_text (bare text) whole = literal text
given_text element whole = braced whole
given_text other whole = braced whole

abbrev pub child_text : Shape → List ℕ → List ℕ
child_text (bare text) whole = literal text
child_text element whole = whole
child_text other whole = braced whole

-- an expression, under the names of the declarations and of the variables in scope
abbrev mutual
  pub term_text : List (List ℕ) → List (List ℕ) → Term → List ℕ
  term_text names scope (term.let_in named bound rest) = word (codes "let") ++ (word named ++ (word (codes "=") ++ (term_text names scope bound ++ (word (codes "in") ++ term_text names (scope ++ named ∷ []) rest))))
  term_text names scope (term.if_else test yes_one no_one) = word (codes "if") ++ (term_text names scope test ++ (word (codes "then") ++ (term_text names scope yes_one ++ (word (codes "else") ++ term_text names scope no_one))))
  term_text names scope (term.for_in named over give) = word (codes "for") ++ (word named ++ (word (codes "in") ++ (term_text names scope over ++ (word (codes "give") ++ term_text names (scope ++ named ∷ []) give))))
  term_text names scope (term.throw thrown) = word (codes "throw") ++ term_text names scope thrown
  term_text names scope (term.member of named) = term_text names scope of ++ (word (codes ".") ++ word named)
  term_text names scope (term.index of at) = term_text names scope of ++ bracketed (term_text names scope at)
  term_text names scope (term.atom atom) = atom_text atom
  term_text names scope (term.variable number) = word (name_at scope number)
  term_text names scope (term.client number) = word (name_at names number)
  term_text names scope (term.array items) = bracketed (terms_text names scope false items)
  term_text names scope (term.object props) = braced (props_text names scope false props)
  term_text names scope (term.map pairs) = word (codes "map") ++ bracketed (pairs_text names scope false pairs)
  term_text names scope (term.set items) = word (codes "set") ++ bracketed (terms_text names scope false items)
  term_text names scope (term.source named) = word (codes "use") ++ word named
  term_text names scope (term.promise named) = word (codes "promise") ++ word named
  term_text names scope (term.stream named) = word (codes "stream") ++ word named
  term_text names scope (term.action number) = word (codes "action") ++ word (name_at names number)
  term_text names scope (term.action_with number bound) = word (codes "action") ++ (word (name_at names number) ++ (word (codes "with") ++ bracketed (terms_text names scope false bound)))
  term_text names scope (term.paren inside) = word (codes "(") ++ (term_text names scope inside ++ word (codes ")"))
  term_text names scope (term.binary op left right) = word (codes "(") ++ (term_text names scope left ++ (word (op_text op) ++ (term_text names scope right ++ word (codes ")"))))
  term_text names scope (term.element named attrs term.no_terms) = word (codes "<") ++ (word (tag_name names named) ++ (attrs_text names scope attrs ++ word (codes "/>")))
  term_text names scope (term.element named attrs (term.term_and first rest)) =
      word (codes "<") ++ (word (tag_name names named) ++ (attrs_text names scope attrs
      ++ (word (codes ">") ++ (children_text names scope (term.term_and first rest) ++ (word (codes "</") ++ (word (tag_name names named) ++ word (codes ">")))))))

  pub terms_text : List (List ℕ) → List (List ℕ) → Bool → Terms → List ℕ
  terms_text names scope later term.no_terms = []
  terms_text names scope later (term.term_and first rest) = comma_if later ++ (term_text names scope first ++ terms_text names scope true rest)

  pub props_text : List (List ℕ) → List (List ℕ) → Bool → Props → List ℕ
  props_text names scope later term.no_props = []
  props_text names scope later (term.prop_and named value rest) = comma_if later ++ (literal named ++ (word (codes ":") ++ (term_text names scope value ++ props_text names scope true rest)))

  pub pairs_text : List (List ℕ) → List (List ℕ) → Bool → Pairs → List ℕ
  pairs_text names scope later term.no_pairs = []
  pairs_text names scope later (term.pair_and key value rest) =
      comma_if later ++ (word (codes "[") ++ (term_text names scope key ++ (word (codes ",") ++ (term_text names scope value ++ (word (codes "]") ++ pairs_text names scope true rest)))))

  -- an attribute's name is written as one, and so has no space within
  pub attrs_text : List (List ℕ) → List (List ℕ) → Props → List ℕ
  attrs_text names scope term.no_props = []
  attrs_text names scope (term.prop_and named value rest) = named ++ (word (codes "=") ++ (given_text (shape_of value) (term_text names scope value) ++ attrs_text names scope rest))

  pub children_text : List (List ℕ) → List (List ℕ) → Terms → List ℕ
  children_text names scope term.no_terms = []
  children_text names scope (term.term_and first rest) = child_text (shape_of first) (term_text names scope first) ++ children_text names scope rest

-- parameters with commas between
abbrev pub params_text : Bool → List (List ℕ) → List ℕ
params_text later [] = []
params_text later (named ∷ params) = comma_if later ++ (word named ++ params_text true params)

-- the end of a declaration, and of its line
abbrev pub line_end : List ℕ
line_end = codes ";" ++ 10 ∷ []

-- a declaration with parameters and a body, behind its keyword
abbrev pub body_text : List (List ℕ) → List ℕ → List (List ℕ) → Term → List ℕ
body_text names named params body = word named ++ (word (codes "(") ++ (params_text false params ++ (word (codes ")") ++ (word (codes "=") ++ (term_text names params body ++ line_end)))))

abbrev pub said_text : List (List ℕ) → Said → List ℕ
said_text names (server named params body) = word (codes "server") ++ body_text names named params body
said_text names (client named import) = word (codes "client") ++ (word named ++ (word (codes "=") ++ (import ++ line_end)))
said_text names (action named params body) = word (codes "action") ++ body_text names named params body

abbrev pub each_text : List (List ℕ) → List Said → List ℕ
each_text names [] = []
each_text names (first ∷ rest) = said_text names first ++ each_text names rest

abbrev pub said_name : Said → List ℕ
said_name (server named params body) = named
said_name (client named import) = named
said_name (action named params body) = named

-- a program
abbrev pub program_text : List Said → List ℕ
program_text program = each_text (map said_name program) program
