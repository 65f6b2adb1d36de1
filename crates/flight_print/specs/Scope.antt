-- Names as the printer has them.
use Rattle.std.specs.Prelude.{ℕ, List, [], ◌∷◌, ◌++◌, map, codes}
use Rattle.std.specs.Borrow.{Bor}
use Rattle.flight_syntax.specs.declared.program.Declared.{Declared}
use Rattle.flight_syntax.specs.Derives.{said}
use Rattle.flight_syntax.specs.Term.{Post, named, indexed}
use Rattle.flight_syntax.specs.declared.expr.Tag.{Tag}
use Rattle.flight_syntax.specs.Term as term
use Rattle.flight_syntax.specs.Term.{Term, Terms}
use Rattle.flight_print.specs.Text.{said_name, word, bracketed, literal, tag_name, shape_of, given_text, term_text, children_text}
use Rattle.flight_print.specs.declared.names.Names.{Names}

-- the names of declarations
abbrev pub declared_names : List Declared → List (List ℕ)
declared_names declared = map (λ d. said_name (said d)) declared

-- the variables in scope: parameters, and locals inside them
abbrev pub scope_of : Names → List (Bor (List ℕ)) → List (List ℕ)
scope_of names locals = names.params.now ++ map (λ n. n.now) locals

-- postfixes, one behind the other
abbrev pub post_text : List (List ℕ) → List (List ℕ) → Post → List ℕ
post_text names scope (named name) = word (codes ".") ++ word name
post_text names scope (indexed at) = bracketed (term_text names scope at)

abbrev pub posts_text : List (List ℕ) → List (List ℕ) → List Post → List ℕ
posts_text names scope [] = []
posts_text names scope (post ∷ posts) = post_text names scope post ++ posts_text names scope posts

-- a property, an entry and an attribute
abbrev pub prop_text : List (List ℕ) → List (List ℕ) → List ℕ × Term → List ℕ
prop_text names scope p = literal p.0 ++ (word (codes ":") ++ term_text names scope p.1)

abbrev pub pair_text : List (List ℕ) → List (List ℕ) → Term × Term → List ℕ
pair_text names scope p = word (codes "[") ++ (term_text names scope p.0 ++ (word (codes ",") ++ (term_text names scope p.1 ++ word (codes "]"))))

abbrev pub attr_text : List (List ℕ) → List (List ℕ) → List ℕ × Term → List ℕ
attr_text names scope p = p.0 ++ (word (codes "=") ++ given_text (shape_of p.1) (term_text names scope p.1))

-- how an element ends, behind its attributes
abbrev pub ending_text : List (List ℕ) → List (List ℕ) → Tag → Terms → List ℕ
ending_text names scope tag term.no_terms = word (codes "/>")
ending_text names scope tag (term.term_and first rest) = word (codes ">") ++ (children_text names scope (term.term_and first rest) ++ (word (codes "</") ++ (word (tag_name names tag) ++ word (codes ">"))))
