-- The words and the meaning of `server App(x) = [x, 1];`.
use Rattle.std.proofs.Common.{◌≡◌, ℕ, zero, suc, ◌<◌, List, [], ◌∷◌, refl, arith, pos, Some}
use Rattle.std.specs.Prelude.{codes, slice_get}
use Rattle.flight_value.specs.declared.graph.Atom.TheVariants as value
use Rattle.flight_syntax.specs.declared.token.TokenKind.TheVariants as kind
use Rattle.flight_syntax.specs.declared.word.Keyword.TheVariants.{Server}
use Rattle.flight_syntax.specs.declared.word.Punctuator.TheVariants as signs
use Rattle.flight_syntax.specs.Lexicon.{Placed, key, lower, upper, number, mark, word_as}
use Rattle.flight_syntax.specs.Tree as tree
use Rattle.flight_syntax.specs.Term as term
use Rattle.flight_syntax.specs.Scope.{Means}
use Rattle.flight_syntax.specs.Faults.{unknown, twice, key_on_server, program_faults, first_fault}

abbrev placed : List ℕ → ℕ → Placed
placed bytes at = record { bytes = bytes; at = at }

pub server_word : word_as kind.Name (placed (codes "server") 0) ≡ key Server 0
server_word = refl

pub app_word : word_as kind.Name (placed (codes "App") 7) ≡ upper (placed (codes "App") 7)
app_word = refl

pub variable_word : word_as kind.Name (placed (codes "x") 11) ≡ lower (placed (codes "x") 11)
variable_word = refl

pub number_word : word_as kind.Number (placed (codes "1") 20) ≡ number (codes "1")
number_word = refl

pub mark_word : word_as kind.Mark (placed (codes "]") 21) ≡ mark signs.CloseBracket
mark_word = refl

abbrev body : tree.Tree
body = tree.array (tree.tree_and (tree.variable (placed (codes "x") 17)) (tree.tree_and (tree.atom (value.Whole (pos 1))) tree.no_trees))

abbrev program : List tree.Declaration
program = tree.server (placed (codes "App") 7) (placed (codes "x") 11 ∷ []) body ∷ []

none_later : (later : ℕ) → 0 < later → slice_get (codes "x" ∷ []) later ≡ Some (codes "x") → ⊥
none_later zero l e = omega arith
none_later (suc later) l e = cc

-- the body means the array of the parameter and 1
pub means : Means program (codes "x" ∷ []) body (term.array (term.term_and (term.variable 0) (term.term_and (term.atom (value.Whole (pos 1))) term.no_terms)))
means = (record { here = refl; innermost = none_later }, (refl, tt))

-- the faults of `server App(x, x) = <App key={y}/>;`: a parameter twice, a name that is unknown, a key on a server component
abbrev faulty : List tree.Declaration
faulty = tree.server (placed (codes "App") 7) (placed (codes "x") 11 ∷ placed (codes "x") 14 ∷ []) (tree.element (placed (codes "App") 20) (tree.prop_and (placed (codes "key") 24) (tree.variable (placed (codes "y") 29)) tree.no_props) tree.no_trees) ∷ []

pub its_faults : program_faults faulty ≡ twice (placed (codes "x") 14) ∷ key_on_server (placed (codes "key") 24) ∷ unknown (placed (codes "y") 29) ∷ []
its_faults = refl

pub its_first : first_fault (program_faults faulty) ≡ Some (twice (placed (codes "x") 14))
its_first = refl
