-- The program that a text is.
use Rattle.std.specs.Prelude.{ℕ, ◌≡◌, true, List, [], map, Some}
use Rattle.std.specs.List.{AllZip}
use Rattle.serde_json.specs.Data.{Data}
use Rattle.serde_json.specs.Read.{of_json}
use Rattle.serde_json.specs.Written.{compact_text}
use Rattle.flight_syntax.specs.declared.token.Token.{Token}
use Rattle.flight_syntax.specs.declared.program.Declared.{Declared}
use Rattle.flight_syntax.specs.declared.program.Declared.TheVariants as declared
use Rattle.flight_syntax.specs.Tokens.{AreTokens}
use Rattle.flight_syntax.specs.Lexicon.{Placed, words_of}
use Rattle.flight_syntax.specs.Tree as tree
use Rattle.flight_syntax.specs.Tree.{Declaration}
use Rattle.flight_syntax.specs.Grammar.{DeclaresAll}
use Rattle.flight_syntax.specs.Term.{Term, term}
use Rattle.flight_syntax.specs.Scope.{Means}
use Rattle.flight_syntax.specs.Faults.{program_faults, has_app}

-- a declaration as plain data
pub data Said : Type 0 where
  server : (name : List ℕ) (params : List (List ℕ)) (body : Term) → Said
  client : (name import : List ℕ) → Said
  action : (name : List ℕ) (params : List (List ℕ)) (body : Term) → Said

abbrev pub said : Declared → Said
said (declared.Server name params body) = server name params (term body)
said (declared.Client name import) = client name import
said (declared.Action name params body) = action name params (term body)

-- the bytes of names
abbrev pub bytes_of : List Placed → List (List ℕ)
bytes_of names = map (λ name. name.bytes) names

-- a declaration as written and as kept: a client component's JSON is kept as `serde_json` writes it compactly
abbrev pub SaidAs : List Declaration → Declaration → Said → Type 0
SaidAs all (tree.server named params body) (server n ps b) = (n ≡ named.bytes) × (ps ≡ bytes_of params) × Means all ps body b
SaidAs all (tree.client_is named json) (client n import) = (n ≡ named.bytes) × ((d : Data) × (of_json json ≡ Some d) × (import ≡ compact_text d))
SaidAs all (tree.action_is named params body) (action n ps b) = (n ≡ named.bytes) × (ps ≡ bytes_of params) × Means all ps body b
SaidAs all _ _ = ⊥

-- the productions derive the program from the text: its words spell declarations without a fault of names, which are kept so
pub record IsProgram (text : List ℕ) (program : List Said) : Type 0 where
  pub tokens : List Token
  pub all : List Declaration
  pub are_tokens : AreTokens text tokens
  pub declares : DeclaresAll all (words_of text tokens)
  pub faultless : program_faults all ≡ []
  pub app : has_app all ≡ true
  pub means : AllZip (SaidAs all) all program

abbrev pub Derives : List ℕ → List Declared → Type 0
Derives text program = IsProgram text (map said program)
