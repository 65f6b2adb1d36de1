-- The JSON of a client component, as it is kept, is JSON of the language.
use Rattle.std.proofs.Common.{◌≡◌, ℕ, List, [], ◌∷◌, ◌++◌, Some, refl, sym, ◌∙◌, ap, append_assoc, append-nil}
use Rattle.serde_json.specs.Data.{Data}
use Rattle.serde_json.specs.Read.{of_json}
use Rattle.serde_json.specs.Written.{compact_text}
use Rattle.flight_syntax.specs.declared.token.Token.{Token}
use Rattle.flight_syntax.specs.Tokens.{AreTokens}
use Rattle.flight_syntax.specs.Lexicon.{Word, words_of}
use Rattle.flight_syntax.specs.Tree as tree
use Rattle.flight_syntax.specs.Tree.{Declaration}
use Rattle.flight_syntax.specs.Grammar.{Declares, DeclaresAll}
use Rattle.flight_syntax.specs.Import.{IsImport}

-- what a client component's JSON means is kept as JSON of the language
abbrev pub HasImport : Declaration → Type 0
HasImport (tree.client_is named json) = (meant : Data) → of_json json ≡ Some meant → IsImport (compact_text meant)
HasImport (tree.server named params body) = Unit {0}
HasImport (tree.action_is named params body) = Unit {0}

abbrev pub HaveImports : List Declaration → Type 0
HaveImports [] = Unit {0}
HaveImports (d ∷ all) = HasImport d × HaveImports all

-- words that stand in one piece among all of them
abbrev Among : List Word → List Word → Type 0
Among all words = (before after : List Word) × (all ≡ before ++ (words ++ after))

among_split : (all x y z : List Word) (m : Among all x) → x ≡ y ++ z → all ≡ m.0 ++ (y ++ (z ++ m.1))
among_split all x y z m e = m.2 ∙ ap (λ words. m.0 ++ words) (ap (λ words. words ++ m.1) e ∙ append_assoc y z m.1)

front_among : {all x : List Word} (y z : List Word) → x ≡ y ++ z → Among all x → Among all y
front_among {all} {x} y z e m = (m.0, z ++ m.1, among_split all x y z m e)

rest_among : {all x : List Word} (y z : List Word) → x ≡ y ++ z → Among all x → Among all z
rest_among {all} {x} y z e m = (m.0 ++ y, m.1, among_split all x y z m e ∙ sym (append_assoc m.0 y (z ++ m.1)))

has_import : (text : List ℕ) (tokens : List Token) → AreTokens text tokens → (d : Declaration) (x : List Word) → Among (words_of text tokens) x → Declares d x → HasImport d
has_import text tokens t (tree.server n ps b) x r m = tt
has_import text tokens t (tree.action_is n ps b) x r m = tt
has_import text tokens t (tree.client_is n j) x r m =
    let a = m.4.4.4 in
    let rest = rest_among m.4.4.0 m.4.4.1 m.4.4.2 (rest_among m.4.0 m.4.1 m.4.2 (rest_among m.0 m.1 m.2 r)) in
    let value = front_among a.0 a.1 a.2 rest in
    λ meant e. record { text = text; tokens = tokens; before = value.0; words = a.0; after = value.1; json = j; meant = meant; are_tokens = t; among = value.2; spelled = a.3; is_read = e; is_compact = refl }

have_imports : (text : List ℕ) (tokens : List Token) → AreTokens text tokens → (all : List Declaration) (x : List Word) → Among (words_of text tokens) x → DeclaresAll all x → HaveImports all
have_imports text tokens t [] x r m = tt
have_imports text tokens t (d ∷ all) x r m = (has_import text tokens t d m.0 (front_among m.0 m.1 m.2 r) m.3, have_imports text tokens t all m.1 (rest_among m.0 m.1 m.2 r) m.4)

-- each client component that the words of a text declare
pub text_imports : (text : List ℕ) (tokens : List Token) (all : List Declaration) → AreTokens text tokens → DeclaresAll all (words_of text tokens) → HaveImports all
text_imports text tokens all t m =
    let words = words_of text tokens in
    have_imports text tokens t all words ([], [], sym (append-nil words)) m
