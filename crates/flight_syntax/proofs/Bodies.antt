-- Where the words of a text spell declarations without a fault, each body means its term.
use Rattle.std.proofs.Common.{◌≡◌, ℕ, List, [], ◌∷◌}
use Rattle.flight_syntax.specs.declared.token.Token.{Token}
use Rattle.flight_syntax.specs.Lexicon.{words_of}
use Rattle.flight_syntax.specs.Tree as tree
use Rattle.flight_syntax.specs.Tree.{Declaration}
use Rattle.flight_syntax.specs.Grammar.{most_levels, DeclaresAll}
use Rattle.flight_syntax.specs.Scope.{Means}
use Rattle.flight_syntax.specs.Faults.{repeated, components, actions, declaration_faults, each_faults, program_faults}
use Rattle.flight_syntax.specs.Meaning.{meaning}
use Rattle.flight_syntax.specs.Derives.{bytes_of}
use Rattle.flight_syntax.proofs.Known.{nil_left, nil_right, all_in_scope, means_it}
use Rattle.flight_syntax.proofs.Whole.{IsBodyWhole, AreBodiesWhole, text_whole}

-- the body of a declaration means its term, under the parameters
abbrev pub BodyMeans : List Declaration → Declaration → Type 0
BodyMeans all (tree.server named params body) = Means all (bytes_of params) body (meaning all (bytes_of params) body)
BodyMeans all (tree.action_is named params body) = Means all (bytes_of params) body (meaning all (bytes_of params) body)
BodyMeans all (tree.client_is named json) = Unit {0}

abbrev pub BodiesMean : List Declaration → List Declaration → Type 0
BodiesMean all [] = Unit {0}
BodiesMean all (d ∷ rest) = BodyMeans all d × BodiesMean all rest

body_means : (all : List Declaration) (d : Declaration) → IsBodyWhole d → declaration_faults all d ≡ [] → BodyMeans all d
body_means all (tree.server n ps b) w e = means_it all ps (bytes_of ps) (all_in_scope ps) b w (nil_right (repeated [] ps) _ e)
body_means all (tree.action_is n ps b) w e = means_it all ps (bytes_of ps) (all_in_scope ps) b w (nil_right (repeated [] ps) _ e)
body_means all (tree.client_is n j) w e = tt

bodies_mean : (all rest : List Declaration) → AreBodiesWhole rest → each_faults all rest ≡ [] → BodiesMean all rest
bodies_mean all [] w e = tt
bodies_mean all (d ∷ rest) w e = (body_means all d w.0 (nil_left (declaration_faults all d) _ e), bodies_mean all rest w.1 (nil_right (declaration_faults all d) _ e))

pub text_means : (text : List ℕ) (tokens : List Token) (all : List Declaration) → DeclaresAll all (words_of text tokens) → program_faults all ≡ [] → BodiesMean all all
text_means text tokens all m e =
    bodies_mean all all (text_whole most_levels text tokens all m) (nil_right (repeated [] (actions all)) _ (nil_right (repeated [] (components all)) _ e))
