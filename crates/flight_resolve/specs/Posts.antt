-- Postfixes: their faults, and what they mean.
use Rattle.std.specs.Prelude.{ℕ, List, [], ◌∷◌, ◌++◌}
use Rattle.flight_syntax.specs.Lexicon.{Placed}
use Rattle.flight_syntax.specs.Tree.{Declaration}
use Rattle.flight_syntax.specs.Faults.{NameFault, faults}
use Rattle.flight_syntax.specs.Meaning.{meaning}
use Rattle.flight_syntax.specs.Term as term
use Rattle.flight_parse.specs.Code.{PlainPost, named, indexed}

-- the faults of a postfix, and of postfixes one after another
abbrev pub faults_post : List Declaration → List Placed → PlainPost → List NameFault
faults_post all scope (named name) = []
faults_post all scope (indexed inside) = faults all scope inside

abbrev pub faults_posts : List Declaration → List Placed → List PlainPost → List NameFault
faults_posts all scope [] = []
faults_posts all scope (post ∷ posts) = faults_post all scope post ++ faults_posts all scope posts

-- what a postfix means
abbrev pub meaning_post : List Declaration → List (List ℕ) → PlainPost → term.Post
meaning_post all scope (named name) = term.named name.bytes
meaning_post all scope (indexed inside) = term.indexed (meaning all scope inside)
