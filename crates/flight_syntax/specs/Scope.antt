-- What the names of a program stand for: the tree with names and the term with numbers.
use Rattle.std.specs.Prelude.{ℕ, suc, ◌≡◌, ◌≢◌, ◌<◌, Bool, true, false, if◌then◌else◌, List, [], ◌∷◌, ◌++◌, slice_get, codes, Option, Some, None, option_map}
use Rattle.std.specs.Str.{bytes_eq}
use Rattle.flight_syntax.specs.declared.expr.Tag.{Tag}
use Rattle.flight_syntax.specs.declared.expr.Tag.TheVariants.{Host, Server, Client, Suspense}
use Rattle.flight_syntax.specs.Names.{is_lower}
use Rattle.flight_syntax.specs.Term as term
use Rattle.flight_syntax.specs.Term.{Term, Terms, Props, Pairs}
use Rattle.flight_syntax.specs.Tree as tree
use Rattle.flight_syntax.specs.Tree.{Tree, Trees, TreeProps, TreePairs, Declaration}

-- the innermost variable of the name, by how many are around it
pub record IsInnermost (scope : List (List ℕ)) (named : List ℕ) (number : ℕ) : Type 0 where
  pub here : slice_get scope number ≡ Some named
  pub innermost : (later : ℕ) → number < later → slice_get scope later ≢ Some named

-- whether a declaration is a server component, a client component or an action of that name
abbrev pub is_server : List ℕ → Declaration → Bool
is_server named (tree.server name params body) = bytes_eq name.bytes named
is_server named _ = false

abbrev pub is_client : List ℕ → Declaration → Bool
is_client named (tree.client_is name import) = bytes_eq name.bytes named
is_client named _ = false

abbrev pub is_action : List ℕ → Declaration → Bool
is_action named (tree.action_is name params body) = bytes_eq name.bytes named
is_action named _ = false

-- where the first such declaration stands, from 0
abbrev pub number_of : (Declaration → Bool) → List Declaration → Option ℕ
number_of test [] = None
number_of test (first ∷ rest) = if test first then Some 0 else option_map suc (number_of test rest)

-- the server component, the client component and the action of a name
abbrev pub server_number : List Declaration → List ℕ → Option ℕ
server_number all named = number_of (is_server named) all

abbrev pub client_number : List Declaration → List ℕ → Option ℕ
client_number all named = number_of (is_client named) all

abbrev pub action_number : List Declaration → List ℕ → Option ℕ
action_number all named = number_of (is_action named) all

-- what a name that begins with a capital letter stands for as a tag
abbrev pub component_tag : Option ℕ → Option ℕ → Bool → Option Tag
component_tag (Some number) client suspense = Some (Server number)
component_tag None (Some number) suspense = Some (Client number)
component_tag None None true = Some Suspense
component_tag None None false = None

-- what a tag stands for: a lower name is an element of the host
abbrev pub tag_of : List Declaration → List ℕ → Option Tag
tag_of all named = if is_lower named then Some (Host named) else component_tag (server_number all named) (client_number all named) (bytes_eq named (codes "Suspense"))

-- a tree and a term that say the same, under declarations and the variables in scope
abbrev mutual
  pub Means : List Declaration → List (List ℕ) → Tree → Term → Type 0
  Means all scope (tree.let_in named bound rest) (term.let_in n v t) = (n ≡ named.bytes) × Means all scope bound v × Means all (scope ++ named.bytes ∷ []) rest t
  Means all scope (tree.if_else test yes_one other) (term.if_else t y o) = Means all scope test t × Means all scope yes_one y × Means all scope other o
  Means all scope (tree.for_in named over give) (term.for_in n o g) = (n ≡ named.bytes) × Means all scope over o × Means all (scope ++ named.bytes ∷ []) give g
  Means all scope (tree.throw thrown) (term.throw t) = Means all scope thrown t
  Means all scope (tree.member of named) (term.member o n) = (n ≡ named.bytes) × Means all scope of o
  Means all scope (tree.index of at) (term.index o a) = Means all scope of o × Means all scope at a
  Means all scope (tree.atom value) (term.atom a) = a ≡ value
  Means all scope (tree.variable named) (term.variable number) = IsInnermost scope named.bytes number
  Means all scope (tree.client named) (term.client number) = client_number all named.bytes ≡ Some number
  Means all scope (tree.array items) (term.array ts) = MeansEach all scope items ts
  Means all scope (tree.object props) (term.object ps) = MeansProps all scope props ps
  Means all scope (tree.map pairs) (term.map ps) = MeansPairs all scope pairs ps
  Means all scope (tree.set items) (term.set ts) = MeansEach all scope items ts
  Means all scope (tree.source named) (term.source n) = n ≡ named.bytes
  Means all scope (tree.promise named) (term.promise n) = n ≡ named.bytes
  Means all scope (tree.stream named) (term.stream n) = n ≡ named.bytes
  Means all scope (tree.action named) (term.action number) = action_number all named.bytes ≡ Some number
  Means all scope (tree.action_with named bound) (term.action_with number ts) = (action_number all named.bytes ≡ Some number) × MeansEach all scope bound ts
  Means all scope (tree.paren inside) (term.paren t) = Means all scope inside t
  Means all scope (tree.binary op left right) (term.binary o l r) = (o ≡ op) × Means all scope left l × Means all scope right r
  Means all scope (tree.element named attrs children) (term.element tag ps ts) = (tag_of all named.bytes ≡ Some tag) × MeansProps all scope attrs ps × MeansEach all scope children ts
  Means all scope _ _ = ⊥

  pub MeansEach : List Declaration → List (List ℕ) → Trees → Terms → Type 0
  MeansEach all scope tree.no_trees term.no_terms = Unit {0}
  MeansEach all scope (tree.tree_and first rest) (term.term_and t ts) = Means all scope first t × MeansEach all scope rest ts
  MeansEach all scope _ _ = ⊥

  pub MeansProps : List Declaration → List (List ℕ) → TreeProps → Props → Type 0
  MeansProps all scope tree.no_props term.no_props = Unit {0}
  MeansProps all scope (tree.prop_and named value rest) (term.prop_and n t ps) = (n ≡ named.bytes) × Means all scope value t × MeansProps all scope rest ps
  MeansProps all scope _ _ = ⊥

  pub MeansPairs : List Declaration → List (List ℕ) → TreePairs → Pairs → Type 0
  MeansPairs all scope tree.no_pairs term.no_pairs = Unit {0}
  MeansPairs all scope (tree.pair_and key value rest) (term.pair_and k v ps) = Means all scope key k × Means all scope value v × MeansPairs all scope rest ps
  MeansPairs all scope _ _ = ⊥
