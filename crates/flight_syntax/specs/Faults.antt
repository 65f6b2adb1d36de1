-- The faults of a program's names: a name that is unknown, a name that comes twice, a key on a server component.
use Rattle.std.specs.Prelude.{ℕ, ◌||◌, Bool, if◌then◌else◌, List, [], ◌∷◌, ◌++◌, codes, nat_lt, Option, Some, None}
use Rattle.std.specs.List.{list_any}
use Rattle.std.specs.Str.{bytes_eq}
use Rattle.flight_syntax.specs.Names.{is_lower}
use Rattle.flight_syntax.specs.Lexicon.{Placed}
use Rattle.flight_syntax.specs.Tree as tree
use Rattle.flight_syntax.specs.Tree.{Tree, Trees, TreeProps, TreePairs, Declaration, server, client_is, action_is}

-- a fault, at the name where it stands
pub data NameFault : Type 0 where
  unknown : (name : Placed) → NameFault
  twice : (name : Placed) → NameFault
  key_on_server : (key : Placed) → NameFault

-- where a fault stands in the text
abbrev pub place : NameFault → ℕ
place (unknown name) = name.at
place (twice name) = name.at
place (key_on_server key) = key.at

-- ---- names

-- whether a name is among these
abbrev pub is_named : List ℕ → List Placed → Bool
is_named bytes names = list_any (λ name. bytes_eq name.bytes bytes) names

-- the names of the server components, of the client components, and of both, as they are declared
abbrev pub servers : List Declaration → List Placed
servers [] = []
servers (server named params body ∷ all) = named ∷ servers all
servers (_ ∷ all) = servers all

abbrev pub clients : List Declaration → List Placed
clients [] = []
clients (client_is named import ∷ all) = named ∷ clients all
clients (_ ∷ all) = clients all

abbrev pub components : List Declaration → List Placed
components [] = []
components (server named params body ∷ all) = named ∷ components all
components (client_is named import ∷ all) = named ∷ components all
components (action_is named params body ∷ all) = components all

-- the names of the actions
abbrev pub actions : List Declaration → List Placed
actions [] = []
actions (action_is named params body ∷ all) = named ∷ actions all
actions (_ ∷ all) = actions all

-- the names of properties
abbrev pub property_names : TreeProps → List Placed
property_names tree.no_props = []
property_names (tree.prop_and named value rest) = named ∷ property_names rest

-- whether a tag stands for something: an element of the host, a component, or `Suspense`
abbrev pub is_tag : List Declaration → List ℕ → Bool
is_tag all bytes = is_lower bytes || (is_named bytes (components all) || bytes_eq bytes (codes "Suspense"))

-- ---- faults of one place

-- a name that has to be known
abbrev pub unless_known : Bool → Placed → List NameFault
unless_known known name = if known then [] else unknown name ∷ []

-- each name that stands behind the same name
abbrev pub repeated : List Placed → List Placed → List NameFault
repeated before [] = []
repeated before (name ∷ names) = (if is_named name.bytes before then twice name ∷ [] else []) ++ repeated (name ∷ before) names

-- each attribute `children`
abbrev pub children_attributes : List Placed → List NameFault
children_attributes [] = []
children_attributes (name ∷ names) = (if bytes_eq name.bytes (codes "children") then twice name ∷ [] else []) ++ children_attributes names

-- which stands beside children
abbrev pub beside_children : Trees → List Placed → List NameFault
beside_children tree.no_trees names = []
beside_children (tree.tree_and first rest) names = children_attributes names

-- each attribute `key`
abbrev pub key_attributes : List Placed → List NameFault
key_attributes [] = []
key_attributes (name ∷ names) = (if bytes_eq name.bytes (codes "key") then key_on_server name ∷ [] else []) ++ key_attributes names

-- of a server component
abbrev pub keys_of : Bool → List Placed → List NameFault
keys_of is_server names = if is_server then key_attributes names else []

-- ---- faults of expressions

-- under declarations and the variables in scope
abbrev mutual
  pub faults : List Declaration → List Placed → Tree → List NameFault
  faults all scope (tree.let_in named bound rest) = faults all scope bound ++ faults all (named ∷ scope) rest
  faults all scope (tree.if_else test yes_one other) = faults all scope test ++ (faults all scope yes_one ++ faults all scope other)
  faults all scope (tree.for_in named over give) = faults all scope over ++ faults all (named ∷ scope) give
  faults all scope (tree.throw thrown) = faults all scope thrown
  faults all scope (tree.member of named) = faults all scope of
  faults all scope (tree.index of at) = faults all scope of ++ faults all scope at
  faults all scope (tree.atom value) = []
  faults all scope (tree.variable named) = unless_known (is_named named.bytes scope) named
  faults all scope (tree.client named) = unless_known (is_named named.bytes (clients all)) named
  faults all scope (tree.array items) = faults_each all scope items
  faults all scope (tree.object props) = repeated [] (property_names props) ++ faults_props all scope props
  faults all scope (tree.map pairs) = faults_pairs all scope pairs
  faults all scope (tree.set items) = faults_each all scope items
  faults all scope (tree.source named) = []
  faults all scope (tree.promise named) = []
  faults all scope (tree.stream named) = []
  faults all scope (tree.action named) = unless_known (is_named named.bytes (actions all)) named
  faults all scope (tree.action_with named bound) = unless_known (is_named named.bytes (actions all)) named ++ faults_each all scope bound
  faults all scope (tree.paren inside) = faults all scope inside
  faults all scope (tree.binary op left right) = faults all scope left ++ faults all scope right
  faults all scope (tree.element tag attrs children) =
      unless_known (is_tag all tag.bytes) tag
      ++ (repeated [] (property_names attrs)
      ++ (beside_children children (property_names attrs) ++ (keys_of (is_named tag.bytes (servers all)) (property_names attrs) ++ (faults_props all scope attrs ++ faults_each all scope children))))
  faults all scope tree.too_deep = []
  faults all scope (tree.too_many of) = []

  pub faults_each : List Declaration → List Placed → Trees → List NameFault
  faults_each all scope tree.no_trees = []
  faults_each all scope (tree.tree_and first rest) = faults all scope first ++ faults_each all scope rest

  pub faults_props : List Declaration → List Placed → TreeProps → List NameFault
  faults_props all scope tree.no_props = []
  faults_props all scope (tree.prop_and named value rest) = faults all scope value ++ faults_props all scope rest

  pub faults_pairs : List Declaration → List Placed → TreePairs → List NameFault
  faults_pairs all scope tree.no_pairs = []
  faults_pairs all scope (tree.pair_and key value rest) = faults all scope key ++ (faults all scope value ++ faults_pairs all scope rest)

-- ---- faults of programs

abbrev pub declaration_faults : List Declaration → Declaration → List NameFault
declaration_faults all (server named params body) = repeated [] params ++ faults all params body
declaration_faults all (client_is named import) = []
declaration_faults all (action_is named params body) = repeated [] params ++ faults all params body

abbrev pub each_faults : List Declaration → List Declaration → List NameFault
each_faults all [] = []
each_faults all (first ∷ rest) = declaration_faults all first ++ each_faults all rest

-- the faults of a whole program's names
abbrev pub program_faults : List Declaration → List NameFault
program_faults all = repeated [] (components all) ++ (repeated [] (actions all) ++ each_faults all all)

-- whether a server component is named `App`
abbrev pub has_app : List Declaration → Bool
has_app all = is_named (codes "App") (servers all)

-- of two faults the one that stands first, and of two at one place the first
abbrev pub earlier : NameFault → Option NameFault → Option NameFault
earlier fault None = Some fault
earlier fault (Some other) = if nat_lt (place other) (place fault) then Some other else Some fault

-- the fault that stands first
abbrev pub first_fault : List NameFault → Option NameFault
first_fault [] = None
first_fault (fault ∷ others) = earlier fault (first_fault others)

-- of the first faults of two parts, the one that stands first
abbrev pub first_of : Option NameFault → Option NameFault → Option NameFault
first_of None other = other
first_of (Some fault) other = earlier fault other
