-- Which programs with their data are valid, which nodes a body makes, and which jobs belong to them.
use Rattle.std.specs.Prelude.{ℕ, suc, ◌+◌, ◌-◌, ◌^◌, ◌≡◌, ◌≢◌, ◌<◌, ◌≤ℤ◌, pos, negsuc, Bool, true, List, [], ◌∷◌, ◌++◌, length, Some, slice_get, All, codes, is_some, Option}
use Rattle.std.specs.List.{AllByRecursion}
use Rattle.flight_value.specs.Date.{IsDate}
use Rattle.flight_value.specs.Graph.{IsSafe, IsValid, IsValidAtom, IsValidSlot, Ascend, slots_of}
use Rattle.flight_value.specs.declared.graph.Atom.{Atom}
use Rattle.flight_value.specs.declared.graph.Atom.TheVariants as atom
use Rattle.flight_value.specs.declared.graph.Slot.{Slot}
use Rattle.flight_value.specs.declared.graph.Slot.TheVariants as slot
use Rattle.flight_value.specs.declared.graph.Node.{Node}
use Rattle.flight_value.specs.declared.graph.Node.TheVariants as node
use Rattle.flight_value.specs.declared.graph.Graph.{Graph}
use Rattle.flight_value.specs.declared.made.MadeKind.{MadeKind}
use Rattle.flight_value.specs.declared.made.MadeKind.TheVariants as kind
use Rattle.flight_value.specs.declared.made.Made.{Made}
use Rattle.flight_value.specs.declared.made.Tree.{Tree}
use Rattle.flight_value.specs.declared.made.Tree.TheVariants as tree
use Rattle.flight_value.specs.declared.name.Name.{Name}
use Rattle.flight_syntax.specs.declared.expr.Expr.{Expr}
use Rattle.flight_syntax.specs.declared.expr.Tag.{Tag}
use Rattle.flight_syntax.specs.declared.expr.Tag.TheVariants as tag
use Rattle.flight_syntax.specs.declared.program.Declared.{Declared}
use Rattle.flight_syntax.specs.declared.program.Declared.TheVariants as declared
use Rattle.flight_syntax.specs.declared.script.Outcome.{Outcome}
use Rattle.flight_syntax.specs.declared.script.Flowing.{Flowing}
use Rattle.flight_syntax.specs.Import.{IsImport}
use Rattle.flight_syntax.specs.Script.{IsScript, IsSourceSlot}
use Rattle.flight_syntax.specs.Term as term
use Rattle.flight_syntax.specs.Term.{Term, Terms, Props, Pairs, term as term_of}
use Rattle.flight_render.specs.declared.root.Ground.{Ground}
use Rattle.flight_render.specs.declared.root.Root.{Root}
use Rattle.flight_render.specs.declared.root.Root.TheVariants as root
use Rattle.flight_render.specs.declared.job.What.{What}
use Rattle.flight_render.specs.declared.job.What.TheVariants as what
use Rattle.flight_render.specs.declared.job.Job.{Job}
use Rattle.flight_render.specs.Run.{gave, Run}
use Rattle.flight_render.specs.Values.{outcomes, outcome_nodes, source_named, stream_named, import_at, made_in}
use Rattle.flight_render.specs.Bodies.{inner, element_of, node_at}
use Rattle.flight_render.specs.Jobs.{Value, shown, of_job, known, argument_in}
use Rattle.flight_render.specs.Laws.{TablesLeadBack}

-- ---- declarations

abbrev pub IsServerAt : Ground → ℕ → Type 0
IsServerAt g number = (name : List ℕ) × ((params : List (List ℕ)) × ((body : Expr) × (slice_get g.program.declared number ≡ Some (declared.Server name params body))))

abbrev pub IsClientAt : Ground → ℕ → Type 0
IsClientAt g number = (name : List ℕ) × ((import : List ℕ) × (slice_get g.program.declared number ≡ Some (declared.Client name import)))

-- an action with so many parameters
abbrev pub IsActionOf : Ground → ℕ → ℕ → Type 0
IsActionOf g number count = (name : List ℕ) × ((params : List (List ℕ)) × ((body : Expr) × (slice_get g.program.declared number ≡ Some (declared.Action name params body)) × (length params ≡ count)))

abbrev pub IsActionAt : Ground → ℕ → Type 0
IsActionAt g number = (count : ℕ) × IsActionOf g number count

-- ---- expressions

-- a literal: no import, no failure, nothing that is pending
abbrev pub IsLiteral : Atom → Type 0
IsLiteral (atom.Whole z) = IsSafe z
IsLiteral (atom.Big z) = (negsuc (2 ^ 127 - 2) ≤ℤ z) × (z ≤ℤ pos (2 ^ 127 - 1))
IsLiteral (atom.Date text) = IsDate text
IsLiteral (atom.Import text) = ⊥
IsLiteral (atom.Failed digest) = ⊥
IsLiteral atom.Pending = ⊥
IsLiteral a = Unit {0}

-- no name of a list is another
abbrev pub Differs : List ℕ → List (List ℕ) → Type 0
Differs name names = AllByRecursion (λ other. name ≢ other) names

abbrev pub NoneTwice : List (List ℕ) → Type 0
NoneTwice [] = Unit {0}
NoneTwice (name ∷ names) = Differs name names × NoneTwice names

abbrev pub names_of : Props → List (List ℕ)
names_of term.no_props = []
names_of (term.prop_and name t rest) = name ∷ names_of rest

-- beside children no attribute is named so
abbrev pub HasChildrenOnce : List (List ℕ) → Terms → Type 0
HasChildrenOnce names term.no_terms = Unit {0}
HasChildrenOnce names (term.term_and t rest) = Differs (codes "children") names

abbrev pub IsTagOf : Ground → Tag → Type 0
IsTagOf g (tag.Server number) = IsServerAt g number
IsTagOf g (tag.Client number) = IsClientAt g number
IsTagOf g t = Unit {0}

-- numbers and names are those of declarations, of sources and of so many variables in scope, and no name stands twice
abbrev mutual
  pub IsLawful : Ground → ℕ → Term → Type 0
  IsLawful g scope (term.let_in name value rest) = IsLawful g scope value × IsLawful g (suc scope) rest
  IsLawful g scope (term.if_else test yes_one other) = IsLawful g scope test × IsLawful g scope yes_one × IsLawful g scope other
  IsLawful g scope (term.for_in name over give) = IsLawful g scope over × IsLawful g (suc scope) give
  IsLawful g scope (term.throw value) = IsLawful g scope value
  IsLawful g scope (term.member of name) = IsLawful g scope of
  IsLawful g scope (term.index of at_one) = IsLawful g scope of × IsLawful g scope at_one
  IsLawful g scope (term.atom a) = IsLiteral a
  IsLawful g scope (term.variable number) = number < scope
  IsLawful g scope (term.client number) = IsClientAt g number
  IsLawful g scope (term.array items) = AreLawful g scope items
  IsLawful g scope (term.object props) = NoneTwice (names_of props) × PropsLawful g scope props
  IsLawful g scope (term.map pairs) = PairsLawful g scope pairs
  IsLawful g scope (term.set items) = AreLawful g scope items
  IsLawful g scope (term.source name) = is_some (source_named g name) ≡ true
  IsLawful g scope (term.promise name) = is_some (source_named g name) ≡ true
  IsLawful g scope (term.stream name) = is_some (stream_named g name) ≡ true
  IsLawful g scope (term.action number) = IsActionAt g number
  IsLawful g scope (term.action_with number bound) = IsActionAt g number × AreLawful g scope bound
  IsLawful g scope (term.paren inside) = IsLawful g scope inside
  IsLawful g scope (term.binary op left right) = IsLawful g scope left × IsLawful g scope right
  IsLawful g scope (term.element t attrs children) = IsTagOf g t × NoneTwice (names_of attrs) × HasChildrenOnce (names_of attrs) children × PropsLawful g scope attrs × AreLawful g scope children

  pub AreLawful : Ground → ℕ → Terms → Type 0
  AreLawful g scope term.no_terms = Unit {0}
  AreLawful g scope (term.term_and t rest) = IsLawful g scope t × AreLawful g scope rest

  pub PropsLawful : Ground → ℕ → Props → Type 0
  PropsLawful g scope term.no_props = Unit {0}
  PropsLawful g scope (term.prop_and name t rest) = IsLawful g scope t × PropsLawful g scope rest

  pub PairsLawful : Ground → ℕ → Pairs → Type 0
  PairsLawful g scope term.no_pairs = Unit {0}
  PairsLawful g scope (term.pair_and key value rest) = IsLawful g scope key × IsLawful g scope value × PairsLawful g scope rest

-- ---- programs with their data

abbrev pub IsDeclared : Ground → Declared → Type 0
IsDeclared g (declared.Server name params body) = NoneTwice params × IsLawful g (length params) (term_of body)
IsDeclared g (declared.Client name import) = IsImport import
IsDeclared g (declared.Action name params body) = NoneTwice params × IsLawful g (length params) (term_of body)

-- the components' names, and those of the actions
abbrev pub components : List Declared → List (List ℕ)
components [] = []
components (declared.Server name params body ∷ all) = name ∷ components all
components (declared.Client name import ∷ all) = name ∷ components all
components (declared.Action name params body ∷ all) = components all

abbrev pub actions : List Declared → List (List ℕ)
actions [] = []
actions (declared.Action name params body ∷ all) = name ∷ actions all
actions (d ∷ all) = actions all

-- what an argument may hold: no symbol besides what no source's value holds
abbrev pub IsArgumentSlot : Slot → Type 0
IsArgumentSlot (slot.Atom (atom.Symbol text)) = ⊥
IsArgumentSlot s = IsSourceSlot s

abbrev pub IsArgumentKind : Node → Type 0
IsArgumentKind (node.Element t key props) = ⊥
IsArgumentKind (node.Stream flow items end) = ⊥
IsArgumentKind n = Unit {0}

-- the array of so many arguments
pub record AreArguments (count : ℕ) (args : Graph) : Type 0 where
  pub valid : IsValid args
  pub nodes : All (λ n. IsArgumentKind n × All IsArgumentSlot (slots_of n)) args.nodes
  pub root : ℕ
  pub is_root : args.root ≡ slot.Node root
  pub items : List Slot
  pub is_array : slice_get args.nodes root ≡ Some (node.Array items)
  pub one_each : length items ≡ count

abbrev pub IsRoot : Ground → Root → Type 0
IsRoot g root.App = Unit {0}
IsRoot g (root.Call number args) = (count : ℕ) × IsActionOf g number count × AreArguments count args

pub record IsValidGround (g : Ground) : Type 0 where
  pub each : All (IsDeclared g) g.program.declared
  pub one_component : NoneTwice (components g.program.declared)
  pub one_action : NoneTwice (actions g.program.declared)
  pub has_app : (number : ℕ) × ((params : List (List ℕ)) × ((body : Expr) × (slice_get g.program.declared number ≡ Some (declared.Server (codes "App") params body))))
  pub script : IsScript g.script
  pub first : IsRoot g g.root

-- ---- the nodes that a body makes

-- an atom that a value may hold: no failure, nothing that is pending, and no import but that of a declared client component
abbrev pub IsValueAtom : Ground → Atom → Type 0
IsValueAtom g (atom.Import text) = (client : ℕ) × IsClientAt g client × (import_at g client ≡ text)
IsValueAtom g (atom.Failed digest) = ⊥
IsValueAtom g atom.Pending = ⊥
IsValueAtom g a = IsValidAtom a

-- a value whose numbers are in range, and whose node made is found
abbrev pub IsNamed : Ground → (Name → Option Made) → Tree → Type 0
IsNamed g find (tree.Atom a) = IsValueAtom g a
IsNamed g find (tree.Made n) = (m : Made) × (find n ≡ Some m)
IsNamed g find (tree.FromSource source n) = (o : Outcome) × (slice_get (outcomes g) source ≡ Some o) × (n < length (outcome_nodes o))
IsNamed g find (tree.Promise source) = source < length g.script.sources
IsNamed g find (tree.Stream stream) = stream < length g.script.streams
IsNamed g find (tree.Action action) = IsActionAt g action

-- a value that is a node made of a kind
abbrev pub MadeAs : (Name → Option Made) → (MadeKind → Type 0) → Tree → Type 0
MadeAs find P (tree.Made n) = (m : Made) × (find n ≡ Some m) × P m.kind
MadeAs find P t = ⊥

abbrev pub IsArrayKind : MadeKind → Type 0
IsArrayKind kind.Array = Unit {0}
IsArrayKind k = ⊥

abbrev pub IsObjectKind : MadeKind → Type 0
IsObjectKind (kind.Object names) = Unit {0}
IsObjectKind k = ⊥

abbrev pub IsPromiseKind : MadeKind → Type 0
IsPromiseKind kind.Promise = Unit {0}
IsPromiseKind k = ⊥

-- null, or a text
abbrev pub IsKey : Tree → Type 0
IsKey (tree.Atom atom.Null) = Unit {0}
IsKey (tree.Atom (atom.Text text)) = Unit {0}
IsKey t = ⊥

abbrev pub MadeWell : Ground → (Name → Option Made) → MadeKind → List Tree → Type 0
MadeWell g find kind.Array slots = Unit {0}
MadeWell g find (kind.Object names) slots = Ascend names × (length slots ≡ length names)
MadeWell g find kind.Map slots = (entries : ℕ) × (length slots ≡ entries + entries)
MadeWell g find kind.Set slots = Unit {0}
MadeWell g find kind.Element slots = (tag : Tree) × ((key : Tree) × ((props : Tree) × (slots ≡ tag ∷ key ∷ props ∷ []) × IsKey key))
MadeWell g find (kind.Server number) slots = IsServerAt g number × ((key : Tree) × ((props : Tree) × (slots ≡ key ∷ props ∷ []) × IsKey key × MadeAs find IsObjectKind props))
MadeWell g find kind.Promise slots = (array : Tree) × (slots ≡ array ∷ []) × MadeAs find IsArrayKind array
MadeWell g find (kind.Bound action) slots = IsActionAt g action × ((promise : Tree) × (slots ≡ promise ∷ []) × MadeAs find IsPromiseKind promise)

abbrev pub IsMade : Ground → List (List Made) → Made → Type 0
IsMade g tables m = AllByRecursion (IsNamed g (made_in tables)) m.slots × MadeWell g (made_in tables) m.kind m.slots

abbrev pub TablesMade : Ground → List (List Made) → Type 0
TablesMade g tables = AllByRecursion (AllByRecursion (IsMade g tables)) tables

-- the tables of an address: a list for each proper prefix, each node of which is made well and leads back
pub record AreTables (g : Ground) (address : List ℕ) (tables : List (List Made)) : Type 0 where
  pub back : TablesLeadBack [] address tables
  pub made : TablesMade g tables

-- a body's nodes are made well, and what it gives is named there
pub record BodyMade (g : Ground) (tables : List (List Made)) (b : Run Tree) : Type 0 where
  pub nodes : AllByRecursion (IsMade g (tables ++ b.after.made ∷ [])) b.after.made
  pub value : (t : Tree) → b.step ≡ gave t → IsNamed g (made_in (tables ++ b.after.made ∷ [])) t

-- ---- what is there

-- a value whose numbers are in range, and whose node made is there
abbrev pub IsKnown : Ground → List Bool → Tree → Type 0
IsKnown g settled t = IsNamed g (node_at g settled) t

-- of a value that is reached: what it shows is there
abbrev pub ShowsKnown : Ground → List Bool → Value → Type 0
ShowsKnown g settled (shown t) = IsKnown g settled t
ShowsKnown g settled (of_job (known slot)) = IsKnown g settled (argument_in g slot)
ShowsKnown g settled v = Unit {0}

-- ---- jobs

-- a slot of the arguments
abbrev pub IsArgument : Root → Slot → Type 0
IsArgument root.App slot = ⊥
IsArgument (root.Call action args) slot = IsValidSlot (length args.nodes) slot × IsArgumentSlot slot

abbrev pub IsWhat : Ground → List ℕ → What → Type 0
IsWhat g address what.Root = address ≡ []
IsWhat g address (what.Element element tables) = (address ≡ inner element) × AreTables g address tables.made × (is_some (element_of (made_in tables.made element)) ≡ true)
IsWhat g address (what.Promise source) = (address ≡ []) × (source < length g.script.sources)
IsWhat g address (what.Known slot) = (address ≡ []) × IsArgument g.root slot
IsWhat g address (what.Item stream index) = (address ≡ []) × ((f : Flowing) × (slice_get g.script.streams stream ≡ Some f) × (index < length f.items))
IsWhat g address (what.Last stream) = (address ≡ []) × (stream < length g.script.streams)

-- a job that belongs: its numbers are in range, and its element is one of its tables
pub record Belongs (g : Ground) (job : Job) : Type 0 where
  pub is_what : IsWhat g job.address job.what
  pub seen : length job.seen.settled ≡ length g.script.sources
