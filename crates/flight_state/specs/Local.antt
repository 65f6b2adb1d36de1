-- What writing the value of a finished task gives, said by the writer's own arguments alone: homes by references, ids
-- from a range, rows of their own.
use Rattle.std.specs.Prelude.{ℕ, suc, ◌≡◌, ◌≢◌, ◌<◌, ◌≤◌, ◌⊎◌, if◌then◌else◌, Bool, true, List, [], ◌∷◌, ◌++◌, map, Option, Some, None, option_and_then, slice_get}
use Rattle.std.specs.List.{AllZip}
use Rattle.flight_value.specs.Store as store
use Rattle.flight_value.specs.Store.{Label, Shape, Paired}
use Rattle.flight_value.specs.declared.graph.Atom.{Atom}
use Rattle.flight_value.specs.declared.graph.Atom.TheVariants as atom
use Rattle.flight_value.specs.declared.key.Key.{Key}
use Rattle.flight_value.specs.declared.key.Key.TheVariants as key
use Rattle.flight_value.specs.declared.made.Made.{Made}
use Rattle.flight_value.specs.declared.made.Tree.{Tree}
use Rattle.flight_value.specs.declared.made.Tree.TheVariants as tree
use Rattle.flight_value.specs.declared.name.Name.{Name}
use Rattle.flight_syntax.specs.declared.script.Flowing.{Flowing}
use Rattle.flight_text.specs.declared.mark.Ref.{Ref}
use Rattle.flight_row.specs.declared.row.RowKind.{RowKind}
use Rattle.flight_row.specs.declared.row.RowKind.TheVariants as row
use Rattle.flight_render.specs.declared.root.Ground.{Ground}
use Rattle.flight_render.specs.declared.job.What.{What}
use Rattle.flight_render.specs.declared.job.What.TheVariants as what
use Rattle.flight_render.specs.Run.{gave, threw, End}
use Rattle.flight_render.specs.Values.{import_at}
use Rattle.flight_render.specs.Bodies.{node_at, tables_for}
use Rattle.flight_render.specs.Jobs.{Job, element, Value, shown, of_job, is_server, comes, value_of, target_of}
use Rattle.flight_render.specs.Plain.{NodeIs, made_shape, shape_at}
use Rattle.flight_value.specs.Listed.{In, Distinct}
use Rattle.flight_render.specs.Costs.{address_of, Rendered}
use Rattle.flight_render.specs.Attempt.{job_for}
use Rattle.flight_render.specs.Laws.{IsLasting}
use Rattle.flight_meaning.specs.declared.place.Place.{Place}
use Rattle.flight_meaning.specs.declared.place.Place.TheVariants as place
use Rattle.flight_meaning.specs.declared.place.PlaceTree.{PlaceTree}
use Rattle.flight_meaning.specs.declared.place.PlacedRow.{PlacedRow}
use Rattle.flight_meaning.specs.Linked.{rows_of, Spot, place_at, first_place}
use Rattle.flight_meaning.specs.Resolve.{Path, step, to, found, Ends, IsStop}
use Rattle.flight_meaning.specs.Meaning as wire
use Rattle.flight_meaning.specs.Meaning.{digest_at, Written, at_place, Identity, made_at, promise_of, stream_of, action_of, HasShape}
use Rattle.flight_state.specs.State.{State, Task, stream_for, IsAlone, next_what, job_at}
use Rattle.flight_state.specs.Spells.{CountedAt, IsLone}
use Rattle.flight_state.specs.Fits.{IsAtomRow}
use Rattle.flight_state.specs.Steps.{DoneStep, RefersTo}
use Rattle.flight_state.specs.Emits.{Meant, HasValueRow, IsPlain, IsItem}

-- ---- what the writer can see

-- the nodes of the bodies and tables, how the bodies beside the first ended, and the tables of server elements
pub record Seen : Type 0 where
  pub look : Name → Option Made
  pub ends : Name → Option End
  pub tables : Name → List (List Made)

-- a node made is seen
abbrev pub IsSeen : Seen → Value → Type 0
IsSeen seen (shown (tree.Made n)) = (m : Made) × (seen.look n ≡ Some m)
IsSeen seen v = Unit {0}

abbrev pub job_seen : Seen → Value → Option Job
job_seen seen (of_job j) = Some j
job_seen seen (shown (tree.Made n)) = if is_server (seen.look n) then Some (element n) else None
job_seen seen v = None

-- the node at a key, before anything settles
abbrev pub shape_seen : Ground → Seen → Key → Option (Shape Value)
shape_seen g seen (key.Made n) = option_and_then (made_shape g) (seen.look n)
shape_seen g seen k = shape_at g [] k

-- what a job comes to by an end
abbrev pub value_seen : Ground → Seen → Job → End → Value
value_seen g seen j end = value_of g [] j end

-- what is met from a value on
pub data Met (g : Ground) (seen : Seen) (first : Value) : Value → Type 0 where
  at_first : Met g seen first first
  in_slot : {v w : Value} {k : Key} {shape : Shape Value} → Met g seen first v → IsSeen seen v → job_seen seen v ≡ None → target_of v ≡ store.node_at k → IsLasting k → shape_seen g seen k ≡ Some shape → In w shape.slots → Met g seen first w
  in_place : {v : Value} (n : Name) (end : End) → Met g seen first v → IsSeen seen v → job_seen seen v ≡ Some (element n) → seen.ends n ≡ Some end → Met g seen first (value_seen g seen (element n) end)

-- ---- homes

-- where a node is at home: the id of a row, and the names of the steps from its root
abbrev pub Homes : Type 0
Homes = List (Key × Ref)

-- the tasks that are born: the ids of their rows, and what they are for
abbrev pub Births : Type 0
Births = List (ℕ × What)

-- what a reference names: the promise or the server reference of a row, or a place
abbrev pub NamesAt : Label → List PlacedRow → Ref → Identity → Type 0
NamesAt store.promise rows a i = i ≡ promise_of a.id
NamesAt (store.action name) rows a i = i ≡ action_of a.id
NamesAt label rows a i = (s : Spot) × (i ≡ made_at s) × Ends rows (to a.id a.path) (found s)

abbrev pub Names : Ground → Seen → List PlacedRow → Key → Ref → Identity → Type 0
Names g seen rows (key.Stream stream) a i = i ≡ stream_of a.id
Names g seen rows k a i = (shape : Shape Value) × (shape_seen g seen k ≡ Some shape) × NamesAt shape.label rows a i

-- a place refers to a home
abbrev pub RefersBy : Label → Ref → Place → Type 0
RefersBy store.promise a at = at ≡ place.Promise a.id
RefersBy (store.action name) a at = at ≡ place.Action a.id
RefersBy label a at = (at ≡ place.Value a) ⊎ ((at ≡ place.Lazy a.id) × (a.path ≡ []))

-- the atom of an import's row, and of a symbol's
abbrev pub IsAtomOf : Ground → Key → Atom → Type 0
IsAtomOf g (key.Client client) a = a ≡ atom.Import (import_at g client)
IsAtomOf g (key.Symbol name) a = a ≡ atom.Symbol name
IsAtomOf g k a = ⊥

-- ---- how what is meant is written: at a place that may be a home, or at one of a stream's row, which is none

pub data WrittenHere (g : Ground) (seen : Seen) (homes more : Homes) (rows : List PlacedRow) (s : Option Spot) (at : Place) : Value → Type 0 where
  -- an atom in place
  an_atom : {v : Value} → (a : Atom) → at ≡ place.Atom a → target_of v ≡ store.atom a → ¬ (a ≡ atom.Pending) → WrittenHere g seen homes more rows s at v
  -- a reference to a row that is an atom: a text, a failure, an import or a symbol that is written now
  an_atom_row : {v : Value} → (a : Atom) (id : ℕ) → RefersTo id at → IsAtomRow rows id a → target_of v ≡ store.atom a → ¬ (a ≡ atom.Pending) → WrittenHere g seen homes more rows s at v
  -- a reference to the row of an import or of a symbol
  a_known_atom : {v : Value} → (a : Atom) (k : Key) (r : Ref) → RefersTo r.id at → In (k, r) homes → IsAtomOf g k a → target_of v ≡ store.atom a → WrittenHere g seen homes more rows s at v
  -- a node at its home
  its_home : {v : Value} → (k : Key) (r : Ref) (spot : Spot) → s ≡ Some spot → IsSeen seen v → job_seen seen v ≡ None → target_of v ≡ store.node_at k → IsLasting k → In (k, r) more → Names g seen rows k r (made_at spot) → WrittenHere g seen homes more rows s at v
  -- a reference to a node's home
  a_reference : {v : Value} → (k : Key) (r : Ref) (shape : Shape Value) → IsSeen seen v → job_seen seen v ≡ None → target_of v ≡ store.node_at k → IsLasting k → In (k, r) homes → shape_seen g seen k ≡ Some shape → RefersBy shape.label r at → WrittenHere g seen homes more rows s at v
  -- a reference to the row that opens a stream
  a_stream : {v : Value} → (stream : ℕ) (r : Ref) → target_of v ≡ store.node_at (key.Stream stream) → In (key.Stream stream, r) homes → RefersTo r.id at → WrittenHere g seen homes more rows s at v
  -- a reference to the row of a server element's task
  a_task : {v : Value} → (n : Name) (r : Ref) → IsSeen seen v → job_seen seen v ≡ Some (element n) → In (key.Server n, r) homes → RefersTo r.id at → WrittenHere g seen homes more rows s at v
  -- what a server element gives, in its place
  what_is_given : {v : Value} → (n : Name) (end : End) → IsSeen seen v → job_seen seen v ≡ Some (element n) → seen.ends n ≡ Some end → WrittenHere g seen homes more rows s at (value_seen g seen (element n) end) → WrittenHere g seen homes more rows s at v

-- a slot of a new node
pub data MeantHere (g : Ground) (seen : Seen) (rows : List PlacedRow) (births : Births) (meant : Meant) (v : Value) : Written → Type 0 where
  at_spot : (s : Spot) → In (s, v) meant → MeantHere g seen rows births meant v (at_place s)
  at_row : (id : ℕ) → HasValueRow rows id → In (first_place id, v) meant → MeantHere g seen rows births meant v (wire.value_of id)
  at_birth : (id : ℕ) (w : What) → In (id, w) births → IsAlone w → IsSeen seen v → job_seen seen v ≡ Some (job_for g w) → MeantHere g seen rows births meant v (wire.value_of id)

-- a node is written whole at its new home
pub record NodeHere (g : Ground) (seen : Seen) (rows : List PlacedRow) (births : Births) (meant : Meant) (k : Key) (r : Ref) : Type 0 where
  pub identity : Identity
  pub names : Names g seen rows k r identity
  pub lone : IsLone identity
  pub here : Shape Value
  pub there : Shape Written
  pub is_here : shape_seen g seen k ≡ Some here
  pub is_there : HasShape rows identity there
  pub labels : here.label ≡ there.label
  pub slots : AllZip (MeantHere g seen rows births meant) here.slots there.slots

-- a stream is opened by the only row of its id, and the task of its first item is born
pub record StreamHere (g : Ground) (rows : List PlacedRow) (births : Births) (stream : ℕ) (r : Ref) : Type 0 where
  pub flows : Flowing
  pub is_stream : slice_get g.script.streams stream ≡ Some flows
  pub opener : PlaceTree
  pub is_row : rows_of r.id rows ≡ opener ∷ []
  pub opens : opener.kind ≡ row.Open flows.flow
  pub born : In (r.id, next_what stream flows.items 0) births

-- the task of a server element is born
pub record TaskHere (g : Ground) (births : Births) (n : Name) (r : Ref) : Type 0 where
  pub what : What
  pub born : In (r.id, what) births
  pub is_job : job_for g what ≡ element n

abbrev pub HomeHere : Ground → Seen → List PlacedRow → Births → Meant → Key → Ref → Type 0
HomeHere g seen rows births meant (key.Stream stream) r = StreamHere g rows births stream r
HomeHere g seen rows births meant (key.Server n) r = TaskHere g births n r
HomeHere g seen rows births meant (key.Client client) r = IsAtomRow rows r.id (atom.Import (import_at g client))
HomeHere g seen rows births meant (key.Symbol name) r = IsAtomRow rows r.id (atom.Symbol name)
HomeHere g seen rows births meant k r = NodeHere g seen rows births meant k r

-- ---- births

-- what a task that is born is for was met
abbrev pub MetBy : Ground → Seen → Value → Job → Option ℕ → Type 0
MetBy g seen first j None = (v : Value) × Met g seen first v × IsSeen seen v × (job_seen seen v ≡ Some j)
MetBy g seen first j (Some stream) = (v : Value) × Met g seen first v × (target_of v ≡ store.node_at (key.Stream stream))

-- the task of a server element that is seen has its tables
abbrev pub TablesHere : Seen → What → Type 0
TablesHere seen (what.Element n tables) = ((m : Made) × (seen.look n ≡ Some m) × (is_server (Some m) ≡ true)) × (tables.made ≡ seen.tables n)
TablesHere seen w = Unit {0}

abbrev pub IsFresh : ℕ → ℕ → ℕ → Type 0
IsFresh start next n = (start ≤ n) × (n < next)

-- a node that is no place of a row has a fresh id
abbrev pub IsNewHome : ℕ → ℕ → Identity → Type 0
IsNewHome start next (made_at s) = Unit {0}
IsNewHome start next (promise_of id) = IsFresh start next id
IsNewHome start next (stream_of id) = IsFresh start next id
IsNewHome start next (action_of id) = IsFresh start next id

-- an id has no row here, or one, which closes no stream
abbrev pub IsOnce : List PlaceTree → Type 0
IsOnce [] = Unit {0}
IsOnce (t ∷ []) = ¬ (t.kind ≡ row.Close)
IsOnce trees = ⊥

abbrev pub IsRowKey : Key → Type 0
IsRowKey (key.Client client) = Unit {0}
IsRowKey (key.Symbol name) = Unit {0}
IsRowKey (key.Server n) = Unit {0}
IsRowKey k = ⊥

abbrev pub IsNodeKey : Key → Type 0
IsNodeKey (key.Client client) = ⊥
IsNodeKey (key.Symbol name) = ⊥
IsNodeKey (key.Server n) = ⊥
IsNodeKey k = Unit {0}

-- ---- the whole

-- the row of the task itself, where it has one
abbrev pub IsOwnRow : Option ℕ → ℕ → Type 0
IsOwnRow None n = ⊥
IsOwnRow (Some id) n = n ≡ id

-- The rows, homes, births and ids that a value adds. Among the rows is that of the task itself, where it has one.
pub record AddsHere (g : Ground) (seen : Seen) (first : Value) (own : Option ℕ) (start next : ℕ) (old new : Homes) (rows : List PlacedRow) (births : Births) (meant : Meant) : Type 0 where
  pub up : start ≤ next
  -- the rows
  pub once : (n : ℕ) → IsOnce (rows_of n rows)
  pub row_fresh : (n : ℕ) → rows_of n rows ≢ [] → IsOwnRow own n ⊎ IsFresh start next n
  pub held : (s : Spot) (at : Place) → place_at rows s ≡ Some at → IsPlain at ⊎ ((v : Value) × In (s, v) meant)
  -- the homes
  pub more : Homes
  pub homes : new ≡ old ++ more
  pub new_key : (k : Key) (a b : Ref) → In (k, a) more → In (k, b) old → ⊥
  pub one_home : (k : Key) (a b : Ref) → In (k, a) more → In (k, b) more → a ≡ b
  pub one_key : (k l : Key) (a b : Ref) (i : Identity) → In (k, a) more → In (l, b) more → Names g seen rows k a i → Names g seen rows l b i → k ≡ l
  pub home_fresh : (k : Key) (a : Ref) (i : Identity) → In (k, a) more → Names g seen rows k a i → IsNewHome start next i
  pub row_fresh_key : (k : Key) (a : Ref) → IsRowKey k → In (k, a) more → IsFresh start next a.id
  pub one_row_key : (k l : Key) (a b : Ref) → IsRowKey k → IsRowKey l → In (k, a) more → In (l, b) more → a.id ≡ b.id → k ≡ l
  pub is_home : (k : Key) (a : Ref) → In (k, a) more → HomeHere g seen rows births meant k a
  -- what is written
  pub places : (s : Spot) (v : Value) → In (s, v) meant → (at : Place) × (place_at rows s ≡ Some at) × WrittenHere g seen new more rows (Some s) at v
  -- the births
  pub born_once : Distinct (map (λ b. b.0) births)
  pub born_fresh : (u : ℕ) (w : What) → In (u, w) births → IsFresh start next u
  pub born_met : (u : ℕ) (w : What) → In (u, w) births → MetBy g seen first (job_for g w) (stream_for w)
  pub born_tables : (u : ℕ) (w : What) → In (u, w) births → TablesHere seen w
  pub unwritten : (u : ℕ) (w : What) → In (u, w) births → IsAlone w → rows_of u rows ≡ []
  pub for_stream : (u : ℕ) (w : What) (stream : ℕ) → In (u, w) births → stream_for w ≡ Some stream → (a : Ref) × In (key.Stream stream, a) more × (a.id ≡ u)

-- What the value of a task with a row of its own adds, where `id` is that row.
pub record EmitsHere (g : Ground) (seen : Seen) (first : Value) (id start next : ℕ) (old new : Homes) (rows : List PlacedRow) (births : Births) (meant : Meant) : Type 0 where
  pub adds : AddsHere g seen first (Some id) start next old new rows births meant
  pub own : HasValueRow rows id × In (first_place id, first) meant

-- what is meant at the places of a stream's row
abbrev pub MeantThere : Type 0
MeantThere = List (ℕ × Value)

-- What the row of a stream is by the end of its task, and the task that follows: an item, the final value, or a failure,
-- which brings nothing else.
pub data RowHere (g : Ground) (end : End) (task : What) (tree : PlaceTree) (meant : MeantThere) (births : Births) : Option What → Type 0 where
  an_item : (f : Flowing) (stream index : ℕ) (value : Tree) → slice_get g.script.streams stream ≡ Some f → task ≡ what.Item stream index → end ≡ gave value → IsItem tree.kind → In (0, shown value) meant → RowHere g end task tree meant births (Some (next_what stream f.items (suc index)))
  its_final : (stream : ℕ) (value : Tree) → task ≡ what.Last stream → end ≡ gave value → tree.kind ≡ row.Close → In (0, shown value) meant → RowHere g end task tree meant births None
  its_failure : (digest : List ℕ) → end ≡ threw digest → tree.kind ≡ row.Error → digest_at (slice_get tree.places 0) ≡ digest → births ≡ [] → RowHere g end task tree meant births None

-- What the value of a stream's task adds, with the row of the stream.
pub record StreamsHere (g : Ground) (seen : Seen) (first : Value) (end : End) (task : What) (start next : ℕ) (old new : Homes) (tree : PlaceTree) (rows : List PlacedRow) (follower : Option What) (births : Births) (there : MeantThere) (meant : Meant) : Type 0 where
  pub adds : AddsHere g seen first None start next old new rows births meant
  pub is_row : RowHere g end task tree there births follower
  pub places : (n : ℕ) (v : Value) → In (n, v) there → (at : Place) × (slice_get tree.places n ≡ Some at) × WrittenHere g seen new adds.more rows None at v
  pub held : (n : ℕ) (at : Place) → slice_get tree.places n ≡ Some at → IsPlain at ⊎ ((v : Value) × In (n, v) there)

-- ---- what joins it to a state

-- what is seen is so in sequential rendering
pub record Shows (g : Ground) (settled : List Bool) (seen : Seen) : Type 0 where
  pub nodes : (n : Name) (m : Made) → seen.look n ≡ Some m → node_at g settled n ≡ Some m
  pub ends : (n : Name) (end : End) → seen.ends n ≡ Some end → comes g settled (element n) ≡ Some end
  pub tables : (n : Name) (m : Made) → seen.look n ≡ Some m → is_server (Some m) ≡ true → seen.tables n ≡ tables_for g settled n

-- a home that the writer keeps is one of the state
pub data TiedTo (g : Ground) (st : State) : Key → Ref → Type 0 where
  node_tie : {k : Key} {a : Ref} → (shape : Shape Value) (i : Identity) → IsLasting k → NodeIs g st.settled k shape → Paired st.homes k i → NamesAt shape.label st.rows a i → TiedTo g st k a
  stream_tie : {a : Ref} → (stream : ℕ) → Paired st.homes (key.Stream stream) (stream_of a.id) → TiedTo g st (key.Stream stream) a
  row_tie : {k : Key} {a : Ref} → IsRowKey k → In (k, a.id) st.others → TiedTo g st k a

pub record Tied (g : Ground) (st : State) (homes : Homes) : Type 0 where
  pub tie : (k : Key) (a : Ref) → In (k, a) homes → TiedTo g st k a
  pub back : (k : Key) (i : Identity) → Paired st.homes k i → (a : Ref) × In (k, a) homes
  pub back_row : (k : Key) (id : ℕ) → In (k, id) st.others → (a : Ref) × In (k, a) homes

-- the row in which a node stands
abbrev pub id_of : Identity → ℕ
id_of (made_at s) = s.id
id_of (promise_of id) = id
id_of (stream_of id) = id
id_of (action_of id) = id

-- every id is below the next
pub record Below (st : State) (start : ℕ) : Type 0 where
  pub rows : (n : ℕ) → rows_of n st.rows ≢ [] → n < start
  pub tasks : (t : Task) → In t st.tasks → t.id < start
  pub homes : (k : Key) (i : Identity) → Paired st.homes k i → id_of i < start
  pub others : (k : Key) (id : ℕ) → In (k, id) st.others → id < start

-- What a request does with it: before the rows and births of the value stand those of a stream's task.
pub record Adopts (g : Ground) (old new : State) (number : ℕ) (step : DoneStep g old new number) (seen : Seen) (more : Homes) (front rows : List PlacedRow) (ahead births : Births) : Type 0 where
  pub same_rows : step.rows.0 ≡ front ++ rows
  pub same_births : map (λ t. (t.id, t.what)) step.born ≡ ahead ++ births
  pub into : (k : Key) (i : Identity) → Paired step.homes.0 k i → IsNodeKey k × ((a : Ref) × In (k, a) more × Names g seen rows k a i)
  pub onto : (k : Key) (a : Ref) (i : Identity) → IsNodeKey k → In (k, a) more → Names g seen rows k a i → Paired step.homes.0 k i
  pub into_rows : (k : Key) (id : ℕ) → In (k, id) step.others.0 → IsRowKey k × ((a : Ref) × In (k, a) more × (a.id ≡ id))
  pub onto_rows : (k : Key) (a : Ref) → IsRowKey k → In (k, a) more → In (k, a.id) step.others.0
  -- the costs
  pub own_counted : CountedAt new (address_of (job_at g step.task))
  pub given_counted : (n : Name) (end : End) → seen.ends n ≡ Some end → CountedAt new (address_of (element n))
  pub counted_once : Distinct (map (λ p. p.0) new.counted)
  pub new_counted : (address : List ℕ) (cost : ℕ) → In (address, cost) step.counted.0 → Rendered g new.settled address cost

-- The step of a task with a row of its own, as its writer and the request do it: the homes that the writer keeps and its
-- next id, before and behind.
pub record WritesHere (g : Ground) (old new : State) (number start next : ℕ) (before behind : Homes) : Type 0 where
  pub step : DoneStep g old new number
  pub alone : IsAlone step.task.what
  pub seen : Seen
  pub shows : Shows g old.settled seen
  pub rows : List PlacedRow
  pub births : Births
  pub meant : Meant
  pub local : EmitsHere g seen (value_seen g seen (job_at g step.task) step.end) step.task.id start next before behind rows births meant
  pub adopts : Adopts g old new number step seen local.adds.more [] rows [] births

-- the task that follows in a stream
abbrev pub follower_of : ℕ → Option What → Births
follower_of id None = []
follower_of id (Some w) = (id, w) ∷ []

abbrev pub row_of : ℕ → PlaceTree → PlacedRow
row_of id tree = record { id = id; tree = tree }

-- The step of a stream's task, as its writer and the request do it.
pub record StreamsOn (g : Ground) (old new : State) (number start next : ℕ) (before behind : Homes) : Type 0 where
  pub step : DoneStep g old new number
  pub stream : ℕ
  pub of_stream : stream_for step.task.what ≡ Some stream
  pub seen : Seen
  pub shows : Shows g old.settled seen
  pub tree : PlaceTree
  pub rows : List PlacedRow
  pub follower : Option What
  pub births : Births
  pub there : MeantThere
  pub meant : Meant
  pub local : StreamsHere g seen (value_seen g seen (job_at g step.task) step.end) step.end step.task.what start next before behind tree rows follower births there meant
  pub adopts : Adopts g old new number step seen local.adds.more (row_of step.task.id tree ∷ []) rows (follower_of step.task.id follower) births

-- what is meant at all places of the step's rows, where the row of the stream is the last of its id
abbrev pub all_meant : ℕ → ℕ → MeantThere → Meant → Meant
all_meant id nth there meant = map (λ p. (record { id = id; nth = nth; at = p.0 }, p.1)) there ++ meant

-- ---- names within a row

-- no row that opens a stream
abbrev pub HasValue : RowKind → Type 0
HasValue (row.Open flow) = ⊥
HasValue kind = Unit {0}

-- from one place of a row down to another, by the names of steps
abbrev pub StepsTo : List Place → ℕ → Path → ℕ → Type 0
StepsTo places at [] last = at ≡ last
StepsTo places at (name ∷ path) last = (above : Place) × (below : ℕ) × (slice_get places at ≡ Some above) × (step above name ≡ Some below) × StepsTo places below path last

-- a place at which a walk ends
abbrev pub EndsHere : List Place → ℕ → Type 0
EndsHere places n = (at : Place) × (slice_get places n ≡ Some at) × IsStop at
