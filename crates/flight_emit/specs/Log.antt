-- What writing a value adds, one act after another.
use Rattle.std.specs.Prelude.{ℕ, suc, ◌+◌, ◌^◌, ◌≤◌, ◌≡◌, List, [], ◌∷◌, ◌++◌, map, Option, Some, None, slice_get}
use Rattle.std.specs.List.{AllZip}
use Rattle.json.specs.Token.{Token}
use Rattle.flight_value.specs.Listed.{In}
use Rattle.flight_value.specs.Store as store
use Rattle.flight_value.specs.Store.{Label, Shape}
use Rattle.flight_value.specs.declared.graph.Atom.{Atom}
use Rattle.flight_value.specs.declared.key.Key.{Key}
use Rattle.flight_value.specs.declared.key.Key.TheVariants as key
use Rattle.flight_value.specs.declared.made.Tree.TheVariants as tree
use Rattle.flight_syntax.specs.declared.script.Flowing.{Flowing}
use Rattle.flight_text.specs.declared.mark.Ref.{Ref}
use Rattle.flight_text.specs.Mark.{IsPlace}
use Rattle.flight_row.specs.declared.row.Row.{Row}
use Rattle.flight_row.specs.declared.row.RowKind.{RowKind}
use Rattle.flight_row.specs.declared.row.RowKind.TheVariants as row
use Rattle.flight_home.specs.Homes.{Homes, IsNew}
use Rattle.flight_render.specs.declared.root.Ground.{Ground}
use Rattle.flight_render.specs.declared.job.What.{What}
use Rattle.flight_render.specs.Jobs.{Value, shown, failed, element}
use Rattle.flight_render.specs.Attempt.{job_for}
use Rattle.flight_place.specs.declared.manner.Manner.TheVariants.{Wire}
use Rattle.flight_place.specs.Rows.{IsTree}
use Rattle.flight_meaning.specs.declared.place.Place.{Place}
use Rattle.flight_meaning.specs.declared.place.Place.TheVariants as place
use Rattle.flight_payload.specs.Tree.{places_from}
use Rattle.flight_payload.specs.Rows.{IsRow, HasNoPlaces}
use Rattle.flight_state.specs.State.{IsAlone, next_what}
use Rattle.flight_state.specs.Local.{Seen, IsSeen, job_seen, shape_seen, IsAtomOf, Met, Births, MetBy, TablesHere, IsRowKey}
use Rattle.flight_emit.specs.declared.work.Born.{Born}
use Rattle.flight_emit.specs.declared.work.Due.{Due}
use Rattle.flight_emit.specs.declared.work.Due.TheVariants as due
use Rattle.flight_emit.specs.declared.work.Work.{Work}
use Rattle.flight_emit.specs.Sheet.{leaf, composite, as_object, reference_parts, tree_of, Sheet, filled, opening, root}
use Rattle.flight_emit.specs.Good.{Gives, IsNode, IsLeaf, IsPlainKind}
use Rattle.flight_emit.specs.Whole.{IsBoundPlace, HasOneSlot}

-- ---- acts

-- what a new id is taken for
pub data Taken : Type 0 where
  -- a row of one atom, which may be the home of a key
  atom_row : (home : Option Key) (kind : RowKind) (atom : Atom) → Taken
  -- a row that is still to be written, of a node, or of what a promise holds
  value_row : (node : Key) → Taken
  -- a row that is still to be written, of the entries of a Map or of a Set
  entries_row : (node : Key) → Taken
  -- a task with a row of its own
  task : (home : Key) (what : What) → Taken
  -- the row that opens a stream
  stream_row : (stream : ℕ) (flows : Flowing) → Taken
  -- the row of a server reference
  reference_row : (home : Key) (name : List ℕ) (bound : Value) (place : Place) → Taken

-- a node gets its home in a row that is being written, or an id is taken
pub data Act : Type 0 where
  put : (node : Key) (home : Ref) → Act
  take : (taken : Taken) → Act

abbrev pub home_for : ℕ → Taken → Homes
home_for n (atom_row None kind a) = []
home_for n (atom_row (Some k) kind a) = (k, root n) ∷ []
home_for n (value_row k) = (k, root n) ∷ []
home_for n (entries_row k) = []
home_for n (task k w) = (k, root n) ∷ []
home_for n (stream_row stream flows) = (key.Stream stream, root n) ∷ []
home_for n (reference_row k name v at) = (k, root n) ∷ []

abbrev pub sheet_for : ℕ → Taken → List Sheet
sheet_for n (atom_row home kind a) = filled n kind (leaf None (place.Atom a)) ∷ []
sheet_for n (stream_row stream flows) = opening n flows.flow ∷ []
sheet_for n (reference_row k name v at) = filled n row.Model (composite None as_object (reference_parts v at name)) ∷ []
sheet_for n t = []

abbrev pub birth_for : ℕ → Taken → Births
birth_for n (task k w) = (n, w) ∷ []
birth_for n (stream_row stream flows) = (n, next_what stream flows.items 0) ∷ []
birth_for n t = []

abbrev pub due_for : ℕ → Taken → List Due
due_for n (value_row k) = due.Value n k ∷ []
due_for n (entries_row k) = due.Entries n k ∷ []
due_for n t = []

-- ---- acts one after another, from a next id on

abbrev pub takes : List Act → ℕ
takes [] = 0
takes (put k r ∷ acts) = takes acts
takes (take t ∷ acts) = suc (takes acts)

abbrev pub homes_by : ℕ → List Act → Homes
homes_by n [] = []
homes_by n (put k r ∷ acts) = (k, r) ∷ homes_by n acts
homes_by n (take t ∷ acts) = home_for n t ++ homes_by (suc n) acts

-- the homes in rows that are being written
abbrev pub places_by : List Act → Homes
places_by [] = []
places_by (put k r ∷ acts) = (k, r) ∷ places_by acts
places_by (take t ∷ acts) = places_by acts

abbrev pub sheets_by : ℕ → List Act → List Sheet
sheets_by n [] = []
sheets_by n (put k r ∷ acts) = sheets_by n acts
sheets_by n (take t ∷ acts) = sheet_for n t ++ sheets_by (suc n) acts

abbrev pub births_by : ℕ → List Act → Births
births_by n [] = []
births_by n (put k r ∷ acts) = births_by n acts
births_by n (take t ∷ acts) = birth_for n t ++ births_by (suc n) acts

abbrev pub dues_by : ℕ → List Act → List Due
dues_by n [] = []
dues_by n (put k r ∷ acts) = dues_by n acts
dues_by n (take t ∷ acts) = due_for n t ++ dues_by (suc n) acts

-- ---- acts that fit

-- the value that is the node of a key
abbrev pub value_of_key : Key → Value
value_of_key (key.Made n) = shown (tree.Made n)
value_of_key (key.Source source n) = shown (tree.FromSource source n)
value_of_key (key.Settled source) = shown (tree.Promise source)
value_of_key (key.Stream stream) = shown (tree.Stream stream)
value_of_key (key.Action action) = shown (tree.Action action)
value_of_key k = failed []

-- a node that is met from a value on
pub record IsMetNode (g : Ground) (seen : Seen) (v : Value) (k : Key) : Type 0 where
  pub met : Met g seen v (value_of_key k)
  pub node : IsNode g seen (value_of_key k) k
  pub shape : Shape Value
  pub is_shape : shape_seen g seen k ≡ Some shape

-- the task of a server element, or of what a promise holds
abbrev pub IsTaskFor : Ground → Seen → Key → What → Type 0
IsTaskFor g seen (key.Server n) w = job_for g w ≡ element n
IsTaskFor g seen (key.Stream stream) w = ⊥
IsTaskFor g seen k w = (v : Value) × HasOneSlot g seen k store.promise v × IsSeen seen v × (job_seen seen v ≡ Some (job_for g w))

abbrev pub IsAtomHome : Ground → Option Key → Atom → Type 0
IsAtomHome g None a = Unit {0}
IsAtomHome g (Some k) a = IsRowKey k × IsAtomOf g k a

abbrev pub FitsTaken : Ground → Seen → Value → Homes → Taken → Type 0
FitsTaken g seen v homes (atom_row home kind a) = IsPlainKind kind × IsAtomHome g home a
FitsTaken g seen v homes (value_row k) = IsMetNode g seen v k
FitsTaken g seen v homes (entries_row k) = IsMetNode g seen v k
FitsTaken g seen v homes (task k w) = IsAlone w × MetBy g seen v (job_for g w) None × TablesHere seen w × IsTaskFor g seen k w
FitsTaken g seen v homes (stream_row stream flows) = (slice_get g.script.streams stream ≡ Some flows) × MetBy g seen v (job_for g (next_what stream flows.items 0)) (Some stream)
FitsTaken g seen v homes (reference_row k name w at) = HasOneSlot g seen k (store.action name) w × IsBoundPlace at × ((z : Value) × Gives g seen w z × IsLeaf g seen homes [] at z)

abbrev pub FitsAct : Ground → Seen → Value → Homes → Act → Type 0
FitsAct g seen v homes (put k r) = IsPlace r
FitsAct g seen v homes (take t) = FitsTaken g seen v homes t

abbrev pub FitActs : Ground → Seen → Value → Homes → List Act → Type 0
FitActs g seen v homes [] = Unit {0}
FitActs g seen v homes (act ∷ acts) = FitsAct g seen v homes act × FitActs g seen v homes acts

-- each key is new where it gets its home
abbrev pub AreNew : Homes → Homes → Type 0
AreNew homes [] = Unit {0}
AreNew homes ((k, r) ∷ more) = IsNew k homes × AreNew (homes ++ (k, r) ∷ []) more

-- ---- a writer's work

-- a row holds what is on a sheet
abbrev pub HasSheet : Row → Sheet → Type 0
HasSheet r (filled id kind d) = IsRow id kind r × IsTree Wire r (record { kind = kind; places = places_from 0 (tree_of d) })
HasSheet r (opening id flow) = IsRow id (row.Open flow) r × HasNoPlaces r

abbrev pub births_of : List Born → Births
births_of born = map (λ b. (b.id, b.what)) born

-- the homes of a writer, and its work
pub record Stage : Type 0 where
  pub homes : Homes
  pub next : ℕ
  pub rows : List Row
  pub births : Births
  pub dues : List Due
  pub out : List Token

abbrev pub stage : Homes → Work → Stage
stage homes w = record { homes = homes; next = w.next; rows = w.rows.items; births = births_of w.born.items; dues = w.due.items; out = w.out }

-- what the acts of writing a value add
pub record Grows (g : Ground) (seen : Seen) (v : Value) (acts : List Act) (old new : Stage) : Type 0 where
  pub homes : new.homes ≡ old.homes ++ homes_by old.next acts
  pub next : new.next ≡ old.next + takes acts
  pub added : List Row
  pub rows : new.rows ≡ old.rows ++ added
  pub sheets : AllZip HasSheet added (sheets_by old.next acts)
  pub births : new.births ≡ old.births ++ births_by old.next acts
  pub dues : new.dues ≡ old.dues ++ dues_by old.next acts
  pub below : old.next ≤ 2 ^ 31 → new.next ≤ 2 ^ 31
  pub keys : AreNew old.homes (homes_by old.next acts)
  pub fit : FitActs g seen v new.homes acts

-- an id was taken, and nothing else was done
pub record Took (t : Taken) (old new : Stage) : Type 0 where
  pub homes : new.homes ≡ old.homes ++ home_for old.next t
  pub next : new.next ≡ suc old.next
  pub added : List Row
  pub rows : new.rows ≡ old.rows ++ added
  pub sheets : AllZip HasSheet added (sheet_for old.next t)
  pub births : new.births ≡ old.births ++ birth_for old.next t
  pub dues : new.dues ≡ old.dues ++ due_for old.next t
  pub below : new.next ≤ 2 ^ 31
  pub out : new.out ≡ old.out

-- more was written into the row
abbrev pub Put : List Token → Stage → Stage → Type 0
Put tokens old new = new ≡ record old { out = old.out ++ tokens }

-- each home is a place that has a spelling
abbrev pub ArePlaces : Homes → Type 0
ArePlaces homes = (k : Key) (r : Ref) → In (k, r) homes → IsPlace r

-- homes come after those that were there
abbrev pub Extends : Homes → Homes → Type 0
Extends old new = (more : Homes) × (new ≡ old ++ more)
