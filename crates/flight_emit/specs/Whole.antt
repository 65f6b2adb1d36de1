-- All that the value of a task adds, on paper: sheets, homes, births, and what each new id is for.
use Rattle.std.specs.Prelude.{ℕ, suc, ◌<◌, ◌≡◌, ◌⊎◌, Bool, true, false, List, [], ◌∷◌, ◌++◌, map, Option, Some, None, slice_get}
use Rattle.flight_value.specs.Listed.{In, Distinct}
use Rattle.flight_value.specs.Store as store
use Rattle.flight_value.specs.Store.{Label, Shape}
use Rattle.flight_value.specs.declared.graph.Atom.TheVariants as atom
use Rattle.flight_value.specs.declared.key.Key.{Key}
use Rattle.flight_value.specs.declared.key.Key.TheVariants as key
use Rattle.flight_syntax.specs.declared.script.Flowing.{Flowing}
use Rattle.flight_text.specs.declared.mark.Ref.{Ref}
use Rattle.flight_row.specs.declared.row.RowKind.{RowKind}
use Rattle.flight_row.specs.declared.row.RowKind.TheVariants as row
use Rattle.flight_home.specs.Homes.{Homes, IsNew}
use Rattle.flight_render.specs.declared.root.Ground.{Ground}
use Rattle.flight_render.specs.declared.job.What.{What}
use Rattle.flight_render.specs.Values.{import_at}
use Rattle.flight_render.specs.Jobs.{Value, element}
use Rattle.flight_render.specs.Attempt.{job_for}
use Rattle.flight_meaning.specs.declared.place.Place.{Place}
use Rattle.flight_meaning.specs.declared.place.Place.TheVariants as place
use Rattle.flight_state.specs.State.{stream_for, IsAlone, next_what}
use Rattle.flight_state.specs.Local.{Seen, IsSeen, job_seen, shape_seen, Births, MetBy, TablesHere, IsRowKey}
use Rattle.flight_emit.specs.Sheet.{Drawn, composite, as_object, reference_parts, value_at, Sheet, filled, opening, id_on, homes_on}
use Rattle.flight_emit.specs.Good.{HasAtomRow, IsGoodSheet}

-- ---- new ids

-- what an id was taken for: the key that it is the home of, whether it has a row, and the task that is born under it
pub record Use : Type 0 where
  pub home : Option Key
  pub has_row : Bool
  pub birth : Option What

-- ids count up
abbrev pub ids_from : ℕ → List Use → List (ℕ × Use)
ids_from n [] = []
ids_from n (u ∷ us) = (n, u) ∷ ids_from (suc n) us

-- ---- homes

-- null, or a promise
abbrev pub IsBoundPlace : Place → Type 0
IsBoundPlace at = (at ≡ place.Atom atom.Null) ⊎ ((id : ℕ) × (at ≡ place.Promise id))

-- the node at a key has this label and one slot
abbrev pub HasOneSlot : Ground → Seen → Key → Label → Value → Type 0
HasOneSlot g seen k label v = shape_seen g seen k ≡ Some (record { label = label; slots = v ∷ [] })

-- Where a node is at home: at a place of a row; or under an id of its own, whose row or task is there.
pub data HasNodeHome (g : Ground) (seen : Seen) (sheets : List Sheet) (births : Births) (k : Key) (r : Ref) : Type 0 where
  at_place : (s : Sheet) → In s sheets → In (k, r) (homes_on s) → HasNodeHome g seen sheets births k r
  promise_with_row : (v : Value) (kind : RowKind) (drawn : Drawn) → HasOneSlot g seen k store.promise v → In (filled r.id kind drawn) sheets → value_at drawn ≡ Some v → HasNodeHome g seen sheets births k r
  promise_with_task : (v : Value) (w : What) → HasOneSlot g seen k store.promise v → In (r.id, w) births → IsAlone w → IsSeen seen v → job_seen seen v ≡ Some (job_for g w) → HasNodeHome g seen sheets births k r
  server_reference : (name : List ℕ) (v : Value) (bound : Place) → HasOneSlot g seen k (store.action name) v → IsBoundPlace bound
      → In (filled r.id row.Model (composite None as_object (reference_parts v bound name))) sheets → HasNodeHome g seen sheets births k r

-- a stream is opened, and the task of what comes first of it is born
pub record HasStream (g : Ground) (sheets : List Sheet) (births : Births) (stream : ℕ) (r : Ref) : Type 0 where
  pub flows : Flowing
  pub is_stream : slice_get g.script.streams stream ≡ Some flows
  pub opens : In (opening r.id flows.flow) sheets
  pub born : In (r.id, next_what stream flows.items 0) births

abbrev pub HasHome : Ground → Seen → List Sheet → Births → Key → Ref → Type 0
HasHome g seen sheets births (key.Stream stream) r = HasStream g sheets births stream r
HasHome g seen sheets births (key.Server n) r = (w : What) × In (r.id, w) births × (job_for g w ≡ element n)
HasHome g seen sheets births (key.Client client) r = HasAtomRow sheets r.id (atom.Import (import_at g client))
HasHome g seen sheets births (key.Symbol name) r = HasAtomRow sheets r.id (atom.Symbol name)
HasHome g seen sheets births k r = HasNodeHome g seen sheets births k r

-- the home of a key has an id of its own: that of a promise, of a server reference, of a stream, or of what is no node
abbrev pub HasOwnId : Ground → Seen → Key → Type 0
HasOwnId g seen k =
    IsRowKey k ⊎ (((stream : ℕ) × (k ≡ key.Stream stream))
    ⊎ (((v : Value) × HasOneSlot g seen k store.promise v) ⊎ ((name : List ℕ) × (v : Value) × HasOneSlot g seen k (store.action name) v)))

-- ---- the whole

-- the row of the task itself, where it has one
abbrev pub HasOwnRow : Value → Option ℕ → List Sheet → Type 0
HasOwnRow first None sheets = Unit {0}
HasOwnRow first (Some id) sheets = (kind : RowKind) × (drawn : Drawn) × In (filled id kind drawn) sheets × (value_at drawn ≡ Some first)

-- the id of the task itself is older than the new ones
abbrev pub IsOlder : Option ℕ → ℕ → Type 0
IsOlder None start = Unit {0}
IsOlder (Some id) start = id < start

pub record OnPaper (g : Ground) (seen : Seen) (first : Value) (own : Option ℕ) (start : ℕ) (before more : Homes) (sheets : List Sheet) (births : Births) (uses : List Use) : Type 0 where
  pub older : IsOlder own start
  -- the sheets
  pub once : Distinct (map id_on sheets)
  pub good : (s : Sheet) → In s sheets → IsGoodSheet g seen (before ++ more) more sheets s
  pub row_ids : (s : Sheet) → In s sheets → (own ≡ Some (id_on s)) ⊎ ((u : Use) × In (id_on s, u) (ids_from start uses) × (u.has_row ≡ true))
  pub own_row : HasOwnRow first own sheets
  -- the homes
  pub new_keys : (k : Key) (a : Ref) → In (k, a) more → IsNew k before
  pub one_home : (k : Key) (a b : Ref) → In (k, a) more → In (k, b) more → a ≡ b
  pub has_home : (k : Key) (a : Ref) → In (k, a) more → HasHome g seen sheets births k a
  pub own_ids : (k : Key) (a : Ref) → In (k, a) more → HasOwnId g seen k → (u : Use) × In (a.id, u) (ids_from start uses) × (u.home ≡ Some k)
  -- the births
  pub born_once : Distinct (map (λ b. b.0) births)
  pub born_ids : (id : ℕ) (w : What) → In (id, w) births → (u : Use) × In (id, u) (ids_from start uses) × (u.birth ≡ Some w) × (IsAlone w → u.has_row ≡ false)
  pub born_met : (id : ℕ) (w : What) → In (id, w) births → MetBy g seen first (job_for g w) (stream_for w)
  pub born_tables : (id : ℕ) (w : What) → In (id, w) births → TablesHere seen w
  pub for_stream : (id : ℕ) (w : What) (stream : ℕ) → In (id, w) births → stream_for w ≡ Some stream → (a : Ref) × In (key.Stream stream, a) more × (a.id ≡ id)
