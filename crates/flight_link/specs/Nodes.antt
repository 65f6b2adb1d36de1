-- The table of nodes: for each id and for each place that is followed, where its walk stands.
use Rattle.std.specs.Prelude.{ℕ, zero, suc, ◌-◌, ◌<◌, ◌≤◌, ◌≡◌, Bool, true, false, List, [], ◌∷◌, ◌++◌, length, drop, slice_get, Option, Some, None, option_and_then, option_map, unwrap_or, All}
use Rattle.flight_value.specs.declared.graph.Atom.TheVariants as atom
use Rattle.flight_meaning.specs.declared.place.Place.{Place}
use Rattle.flight_meaning.specs.declared.place.Place.TheVariants as place
use Rattle.flight_meaning.specs.declared.place.PlaceTree.{PlaceTree}
use Rattle.flight_meaning.specs.declared.place.PlacedRow.{PlacedRow}
use Rattle.flight_meaning.specs.Linked as linked
use Rattle.flight_meaning.specs.Linked.{rows_of, place_at, first_place}
use Rattle.flight_place.specs.Parts.{IsWithin, HasOrder, IsTold, HasValidAtom}
use Rattle.flight_meaning.specs.Resolve.{Path, Stand, to, here, found, nowhere, Turn, on, ends, turn}
use Rattle.flight_link.specs.Adding.{is_of_stream}
use Rattle.flight_link.specs.declared.found.Spot.{Spot}
use Rattle.flight_link.specs.declared.node.Start.{Start}
use Rattle.flight_link.specs.declared.node.Start.TheVariants.{Id, Place as AtPlace}
use Rattle.flight_link.specs.declared.node.State.{State}
use Rattle.flight_link.specs.declared.node.Loose.{Loose}
use Rattle.flight_link.specs.declared.ids.Known.{Known}
use Rattle.flight_link.specs.declared.table.Table.{Table}
use Rattle.flight_link.specs.declared.table.Step.{Step}
use Rattle.flight_link.specs.declared.table.Step.TheVariants.{Stops, Leaves, To, Meets}
use Rattle.flight_link.specs.Known.{known_of}
use Rattle.flight_link.specs.declared.node.State.TheVariants.{Absent, Ended, Lost, Behind}

-- ---- the rows that are linked

-- an id has one row at most, and it is none of a stream
abbrev pub IsPlainOf : List PlaceTree → Type 0
IsPlainOf [] = Unit {0}
IsPlainOf (t ∷ []) = is_of_stream t.kind ≡ false
IsPlainOf (t ∷ u ∷ ts) = ⊥

abbrev pub IsPlain : List PlacedRow → Type 0
IsPlain rows = (id : ℕ) → IsPlainOf (rows_of id rows)

-- numbers in a row lead to its places, it has a root, and its atoms are known and valid, and names ascend
pub record IsFine (r : PlacedRow) : Type 0 where
  pub within : All (IsWithin (length r.tree.places)) r.tree.places
  pub rooted : 0 < length r.tree.places
  pub told : All IsTold r.tree.places
  pub valid : All HasValidAtom r.tree.places
  pub ordered : All HasOrder r.tree.places

-- what stands at a place, by the number of its row
abbrev pub place_in : List PlacedRow → Spot → Option Place
place_in rows s = option_and_then (λ r. slice_get r.tree.places s.place) (slice_get rows s.row)

-- the id of a row
abbrev pub id_at : List PlacedRow → ℕ → ℕ
id_at rows n = unwrap_or (option_map (λ r. r.id) (slice_get rows n)) 0

-- the place without the number of its row
abbrev pub spot_of : List PlacedRow → Spot → linked.Spot
spot_of rows s = record { id = id_at rows s.row; nth = 0; at = s.place }

-- ---- places that are followed

-- the id and the names of a lazy or a value reference
abbrev pub followed : Place → Option (ℕ × Path)
followed (place.Lazy id) = Some (id, [])
followed (place.Value at) = Some (at.id, at.path)
followed at = None

abbrev pub fails : Place → Bool
fails (place.Atom (atom.Failed digest)) = true
fails at = false

-- ---- walks

-- turns lead from a stand to another
abbrev pub ComeBy : ℕ → List PlacedRow → Stand → Stand → Type 0
ComeBy zero rows s t = s ≡ t
ComeBy (suc n) rows s t = (u : Stand) × (turn rows s ≡ on u) × ComeBy n rows u t

abbrev pub Come : List PlacedRow → Stand → Stand → Type 0
Come rows s t = (n : ℕ) × ComeBy n rows s t

-- the row or the place is there
abbrev pub IsThere : List PlacedRow → Stand → Type 0
IsThere rows (to id path) = (t : PlaceTree) × (slice_get (rows_of id rows) 0 ≡ Some t)
IsThere rows (here s path) = (at : Place) × (place_at rows s ≡ Some at)

-- turns lead to a stand that is there and has this turn
pub record Reaches (rows : List PlacedRow) (s : Stand) (last : Turn) : Type 0 where
  pub by : Stand
  pub come : Come rows s by
  pub there : IsThere rows by
  pub is_turn : turn rows by ≡ last

-- the stand with more names to go
abbrev pub with_path : Stand → Path → Stand
with_path (to id path) more = to id (path ++ more)
with_path (here s path) more = here s (path ++ more)

-- the last so many names
abbrev pub last_names : ℕ → Path → Path
last_names left names = drop (length names - left) names

-- ---- nodes

-- where the walk of a node begins
abbrev pub stand : List PlacedRow → Start → Stand
stand rows (Id id) = to id []
stand rows (AtPlace spot) = here (spot_of rows spot) []

-- the names of a node's walk
abbrev pub names_in : Option (ℕ × Path) → Path
names_in (Some way) = way.1
names_in None = []

abbrev pub names_of : List PlacedRow → Start → Path
names_of rows (Id id) = []
names_of rows (AtPlace spot) = names_in (option_and_then followed (place_in rows spot))

-- turns lead behind another node, with some of these names left
pub record ComesBehind (rows : List PlacedRow) (starts : List Start) (names : Path) (s : Stand) (node left : ℕ) : Type 0 where
  pub other : Start
  pub is_other : slice_get starts node ≡ Some other
  pub few : left ≤ length names
  pub come : Come rows s (with_path (stand rows other) (last_names left names))

-- where turns from a stand come to
abbrev pub Gets : List PlacedRow → List Start → Path → Stand → State → Type 0
Gets rows starts names s Absent = ⊥
Gets rows starts names s (Ended e) = Reaches rows s (ends (found (spot_of rows e))) × ((at : Place) × (place_in rows e ≡ Some at) × (followed at ≡ None))
Gets rows starts names s Lost = Reaches rows s (ends nowhere)
Gets rows starts names s (Behind node left) = ComesBehind rows starts names s node left

-- a walk has begun
pub record HasBegun (rows : List PlacedRow) (starts : List Start) (start : Start) (state : State) : Type 0 where
  pub next : Stand
  pub is_next : turn rows (stand rows start) ≡ on next
  pub gets : Gets rows starts (names_of rows start) next state

-- the id of a node has no row
abbrev pub HasNoRow : List PlacedRow → Start → Type 0
HasNoRow rows (Id id) = rows_of id rows ≡ []
HasNoRow rows (AtPlace spot) = ⊥

-- what a node's state says is so
abbrev pub IsSound : List PlacedRow → List Start → Start → State → Type 0
IsSound rows starts start Absent = HasNoRow rows start
IsSound rows starts start state = HasBegun rows starts start state

abbrev pub AreSound : List PlacedRow → List Start → List State → Type 0
AreSound rows starts states = (n : ℕ) (start : Start) (state : State) → slice_get starts n ≡ Some start → slice_get states n ≡ Some state → IsSound rows starts start state

-- the walk has ended
abbrev pub is_done : State → Bool
is_done (Ended e) = true
is_done Lost = true
is_done state = false

abbrev pub is_ended : Option State → Bool
is_ended (Some state) = is_done state
is_ended None = false

abbrev pub has_ended : List State → ℕ → Bool
has_ended states n = is_ended (slice_get states n)

-- no walk stands behind one that has ended
abbrev pub IsQuiet : List State → State → Type 0
IsQuiet states (Behind node left) = has_ended states node ≡ false
IsQuiet states state = Unit {0}

abbrev pub AreQuiet : List State → Type 0
AreQuiet states = (n : ℕ) (state : State) → slice_get states n ≡ Some state → IsQuiet states state

-- how many steps are still to take
abbrev pub steps_left : State → ℕ
steps_left (Behind node left) = suc left
steps_left state = 0

-- ---- the table

-- the node whose number stands at a place
abbrev pub node_in : List (List (Option ℕ)) → Spot → Option ℕ
node_in index s = option_and_then (λ o. o) (option_and_then (λ row. slice_get row s.place) (slice_get index s.row))

abbrev pub IsNodeAt : List Start → ℕ → Start → Type 0
IsNodeAt starts n start = slice_get starts n ≡ Some start

-- a place that is followed has a node, and no other has
abbrev pub IsIndexed : List Start → Spot → Option (ℕ × Path) → Option ℕ → Type 0
IsIndexed starts s (Some way) (Some n) = IsNodeAt starts n (AtPlace s)
IsIndexed starts s None None = Unit {0}
IsIndexed starts s way n = ⊥

abbrev pub AreIndexed : List PlacedRow → List Start → List (List (Option ℕ)) → Type 0
AreIndexed rows starts index = (s : Spot) (at : Place) → place_in rows s ≡ Some at → IsIndexed starts s (followed at) (node_in index s)

-- the places of nodes are there
abbrev pub IsStart : List PlacedRow → Start → Type 0
IsStart rows (Id id) = Unit {0}
IsStart rows (AtPlace s) = (at : Place) × (place_in rows s ≡ Some at)

abbrev pub AreStarts : List PlacedRow → List Start → Type 0
AreStarts rows starts = (n : ℕ) (start : Start) → IsNodeAt starts n start → IsStart rows start

-- the row of an id by its number
abbrev pub IsRowOf : List PlacedRow → ℕ → Option ℕ → Type 0
IsRowOf rows id None = rows_of id rows ≡ []
IsRowOf rows id (Some n) = (r : PlacedRow) × (slice_get rows n ≡ Some r) × (r.id ≡ id)

-- an id that is known has a node; any other has no row
abbrev pub IsKnown : List PlacedRow → List Start → ℕ → Option Known → Type 0
IsKnown rows starts id None = rows_of id rows ≡ []
IsKnown rows starts id (Some k) = IsNodeAt starts k.node (Id id) × IsRowOf rows id k.row

-- the node of an id
abbrev pub IsItsNode : ℕ → Option Known → Type 0
IsItsNode n None = ⊥
IsItsNode n (Some k) = k.node ≡ n

pub record IsTable (t : Table) : Type 0 where
  pub plain : IsPlain t.rows.items
  pub fine : All IsFine t.rows.items
  pub starts : AreStarts t.rows.items t.starts.items
  pub indexed : AreIndexed t.rows.items t.starts.items t.index.items
  pub known : (id : ℕ) → IsKnown t.rows.items t.starts.items id (known_of t.known id)
  pub ids : (n id : ℕ) → IsNodeAt t.starts.items n (Id id) → IsItsNode n (known_of t.known id)
  pub one_each : length t.index.items ≡ length t.rows.items

-- ---- single steps

-- the place is there, and no walk goes on from it without a name
abbrev pub IsStop : List PlacedRow → Spot → Type 0
IsStop rows s = (at : Place) × (place_in rows s ≡ Some at) × (followed at ≡ None)

-- a step from a place, whatever names are behind it
abbrev pub IsStep : List PlacedRow → List Start → Spot → List ℕ → Step → Type 0
IsStep rows starts s name Stops = (rest : Path) → turn rows (here (spot_of rows s) (name ∷ rest)) ≡ ends (found (spot_of rows s))
IsStep rows starts s name Leaves = (rest : Path) → turn rows (here (spot_of rows s) (name ∷ rest)) ≡ ends nowhere
IsStep rows starts s name (To next) = IsStop rows next × ((rest : Path) → turn rows (here (spot_of rows s) (name ∷ rest)) ≡ on (here (spot_of rows next) rest))
IsStep rows starts s name (Meets node) = (next : Spot) × IsNodeAt starts node (AtPlace next) × ((rest : Path) → turn rows (here (spot_of rows s) (name ∷ rest)) ≡ on (here (spot_of rows next) rest))

-- ---- walks on from a place and from a node

-- turns that lead to what comes of these names at a place lead to where the state says
abbrev pub Descends : Table → Spot → Path → State → Type 0
Descends t spot names state = (s : Stand) → Reaches t.rows.items s (turn t.rows.items (here (spot_of t.rows.items spot) names)) → Gets t.rows.items t.starts.items names s state

-- turns that lead to these names behind a node lead to where the state says
abbrev pub Advances : Table → ℕ → Path → State → Type 0
Advances t node names state = (start : Start) → IsNodeAt t.starts.items node start → (s : Stand) → Come t.rows.items s (with_path (stand t.rows.items start) names) → Gets t.rows.items t.starts.items names s state

-- there is such a node
abbrev pub HasNode : List Start → ℕ → Type 0
HasNode starts n = (start : Start) × IsNodeAt starts n start

-- the states of the nodes, which say what is so
pub record AreStates (t : Table) (states : List State) : Type 0 where
  pub one_each : length states ≡ length t.starts.items
  pub sound : AreSound t.rows.items t.starts.items states

-- where the walk of the node had ended, at least one step is taken
abbrev pub TakesStep : List State → ℕ → Path → State → Type 0
TakesStep states node names state = (old : State) → slice_get states node ≡ Some old → is_done old ≡ true → steps_left state ≤ length names

-- ---- settling

-- the walk of a node stands behind one that has ended
pub record IsLoose (states : List State) (l : Loose) : Type 0 where
  pub is_state : slice_get states l.node ≡ Some (Behind l.behind l.left)
  pub ended : has_ended states l.behind ≡ true

-- a loose walk goes on
abbrev pub Moves : Table → Loose → State → Type 0
Moves t l state = (start : Start) → IsNodeAt t.starts.items l.node start → IsSound t.rows.items t.starts.items start state × (steps_left state ≤ l.left)

-- the whole: the table, and states that say what is so, of which none can go on
pub record AreLinked (t : Table) (states : List State) : Type 0 where
  pub table : IsTable t
  pub are_states : AreStates t states
  pub quiet : AreQuiet states
