-- When all rows that acts ask for are written.
use Rattle.std.specs.Prelude.{ℕ, ◌≡◌, ◌⊎◌, true, false, List, [], ◌∷◌, ◌++◌, map, Option, Some, None}
use Rattle.flight_value.specs.Listed.{In, Distinct}
use Rattle.flight_value.specs.Store as store
use Rattle.flight_value.specs.declared.key.Key.{Key}
use Rattle.flight_value.specs.declared.key.Key.TheVariants as key
use Rattle.flight_text.specs.declared.mark.Ref.{Ref}
use Rattle.flight_row.specs.declared.row.RowKind.TheVariants as row
use Rattle.flight_home.specs.Homes.{Homes}
use Rattle.flight_render.specs.declared.root.Ground.{Ground}
use Rattle.flight_render.specs.Jobs.{Value}
use Rattle.flight_meaning.specs.Meaning.{Token, token_label}
use Rattle.flight_state.specs.State.{next_what}
use Rattle.flight_state.specs.Local.{Seen}
use Rattle.flight_emit.specs.declared.work.Due.{Due}
use Rattle.flight_emit.specs.declared.work.Due.TheVariants as due
use Rattle.flight_emit.specs.Sheet.{Drawn, composite, as_array, Parts, value_at, values_of, Sheet, filled, opening, id_on, homes_on, root}
use Rattle.flight_emit.specs.Good.{IsPlainKind, IsGood, HasShape}
use Rattle.flight_emit.specs.Whole.{Use, HasOneSlot, HasOwnRow, IsOlder}
use Rattle.flight_emit.specs.Log.{Taken, atom_row, value_row, entries_row, task, stream_row, reference_row, Act, put, take, homes_by, places_by, sheets_by, dues_by, value_of_key, FitActs, AreNew}
use Rattle.flight_emit.specs.Wrote.{AreDue, note_at}

-- ---- what ids are for

abbrev pub use_of : Taken → Use
use_of (atom_row home kind a) = record { home = home; has_row = true; birth = None }
use_of (value_row k) = record { home = Some k; has_row = true; birth = None }
use_of (entries_row k) = record { home = None; has_row = true; birth = None }
use_of (task k w) = record { home = Some k; has_row = false; birth = Some w }
use_of (stream_row stream flows) = record { home = Some (key.Stream stream); has_row = true; birth = Some (next_what stream flows.items 0) }
use_of (reference_row k name v at) = record { home = Some k; has_row = true; birth = None }

abbrev pub uses_of : List Act → List Use
uses_of [] = []
uses_of (put k r ∷ acts) = uses_of acts
uses_of (take t ∷ acts) = use_of t ∷ uses_of acts

-- ---- rows that were due

abbrev pub due_id : Due → ℕ
due_id (due.Value id k) = id
due_id (due.Entries id k) = id

-- the row of a node, of what a promise holds, or of entries
abbrev pub IsDone : Ground → Seen → List Sheet → Due → Type 0
IsDone g seen done (due.Value id k) = (drawn : Drawn) × In (filled id row.Model drawn) done × ((note_at drawn ≡ Some (record { value = value_of_key k; key = k })) ⊎ ((v : Value) × HasOneSlot g seen k store.promise v × (value_at drawn ≡ Some v)))
IsDone g seen done (due.Entries id k) = (parts : Parts) × (kind : Token) × In (filled id row.Model (composite None as_array parts)) done × HasShape g seen k (token_label kind) (values_of kind parts)

-- a row that was written: what stands in it spells what is meant, and the rows of its entries are due
abbrev pub IsDrafted : Ground → Seen → Homes → Homes → List Sheet → List Due → Sheet → Type 0
IsDrafted g seen homes more sheets dues (filled id kind drawn) = IsPlainKind kind × IsGood g seen homes more sheets (AreDue g seen dues) (root id) drawn
IsDrafted g seen homes more sheets dues (opening id flow) = ⊥

-- ---- the whole

-- Acts, from an id on, with the rows that were written beside those that acts add at once.
pub record Finished (g : Ground) (seen : Seen) (first : Value) (own : Option ℕ) (start : ℕ) (before : Homes) (acts : List Act) (done sheets : List Sheet) : Type 0 where
  pub older : IsOlder own start
  pub fit : FitActs g seen first (before ++ homes_by start acts) acts
  pub keys : AreNew before (homes_by start acts)
  -- the sheets
  pub are : (s : Sheet) → In s sheets → In s (sheets_by start acts) ⊎ In s done
  pub at_once : (s : Sheet) → In s (sheets_by start acts) → In s sheets
  pub written : (s : Sheet) → In s done → In s sheets
  pub once : Distinct (map id_on sheets)
  pub own_row : HasOwnRow first own sheets
  pub drafted : (s : Sheet) → In s done → IsDrafted g seen (before ++ homes_by start acts) (homes_by start acts) sheets (dues_by start acts) s
  pub for_due : (s : Sheet) → In s done → (own ≡ Some (id_on s)) ⊎ ((d : Due) × In d (dues_by start acts) × (due_id d ≡ id_on s))
  -- the rows that were due, and the homes in rows
  pub all_done : (d : Due) → In d (dues_by start acts) → IsDone g seen done d
  pub placed : (k : Key) (a : Ref) → In (k, a) (places_by acts) → (s : Sheet) × In s done × In (k, a) (homes_on s)
