-- What of the meaning of rows stays whatever rows follow.
use Rattle.std.specs.Prelude.{ℕ, ◌≢◌, List, [], ◌++◌, All, Option, Some}
use Rattle.flight_value.specs.declared.graph.Atom.TheVariants as atom
use Rattle.flight_value.specs.declared.graph.Flow.{Flow}
use Rattle.flight_value.specs.Store as store
use Rattle.flight_value.specs.Store.{FlowState, Label, Shape, Store}
use Rattle.flight_meaning.specs.declared.place.Place.{Place}
use Rattle.flight_meaning.specs.declared.place.Place.TheVariants as place
use Rattle.flight_meaning.specs.declared.place.PlacedRow.{PlacedRow}
use Rattle.flight_meaning.specs.Linked.{rows_of, Spot, place_at}
use Rattle.flight_meaning.specs.Resolve.{to, found, Ends, IsThere, WaitsForNone}
use Rattle.flight_meaning.specs.Meaning.{Written, Identity, stream_of, HasShape, Leads, pending, value_of, stand_of}

-- the node is no stream that still goes on
abbrev pub HasEnded : Label → Type 0
HasEnded (store.stream flow store.flowing) = ⊥
HasEnded label = Unit {0}

-- the stream has these slots, and perhaps more behind them
abbrev pub HasGrown : List PlacedRow → ℕ → Flow → List Written → Type 0
HasGrown rows id flow slots = (now : FlowState) × (rest : List Written) × HasShape rows (stream_of id) (record { label = store.stream flow now; slots = slots ++ rest })

-- what stands at a place waits for no row: of a Map and of a Set the reference, of a server reference its row
abbrev pub IsSettledHere : List PlacedRow → Option Place → Type 0
IsSettledHere rows (Some (place.Map reference)) = WaitsForNone rows (to reference.id reference.path)
IsSettledHere rows (Some (place.Set reference)) = WaitsForNone rows (to reference.id reference.path)
IsSettledHere rows (Some (place.Action id)) = rows_of id rows ≢ []
IsSettledHere rows at = Unit {0}

-- where the slot leads is settled: neither its walk waits for a row, nor what stands where it ends
abbrev pub IsSettled : List PlacedRow → Written → Type 0
IsSettled rows w = IsThere rows (stand_of w) × WaitsForNone rows (stand_of w) × ((s : Spot) → Ends rows (stand_of w) (found s) → IsSettledHere rows (place_at rows s))

-- the slot leads to something that is there
abbrev pub IsResolved : List PlacedRow → Written → Type 0
IsResolved rows w = ¬ (Leads rows w pending)

-- the root, and each node that has a partner with all its slots, is there for good
pub record IsResolvedUnder {K : Type 0} (R : K → Identity → Type 0) (rows : List PlacedRow) : Type 0 where
  pub root : IsResolved rows (value_of 0)
  pub each : (k : K) (l : Identity) (shape : Shape Written) → R k l → HasShape rows l shape → HasEnded shape.label × All (IsResolved rows) shape.slots

-- nothing pends in a store: no slot leads to what is pending, and no stream still goes on
pub record IsComplete {K V : Type 0} (h : Store K V) : Type 0 where
  pub root : ¬ (h.leads h.root (store.atom atom.Pending))
  pub each : (k : K) (shape : Shape V) → h.at k shape → HasEnded shape.label × All (λ v. ¬ (h.leads v (store.atom atom.Pending))) shape.slots
