-- What rows mean: a store of nodes.
use Rattle.std.specs.Prelude.{ℕ, suc, ◌≡◌, ◌⊎◌, List, [], ◌∷◌, ◌++◌, if◌then◌else◌, is_some, map, codes, Option, Some, None, option_and_then, slice_get}
use Rattle.flight_value.specs.declared.graph.Atom.TheVariants as atom
use Rattle.flight_value.specs.Store as store
use Rattle.flight_value.specs.Store.{Label, FlowState, Shape, Target, Store}
use Rattle.flight_text.specs.declared.mark.Ref.{Ref}
use Rattle.flight_row.specs.declared.row.RowKind.{RowKind}
use Rattle.flight_row.specs.declared.row.RowKind.TheVariants as row
use Rattle.flight_meaning.specs.declared.place.Place.{Place}
use Rattle.flight_meaning.specs.declared.place.Place.TheVariants as place
use Rattle.flight_meaning.specs.declared.place.PlaceTree.{PlaceTree}
use Rattle.flight_meaning.specs.declared.place.PlacedRow.{PlacedRow}
use Rattle.flight_meaning.specs.Linked.{rows_of, Spot, place_at, first_place, beside}
use Rattle.flight_meaning.specs.Resolve.{property, Stand, to, here, Found, found, stream, not_yet, nowhere, Ends, Endless}

-- a slot as it is written: a place, or the value of an id, which may come later
pub data Written : Type 0 where
  at_place : (spot : Spot) → Written
  value_of : (id : ℕ) → Written

-- what a node is known by: its place, or the id of a promise, of a stream or of a server reference
pub data Identity : Type 0 where
  made_at : (spot : Spot) → Identity
  promise_of : (id : ℕ) → Identity
  stream_of : (id : ℕ) → Identity
  action_of : (id : ℕ) → Identity

-- places of the same row
abbrev pub at_places : Spot → List ℕ → List Written
at_places s numbers = map (λ n. at_place (beside s n)) numbers

-- ---- Maps and Sets, whose entries stand where a reference leads

pub data Token : Type 0 where
  map_token : Token
  set_token : Token

abbrev pub token_label : Token → Label
token_label map_token = store.map_of
token_label set_token = store.set_of

-- an entry of a Map is an array of two, written in place
abbrev pub entry : Spot → Option Place → Option (List Written)
entry s (Some (place.Array (key ∷ value ∷ []))) = Some (at_place (beside s key) ∷ at_place (beside s value) ∷ [])
entry s at = None

abbrev pub both : Option (List Written) → Option (List Written) → Option (List Written)
both (Some front) (Some rest) = Some (front ++ rest)
both front rest = None

abbrev pub entries : List PlacedRow → Spot → List ℕ → Option (List Written)
entries rows s [] = Some []
entries rows s (n ∷ ns) = both (entry s (place_at rows (beside s n))) (entries rows s ns)

-- the slots of a Map, by its array of entries, and of a Set, by its array of items
abbrev pub slots_in : Token → List PlacedRow → Spot → Option Place → Option (List Written)
slots_in map_token rows s (Some (place.Array numbers)) = entries rows s numbers
slots_in set_token rows s (Some (place.Array numbers)) = Some (at_places s numbers)
slots_in token rows s at = None

abbrev pub slots_found : Token → List PlacedRow → Found → Option (List Written)
slots_found token rows (found s) = slots_in token rows s (place_at rows s)
slots_found token rows f = None

-- the reference leads to what gives these slots
abbrev pub HasSlots : List PlacedRow → Token → Ref → List Written → Type 0
HasSlots rows token reference slots = (f : Found) × Ends rows (to reference.id reference.path) f × (slots_found token rows f ≡ Some slots)

-- the reference leads to a failure
abbrev pub FailsWith : List PlacedRow → Ref → List ℕ → Type 0
FailsWith rows reference digest = (s : Spot) × Ends rows (to reference.id reference.path) (found s) × (place_at rows s ≡ Some (place.Atom (atom.Failed digest)))

-- ---- server references, whose row has an object with a text `id` and a `bound` in place

pub record Reference : Type 0 where
  pub name : List ℕ
  pub bound : Spot

abbrev pub text_at : Option Place → Option (List ℕ)
text_at (Some (place.Atom (atom.Text text))) = Some text
text_at at = None

-- null, or a promise
abbrev pub bound_at : Spot → Option Place → Option Spot
bound_at s (Some (place.Atom atom.Null)) = Some s
bound_at s (Some (place.Promise id)) = Some s
bound_at s at = None

abbrev pub reference_with : Option (List ℕ) → Option Spot → Option Reference
reference_with (Some name) (Some bound) = Some (record { name = name; bound = bound })
reference_with name bound = None

-- what stands at another place of the same row
abbrev pub there : List PlacedRow → Spot → ℕ → Option Place
there rows s n = place_at rows (beside s n)

abbrev pub reference_in : List PlacedRow → Spot → Option Place → Option Reference
reference_in rows s (Some (place.Object props)) =
    reference_with
    (option_and_then (λ n. text_at (there rows s n)) (property props (codes "id")))
    (option_and_then (λ n. bound_at (beside s n) (there rows s n)) (property props (codes "bound")))
reference_in rows s at = None

-- by the first row of the id, which is a model
abbrev pub reference_by : List PlacedRow → ℕ → RowKind → Option Reference
reference_by rows id row.Model = reference_in rows (first_place id) (place_at rows (first_place id))
reference_by rows id kind = None

abbrev pub reference_of : List PlacedRow → ℕ → Option Reference
reference_of rows id = option_and_then (λ t. reference_by rows id t.kind) (slice_get (rows_of id rows) 0)

-- ---- streams

pub data FlowEnd : Type 0 where
  flowing : FlowEnd
  closed_with : (final : Written) → FlowEnd
  broken_by : (digest : List ℕ) → FlowEnd

-- the items of a stream so far, and its end
pub record Flowed : Type 0 where
  pub items : List Written
  pub end : FlowEnd

abbrev pub digest_at : Option Place → List ℕ
digest_at (Some (place.Atom (atom.Failed digest))) = digest
digest_at at = []

-- what a row of an open stream's id brings, by its kind; it is row n of that id, and others follow
abbrev pub with_row : ℕ → ℕ → RowKind → PlaceTree → Flowed → Flowed
with_row id n row.Error t rest = record { items = []; end = broken_by (digest_at (slice_get t.places 0)) }
with_row id n row.Close t rest = record { items = []; end = closed_with (at_place (record { id = id; nth = n; at = 0 })) }
with_row id n (row.Open flow) t rest = rest
with_row id n kind t rest = record { items = at_place (record { id = id; nth = n; at = 0 }) ∷ rest.items; end = rest.end }

abbrev pub flowed : ℕ → ℕ → List PlaceTree → Flowed
flowed id n [] = record { items = []; end = flowing }
flowed id n (t ∷ ts) = with_row id n t.kind t (flowed id (suc n) ts)

-- a stream, and what followed
abbrev pub joined : Flowed → Flowed → Flowed
joined first rest = record { items = first.items ++ rest.items; end = rest.end }

abbrev pub state_of : FlowEnd → FlowState
state_of flowing = store.flowing
state_of (closed_with final) = store.closed
state_of (broken_by digest) = store.broken digest

abbrev pub final_slots : FlowEnd → List Written
final_slots (closed_with final) = final ∷ []
final_slots end = []

-- ---- nodes

abbrev pub node_here : Spot → Place → Option (Shape Written)
node_here s (place.Array numbers) = Some (record { label = store.array; slots = at_places s numbers })
node_here s (place.Object props) = Some (record { label = store.object (map (λ p. p.name) props); slots = at_places s (map (λ p. p.place) props) })
node_here s (place.Element tag key props) = Some (record { label = store.element; slots = at_places s (tag ∷ key ∷ props ∷ []) })
node_here s at = None

abbrev pub HasTokenShape : List PlacedRow → Token → Ref → Shape Written → Type 0
HasTokenShape rows token reference shape = (slots : List Written) × HasSlots rows token reference slots × (shape ≡ record { label = token_label token; slots = slots })

-- the node at a place
abbrev pub HasShapeHere : List PlacedRow → Spot → Option Place → Shape Written → Type 0
HasShapeHere rows s (Some (place.Map reference)) shape = HasTokenShape rows map_token reference shape
HasShapeHere rows s (Some (place.Set reference)) shape = HasTokenShape rows set_token reference shape
HasShapeHere rows s at shape = option_and_then (node_here s) at ≡ Some shape

-- the stream that a row of this kind opens
abbrev pub opened : RowKind → Flowed → Option (Shape Written)
opened (row.Open flow) f = Some (record { label = store.stream flow (state_of f.end); slots = f.items ++ final_slots f.end })
opened kind f = None

abbrev pub stream_shape : ℕ → List PlaceTree → Option (Shape Written)
stream_shape id [] = None
stream_shape id (t ∷ ts) = opened t.kind (flowed id 1 ts)

abbrev pub action_shape : Option Reference → Option (Shape Written)
action_shape (Some r) = Some (record { label = store.action r.name; slots = at_place r.bound ∷ [] })
action_shape None = None

abbrev pub HasShape : List PlacedRow → Identity → Shape Written → Type 0
HasShape rows (made_at s) shape = HasShapeHere rows s (place_at rows s) shape
HasShape rows (promise_of id) shape = shape ≡ record { label = store.promise; slots = value_of id ∷ [] }
HasShape rows (stream_of id) shape = stream_shape id (rows_of id rows) ≡ Some shape
HasShape rows (action_of id) shape = action_shape (reference_of rows id) ≡ Some shape

-- ---- where a slot leads

abbrev pub pending : Target Identity
pending = store.atom atom.Pending

-- a token is the node at its place where its entries are found, a failure where its reference leads to one, and else pending
abbrev pub TokenLeads : List PlacedRow → Token → Spot → Ref → Target Identity → Type 0
TokenLeads rows token s reference target =
    ((slots : List Written) × HasSlots rows token reference slots × (target ≡ store.node_at (made_at s)))
    ⊎ (((digest : List ℕ) × FailsWith rows reference digest × (target ≡ store.atom (atom.Failed digest)))
    ⊎ (((slots : List Written) → ¬ HasSlots rows token reference slots) × ((digest : List ℕ) → ¬ FailsWith rows reference digest) × (target ≡ pending)))

-- what a walk came to at a place
abbrev pub LeadsHere : List PlacedRow → Spot → Option Place → Target Identity → Type 0
LeadsHere rows s (Some (place.Atom a)) target = target ≡ store.atom a
LeadsHere rows s (Some (place.Array numbers)) target = target ≡ store.node_at (made_at s)
LeadsHere rows s (Some (place.Object props)) target = target ≡ store.node_at (made_at s)
LeadsHere rows s (Some (place.Element tag key props)) target = target ≡ store.node_at (made_at s)
LeadsHere rows s (Some (place.Promise id)) target = target ≡ store.node_at (promise_of id)
LeadsHere rows s (Some (place.Action id)) target = target ≡ (if is_some (reference_of rows id) then store.node_at (action_of id) else pending)
LeadsHere rows s (Some (place.Map reference)) target = TokenLeads rows map_token s reference target
LeadsHere rows s (Some (place.Set reference)) target = TokenLeads rows set_token s reference target
LeadsHere rows s at target = target ≡ pending

-- what is not yet there is pending, and so is what leads nowhere
abbrev pub IsTarget : List PlacedRow → Found → Target Identity → Type 0
IsTarget rows (found s) target = LeadsHere rows s (place_at rows s) target
IsTarget rows (stream id) target = target ≡ store.node_at (stream_of id)
IsTarget rows (not_yet id path) target = target ≡ pending
IsTarget rows nowhere target = target ≡ pending

abbrev pub stand_of : Written → Stand
stand_of (at_place s) = here s []
stand_of (value_of id) = to id []

abbrev pub Leads : List PlacedRow → Written → Target Identity → Type 0
Leads rows w target = ((f : Found) × Ends rows (stand_of w) f × IsTarget rows f target) ⊎ (Endless rows (stand_of w) × (target ≡ pending))

-- ---- the store

-- its root is the value of row 0
abbrev pub meaning : List PlacedRow → Store Identity Written
meaning rows = record { root = value_of 0; at = HasShape rows; leads = Leads rows }
