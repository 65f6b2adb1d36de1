-- Worked examples of how references are followed and of what rows mean, each by computation.
use Rattle.std.proofs.Common.{◌≡◌, ℕ, zero, suc, inl, inr, List, [], ◌∷◌, codes, pos, Some, None, refl}
use Rattle.std.specs.Fmt.{digits}
use Rattle.flight_value.specs.declared.graph.Atom.TheVariants as atom
use Rattle.flight_value.specs.declared.graph.Flow.TheVariants as flow
use Rattle.flight_value.specs.Store as store
use Rattle.flight_row.specs.declared.row.RowKind.TheVariants as row
use Rattle.flight_text.specs.declared.mark.Ref.{Ref}
use Rattle.flight_meaning.specs.declared.place.Place.{Place}
use Rattle.flight_meaning.specs.declared.place.Place.TheVariants as place
use Rattle.flight_meaning.specs.declared.place.Named.{Named}
use Rattle.flight_meaning.specs.declared.place.PlacedRow.{PlacedRow}
use Rattle.flight_meaning.specs.Linked.{Spot, standing_of, ended}
use Rattle.flight_meaning.specs.Resolve.{Path, to, here, found, stream, not_yet, nowhere, walk_by, Ends, Endless}
use Rattle.flight_meaning.specs.Meaning.{at_place, value_of, made_at, stream_of, FailsWith, HasShape, Leads, pending, promise_of, action_of}
use Rattle.flight_meaning.specs.Good.{IsUndefined}
use Rattle.flight_meaning.specs.Lasting.{IsResolved}
use Rattle.flight_meaning.proofs.Walking.{not_endless}
use Rattle.flight_meaning.proofs.OneMeaning.{leads_once}

abbrev model : ℕ → List Place → PlacedRow
model id places = record { id = id; tree = record { kind = row.Model; places = places } }

abbrev spot : ℕ → ℕ → ℕ → Spot
spot id nth at = record { id = id; nth = nth; at = at }

abbrev reference : ℕ → Path → Ref
reference id path = record { id = id; path = path }

abbrev prop : List ℕ → ℕ → Named
prop name at = record { name = name; place = at }

-- ---- a Map by a reference to its entries: 1:[["k",{"v":1}]] and 0:{"again":"$0:m","m":"$Q1"}

abbrev map_rows : List PlacedRow
map_rows =
    model 1 (place.Array (1 ∷ []) ∷ place.Array (2 ∷ 3 ∷ []) ∷ place.Atom (atom.Text (codes "k")) ∷ place.Object (prop (codes "v") 4 ∷ []) ∷ place.Atom (atom.Whole (pos 1)) ∷ [])
    ∷ model 0 (place.Object (prop (codes "again") 1 ∷ prop (codes "m") 2 ∷ []) ∷ place.Value (reference 0 (codes "m" ∷ [])) ∷ place.Map (reference 1 []) ∷ []) ∷ []

-- `$0:m` ends at the place of the Map
map_found : Ends map_rows (to 0 (codes "m" ∷ [])) (found (spot 0 0 2))
map_found = (5, refl)

-- both slots of the root lead to it
map_again : Leads map_rows (at_place (spot 0 0 1)) (store.node_at (made_at (spot 0 0 2)))
map_again = inl (found (spot 0 0 2), (5, refl), inl (at_place (spot 1 0 2) ∷ at_place (spot 1 0 3) ∷ [], (found (spot 1 0 0), (5, refl), refl), refl))

map_shape : HasShape map_rows (made_at (spot 0 0 2)) (record { label = store.map_of; slots = at_place (spot 1 0 2) ∷ at_place (spot 1 0 3) ∷ [] })
map_shape = (at_place (spot 1 0 2) ∷ at_place (spot 1 0 3) ∷ [], (found (spot 1 0 0), (5, refl), refl), refl)

-- a Map has no steps, and its entries have: `$0:m:0` leads nowhere, `$1:0:1:v` ends at the number
map_steps : Ends map_rows (to 0 (codes "m" ∷ codes "0" ∷ [])) nowhere
map_steps = (5, refl)

entry_steps : Ends map_rows (to 1 (codes "0" ∷ codes "1" ∷ codes "v" ∷ [])) (found (spot 1 0 4))
unfolding digits
entry_steps = (5, refl)

-- ---- rings: 0:"$0", 0:"$0:a", and 1:"$2" with 2:"$1"

abbrev ring : List PlacedRow
ring = model 0 (place.Value (reference 0 []) ∷ []) ∷ []

around : (n : ℕ) → (walk_by n ring (to 0 []) ≡ None) × (walk_by n ring (here (spot 0 0 0) []) ≡ None)
around zero = (refl, refl)
around (suc n) = ((around n).1, (around n).0)

ring_endless : Endless ring (to 0 [])
ring_endless n = (around n).0

ring_pends : Leads ring (value_of 0) pending
ring_pends = inr (ring_endless, refl)

-- the steps that are left grow without end
abbrev growing : List PlacedRow
growing = model 0 (place.Value (reference 0 (codes "a" ∷ [])) ∷ []) ∷ []

grows_on : (n : ℕ) (path : Path) → (walk_by n growing (to 0 path) ≡ None) × (walk_by n growing (here (spot 0 0 0) path) ≡ None)
grows_on zero path = (refl, refl)
grows_on (suc n) path = ((grows_on n path).1, (grows_on n (codes "a" ∷ path)).0)

growing_endless : Endless growing (to 0 [])
growing_endless n = (grows_on n []).0

abbrev two : List PlacedRow
two = model 1 (place.Value (reference 2 []) ∷ []) ∷ model 2 (place.Value (reference 1 []) ∷ []) ∷ []

to_and_fro : (n : ℕ) → (walk_by n two (to 1 []) ≡ None) × (walk_by n two (here (spot 1 0 0) []) ≡ None) × (walk_by n two (to 2 []) ≡ None) × (walk_by n two (here (spot 2 0 0) []) ≡ None)
to_and_fro zero = (refl, refl, refl, refl)
to_and_fro (suc n) = ((to_and_fro n).1, (to_and_fro n).2, (to_and_fro n).3, (to_and_fro n).0)

two_endless : Endless two (to 1 [])
two_endless n = (to_and_fro n).0

-- ---- lazies on the way: 0:{"a":"$L1"} and 1:{"b":5}; without row 1 the walk waits for it with the steps that are left

abbrev lazy_row : PlacedRow
lazy_row = model 0 (place.Object (prop (codes "a") 1 ∷ []) ∷ place.Lazy 1 ∷ [])

abbrev later_row : PlacedRow
later_row = model 1 (place.Object (prop (codes "b") 1 ∷ []) ∷ place.Atom (atom.Whole (pos 5)) ∷ [])

lazy_waits : Ends (lazy_row ∷ []) (to 0 (codes "a" ∷ codes "b" ∷ [])) (not_yet 1 (codes "b" ∷ []))
lazy_waits = (5, refl)

lazy_found : Ends (lazy_row ∷ later_row ∷ []) (to 0 (codes "a" ∷ codes "b" ∷ [])) (found (spot 1 0 1))
lazy_found = (6, refl)

-- ---- a failure ends the walk where it is met: 1:E{"digest":"d"}

abbrev failing : List PlacedRow
failing = record { id = 1; tree = record { kind = row.Error; places = place.Atom (atom.Failed (codes "d")) ∷ [] } } ∷ []

failure_found : Ends failing (to 1 (codes "x" ∷ codes "y" ∷ [])) (found (spot 1 0 0))
failure_found = (2, refl)

map_fails : FailsWith failing (reference 1 (codes "x" ∷ [])) (codes "d")
map_fails = (spot 1 0 0, (2, refl), refl)

-- ---- steps into an element, 0:["$","div",null,{"x":1}], and an array, 1:[true,false]

abbrev stepping : List PlacedRow
stepping =
    model 0 (place.Element 2 3 4 ∷ place.Atom (atom.Text (codes "$")) ∷ place.Atom (atom.Text (codes "div")) ∷ place.Atom atom.Null ∷ place.Object (prop (codes "x") 5 ∷ []) ∷ place.Atom (atom.Whole (pos 1)) ∷ [])
    ∷ model 1 (place.Array (1 ∷ 2 ∷ []) ∷ place.Atom atom.Null ∷ place.Atom atom.Undefined ∷ []) ∷ []

element_props : Ends stepping (to 0 (codes "props" ∷ codes "x" ∷ [])) (found (spot 0 0 5))
element_props = (4, refl)

element_index : Ends stepping (to 0 (codes "3" ∷ [])) nowhere
element_index = (2, refl)

array_item : Ends stepping (to 1 (codes "1" ∷ [])) (found (spot 1 0 2))
unfolding digits
array_item = (3, refl)

-- an index has no leading zero, and is within
array_zero : Ends stepping (to 1 (codes "01" ∷ [])) nowhere
unfolding digits
array_zero = (2, refl)

array_past : Ends stepping (to 1 (codes "2" ∷ [])) nowhere
unfolding digits
array_past = (2, refl)

-- ---- a stream: 2:r, then an item, then its end with a final value

abbrev open_row : PlacedRow
open_row = record { id = 2; tree = record { kind = row.Open flow.Readable; places = [] } }

abbrev item_row : PlacedRow
item_row = model 2 (place.Atom atom.Null ∷ [])

abbrev close_row : PlacedRow
close_row = record { id = 2; tree = record { kind = row.Close; places = place.Atom atom.Undefined ∷ [] } }

stream_found : Ends (open_row ∷ []) (to 2 []) (stream 2)
stream_found = (1, refl)

stream_steps : Ends (open_row ∷ []) (to 2 (codes "0" ∷ [])) nowhere
stream_steps = (1, refl)

stream_goes : HasShape (open_row ∷ item_row ∷ []) (stream_of 2) (record { label = store.stream flow.Readable store.flowing; slots = at_place (spot 2 1 0) ∷ [] })
stream_goes = refl

stream_ends : HasShape (open_row ∷ item_row ∷ close_row ∷ []) (stream_of 2) (record { label = store.stream flow.Readable store.closed; slots = at_place (spot 2 1 0) ∷ at_place (spot 2 2 0) ∷ [] })
stream_ends = refl

stream_stands : standing_of 2 (open_row ∷ item_row ∷ close_row ∷ []) ≡ Some ended
stream_stands = refl

-- no row follows the end
stream_refuses : standing_of 2 (open_row ∷ close_row ∷ item_row ∷ []) ≡ None
stream_refuses = refl

-- ---- what pends, and what came: the lazy of row 0

lazy_pends : Leads (lazy_row ∷ []) (at_place (spot 0 0 1)) pending
lazy_pends = inl (not_yet 1 [], (2, refl), refl)

lazy_came : Leads (lazy_row ∷ later_row ∷ []) (at_place (spot 0 0 1)) (store.node_at (made_at (spot 1 0 0)))
lazy_came = inl (found (spot 1 0 0), (3, refl), refl)

-- now it is resolved
lazy_resolved : IsResolved (lazy_row ∷ later_row ∷ []) (at_place (spot 0 0 1))
lazy_resolved h = absurd (apart (leads_once (lazy_row ∷ later_row ∷ []) (at_place (spot 0 0 1)) (store.node_at (made_at (spot 1 0 0))) pending lazy_came h))
  where
    apart : store.node_at (made_at (spot 1 0 0)) ≡ pending → ⊥
    apart e = cc

-- a reference in a ring is not defined
ring_undefined : IsUndefined ring 0
ring_undefined = (place.Value (reference 0 []), (spot 0 0 0, refl), refl, λ d. not_endless ring (to 0 []) d.0 d.1 ring_endless)

-- ---- a server reference: 0:"$h3" and 3:{"bound":null,"id":"a"}

abbrev action_rows : List PlacedRow
action_rows =
    model 0 (place.Action 3 ∷ []) ∷ model 3 (place.Object (prop (codes "bound") 1 ∷ prop (codes "id") 2 ∷ []) ∷ place.Atom atom.Null ∷ place.Atom (atom.Text (codes "a")) ∷ []) ∷ []

action_leads : Leads action_rows (value_of 0) (store.node_at (action_of 3))
action_leads = inl (found (spot 0 0 0), (2, refl), refl)

action_stands : HasShape action_rows (action_of 3) (record { label = store.action (codes "a"); slots = at_place (spot 3 0 1) ∷ [] })
action_stands = refl

-- ---- a promise is a node whether its row is there or not: 0:"$@1"

promise_pends : Leads (model 0 (place.Promise 1 ∷ []) ∷ []) (value_of 0) (store.node_at (promise_of 1))
promise_pends = inl (found (spot 0 0 0), (2, refl), refl)
