-- What a path from the root shows.
use Rattle.std.proofs.Common.{◌≡◌, ℕ, List, [], ◌∷◌, Some, refl, sym, ◌∙◌, ap, subst}
use Rattle.std.proofs.lemmas.Option.{none-some, same_Some}
use Rattle.flight_value.specs.Store as store
use Rattle.flight_value.specs.Store.{Shape}
use Rattle.flight_meaning.specs.declared.place.Place.{Place}
use Rattle.flight_meaning.specs.declared.place.Place.TheVariants as place
use Rattle.flight_meaning.specs.declared.place.PlacedRow.{PlacedRow}
use Rattle.flight_meaning.specs.Linked as linked
use Rattle.flight_meaning.specs.Linked.{place_at}
use Rattle.flight_meaning.specs.Meaning.{Written, at_place, value_of, made_at, promise_of, action_of, HasShapeHere}
use Rattle.flight_graph.specs.declared.label.Kind.{Kind}
use Rattle.flight_graph.specs.declared.label.Kind.TheVariants as graph_kind
use Rattle.flight_graph.specs.declared.label.Label.TheVariants as look
use Rattle.flight_link.specs.declared.found.Spot.{Spot}
use Rattle.flight_link.specs.declared.found.Seen.{Seen}
use Rattle.flight_link.specs.declared.found.Seen.TheVariants as seen
use Rattle.flight_link.specs.declared.table.Table.{Table}
use Rattle.flight_link.specs.declared.target.Target.{Target}
use Rattle.flight_link.specs.declared.target.Target.TheVariants as target
use Rattle.flight_link.specs.declared.below.Below.TheVariants as below
use Rattle.flight_link.specs.Looking.{Sight, awaits, no_place, SeesHere, Shows, kind_of, IsSeen}
use Rattle.flight_link.specs.Nodes.{IsTable, place_in, spot_of}
use Rattle.flight_link.specs.Slots.{IsBelowTarget, IsSeenBy, IsSeenTarget, IsOnTheWay, kind_in}
use Rattle.flight_link.specs.Spots.{IsNumber, IsFirst}
use Rattle.flight_link.specs.Targets.{IsTargetOf}
use Rattle.flight_link.proofs.PlainRows.{place_there}
use Rattle.flight_link.proofs.Slots.{node_there, action_shape_there}

-- ---- at a slot

kind_is : (rows : List PlacedRow) (s : linked.Spot) (at : Place) (shape : Shape Written) → HasShapeHere rows s (Some at) shape → kind_in (Some at) ≡ kind_of shape.label
kind_is rows s (place.Array numbers) shape h = ap (λ (x : Shape Written). kind_of x.label) (same_Some _ shape h)
kind_is rows s (place.Object props) shape h = ap (λ (x : Shape Written). kind_of x.label) (same_Some _ shape h)
kind_is rows s (place.Element tag key props) shape h = ap (λ (x : Shape Written). kind_of x.label) (same_Some _ shape h)
kind_is rows s (place.Map r) shape h = ap (λ (x : Shape Written). kind_of x.label) (sym h.2)
kind_is rows s (place.Set r) shape h = ap (λ (x : Shape Written). kind_of x.label) (sym h.2)
kind_is rows s (place.Atom a) shape h = absurd (none-some shape h)
kind_is rows s (place.Promise id) shape h = absurd (none-some shape h)
kind_is rows s (place.Lazy id) shape h = absurd (none-some shape h)
kind_is rows s (place.Value r) shape h = absurd (none-some shape h)
kind_is rows s (place.Action id) shape h = absurd (none-some shape h)

pub node_seen : (t : Table) (s : Spot) (kind : Kind) (mark : ℕ) → IsTable t → kind ≡ kind_in (place_in t.rows.items s) → IsNumber t.rows.items (spot_of t.rows.items s) mark → IsSeenTarget t.rows.items (target.Node s) (seen.Label (look.Node kind mark))
node_seen t s kind mark table is number w h =
    let there = node_there t w s table h in
    let at_s = place_there t.rows.items s there.at table.plain there.stands in
    let has = subst (λ o. HasShapeHere t.rows.items (spot_of t.rows.items s) o there.shape) at_s there.has in
    (there.shape.label, made_at (spot_of t.rows.items s), (there.leads, (there.shape, there.has, refl)), is ∙ (ap kind_in there.stands ∙ kind_is t.rows.items (spot_of t.rows.items s) there.at there.shape has), number)

pub promise_seen : (rows : List PlacedRow) (id mark : ℕ) → IsFirst rows (place.Promise id) mark → IsSeenTarget rows (target.Promise id) (seen.Label (look.Node graph_kind.Promise mark))
promise_seen rows id mark first w h = (store.promise, promise_of id, (h, (record { label = store.promise; slots = value_of id ∷ [] }, refl, refl)), refl, first)

pub action_seen : (rows : List PlacedRow) (id mark : ℕ) → IsFirst rows (place.Action id) mark → IsSeenTarget rows (target.Action id) (seen.Label (look.Node graph_kind.Action mark))
action_seen rows id mark first w h =
    let s = action_shape_there rows w id h in
    (store.action s.0.name, action_of id, (h, (record { label = store.action s.0.name; slots = at_place s.0.bound ∷ [] }, s.1, refl)), refl, first)

-- ---- along a path

pub way_begins : (rows : List PlacedRow) (path : List ℕ) (t : Target) → IsTargetOf rows (value_of 0) t → IsOnTheWay rows path path t
way_begins rows path t h = record { slot = value_of 0; is_target = h; shows = λ sight s. s }

pub way_goes : (rows : List PlacedRow) (path rest : List ℕ) (n : ℕ) (t next : Target) → IsOnTheWay rows path (n ∷ rest) t → IsBelowTarget rows t n (below.Slot next) → IsOnTheWay rows path rest next
way_goes rows path rest n t next on_way is =
    let b = is on_way.slot on_way.is_target in
    record { slot = b.0; is_target = b.1; shows = λ sight s. on_way.shows sight (b.2 rest sight s) }

pub way_awaits : (rows : List PlacedRow) (path rest : List ℕ) (n id : ℕ) (t : Target) → IsOnTheWay rows path (n ∷ rest) t → IsBelowTarget rows t n (below.NotYet id) → IsSeen rows path (seen.NotYet id)
way_awaits rows path rest n id t on_way is = on_way.shows (awaits id) (is on_way.slot on_way.is_target rest)

pub way_leaves : (rows : List PlacedRow) (path rest : List ℕ) (n : ℕ) (t : Target) → IsOnTheWay rows path (n ∷ rest) t → IsBelowTarget rows t n below.NoPlace → IsSeen rows path seen.NoPlace
way_leaves rows path rest n t on_way is = on_way.shows no_place (is on_way.slot on_way.is_target rest)

seen_on : (rows : List PlacedRow) (path : List ℕ) (w : Written) (x : Seen) → ((sight : Sight) → SeesHere rows w sight → Shows rows path sight) → IsSeenBy rows (SeesHere rows w) x → IsSeen rows path x
seen_on rows path w (seen.Label (look.Atom value)) f h = f _ h
seen_on rows path w (seen.Label (look.Node kind mark)) f h = (h.0, h.1, f _ h.2, h.3, h.4)
seen_on rows path w (seen.NotYet id) f h = f _ h
seen_on rows path w seen.NoPlace f h = f _ h

pub way_ends : (rows : List PlacedRow) (path : List ℕ) (t : Target) (x : Seen) → IsOnTheWay rows path [] t → IsSeenTarget rows t x → IsSeen rows path x
way_ends rows path t x on_way is = seen_on rows path on_way.slot x on_way.shows (is on_way.slot on_way.is_target)

pub way_target : (rows : List PlacedRow) (path rest : List ℕ) (t : Target) → IsOnTheWay rows path rest t → (w : Written) × IsTargetOf rows w t
way_target rows path rest t on_way = (on_way.slot, on_way.is_target)
