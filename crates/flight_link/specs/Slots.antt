-- The slots of nodes by their numbers, and what stands below a slot.
use Rattle.std.specs.Prelude.{ℕ, ◌≡◌, List, [], ◌∷◌, slice_get, Option, Some, None, option_map}
use Rattle.flight_value.specs.Store.{Label, Shape}
use Rattle.flight_text.specs.declared.mark.Ref.{Ref}
use Rattle.flight_meaning.specs.declared.place.Place.{Place}
use Rattle.flight_meaning.specs.declared.place.Place.TheVariants as place
use Rattle.flight_meaning.specs.declared.place.PlacedRow.{PlacedRow}
use Rattle.flight_meaning.specs.Resolve.{property}
use Rattle.flight_meaning.specs.Meaning.{Written, at_place, Identity, HasShape, Token, HasSlots, slots_in, Reference, reference_of}
use Rattle.flight_graph.specs.declared.label.Kind.{Kind}
use Rattle.flight_graph.specs.declared.label.Kind.TheVariants as graph_kind
use Rattle.flight_graph.specs.declared.label.Label.TheVariants as look
use Rattle.flight_link.specs.declared.found.Spot.{Spot}
use Rattle.flight_link.specs.declared.found.Seen.{Seen}
use Rattle.flight_link.specs.declared.found.Seen.TheVariants as seen
use Rattle.flight_link.specs.declared.below.Below.{Below}
use Rattle.flight_link.specs.declared.below.Below.TheVariants as below
use Rattle.flight_link.specs.declared.target.Target.{Target}
use Rattle.flight_link.specs.Looking.{Sight, sees_atom, sees_node, awaits, no_place, SeesHere, Sees, Shows, IsMark, kind_of}
use Rattle.flight_link.specs.Nodes.{place_in, spot_of}
use Rattle.flight_link.specs.Targets.{IsTargetOf}

-- ---- slots

-- the number of the place in a slot of an array, an object or an element
abbrev pub number_in : Place → ℕ → Option ℕ
number_in (place.Array numbers) n = slice_get numbers n
number_in (place.Object props) n = option_map (λ p. p.place) (slice_get props n)
number_in (place.Element tag key props) n = slice_get (tag ∷ key ∷ props ∷ []) n
number_in at n = None

-- another place of the same row
abbrev pub beside : Spot → Option ℕ → Option Spot
beside s o = option_map (λ n. record { row = s.row; place = n }) o

-- what stands in this slot is written there
abbrev pub IsSlotOf : List PlacedRow → List Written → ℕ → Option Spot → Type 0
IsSlotOf rows slots n o = slice_get slots n ≡ option_map (λ s. at_place (spot_of rows s)) o

-- there is such a place
abbrev pub IsThere : List PlacedRow → Option Spot → Type 0
IsThere rows (Some s) = (at : Place) × (place_in rows s ≡ Some at)
IsThere rows None = Unit {0}

abbrev pub IsSlotAt : List PlacedRow → Identity → ℕ → Option Spot → Type 0
IsSlotAt rows node n o = (shape : Shape Written) → HasShape rows node shape → IsSlotOf rows shape.slots n o

-- of a Map or a Set, by its reference
abbrev pub IsTokenSlot : List PlacedRow → Token → Ref → ℕ → Option Spot → Type 0
IsTokenSlot rows token reference n o = (slots : List Written) → HasSlots rows token reference slots → IsSlotOf rows slots n o

-- of a Map or a Set, by the place of its entries
abbrev pub IsEntrySlot : List PlacedRow → Token → Spot → ℕ → Option Spot → Type 0
IsEntrySlot rows token s n o = (slots : List Written) → slots_in token rows (spot_of rows s) (place_in rows s) ≡ Some slots → IsSlotOf rows slots n o

-- an item of an array, by the place of the array
abbrev pub array_item : Spot → Option Place → ℕ → Option Spot
array_item s (Some (place.Array numbers)) n = beside s (slice_get numbers n)
array_item s at n = None

abbrev pub item_at : List PlacedRow → Spot → ℕ → Option Spot
item_at rows s n = array_item s (place_in rows s) n

-- the item of an entry
abbrev pub entry_item : List PlacedRow → Option Spot → ℕ → Option Spot
entry_item rows (Some s) n = item_at rows s n
entry_item rows None n = None

-- a property of an object, by the place of the object
abbrev pub object_property : Spot → Option Place → List ℕ → Option Spot
object_property s (Some (place.Object props)) name = beside s (property props name)
object_property s at name = None

abbrev pub property_at : List PlacedRow → Spot → List ℕ → Option Spot
property_at rows s name = object_property s (place_in rows s) name

-- what a server reference is bound to
abbrev pub IsBound : List PlacedRow → ℕ → Option Spot → Type 0
IsBound rows id o = (r : Reference) → reference_of rows id ≡ Some r → option_map (λ s. spot_of rows s) o ≡ Some r.bound

-- ---- what stands below a slot

abbrev pub IsBelow : List PlacedRow → Written → ℕ → Below → Type 0
IsBelow rows w n (below.Slot t) = (v : Written) × IsTargetOf rows v t × ((path : List ℕ) (sight : Sight) → Sees rows v path sight → Sees rows w (n ∷ path) sight)
IsBelow rows w n (below.NotYet id) = (path : List ℕ) → Sees rows w (n ∷ path) (awaits id)
IsBelow rows w n below.NoPlace = (path : List ℕ) → Sees rows w (n ∷ path) no_place

abbrev pub IsBelowTarget : List PlacedRow → Target → ℕ → Below → Type 0
IsBelowTarget rows t n x = (w : Written) → IsTargetOf rows w t → IsBelow rows w n x

-- ---- what is seen at a slot

abbrev pub IsSeenBy : List PlacedRow → (Sight → Type 0) → Seen → Type 0
IsSeenBy rows Shown (seen.Label (look.Atom value)) = Shown (sees_atom value.now)
IsSeenBy rows Shown (seen.Label (look.Node kind mark)) = (label : Label) × (node : Identity) × Shown (sees_node label node) × (kind ≡ kind_of label) × IsMark rows node mark
IsSeenBy rows Shown (seen.NotYet id) = Shown (awaits id)
IsSeenBy rows Shown seen.NoPlace = Shown no_place

abbrev pub IsSeenTarget : List PlacedRow → Target → Seen → Type 0
IsSeenTarget rows t x = (w : Written) → IsTargetOf rows w t → IsSeenBy rows (SeesHere rows w) x

-- the kind of the node that a place is
abbrev pub kind_in : Option Place → Kind
kind_in (Some (place.Object props)) = graph_kind.Object
kind_in (Some (place.Element tag key props)) = graph_kind.Element
kind_in (Some (place.Map reference)) = graph_kind.Map
kind_in (Some (place.Set reference)) = graph_kind.Set
kind_in at = graph_kind.Array

-- a target from which the rest of a path shows what the whole path shows from the root
pub record IsOnTheWay (rows : List PlacedRow) (path rest : List ℕ) (t : Target) : Type 0 where
  pub slot : Written
  pub is_target : IsTargetOf rows slot t
  pub shows : (sight : Sight) → Sees rows slot rest sight → Shows rows path sight

-- the target of some slot
abbrev pub IsTargetOfSome : List PlacedRow → Target → Type 0
IsTargetOfSome rows t = (w : Written) × IsTargetOf rows w t
