-- What a slot leads to, by the place at which it stands or by the id.
use Rattle.std.specs.Prelude.{ℕ, ◌≡◌, ◌≢◌, List, Option, Some, None}
use Rattle.flight_text.specs.declared.mark.Ref.{Ref}
use Rattle.flight_value.specs.declared.graph.Atom.TheVariants as atom
use Rattle.flight_value.specs.Store as store
use Rattle.flight_meaning.specs.declared.place.Place.{Place}
use Rattle.flight_meaning.specs.declared.place.Place.TheVariants as place
use Rattle.flight_meaning.specs.declared.place.PlacedRow.{PlacedRow}
use Rattle.flight_meaning.specs.Linked as linked
use Rattle.flight_meaning.specs.Resolve.{Path, to, found, not_yet, Ends, LeadsNowhere}
use Rattle.flight_meaning.specs.Meaning.{Written, at_place, value_of, made_at, promise_of, action_of, pending, stand_of, Leads, Token, map_token, set_token}
use Rattle.flight_link.specs.declared.found.Spot.{Spot}
use Rattle.flight_link.specs.declared.node.Start.{Start}
use Rattle.flight_link.specs.declared.node.Start.TheVariants.{Id, Place as AtPlace}
use Rattle.flight_link.specs.declared.target.Target.{Target}
use Rattle.flight_link.specs.declared.target.Target.TheVariants as target
use Rattle.flight_link.specs.Spots.{IsSpot}
use Rattle.flight_link.specs.Looking.{Awaits}
use Rattle.flight_link.specs.Nodes.{IsNodeAt, place_in, spot_of}

-- ---- what a slot leads to

-- an atom that is known; a node; or nothing so far, for want of the row of an id or for ever
abbrev pub IsTargetOf : List PlacedRow → Written → Target → Type 0
IsTargetOf rows w (target.Atom a) = Leads rows w (store.atom a.now) × (a.now ≢ atom.Pending)
IsTargetOf rows w (target.Node spot) = (s : linked.Spot) × IsSpot rows spot s × Leads rows w (store.node_at (made_at s))
IsTargetOf rows w (target.Promise id) = Leads rows w (store.node_at (promise_of id))
IsTargetOf rows w (target.Action id) = Leads rows w (store.node_at (action_of id))
IsTargetOf rows w (target.Awaits id) = Leads rows w pending × Awaits rows w id
IsTargetOf rows w target.Lost = Leads rows w pending × ((id : ℕ) → ¬ Awaits rows w id)

-- ---- where it is known how far the slot's walk goes

-- of each slot whose walk ends at this place
abbrev pub IsTargetFrom : List PlacedRow → Spot → Target → Type 0
IsTargetFrom rows end t = (w : Written) → Ends rows (stand_of w) (found (spot_of rows end)) → IsTargetOf rows w t

-- the slot whose walk is that of a node
abbrev pub written : List PlacedRow → Start → Written
written rows (Id id) = value_of id
written rows (AtPlace spot) = at_place (spot_of rows spot)

abbrev pub IsTargetBehind : List PlacedRow → List Start → ℕ → Target → Type 0
IsTargetBehind rows starts node t = (start : Start) → IsNodeAt starts node start → IsTargetOf rows (written rows start) t

-- the place of a Map or a Set
abbrev pub token_place : Token → Ref → Place
token_place map_token reference = place.Map reference
token_place set_token reference = place.Set reference

-- names lead from an id to where a row is wanting, or nowhere
abbrev pub IsMissing : List PlacedRow → ℕ → Path → Option ℕ → Type 0
IsMissing rows id names (Some wanting) = (path : Path) × Ends rows (to id names) (not_yet wanting path)
IsMissing rows id names None = LeadsNowhere rows (to id names)

abbrev pub missing_target : Option ℕ → Target
missing_target (Some id) = target.Awaits id
missing_target None = target.Lost

-- a failure where the entries stand, and else the node at the token's place
abbrev pub IsTokenIn : Spot → Option Place → Target → Type 0
IsTokenIn token (Some (place.Atom value)) (target.Atom a) = a.now ≡ value
IsTokenIn token (Some (place.Atom value)) t = ⊥
IsTokenIn token at t = t ≡ target.Node token

abbrev pub IsTokenTarget : List PlacedRow → Spot → Spot → Target → Type 0
IsTokenTarget rows token entries t = IsTokenIn token (place_in rows entries) t
