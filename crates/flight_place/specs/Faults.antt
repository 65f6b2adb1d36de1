-- What the functions of this crate say of the places that they add, and of their faults.
use Rattle.std.specs.Prelude.{ℕ, ◌≡◌, List, ◌++◌, None}
use Rattle.serde_json.specs.Read.{read}
use Rattle.flight_meaning.specs.declared.place.Place.{Place}
use Rattle.flight_place.specs.declared.manner.Manner.{Manner}
use Rattle.flight_place.specs.declared.fault.PlaceKind.TheVariants.{BadModel}
use Rattle.flight_place.specs.declared.fault.PlaceFault.{PlaceFault}
use Rattle.flight_place.specs.declared.fault.PlaceFault.TheVariants.{Fault, Memory}
use Rattle.flight_place.specs.Places.{Visit, faulty, HavePlaces, IsFirstFault}

-- the fault is the first of what was visited; want of memory says nothing
abbrev pub Refuses : Manner → List Visit → PlaceFault → Type 0
Refuses manner visited (Fault kind) = IsFirstFault manner visited kind
Refuses manner visited Memory = Unit {0}

-- what was visited is this fault
abbrev pub IsUnfit : Visit → PlaceFault → Type 0
IsUnfit visit (Fault kind) = visit ≡ faulty kind
IsUnfit visit Memory = Unit {0}

-- the text is no JSON
abbrev pub IsUnread : List ℕ → PlaceFault → Type 0
IsUnread text (Fault kind) = (read text ≡ None) × (kind ≡ BadModel)
IsUnread text Memory = Unit {0}

-- the places of what was visited came behind the old ones
pub record Adds (manner : Manner) (old new : List Place) (visited : List Visit) : Type 0 where
  pub more : List Place
  pub added : new ≡ old ++ more
  pub have : HavePlaces manner visited more
