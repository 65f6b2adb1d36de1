-- What the functions that place values as they are read say of their results.
use Rattle.std.specs.Prelude.{ℕ, ◌≡◌, ◌⊎◌, ◌+◌, List, length, Bool, true, false, Option, Some, None}
use Rattle.json.specs.Token.{Token}
use Rattle.json.specs.Token as token
use Rattle.serde_json.specs.Data.{Data, Items}
use Rattle.flight_meaning.specs.declared.place.Place.{Place}
use Rattle.flight_place.specs.declared.manner.Manner.{Manner}
use Rattle.flight_place.specs.declared.fault.PlaceKind.{PlaceKind}
use Rattle.flight_place.specs.declared.fault.PlaceKind.TheVariants.{BadModel}
use Rattle.flight_place.specs.declared.fault.PlaceFault.{PlaceFault}
use Rattle.flight_place.specs.declared.fault.PlaceFault.TheVariants as fault
use Rattle.flight_place.specs.declared.reading.Unread.{Unread}
use Rattle.flight_place.specs.declared.reading.Unread.TheVariants as unread
use Rattle.flight_place.specs.declared.placing.Stop.{Stop}
use Rattle.flight_place.specs.declared.placing.Stop.TheVariants.{NoJson, Fault, Memory}
use Rattle.flight_place.specs.Tokens.{is_dollar}
use Rattle.flight_place.specs.Places.{Visit, item_visits, item_count, item_numbers, IsFirstFault, visits}
use Rattle.flight_place.specs.Faults.{Adds}

-- what was read, so much that is visited, came behind the old places
pub record Brings {A : Type 0} (manner : Manner) (visited : A → List Visit) (counted : A → ℕ) (old new : List Place) (seen : Option (A × List Token)) (rest : List Token) : Type 0 where
  pub what : A
  pub is_read : seen ≡ Some (what, rest)
  pub adds : Adds manner old new (visited what)
  pub count : length new ≡ length old + counted what

-- the same of items, which have these numbers
pub record BringsItems (manner : Manner) (old new : List Place) (seen : Option (Items × List Token)) (rest : List Token) (numbers : List ℕ) : Type 0 where
  pub items : Items
  pub is_read : seen ≡ Some (items, rest)
  pub adds : Adds manner old new (item_visits manner (length old) items)
  pub count : length new ≡ length old + item_count items
  pub are_numbers : numbers ≡ item_numbers (length old) items

-- nothing is there to be read; or a fault, which is the first where something is; want of memory says nothing
abbrev pub Stops : {A : Type 0} → Manner → (A → List Visit) → Option (A × List Token) → Stop → Type 0
Stops manner visited seen NoJson = seen ≡ None
Stops {A} manner visited seen (Fault kind) = (what : A) (rest : List Token) → seen ≡ Some (what, rest) → IsFirstFault manner (visited what) kind
Stops manner visited seen Memory = Unit {0}

abbrev pub stop_unread : Unread → Stop
stop_unread unread.NoJson = NoJson
stop_unread unread.Memory = Memory

abbrev pub stop_at : PlaceFault → Stop
stop_at (fault.Fault kind) = Fault kind
stop_at fault.Memory = Memory

-- the string `$`
abbrev pub is_mark_token : Token → Bool
is_mark_token (token.string s) = is_dollar s
is_mark_token t = false

abbrev pub is_array_token : Token → Bool
is_array_token token.begin_array = true
is_array_token t = false

-- the payload is no JSON; or the fault is the first of what it reads as
abbrev pub StopsAt : Manner → Option Data → Stop → Type 0
StopsAt manner json NoJson = json ≡ None
StopsAt manner json (Fault kind) = (d : Data) → json ≡ Some d → IsFirstFault manner (visits manner 0 d) kind
StopsAt manner json Memory = Unit {0}

-- the fault of a payload that is JSON, or of one that is none
abbrev pub IsConfirmed : PlaceKind → Option Data → PlaceFault → Type 0
IsConfirmed kind json (fault.Fault k) = ((d : Data) × (json ≡ Some d) × (k ≡ kind)) ⊎ ((json ≡ None) × (k ≡ BadModel))
IsConfirmed kind json fault.Memory = Unit {0}
