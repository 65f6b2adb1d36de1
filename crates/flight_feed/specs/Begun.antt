-- A row that has begun, as the reader keeps it, and what the next bytes do to it.
use Rattle.std.specs.Prelude.{ℕ, ◌+◌, ◌<◌, ◌≤◌, ◌≡◌, ◌⊎◌, Bool, true, false, not, List, [], ◌∷◌, ◌++◌, length, take, IsUtf8}
use Rattle.flight_row.specs.declared.row.RowKind.TheVariants.{Model}
use Rattle.flight_row.specs.declared.tag.Tag.{Tag}
use Rattle.flight_row.specs.declared.tag.Tag.TheVariants.{Plain}
use Rattle.flight_row.specs.Rows.{tag_of, IsHead, IsLineHead, IsHintHead, begins_model, Item, handed, hint, SpellsItem}
use Rattle.flight_feed.specs.declared.arrived.Arrived.{Arrived}
use Rattle.flight_feed.specs.declared.begun.Coming.{Coming}
use Rattle.flight_feed.specs.declared.begun.Coming.TheVariants.{Row as ARow, Hint as AHint}
use Rattle.flight_feed.specs.declared.begun.Mode.{Mode}
use Rattle.flight_feed.specs.declared.begun.Mode.TheVariants.{Id, Tag as AtTag, Colon, Length, Text, Line}
use Rattle.flight_feed.specs.declared.begun.Begun.{Begun}
use Rattle.flight_feed.specs.declared.begun.Stop.{Stop}
use Rattle.flight_feed.specs.declared.begun.Stop.TheVariants.{Refused, Memory}
use Rattle.flight_feed.specs.Parts.{InId, InLength, InText, InLine, InHint}
use Rattle.flight_feed.specs.Faults.{IsBad}
use Rattle.flight_feed.specs.Stream.{IsRefused, IsLeft, numbered}

-- what stands before the payload of what comes
abbrev pub IsBefore : Coming → List ℕ → Type 0
IsBefore (ARow id kind) head = IsLineHead kind head id
IsBefore AHint head = IsHintHead head

-- whether the payload of what comes may begin so
abbrev pub MayBegin : Coming → List ℕ → Type 0
MayBegin (ARow id kind) payload = kind ≡ Model → begins_model payload
MayBegin AHint payload = Unit {0}

-- whether a payload must be UTF-8, and is
abbrev pub IsFit : Coming → List ℕ → Type 0
IsFit (ARow id kind) payload = IsUtf8 payload
IsFit AHint payload = Unit {0}

-- what has come, once its payload is whole
abbrev pub item_of : Coming → List ℕ → Item
item_of (ARow i k) p = handed (record { id = i; kind = k; payload = p })
item_of AHint p = hint

-- among the bytes of a line
abbrev pub InComing : Coming → List ℕ → List ℕ → Type 0
InComing (ARow id kind) head payload = InLine head id kind payload
InComing AHint head payload = InHint head payload

-- a row has begun so
abbrev pub Begins : Mode → List ℕ → List ℕ → Type 0
Begins (Id id) head payload = InId head id × (payload ≡ [])
Begins (AtTag id) head payload = IsHead head id × (payload ≡ [])
Begins Colon head payload = (head ≡ 58 ∷ []) × (payload ≡ [])
Begins (Length id count value) head payload = InLength head id count value × (payload ≡ [])
Begins (Text id left) head payload = InText head id left payload
Begins (Line coming) head payload = InComing coming head payload

-- a text has bytes to come
abbrev pub IsUnfinished : Mode → Type 0
IsUnfinished (Text id left) = 0 < left
IsUnfinished m = Unit {0}

-- the begun row is no whole one, and without fault so far
pub record IsBegun (begun : Begun) : Type 0 where
  pub begins : Begins begun.mode begun.head.items begun.payload.items
  pub unfinished : IsUnfinished begun.mode

-- nothing has come of the row of that number
pub record IsFresh (begun : Begun) (number : ℕ) : Type 0 where
  pub mode : begun.mode ≡ Id 0
  pub head : begun.head.items ≡ []
  pub payload : begun.payload.items ≡ []
  pub next : begun.number ≡ number

-- the bytes that have come
abbrev pub bytes_of : Begun → List ℕ
bytes_of begun = begun.head.items ++ begun.payload.items

-- whether a byte is no tag
abbrev pub is_plain : Tag → Bool
is_plain Plain = true
is_plain t = false

-- whether a byte belongs to what stands between an id and a payload
abbrev pub goes_to_head : Mode → ℕ → Bool
goes_to_head (Id id) byte = false
goes_to_head (AtTag id) byte = not (is_plain (tag_of byte))
goes_to_head (Text id left) byte = false
goes_to_head (Line coming) byte = false
goes_to_head m byte = true

-- the row goes on, or becomes whole and the next begins
abbrev pub GoesOn : Begun → Begun → List Arrived → List Arrived → List ℕ → Type 0
GoesOn old new rows rows' taken =
    ((rows' ≡ rows) × (bytes_of new ≡ bytes_of old ++ taken) × (new.number ≡ old.number))
    ⊎ ((item : Item) × (rows' ≡ rows ++ numbered old.number (item ∷ [])) × SpellsItem (bytes_of old ++ taken) item × (bytes_of new ≡ []) × (new.number ≡ old.number + 1))

-- a front of what came has this fault
abbrev pub IsStopAt : List ℕ → List ℕ → Stop → Type 0
IsStopAt old piece Memory = Unit {0}
IsStopAt old piece (Refused kind) = (n : ℕ) × (n ≤ length piece) × IsBad kind (old ++ take n piece)

-- rows came, and then the reading stopped in the row of that number
abbrev pub Stops : List ℕ → ℕ → List Arrived → List Arrived → ℕ → Stop → Type 0
Stops text n old new number Memory = IsLeft text n old new
Stops text n old new number (Refused kind) = IsRefused number kind text n old new
