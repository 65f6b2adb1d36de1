-- What a client is, and where it stands in a text.
use Rattle.std.specs.Prelude.{ℕ, ◌+◌, ◌≡◌, Option, Some, None, Result, Ok, Err, List, length}
use Rattle.flight_row.specs.Rows.{Item}
use Rattle.flight_feed.specs.Fed.{Fed}
use Rattle.flight_feed.specs.Stream.{Splits}
use Rattle.flight_meaning.specs.declared.place.PlacedRow.{PlacedRow}
use Rattle.flight_client.specs.declared.fault.ClientFault.{ClientFault}
use Rattle.flight_client.specs.declared.fault.ClientFault.TheVariants as fault
use Rattle.flight_client.specs.Rows.{HaveRows, StartsWith}
use Rattle.flight_client.specs.Faults.{HasFault}

-- the fault that it keeps, its reader of rows, and the rows that count
pub record Held : Type 0 where
  pub fault : Option ClientFault
  pub feed : Fed
  pub rows : List PlacedRow

-- without a fault: all whole rows of the text count, and the reader has the rest
pub record IsOn (text : List ℕ) (feed : Fed) (placed : List PlacedRow) : Type 0 where
  pub items : List Item
  pub splits : Splits text items feed.bytes
  pub have : HaveRows items placed
  pub is_number : feed.number ≡ length items + 1

-- after want of memory: the rows of a front of the text count
pub record IsShort (text : List ℕ) (placed : List PlacedRow) : Type 0 where
  pub items : List Item
  pub starts : StartsWith text items
  pub have : HaveRows items placed

abbrev pub Stands : List ℕ → Option ClientFault → Fed → List PlacedRow → Type 0
Stands text None feed placed = IsOn text feed placed
Stands text (Some fault.Memory) feed placed = IsShort text placed
Stands text (Some f) feed placed = HasFault text placed f

-- the client has taken this text, in whatever pieces
abbrev pub HasTaken : List ℕ → Held → Type 0
HasTaken text held = Stands text held.fault held.feed held.rows

-- the fault of an answer
abbrev pub fault_in : Result (Unit {0}) ClientFault → Option ClientFault
fault_in (Ok x) = None
fault_in (Err f) = Some f
