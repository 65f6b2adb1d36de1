-- What came stays.
use Rattle.std.proofs.Common.{◌≡◌, List, [], ◌++◌, refl, sym, append-nil}
use Rattle.std.specs.Prelude.{Result, Ok, Err, OnOk, IfErr}
use Rattle.flight_feed.specs.declared.arrived.Arrived.{Arrived}
use Rattle.flight_meaning.specs.declared.place.PlacedRow.{PlacedRow}
use Rattle.flight_client.specs.declared.fault.ClientFault.{ClientFault}
use Rattle.flight_client.specs.Adding.{Adds, StopsAt, Grows}

pub adds_grow : (arrived : List Arrived) (old new : List PlacedRow) → Adds arrived old new → Grows old new
adds_grow arrived old new a = record { more = a.more; added = a.added }

pub all_grow : (r : Result (Unit {0}) ClientFault) (arrived : List Arrived) (old new : List PlacedRow) → OnOk r (Adds arrived old new) → IfErr r (StopsAt arrived old new) → Grows old new
all_grow (Ok x) arrived old new a s = adds_grow arrived old new a
all_grow (Err f) arrived old new a s = adds_grow s.done old new s.adds

pub same_grow : (old : List PlacedRow) → Grows old old
same_grow old = record { more = []; added = sym (append-nil old) }
