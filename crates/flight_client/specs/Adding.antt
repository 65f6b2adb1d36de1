-- What rows that came do to those that were linked, and why a stream may not end; for private clauses.
use Rattle.std.specs.Prelude.{◌^◌, ◌<◌, ◌≡◌, ◌≢◌, Some, List, [], ◌∷◌, ◌++◌, IsUtf8}
use Rattle.std.specs.List.{AllZip}
use Rattle.flight_feed.specs.declared.arrived.Arrived.{Arrived}
use Rattle.flight_feed.specs.declared.fault.FeedKind.TheVariants.{Cut}
use Rattle.flight_feed.specs.Fed.{Fed}
use Rattle.flight_place.specs.declared.manner.Manner.TheVariants.{Wire}
use Rattle.flight_meaning.specs.declared.place.PlaceTree.{PlaceTree}
use Rattle.flight_meaning.specs.declared.place.PlacedRow.{PlacedRow}
use Rattle.flight_place.specs.Rows.{IsTree, IsRowFault}
use Rattle.flight_meaning.specs.Linked as linked
use Rattle.flight_meaning.specs.Good.{IsLeastUndefined}
use Rattle.flight_link.specs.Adding.{IsRefused}
use Rattle.flight_client.specs.declared.fault.ClientFault.{ClientFault}
use Rattle.flight_client.specs.declared.fault.ClientFault.TheVariants as fault
use Rattle.flight_client.specs.Rows.{IsPlacedRow, AreLinked}

-- a row with an id and a payload as every row has them
pub record IsReadable (arrived : Arrived) : Type 0 where
  pub small : arrived.row.id < 2 ^ 31
  pub utf8 : IsUtf8 arrived.row.payload

-- the row fails so behind these rows
abbrev pub IsFailure : List PlacedRow → Arrived → ClientFault → Type 0
IsFailure placed a (fault.Place number kind) = (number ≡ a.number) × IsRowFault Wire a.row kind
IsFailure placed a (fault.Link number kind) = (number ≡ a.number) × ((tree : PlaceTree) × IsTree Wire a.row tree × IsRefused placed a.row.id tree.kind kind)
IsFailure placed a fault.Memory = Unit {0}
IsFailure placed a f = ⊥

-- these rows came behind the old ones
pub record Adds (arrived : List Arrived) (old new : List PlacedRow) : Type 0 where
  pub more : List PlacedRow
  pub added : new ≡ old ++ more
  pub are_placed : AllZip (λ a p. IsPlacedRow a.row p) arrived more
  pub are_linked : AreLinked old → AreLinked new

-- some of these rows came behind the old ones, and the next of them failed so
pub record StopsAt (arrived : List Arrived) (old new : List PlacedRow) (f : ClientFault) : Type 0 where
  pub done : List Arrived
  pub failed : Arrived
  pub rest : List Arrived
  pub split : arrived ≡ done ++ failed ∷ rest
  pub adds : Adds done old new
  pub is_failure : IsFailure new failed f

-- what is wrong with whole rows, or memory is wanting
abbrev pub IsWanting : List PlacedRow → ClientFault → Type 0
IsWanting placed fault.NoRoot = linked.rows_of 0 placed ≡ []
IsWanting placed (fault.Undefined id) = (linked.rows_of 0 placed ≢ []) × IsLeastUndefined placed (Some id)
IsWanting placed fault.Memory = Unit {0}
IsWanting placed f = ⊥

-- why a stream may not end here
abbrev pub IsEndFault : Fed → List PlacedRow → ClientFault → Type 0
IsEndFault feed placed (fault.Feed number kind) = (feed.bytes ≢ []) × (number ≡ feed.number) × (kind ≡ Cut)
IsEndFault feed placed f = (feed.bytes ≡ []) × IsWanting placed f

-- the rows stay, and perhaps more come behind them
pub record Grows (old new : List PlacedRow) : Type 0 where
  pub more : List PlacedRow
  pub added : new ≡ old ++ more
