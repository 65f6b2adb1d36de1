-- The first fault of a stream: that of its first faulty row.
use Rattle.std.specs.Prelude.{ℕ, ◌+◌, ◌≡◌, ◌≢◌, Some, List, [], ◌∷◌, ◌++◌, length}
use Rattle.flight_row.specs.declared.row.Row.{Row}
use Rattle.flight_row.specs.Rows.{Item, handed}
use Rattle.flight_feed.specs.declared.fault.FeedKind.{FeedKind}
use Rattle.flight_feed.specs.Stream.{Refuses, Fails}
use Rattle.flight_place.specs.declared.fault.PlaceKind.{PlaceKind}
use Rattle.flight_place.specs.declared.manner.Manner.TheVariants.{Wire}
use Rattle.flight_meaning.specs.declared.place.PlaceTree.{PlaceTree}
use Rattle.flight_meaning.specs.declared.place.PlacedRow.{PlacedRow}
use Rattle.flight_place.specs.Rows.{IsTree, IsRowFault}
use Rattle.flight_meaning.specs.Linked as linked
use Rattle.flight_meaning.specs.Good.{IsLeastUndefined}
use Rattle.flight_link.specs.declared.fault.LinkKind.{LinkKind}
use Rattle.flight_link.specs.Adding.{IsRefused}
use Rattle.flight_client.specs.declared.fault.ClientFault.{ClientFault}
use Rattle.flight_client.specs.declared.fault.ClientFault.TheVariants as fault
use Rattle.flight_client.specs.Rows.{HaveRows, IsWhole, StartsWith}

-- behind these items, whose rows are these, another row has come, and it is the one of this number
pub record HasNext (text : List ℕ) (placed : List PlacedRow) (number : ℕ) (next : Row) : Type 0 where
  pub items : List Item
  pub starts : StartsWith text (items ++ handed next ∷ [])
  pub have : HaveRows items placed
  pub is_number : number ≡ length items + 1

-- it has no places
pub record HasPlaceFault (text : List ℕ) (placed : List PlacedRow) (number : ℕ) (kind : PlaceKind) : Type 0 where
  pub next : Row
  pub has_next : HasNext text placed number next
  pub is_fault : IsRowFault Wire next kind

-- it may not follow the rows before it
pub record HasLinkFault (text : List ℕ) (placed : List PlacedRow) (number : ℕ) (kind : LinkKind) : Type 0 where
  pub next : Row
  pub has_next : HasNext text placed number next
  pub tree : PlaceTree
  pub is_tree : IsTree Wire next tree
  pub is_refused : IsRefused placed next.id tree.kind kind

-- behind these rows the bytes go on as no row does
pub record HasFeedFault (text : List ℕ) (placed : List PlacedRow) (number : ℕ) (kind : FeedKind) : Type 0 where
  pub items : List Item
  pub refuses : Refuses kind text items
  pub have : HaveRows items placed
  pub is_number : number ≡ length items + 1

-- the text has this fault behind these rows, whatever follows the bytes that show it
abbrev pub HasFault : List ℕ → List PlacedRow → ClientFault → Type 0
HasFault text placed (fault.Feed number kind) = HasFeedFault text placed number kind
HasFault text placed (fault.Place number kind) = HasPlaceFault text placed number kind
HasFault text placed (fault.Link number kind) = HasLinkFault text placed number kind
HasFault text placed f = ⊥

-- behind these rows a text that ends here goes on as no row does, or ends within a row
pub record HasFeedEnd (text : List ℕ) (placed : List PlacedRow) (number : ℕ) (kind : FeedKind) : Type 0 where
  pub items : List Item
  pub fails : Fails kind text items
  pub have : HaveRows items placed
  pub is_number : number ≡ length items + 1

-- a text that ends here has this fault: that of a row before all; then row 0 is wanting; then a reference is not
-- defined, by the least id
abbrev pub EndsWithFault : List ℕ → ClientFault → Type 0
EndsWithFault text (fault.Feed number kind) = (placed : List PlacedRow) × HasFeedEnd text placed number kind
EndsWithFault text (fault.Place number kind) = (placed : List PlacedRow) × HasPlaceFault text placed number kind
EndsWithFault text (fault.Link number kind) = (placed : List PlacedRow) × HasLinkFault text placed number kind
EndsWithFault text fault.NoRoot = (placed : List PlacedRow) × IsWhole text placed × (linked.rows_of 0 placed ≡ [])
EndsWithFault text (fault.Undefined id) = (placed : List PlacedRow) × IsWhole text placed × (linked.rows_of 0 placed ≢ []) × IsLeastUndefined placed (Some id)
EndsWithFault text fault.Memory = ⊥
