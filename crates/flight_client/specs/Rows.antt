-- The rows of a stream with their places, as far as it has come.
use Rattle.std.specs.Prelude.{ℕ, ◌≡◌, false, List, ◌++◌, All}
use Rattle.std.specs.List.{AllZip}
use Rattle.flight_row.specs.declared.row.Row.{Row}
use Rattle.flight_row.specs.Rows.{Item, rows_of, SpellAll}
use Rattle.flight_feed.specs.Stream.{Splits}
use Rattle.flight_place.specs.declared.manner.Manner.TheVariants.{Wire}
use Rattle.flight_meaning.specs.declared.place.PlacedRow.{PlacedRow}
use Rattle.flight_place.specs.Rows.{IsTree}
use Rattle.flight_meaning.specs.Linked.{FollowOn}
use Rattle.flight_link.specs.Adding.{is_of_stream}

-- the row with its places, as a server writes them
pub record IsPlacedRow (of_row : Row) (placed : PlacedRow) : Type 0 where
  pub same_id : placed.id ≡ of_row.id
  pub is_tree : IsTree Wire of_row placed.tree

-- the rows among the items, in order, with their places
abbrev pub ArePlaced : List Item → List PlacedRow → Type 0
ArePlaced items placed = AllZip IsPlacedRow (rows_of items) placed

-- none of the rows is refused behind those before it
pub record AreLinked (placed : List PlacedRow) : Type 0 where
  pub follow_on : FollowOn placed
  pub of_no_stream : All (λ r. is_of_stream r.tree.kind ≡ false) placed

-- the rows of these items, none of which is refused
pub record HaveRows (items : List Item) (placed : List PlacedRow) : Type 0 where
  pub are_placed : ArePlaced items placed
  pub are_linked : AreLinked placed

-- what has come of a text is these rows, and then at most the beginning of one
pub record HasSoFar (text : List ℕ) (placed : List PlacedRow) : Type 0 where
  pub items : List Item
  pub rest : List ℕ
  pub splits : Splits text items rest
  pub have : HaveRows items placed

-- the text is these rows
pub record IsWhole (text : List ℕ) (placed : List PlacedRow) : Type 0 where
  pub items : List Item
  pub spelled : SpellAll text items
  pub have : HaveRows items placed

-- the text begins with these items, whatever follows
pub record StartsWith (text : List ℕ) (items : List Item) : Type 0 where
  pub front : List ℕ
  pub rest : List ℕ
  pub spelled : SpellAll front items
  pub whole : text ≡ front ++ rest
