-- A stream that comes in pieces: the rows in it, the begun row, and where it has no reading.
use Rattle.std.specs.declared.alloc.Global.{Global}
use Rattle.std.specs.Prelude.{Vec, flat_map, ℕ, ◌+◌, ◌≡◌, ◌≢◌, ◌⊎◌, List, [], ◌∷◌, ◌++◌, length}
use Rattle.flight_row.specs.declared.row.Row.{Row}
use Rattle.flight_row.specs.Rows.{Item, handed, hint, SpellAll}
use Rattle.flight_row.specs.Written.{spelling_of}
use Rattle.flight_feed.specs.declared.arrived.Arrived.{Arrived}
use Rattle.flight_feed.specs.declared.fault.FeedKind.{FeedKind}
use Rattle.flight_feed.specs.declared.fault.FeedKind.TheVariants.{Cut}
use Rattle.flight_feed.specs.Parts.{IsPart}
use Rattle.flight_feed.specs.Faults.{IsBad}

-- the rows among the items, with their numbers from n on; hints are counted and not handed out
abbrev pub numbered : ℕ → List Item → List Arrived
numbered n [] = []
numbered n (handed r ∷ items) = record { number = n; row = r } ∷ numbered (n + 1) items
numbered n (hint ∷ items) = numbered (n + 1) items

-- from the row number n on these items came, the row number m is next, and this is left of the text
pub record Advances (text : List ℕ) (n : ℕ) (old new : List Arrived) (rest : List ℕ) (m : ℕ) : Type 0 where
  pub items : List Item
  pub front : List ℕ
  pub added : new ≡ old ++ numbered n items
  pub counted : m ≡ n + length items
  pub spelled : SpellAll front items
  pub whole : text ≡ front ++ rest

-- rows came, and the next, which has this number, has this fault
pub record IsRefused (number : ℕ) (kind : FeedKind) (text : List ℕ) (n : ℕ) (old new : List Arrived) : Type 0 where
  pub bad : List ℕ
  pub more : List ℕ
  pub rows : Advances text n old new (bad ++ more) number
  pub is_bad : IsBad kind bad

-- rows came, and something is left
pub record IsLeft (text : List ℕ) (n : ℕ) (old new : List Arrived) : Type 0 where
  pub more : List ℕ
  pub number : ℕ
  pub rows : Advances text n old new more number

-- the text is these items, and then the beginning of one
pub record Splits (text : List ℕ) (items : List Item) (rest : List ℕ) : Type 0 where
  pub front : List ℕ
  pub spelled : SpellAll front items
  pub whole : text ≡ front ++ rest
  pub is_part : IsPart rest

-- behind these items the text has this fault, whatever comes after the bytes that show it
pub record Refuses (kind : FeedKind) (text : List ℕ) (items : List Item) : Type 0 where
  pub front : List ℕ
  pub bad : List ℕ
  pub more : List ℕ
  pub spelled : SpellAll front items
  pub whole : text ≡ front ++ (bad ++ more)
  pub is_bad : IsBad kind bad

-- behind these items the text ends within a row
pub record IsCut (text : List ℕ) (items : List Item) : Type 0 where
  pub rest : List ℕ
  pub some : rest ≢ []
  pub splits : Splits text items rest

-- behind these items a text that ends here has this fault
abbrev pub Fails : FeedKind → List ℕ → List Item → Type 0
Fails Cut text items = IsCut text items
Fails kind text items = Refuses kind text items

-- the text has this fault in the row of this number, which is its first
pub record HasFault (number : ℕ) (kind : FeedKind) (text : List ℕ) : Type 0 where
  pub items : List Item
  pub fails : Fails kind text items
  pub is_number : number ≡ length items + 1

-- what has come of a text has one reading: it is items and the beginning of one, or has a fault behind items
pub record HasOneReading (text : List ℕ) : Type 0 where
  pub some : ((items : List Item) × (rest : List ℕ) × Splits text items rest) ⊎ ((kind : FeedKind) × (items : List Item) × Refuses kind text items)
  pub rows : (items others : List Item) (rest other : List ℕ) → Splits text items rest → Splits text others other → (items ≡ others) × (rest ≡ other)
  pub not_both : (kind : FeedKind) (items others : List Item) (rest : List ℕ) → Splits text items rest → Refuses kind text others → ⊥
  pub one_fault : (kind kind' : FeedKind) (items others : List Item) → Refuses kind text items → Refuses kind' text others → (kind ≡ kind') × (items ≡ others)

-- a text that ends here has one reading: it is items, or has a fault
pub record HasOneEnd (text : List ℕ) : Type 0 where
  pub some : ((items : List Item) × SpellAll text items) ⊎ ((number : ℕ) × (kind : FeedKind) × HasFault number kind text)
  pub rows : (items others : List Item) → SpellAll text items → SpellAll text others → items ≡ others
  pub not_both : (number : ℕ) (kind : FeedKind) (items : List Item) → SpellAll text items → HasFault number kind text → ⊥
  pub one_fault : (number number' : ℕ) (kind kind' : FeedKind) → HasFault number kind text → HasFault number' kind' text → (number ≡ number') × (kind ≡ kind')

-- a row that was written is the first that is read, and the rest is read as if it stood alone
pub record IsReadBack (row : Row) (more : List ℕ) : Type 0 where
  pub rows : (items : List Item) (rest : List ℕ) → Splits (spelling_of row ++ more) items rest → (others : List Item) × (items ≡ handed row ∷ others) × Splits more others rest
  pub fault : (kind : FeedKind) (items : List Item) → Refuses kind (spelling_of row ++ more) items → (others : List Item) × (items ≡ handed row ∷ others) × Refuses kind more others

-- the pieces as one text
abbrev pub text_of : List (Vec ℕ Global) → List ℕ
text_of pieces = flat_map (λ piece. piece.items) pieces
