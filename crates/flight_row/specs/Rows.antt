-- The grammar of rows: what spells a row, a hint row, and a whole stream.
use Rattle.std.specs.Prelude.{ℕ, ◌+◌, ◌-◌, ◌*◌, ◌^◌, ◌<◌, ◌≤◌, ◌≡◌, ◌&&◌, ◌||◌, Bool, true, nat_lt, nat_le, not, nat_eq, if◌then◌else◌, List, [], ◌∷◌, ◌++◌, length, IsUtf8}
use Rattle.std.specs.List.{list_all, fold}
use Rattle.flight_value.specs.declared.graph.Flow.TheVariants.{Readable, Iterable, Iterator}
use Rattle.flight_row.specs.declared.row.RowKind.{RowKind}
use Rattle.flight_row.specs.declared.row.RowKind.TheVariants.{Model, Import, Error, Text, Open, Close}
use Rattle.flight_row.specs.declared.row.Row.{Row}
use Rattle.flight_row.specs.declared.tag.Tag.{Tag}
use Rattle.flight_row.specs.declared.tag.Tag.TheVariants.{Plain, Sized, Line, Hint, Dev, Unknown}

-- whether a byte is a digit or a lower-case letter up to f
abbrev pub is_hex : ℕ → Bool
is_hex b = (nat_le 48 b && nat_le b 57) || (nat_le 97 b && nat_le b 102)

-- its value
abbrev pub hex_value : ℕ → ℕ
hex_value b = if nat_lt b 58 then b - 48 else b - 87

-- the number that digits spell
abbrev pub number : List ℕ → ℕ
number ds = fold (λ n d. 16 * n + hex_value d) 0 ds

-- at most eight digits that spell the number, leading zeros among them
pub record AreDigits (ds : List ℕ) (n : ℕ) : Type 0 where
  pub digits : list_all is_hex ds ≡ true
  pub short : length ds ≤ 8
  pub value : number ds ≡ n

-- one to eight digits that spell the number
pub record IsNumber (ds : List ℕ) (n : ℕ) : Type 0 where
  pub are_digits : AreDigits ds n
  pub some : 0 < length ds

-- an id and its colon
pub record IsHead (bytes : List ℕ) (id : ℕ) : Type 0 where
  pub digits : List ℕ
  pub is_id : IsNumber digits id
  pub small : id < 2 ^ 31
  pub spelled : bytes ≡ digits ++ 58 ∷ []

-- D, W, J and N begin rows of developers' builds
abbrev pub is_dev : ℕ → Bool
is_dev b = nat_eq b 68 || nat_eq b 87 || nat_eq b 74 || nat_eq b 78

-- the other capital letters, and # o s l g m r, begin no row
abbrev pub is_unknown : ℕ → Bool
is_unknown b =
    (nat_le 65 b && nat_le b 90) || nat_eq b 35 || nat_eq b 111 || nat_eq b 115 || nat_eq b 108 || nat_eq b 103 || nat_eq b 109 || nat_eq b 114

-- what the byte behind the colon says: T, I, E, R, X, x, C and H are tags of rows that are read, and any byte
-- that is no tag belongs to the payload of a model row
unfoldable pub tag_of : ℕ → Tag
tag_of b =
    if nat_eq b 84 then Sized
    else (if nat_eq b 73 then Line Import
    else (if nat_eq b 69 then Line Error
    else (if nat_eq b 82 then Line (Open Readable)
    else (if nat_eq b 88 then Line (Open Iterable)
    else (if nat_eq b 120 then Line (Open Iterator)
    else (if nat_eq b 67 then Line Close
    else (if nat_eq b 72 then Hint
    else (if is_dev b then Dev
    else (if is_unknown b then Unknown
    else Plain)))))))))

-- an id, its colon and a tag that says so
pub record IsTagged (bytes : List ℕ) (id : ℕ) (tag : Tag) : Type 0 where
  pub head : List ℕ
  pub byte : ℕ
  pub is_head : IsHead head id
  pub says : tag_of byte ≡ tag
  pub is_tagged : bytes ≡ head ++ byte ∷ []

-- a payload is at most this long
abbrev pub longest : ℕ
longest = 67108864

-- a newline
abbrev pub is_newline : ℕ → Bool
is_newline b = nat_eq b 10

-- whether no newline is among the bytes
abbrev pub is_one_line : List ℕ → Bool
is_one_line bytes = list_all (λ b. not (is_newline b)) bytes

-- what a line holds: no newline, and no more bytes than a payload may have
pub record IsLine (payload : List ℕ) : Type 0 where
  pub one_line : is_one_line payload ≡ true
  pub within : length payload ≤ longest

-- whether bytes behind a colon begin a model row: nothing, or a byte that is no tag
abbrev pub begins_model : List ℕ → Type 0
begins_model [] = Unit {0}
begins_model (b ∷ bs) = tag_of b ≡ Plain

-- what stands before a payload that ends with a newline: a model row has no tag
abbrev pub IsLineHead : RowKind → List ℕ → ℕ → Type 0
IsLineHead Model bytes id = IsHead bytes id
IsLineHead kind bytes id = IsTagged bytes id (Line kind)

-- a row that ends with a newline, whatever the bytes of its payload
pub record IsLineRow (bytes : List ℕ) (id : ℕ) (kind : RowKind) (payload : List ℕ) : Type 0 where
  pub head : List ℕ
  pub is_head : IsLineHead kind head id
  pub is_line : IsLine payload
  pub is_model : kind ≡ Model → begins_model payload
  pub spelled : bytes ≡ head ++ payload ++ 10 ∷ []

-- the head of a text row of that length: the tag, the length and a comma
pub record IsTextHead (bytes : List ℕ) (id len : ℕ) : Type 0 where
  pub head : List ℕ
  pub digits : List ℕ
  pub is_head : IsTagged head id Sized
  pub is_length : IsNumber digits len
  pub is_text_head : bytes ≡ head ++ digits ++ 44 ∷ []

-- a text row: its head with its length, and as many bytes
pub record IsTextRow (bytes : List ℕ) (id : ℕ) (payload : List ℕ) : Type 0 where
  pub head : List ℕ
  pub is_head : IsTextHead head id (length payload)
  pub within : length payload ≤ longest
  pub spelled : bytes ≡ head ++ payload

-- the bytes have the form of a row of that kind, with that id and payload
abbrev pub IsRow : RowKind → List ℕ → ℕ → List ℕ → Type 0
IsRow Text bytes id payload = IsTextRow bytes id payload
IsRow kind bytes id payload = IsLineRow bytes id kind payload

-- the bytes spell the row
abbrev pub Spells : List ℕ → Row → Type 0
Spells bytes row = IsRow row.kind bytes row.id row.payload × IsUtf8 row.payload

-- what stands before the payload of a hint row, which alone may have no id
pub record IsHintHead (bytes : List ℕ) : Type 0 where
  pub digits : List ℕ
  pub id : ℕ
  pub byte : ℕ
  pub are_digits : AreDigits digits id
  pub small : id < 2 ^ 31
  pub says : tag_of byte ≡ Hint
  pub spelled : bytes ≡ digits ++ 58 ∷ byte ∷ []

-- a hint row, whatever its payload says
pub record SpellsHint (bytes : List ℕ) : Type 0 where
  pub head : List ℕ
  pub payload : List ℕ
  pub is_head : IsHintHead head
  pub is_line : IsLine payload
  pub spelled : bytes ≡ head ++ payload ++ 10 ∷ []

-- what a stream has in it: rows, and hints that are passed over
pub data Item : Type 0 where
  handed : Row → Item
  hint : Item

-- the bytes spell the item
abbrev pub SpellsItem : List ℕ → Item → Type 0
SpellsItem bytes (handed row) = Spells bytes row
SpellsItem bytes hint = SpellsHint bytes

-- the bytes are the spellings of the items, one after another
abbrev pub SpellAll : List ℕ → List Item → Type 0
SpellAll bytes [] = bytes ≡ []
SpellAll bytes (item ∷ items) = (first others : List ℕ) × (bytes ≡ first ++ others) × SpellsItem first item × SpellAll others items

-- the rows among the items
abbrev pub rows_of : List Item → List Row
rows_of [] = []
rows_of (handed row ∷ items) = row ∷ rows_of items
rows_of (hint ∷ items) = rows_of items

-- the whole stream has these rows
pub record HasRows (stream : List ℕ) (rows : List Row) : Type 0 where
  pub items : List Item
  pub spelled : SpellAll stream items
  pub is_rows : rows ≡ rows_of items
