-- How a row fails: each fault with the bytes up to the first at which it stands.
use Rattle.std.specs.Prelude.{ℕ, ◌+◌, ◌*◌, ◌^◌, ◌<◌, ◌≤◌, ◌≡◌, ◌≢◌, ◌⊎◌, true, List, [], ◌∷◌, ◌++◌, length, IsUtf8}
use Rattle.flight_row.specs.declared.row.RowKind.{RowKind}
use Rattle.flight_row.specs.declared.row.RowKind.TheVariants.{Model}
use Rattle.flight_row.specs.declared.tag.Tag.TheVariants.{Sized, Hint, Dev, Unknown}
use Rattle.flight_row.specs.Rows.{is_hex, hex_value, tag_of, AreDigits, IsTagged, IsTextHead, IsLineHead, IsHintHead, IsRow, is_one_line, begins_model, longest}
use Rattle.flight_feed.specs.declared.fault.FeedKind.{FeedKind}
use Rattle.flight_feed.specs.declared.fault.FeedKind.TheVariants.{BadId, BadTag, DevRow, BadLength, RowTooLong, BadText, Cut}

-- no id goes on so: the byte is no colon and no digit, or the digit is a ninth or makes the id too large
pub record NoId (bytes : List ℕ) : Type 0 where
  pub digits : List ℕ
  pub id : ℕ
  pub byte : ℕ
  pub are_digits : AreDigits digits id
  pub small : id < 2 ^ 31
  pub no_colon : byte ≢ 58
  pub no_digit : is_hex byte ≡ true → (length digits ≡ 8) ⊎ (2 ^ 31 ≤ 16 * id + hex_value byte)
  pub spelled : bytes ≡ digits ++ byte ∷ []

-- only a hint row has no id
pub record NoHint (bytes : List ℕ) : Type 0 where
  pub byte : ℕ
  pub no_hint : tag_of byte ≢ Hint
  pub spelled : bytes ≡ 58 ∷ byte ∷ []

-- no length goes on so: no digit stands before the comma, or the byte is no digit, or a ninth
pub record NoLength (bytes : List ℕ) : Type 0 where
  pub head : List ℕ
  pub id : ℕ
  pub digits : List ℕ
  pub value : ℕ
  pub byte : ℕ
  pub is_head : IsTagged head id Sized
  pub are_digits : AreDigits digits value
  pub no_comma : byte ≡ 44 → digits ≡ []
  pub no_digit : is_hex byte ≡ true → length digits ≡ 8
  pub spelled : bytes ≡ head ++ digits ++ byte ∷ []

-- a length past the limit, at its comma
pub record TooLongText (bytes : List ℕ) : Type 0 where
  pub id : ℕ
  pub len : ℕ
  pub is_head : IsTextHead bytes id len
  pub past : longest < len

-- the first byte too many, before a newline
pub record IsPast (payload : List ℕ) : Type 0 where
  pub one_line : is_one_line payload ≡ true
  pub past : length payload ≡ longest + 1

-- a row that a newline ends, with a byte too many before it
pub record TooLongLine (bytes : List ℕ) : Type 0 where
  pub head : List ℕ
  pub id : ℕ
  pub kind : RowKind
  pub payload : List ℕ
  pub is_head : IsLineHead kind head id
  pub is_model : kind ≡ Model → begins_model payload
  pub is_past : IsPast payload
  pub spelled : bytes ≡ head ++ payload

-- a hint row with a byte too many before its newline
pub record TooLongHint (bytes : List ℕ) : Type 0 where
  pub head : List ℕ
  pub payload : List ℕ
  pub is_head : IsHintHead head
  pub is_past : IsPast payload
  pub spelled : bytes ≡ head ++ payload

-- a whole row whose payload is not UTF-8
pub record NoText (bytes : List ℕ) : Type 0 where
  pub id : ℕ
  pub kind : RowKind
  pub payload : List ℕ
  pub is_row : IsRow kind bytes id payload
  pub not_text : ¬ IsUtf8 payload

-- the last of the bytes is the first at which this fault stands; a cut stands at the end of a stream, and at no byte
abbrev pub IsBad : FeedKind → List ℕ → Type 0
IsBad BadId bytes = NoId bytes ⊎ NoHint bytes
IsBad BadTag bytes = (id : ℕ) × IsTagged bytes id Unknown
IsBad DevRow bytes = (id : ℕ) × IsTagged bytes id Dev
IsBad BadLength bytes = NoLength bytes
IsBad RowTooLong bytes = TooLongText bytes ⊎ (TooLongLine bytes ⊎ TooLongHint bytes)
IsBad BadText bytes = NoText bytes
IsBad Cut bytes = ⊥
