-- What a row has begun with, at each place in it.
use Rattle.std.specs.Prelude.{ℕ, ◌+◌, ◌^◌, ◌<◌, ◌≤◌, ◌≡◌, List, [], ◌∷◌, ◌++◌, length}
use Rattle.flight_row.specs.declared.row.RowKind.{RowKind}
use Rattle.flight_row.specs.declared.row.RowKind.TheVariants.{Model}
use Rattle.flight_row.specs.declared.tag.Tag.TheVariants.{Sized}
use Rattle.flight_row.specs.Rows.{AreDigits, IsHead, IsTagged, IsTextHead, IsLine, IsLineHead, IsHintHead, begins_model, longest}

-- among the digits of an id, or before them
pub record InId (bytes : List ℕ) (id : ℕ) : Type 0 where
  pub are_digits : AreDigits bytes id
  pub small : id < 2 ^ 31

-- among the digits of a length, or before them
pub record InLength (bytes : List ℕ) (id count value : ℕ) : Type 0 where
  pub head : List ℕ
  pub digits : List ℕ
  pub is_head : IsTagged head id Sized
  pub are_digits : AreDigits digits value
  pub counted : length digits ≡ count
  pub spelled : bytes ≡ head ++ digits

-- among the bytes of a text
pub record InText (head : List ℕ) (id left : ℕ) (payload : List ℕ) : Type 0 where
  pub is_head : IsTextHead head id (length payload + left)
  pub within : length payload + left ≤ longest

-- a model row has no tag, so it has begun only with its first byte
pub record HasFirst (payload : List ℕ) : Type 0 where
  pub some : 0 < length payload
  pub first : begins_model payload

-- in a row that a newline ends
pub record InLine (head : List ℕ) (id : ℕ) (kind : RowKind) (payload : List ℕ) : Type 0 where
  pub is_head : IsLineHead kind head id
  pub is_line : IsLine payload
  pub is_model : kind ≡ Model → HasFirst payload

-- in a hint row
pub record InHint (head : List ℕ) (payload : List ℕ) : Type 0 where
  pub is_head : IsHintHead head
  pub is_line : IsLine payload

-- a row has begun with these bytes, or none has; it is not whole, and it has no fault so far
pub data IsPart : List ℕ → Type 0 where
  in_id : (bytes : List ℕ) (id : ℕ) → InId bytes id → IsPart bytes
  behind_id : (bytes : List ℕ) (id : ℕ) → IsHead bytes id → IsPart bytes
  behind_colon : IsPart (58 ∷ [])
  in_length : (bytes : List ℕ) (id count value : ℕ) → InLength bytes id count value → IsPart bytes
  in_text : (head payload : List ℕ) (id left : ℕ) → InText head id left payload → 0 < left → IsPart (head ++ payload)
  in_line : (head payload : List ℕ) (id : ℕ) (kind : RowKind) → InLine head id kind payload → IsPart (head ++ payload)
  in_hint : (head payload : List ℕ) → InHint head payload → IsPart (head ++ payload)
