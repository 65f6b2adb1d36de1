-- Bytes before a payload.
use Rattle.std.proofs.Common.{◌≡◌, ℕ, ◌+◌, ◌<◌, true, List, [], ◌∷◌, ◌++◌, length, take, slice_index, refl, sym, arith, append-nil, append_assoc}
use Rattle.std.proofs.lemmas.List.{take_more}
use Rattle.flight_row.specs.declared.row.RowKind.{RowKind}
use Rattle.flight_row.specs.declared.row.RowKind.TheVariants.{Model, Import, Error, Text, Open, Close}
use Rattle.flight_row.specs.declared.tag.Tag.{Tag}
use Rattle.flight_row.specs.declared.tag.Tag.TheVariants.{Sized, Line, Hint}
use Rattle.flight_row.specs.Rows.{tag_of, AreDigits, IsHead, IsTagged, IsLineHead, IsLine}
use Rattle.flight_row.proofs.Tags.{tag_of-not_model}
use Rattle.flight_feed.specs.Parts.{InLength, InLine, InHint}
use Rattle.flight_feed.specs.declared.begun.Mode.{Mode}
use Rattle.flight_feed.specs.declared.begun.Mode.TheVariants as mode
use Rattle.flight_feed.specs.Begun.{Begins, goes_to_head}

pub no_digits : AreDigits [] 0
no_digits = record { digits = refl; short = omega arith; value = refl }

pub no_line : IsLine []
no_line = record { one_line = refl; within = omega arith }

pub tagged : (head : List ℕ) (id byte : ℕ) (tag : Tag) → IsHead head id → tag_of byte ≡ tag → IsTagged (head ++ byte ∷ []) id tag
tagged head id byte tag is_head says = record { head = head; byte = byte; is_head = is_head; says = says; is_tagged = refl }

pub line_head : (kind : RowKind) (bytes : List ℕ) (id : ℕ) → IsTagged bytes id (Line kind) → IsLineHead kind bytes id
line_head Model bytes id t = absurd (tag_of-not_model t.byte t.says)
line_head Import bytes id t = t
line_head Error bytes id t = t
line_head Text bytes id t = t
line_head (Open flow) bytes id t = t
line_head Close bytes id t = t

-- a tag begins a line
pub begins_line : (kind : RowKind) (head : List ℕ) (id byte : ℕ) → IsHead head id → tag_of byte ≡ Line kind → InLine (head ++ byte ∷ []) id kind []
begins_line kind head id byte is_head says =
    record {
      is_head = line_head kind (head ++ byte ∷ []) id (tagged head id byte (Line kind) is_head says);
      is_line = no_line;
      is_model = λ e. absurd (tag_of-not_model byte (rw (← e) says));
    }

-- and another a length
pub begins_length : (head : List ℕ) (id byte : ℕ) → IsHead head id → tag_of byte ≡ Sized → InLength (head ++ byte ∷ []) id 0 0
begins_length head id byte is_head says =
    record {
      head = head ++ byte ∷ [];
      digits = [];
      is_head = tagged head id byte Sized is_head says;
      are_digits = no_digits;
      counted = refl;
      spelled = sym (append-nil (head ++ byte ∷ []));
    }

-- a hint row needs no id
pub begins_hint : (head : List ℕ) (byte : ℕ) → head ≡ 58 ∷ [] → tag_of byte ≡ Hint → InHint (head ++ byte ∷ []) []
begins_hint head byte colon says =
    rw colon (record {
      is_head = record { digits = []; id = 0; byte = byte; are_digits = no_digits; small = omega arith; says = says; spelled = refl };
      is_line = no_line;
    })

pub no_payload : (m : Mode) (h p : List ℕ) (byte : ℕ) → Begins m h p → goes_to_head m byte ≡ true → p ≡ []
no_payload (mode.Id id) h p byte b g = cc
no_payload (mode.Tag id) h p byte b g = b.1
no_payload mode.Colon h p byte b g = b.1
no_payload (mode.Length id count value) h p byte b g = b.1
no_payload (mode.Text id left) h p byte b g = cc
no_payload (mode.Line coming) h p byte b g = cc

take_one : (piece : List ℕ) → 0 < length piece → take 1 piece ≡ slice_index piece 0 ∷ []
take_one [] h = absurd (omega arith)
take_one (x ∷ xs) h = refl

pub first_goes : (m : Mode) (h p piece : List ℕ) → Begins m h p → goes_to_head m (slice_index piece 0) ≡ true → 0 < length piece → (h ++ p) ++ take 1 piece ≡ h ++ slice_index piece 0 ∷ []
first_goes m h p piece b g some = rw (no_payload m h p (slice_index piece 0) b g, take_one piece some, append-nil) refl

-- a byte more behind what has come of an id
pub id_byte : (h p now piece : List ℕ) (at : ℕ) → p ≡ [] → now ≡ h ++ take at piece → at < length piece → (h ++ p) ++ take (at + 1) piece ≡ now ++ slice_index piece at ∷ []
id_byte h p now piece at none came within = rw (none, came, take_more piece at 0 within) (simp (append-nil, append_assoc))
