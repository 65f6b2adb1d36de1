-- One way to read: the first item of a text, or where it fails. With it no text has two readings.
use Rattle.std.proofs.Common.{◌≡◌, ℕ, ◌+◌, ◌-◌, ◌*◌, ◌&&◌, ◌||◌, not, nat_eq, nat_lt, List, [], ◌∷◌, ◌++◌, length, refl, ap}
use Rattle.std.specs.Prelude.{nat_le, if◌then◌else◌}
use Rattle.std.specs.Str.{is_utf8}
use Rattle.flight_row.specs.declared.row.RowKind.TheVariants.{Model, Text}
use Rattle.flight_row.specs.declared.tag.Tag.{Tag}
use Rattle.flight_row.specs.declared.tag.Tag.TheVariants as tag
use Rattle.flight_row.specs.Rows.{tag_of, is_hex, hex_value, longest, Item, handed, hint}
use Rattle.flight_feed.specs.declared.fault.FeedKind.{FeedKind}
use Rattle.flight_feed.specs.declared.fault.FeedKind.TheVariants.{BadId, BadTag, DevRow, BadLength, RowTooLong, BadText}
use Rattle.flight_feed.specs.declared.begun.Coming.{Coming}
use Rattle.flight_feed.specs.declared.begun.Coming.TheVariants.{Row as ARow, Hint as AHint}

-- where a reader stands
pub data Place : Type 0 where
  at_id : (count value : ℕ) → Place
  at_tag : (id : ℕ) → Place
  at_colon : Place
  at_length : (id count value : ℕ) → Place
  at_text : (id : ℕ) (bytes : List ℕ) (left : ℕ) → Place
  at_line : (coming : Coming) (line : List ℕ) → Place

-- what a byte does there
pub data Step : Type 0 where
  to : Place → Step
  ends : Item → Step
  stops : FeedKind → Step

-- what a text shows
pub data Seen : Type 0 where
  goes : Place → Seen
  whole : Item → List ℕ → Seen
  fails : FeedKind → Seen

-- a payload that is whole
abbrev pub settle : Coming → List ℕ → Step
settle (ARow i k) p = if is_utf8 p then ends (handed (record { id = i; kind = k; payload = p })) else stops BadText
settle AHint p = ends hint

abbrev pub line_step : Coming → List ℕ → ℕ → Step
line_step c p b = if nat_eq b 10 then settle c p else (if nat_le longest (length p) then stops RowTooLong else to (at_line c (p ++ b ∷ [])))

abbrev pub tag_step : ℕ → ℕ → Tag → Step
tag_step i b tag.Plain = line_step (ARow i Model) [] b
tag_step i b tag.Sized = to (at_length i 0 0)
tag_step i b (tag.Line k) = to (at_line (ARow i k) [])
tag_step i b tag.Hint = to (at_line AHint [])
tag_step i b tag.Dev = stops DevRow
tag_step i b tag.Unknown = stops BadTag

abbrev pub colon_step : Tag → Step
colon_step tag.Plain = stops BadId
colon_step tag.Sized = stops BadId
colon_step (tag.Line k) = stops BadId
colon_step tag.Hint = to (at_line AHint [])
colon_step tag.Dev = stops BadId
colon_step tag.Unknown = stops BadId

abbrev pub comma_step : ℕ → ℕ → Step
comma_step i v = if nat_lt longest v then stops RowTooLong else (if nat_eq v 0 then settle (ARow i Text) [] else to (at_text i [] v))

abbrev pub step : Place → ℕ → Step
step (at_id n v) b =
    if nat_eq b 58 then (if nat_eq n 0 then to at_colon else to (at_tag v))
    else (if not (is_hex b) || nat_le 8 n then stops BadId
    else (if nat_le 2147483648 (16 * v + hex_value b) then stops BadId else to (at_id (n + 1) (16 * v + hex_value b))))
step (at_tag i) b = tag_step i b (tag_of b)
step at_colon b = colon_step (tag_of b)
step (at_length i n v) b =
    if nat_eq b 44 && nat_lt 0 n then comma_step i v
    else (if not (is_hex b) || nat_le 8 n then stops BadLength else to (at_length i (n + 1) (16 * v + hex_value b)))
step (at_text i p left) b =
    if nat_le left 1 then settle (ARow i Text) (p ++ b ∷ []) else to (at_text i (p ++ b ∷ []) (left - 1))
step (at_line c p) b = line_step c p b

abbrev pub after : Step → List ℕ → (Place → Seen) → Seen
after (to p) bs f = f p
after (ends i) bs f = whole i bs
after (stops k) bs f = fails k

pub scan : Place → List ℕ → Seen
scan p [] = goes p
scan p (b ∷ bs) = after (step p b) bs (λ q. scan q bs)

abbrev pub start : Place
start = at_id 0 0

pub scan-nil : (p : Place) → scan p [] ≡ goes p
unfolding scan
scan-nil p = refl

pub scan-cons : (p : Place) (b : ℕ) (bs : List ℕ) (s : Step) → step p b ≡ s → scan p (b ∷ bs) ≡ after s bs (λ q. scan q bs)
unfolding scan
scan-cons p b bs s e = ap (λ t. after t bs (λ q. scan q bs)) e
