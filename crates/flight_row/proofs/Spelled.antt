-- What is written of a row spells it.
use Rattle.std.proofs.Common.{◌≡◌, ◌≢◌, ℕ, ◌^◌, ◌<◌, ◌≤◌, List, [], ◌∷◌, ◌++◌, length, true, refl, sym, arith, append_assoc}
use Rattle.flight_value.specs.declared.graph.Flow.TheVariants.{Readable, Iterable, Iterator}
use Rattle.flight_row.specs.declared.row.RowKind.{RowKind}
use Rattle.flight_row.specs.declared.row.RowKind.TheVariants.{Model, Import, Error, Text, Open, Close}
use Rattle.flight_row.specs.declared.row.Row.{Row}
use Rattle.flight_row.specs.declared.tag.Tag.{Tag}
use Rattle.flight_row.specs.declared.tag.Tag.TheVariants.{Sized, Line}
use Rattle.flight_row.specs.Rows.{tag_of, IsHead, IsTagged, IsLineHead, IsLineRow, IsTextRow, IsRow, Spells, longest, is_one_line, begins_model}
use Rattle.flight_row.specs.Written.{hexadecimal, tag_bytes, payload_bytes, spelling_of, IsWritable}
use Rattle.flight_row.proofs.Hexadecimal.{hexadecimal-IsNumber}

head : (i : ℕ) → i < 2 ^ 31 → IsHead (hexadecimal i ++ 58 ∷ []) i
head i small =
    record { digits = hexadecimal i; is_id = hexadecimal-IsNumber i (omega (arith, small)); small = small; spelled = refl }

tagged : (i byte : ℕ) (tag : Tag) → i < 2 ^ 31 → tag_of byte ≡ tag → IsTagged (hexadecimal i ++ 58 ∷ byte ∷ []) i tag
tagged i byte tag small says =
    record {
      head = hexadecimal i ++ 58 ∷ [];
      byte = byte;
      is_head = head i small;
      says = says;
      is_tagged = sym (append_assoc (hexadecimal i) (58 ∷ []) (byte ∷ []));
    }

line : (k : RowKind) (i : ℕ) (h p : List ℕ) → IsLineHead k h i → is_one_line p ≡ true → length p ≤ longest → (k ≡ Model → begins_model p) → IsLineRow (h ++ (p ++ 10 ∷ [])) i k p
line k i h p is_head one within plain =
    record {
      head = h;
      is_head = is_head;
      is_line = record { one_line = one; within = within };
      is_model = plain;
      spelled = sym (append_assoc h p (10 ∷ []));
    }

text_row : (i : ℕ) (p : List ℕ) → i < 2 ^ 31 → tag_of 84 ≡ Sized → length p ≤ longest → IsTextRow (hexadecimal i ++ 58 ∷ 84 ∷ [] ++ (hexadecimal (length p) ++ 44 ∷ p)) i p
text_row i p small says within =
    record {
      head = hexadecimal i ++ 58 ∷ 84 ∷ [] ++ hexadecimal (length p) ++ 44 ∷ [];
      is_head =
          record {
            head = hexadecimal i ++ 58 ∷ 84 ∷ [];
            digits = hexadecimal (length p);
            is_head = tagged i 84 Sized small says;
            is_length = hexadecimal-IsNumber (length p) (omega (arith, within));
            is_text_head = refl;
          };
      within = within;
      spelled = simp append_assoc;
    }

pub spelling_as : (k : RowKind) (i : ℕ) (p : List ℕ) → i < 2 ^ 31 → length p ≤ longest → (k ≢ Text → is_one_line p ≡ true) → (k ≡ Model → begins_model p) → IsRow k (hexadecimal i ++ 58 ∷ tag_bytes k ++ payload_bytes k p) i p
unfolding tag_of
spelling_as Model i p small within one plain = line Model i (hexadecimal i ++ 58 ∷ []) p (head i small) (one (λ e. cc)) within plain
spelling_as Import i p small within one plain = line Import i (hexadecimal i ++ 58 ∷ 73 ∷ []) p (tagged i 73 (Line Import) small refl) (one (λ e. cc)) within plain
spelling_as Error i p small within one plain = line Error i (hexadecimal i ++ 58 ∷ 69 ∷ []) p (tagged i 69 (Line Error) small refl) (one (λ e. cc)) within plain
spelling_as Text i p small within one plain = text_row i p small refl within
spelling_as (Open Readable) i p small within one plain = line (Open Readable) i (hexadecimal i ++ 58 ∷ 82 ∷ []) p (tagged i 82 (Line (Open Readable)) small refl) (one (λ e. cc)) within plain
spelling_as (Open Iterable) i p small within one plain = line (Open Iterable) i (hexadecimal i ++ 58 ∷ 88 ∷ []) p (tagged i 88 (Line (Open Iterable)) small refl) (one (λ e. cc)) within plain
spelling_as (Open Iterator) i p small within one plain = line (Open Iterator) i (hexadecimal i ++ 58 ∷ 120 ∷ []) p (tagged i 120 (Line (Open Iterator)) small refl) (one (λ e. cc)) within plain
spelling_as Close i p small within one plain = line Close i (hexadecimal i ++ 58 ∷ 67 ∷ []) p (tagged i 67 (Line Close) small refl) (one (λ e. cc)) within plain

pub spelling_of-Spells : (row : Row) → IsWritable row → Spells (spelling_of row) row
spelling_of-Spells row w = (spelling_as row.kind row.id row.payload w.small w.within w.one_line w.is_model, w.is_text)
