-- Payloads of a known length.
use Rattle.std.proofs.Common.{◌≡◌, ℕ, ◌+◌, ◌<◌, ◌≤◌, List, [], ◌∷◌, ◌++◌, length, take, arith, sym, append_assoc, append-nil, length-append, length-take, true, slice_index}
use Rattle.flight_row.specs.Rows.{IsTextRow}
use Rattle.flight_feed.specs.Parts.{InText}
use Rattle.flight_feed.specs.declared.begun.Mode.{Mode}
use Rattle.flight_feed.specs.Begun.{Begins, goes_to_head}
use Rattle.flight_feed.proofs.Heads.{no_payload, first_goes}

-- with its last byte it is whole
pub whole_text : (h p piece : List ℕ) (id left : ℕ) → InText h id left p → left ≤ length piece → IsTextRow ((h ++ p) ++ take left piece) id (p ++ take left piece)
whole_text h p piece id left t within =
    let count : length p + left ≡ length (p ++ take left piece) = simp (length-append, length-take) (omega arith) in
    record {
      head = h;
      is_head = rw (← count) t.is_head;
      within = rw (← count) t.within;
      spelled = append_assoc h p (take left piece);
    }

-- without bytes it is whole with its comma
pub empty_text : (h : List ℕ) (id : ℕ) → InText h id 0 [] → IsTextRow h id []
empty_text h id t = record { head = h; is_head = t.is_head; within = omega arith; spelled = sym (append-nil h) }

pub whole_head : (m : Mode) (h p piece : List ℕ) (id : ℕ) → Begins m h p → goes_to_head m (slice_index piece 0) ≡ true → 0 < length piece → InText (h ++ slice_index piece 0 ∷ []) id 0 [] → IsTextRow ((h ++ p) ++ take 1 piece) id p
whole_head m h p piece id b g some t =
    rw (first_goes m h p piece b g some, no_payload m h p (slice_index piece 0) b g) (empty_text (h ++ slice_index piece 0 ∷ []) id t)
