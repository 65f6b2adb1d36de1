-- What the parts of a row show to one who reads byte by byte.
use Rattle.std.proofs.Common.{◌≡◌, ℕ, suc, zero, ◌+◌, ◌-◌, ◌*◌, ◌<◌, ◌≤◌, not, Bool, true, false, nat_eq, nat_lt, List, [], ◌∷◌, ◌++◌, length, refl, sym, ◌∙◌, ap, arith, append_assoc, append-nil, inl, inr, ◌⊎◌, zero-add, add-zero, length-append}
use Rattle.std.specs.List.{list_all, fold}
use Rattle.std.specs.Prelude.{nat_le, IsUtf8}
use Rattle.std.specs.Str.{is_utf8}
use Rattle.std.proofs.lemmas.Str.{is_utf8-from_IsUtf8, IsUtf8-from_is_utf8}
use Rattle.std.proofs.lemmas.Bool.Decides.{nat_tests}
use Rattle.std.proofs.lemmas.Bool.{false_from_ne_true, cases_lt}
use Rattle.flight_row.specs.declared.row.RowKind.{RowKind}
use Rattle.flight_row.specs.declared.row.RowKind.TheVariants.{Model, Import, Error, Text, Open, Close}
use Rattle.flight_row.specs.declared.tag.Tag.{Tag}
use Rattle.flight_row.specs.declared.tag.Tag.TheVariants as tag
use Rattle.flight_row.specs.Rows.{tag_of, is_hex, hex_value, is_newline, is_one_line, longest, AreDigits, IsHead, IsTagged, IsTextHead, IsTextRow, IsLine, IsHintHead, IsLineRow, begins_model}
use Rattle.flight_row.proofs.Tags.{tag_of-newline}
use Rattle.flight_feed.specs.declared.fault.FeedKind.TheVariants.{RowTooLong, BadText}
use Rattle.flight_feed.specs.declared.begun.Coming.{Coming}
use Rattle.flight_feed.specs.declared.begun.Coming.TheVariants.{Row as ARow, Hint as AHint}
use Rattle.flight_feed.specs.Parts.{HasFirst}
use Rattle.flight_feed.specs.Begun.{IsBefore, IsFit, item_of}
use Rattle.flight_feed.proofs.Digits.{both_parts}
use Rattle.flight_feed.proofs.Forms.{HasForm}
use Rattle.flight_feed.proofs.Scan.{at_id, at_tag, at_colon, at_length, at_text, at_line, Step, to, ends, stops, Seen, fails, settle, line_step, tag_step, colon_step, comma_step, step, after, scan, start, scan-cons}

abbrev pub goes_by : Step → List ℕ → Seen
goes_by s rest = after s rest (λ q. scan q rest)

abbrev pub folded : ℕ → List ℕ → ℕ
folded v ds = fold (λ n d. 16 * n + hex_value d) v ds

folded_grows : (v : ℕ) (ds : List ℕ) → v ≤ folded v ds
folded_grows v [] = omega arith
folded_grows v (d ∷ ds) = omega (arith, folded_grows (16 * v + hex_value d) ds)

no_mark : (b : ℕ) → is_hex b ≡ true → (nat_eq b 58 ≡ false) × (nat_eq b 44 ≡ false)
no_mark b h = (grind (arith, nat_tests), grind (arith, nat_tests))

-- digits of an id
id_step : (d n v : ℕ) → is_hex d ≡ true → n < 8 → 16 * v + hex_value d < 2147483648 → step (at_id n v) d ≡ to (at_id (n + 1) (16 * v + hex_value d))
id_step d n v hex less small =
    let mark : nat_eq d 58 ≡ false = (no_mark d hex).0 in
    let full : nat_le 8 n ≡ false = grind (arith, nat_tests) in
    let over : nat_le 2147483648 (16 * v + hex_value d) ≡ false = grind (arith, nat_tests) in
    rw (mark, hex, full, over) refl

scan_id : (ds rest : List ℕ) (n v : ℕ) → list_all is_hex ds ≡ true → n + length ds ≤ 8 → folded v ds < 2147483648 → scan (at_id n v) (ds ++ rest) ≡ scan (at_id (n + length ds) (folded v ds)) rest
scan_id [] rest n v h short small = rw add-zero refl
scan_id (d ∷ ds) rest n v h short small =
    let p = both_parts (is_hex d) (list_all is_hex ds) h in
    let grows : 16 * v + hex_value d ≤ folded (16 * v + hex_value d) ds = folded_grows (16 * v + hex_value d) ds in
    let count : n + 1 + length ds ≡ n + suc (length ds) = omega arith in
    scan-cons (at_id n v) d (ds ++ rest) (to (at_id (n + 1) (16 * v + hex_value d))) (id_step d n v p.0 (omega arith) (omega arith))
    ∙ (scan_id ds rest (n + 1) (16 * v + hex_value d) p.1 (omega arith) small
    ∙ ap (λ k. scan (at_id k (folded (16 * v + hex_value d) ds)) rest) count)

pub scan_digits : (ds rest : List ℕ) (i : ℕ) → AreDigits ds i → i < 2147483648 → scan start (ds ++ rest) ≡ scan (at_id (length ds) i) rest
scan_digits ds rest i are small =
    let value : folded 0 ds ≡ i = are.value in
    let below : folded 0 ds < 2147483648 = omega (arith, value) in
    let short : 0 + length ds ≤ 8 = omega (arith, are.short) in
    scan_id ds rest 0 0 are.digits short below
    ∙ (ap (λ n. scan (at_id n (folded 0 ds)) rest) (zero-add (length ds)) ∙ ap (λ n. scan (at_id (length ds) n) rest) value)

pub scan_colon : (rest : List ℕ) (n v : ℕ) → 0 < n → scan (at_id n v) (58 ∷ rest) ≡ scan (at_tag v) rest
scan_colon rest n v some = let e : nat_eq n 0 ≡ false = grind (arith, nat_tests) in scan-cons (at_id n v) 58 rest (to (at_tag v)) (rw e refl)

pub scan_bare : (rest : List ℕ) → scan start (58 ∷ rest) ≡ scan at_colon rest
scan_bare rest = scan-cons start 58 rest (to at_colon) refl

-- behind an id and its colon
pub scan_head : (h rest : List ℕ) (i : ℕ) → IsHead h i → scan start (h ++ rest) ≡ scan (at_tag i) rest
scan_head h rest i is =
    let regrouped : h ++ rest ≡ is.digits ++ 58 ∷ rest = rw is.spelled (append_assoc is.digits (58 ∷ []) rest) in
    ap (scan start) regrouped ∙ (scan_digits is.digits (58 ∷ rest) i is.is_id.are_digits is.small ∙ scan_colon rest (length is.digits) i is.is_id.some)

-- behind a tag
pub scan_tagged : (h rest : List ℕ) (i : ℕ) (t : Tag) (is : IsTagged h i t) → scan start (h ++ rest) ≡ goes_by (tag_step i is.byte t) rest
scan_tagged h rest i t is =
    let regrouped : h ++ rest ≡ is.head ++ is.byte ∷ rest = rw is.is_tagged (append_assoc is.head (is.byte ∷ []) rest) in
    ap (scan start) regrouped ∙ (scan_head is.head (is.byte ∷ rest) i is.is_head ∙ scan-cons (at_tag i) is.byte rest (tag_step i is.byte t) (ap (tag_step i is.byte) is.says))

-- behind the tag of a hint
hint_tag : (rest : List ℕ) (byte i n : ℕ) → tag_of byte ≡ tag.Hint → (n ≡ 0 → i ≡ 0) → scan (at_id n i) (58 ∷ byte ∷ rest) ≡ scan (at_line AHint []) rest
hint_tag rest byte i zero says none =
    let first : step (at_id zero i) 58 ≡ to at_colon = refl in
    scan-cons (at_id zero i) 58 (byte ∷ rest) (to at_colon) first ∙ scan-cons at_colon byte rest (to (at_line AHint [])) (ap colon_step says)
hint_tag rest byte i (suc n) says none =
    scan_colon (byte ∷ rest) (suc n) i (omega arith) ∙ scan-cons (at_tag i) byte rest (to (at_line AHint [])) (ap (tag_step i byte) says)

pub scan_hint_head : (h rest : List ℕ) → IsHintHead h → scan start (h ++ rest) ≡ scan (at_line AHint []) rest
scan_hint_head h rest is =
    let regrouped : h ++ rest ≡ is.digits ++ 58 ∷ is.byte ∷ rest = rw is.spelled (append_assoc is.digits (58 ∷ is.byte ∷ []) rest) in
    ap (scan start) regrouped ∙ (scan_digits is.digits (58 ∷ is.byte ∷ rest) is.id is.are_digits is.small
    ∙ hint_tag rest is.byte is.id (length is.digits) is.says (λ e. none is.digits is.id is.are_digits e))
  where
    none : (ds : List ℕ) (i : ℕ) → AreDigits ds i → length ds ≡ 0 → i ≡ 0
    none [] i are e = sym are.value
    none (d ∷ ds) i are e = absurd (omega (arith, e))

-- a model row has no tag
pub Starts : Coming → List ℕ → Type 0
Starts (ARow i k) t = k ≡ Model → HasFirst t
Starts AHint t = Unit {0}

scan_plain : (i : ℕ) (t : List ℕ) → HasFirst t → scan (at_tag i) t ≡ scan (at_line (ARow i Model) []) t
scan_plain i [] first = let some : 0 < 0 = first.some in absurd (omega arith)
scan_plain i (b ∷ bs) first =
    scan-cons (at_tag i) b bs (line_step (ARow i Model) [] b) (ap (tag_step i b) first.first)
    ∙ sym (scan-cons (at_line (ARow i Model) []) b bs (line_step (ARow i Model) [] b) refl)

pub scan_before : (c : Coming) (h t : List ℕ) → IsBefore c h → Starts c t → scan start (h ++ t) ≡ scan (at_line c []) t
unfolding Starts
scan_before (ARow i Model) h t is starts = scan_head h t i is ∙ scan_plain i t (starts refl)
scan_before (ARow i Import) h t is starts = scan_tagged h t i (tag.Line Import) is
scan_before (ARow i Error) h t is starts = scan_tagged h t i (tag.Line Error) is
scan_before (ARow i Text) h t is starts = scan_tagged h t i (tag.Line Text) is
scan_before (ARow i (Open flow)) h t is starts = scan_tagged h t i (tag.Line (Open flow)) is
scan_before (ARow i Close) h t is starts = scan_tagged h t i (tag.Line Close) is
scan_before AHint h t is starts = scan_hint_head h t is

pub starts_row : (i : ℕ) (k : RowKind) (t : List ℕ) → (k ≡ Model → HasFirst t) → Starts (ARow i k) t
unfolding Starts
starts_row i k t h = h

pub starts_hint : (t : List ℕ) → Starts AHint t
unfolding Starts
starts_hint t = tt

not_true : (b : Bool) → not b ≡ true → b ≡ false
not_true false h = refl
not_true true h = sym h

-- bytes of a line
line_goes : (c : Coming) (q : List ℕ) (b : ℕ) → not (is_newline b) ≡ true → length q < longest → step (at_line c q) b ≡ to (at_line c (q ++ b ∷ []))
line_goes c q b plain less =
    let newline : nat_eq b 10 ≡ false = not_true (nat_eq b 10) plain in
    let over : nat_le longest (length q) ≡ false = grind (arith, nat_tests) in
    rw (newline, over) refl

pub scan_line : (c : Coming) (p rest q : List ℕ) → is_one_line p ≡ true → length q + length p ≤ longest → scan (at_line c q) (p ++ rest) ≡ scan (at_line c (q ++ p)) rest
scan_line c [] rest q h fits = rw append-nil refl
scan_line c (b ∷ bs) rest q h fits =
    let parts = both_parts (not (is_newline b)) (is_one_line bs) h in
    let more : length (q ++ b ∷ []) + length bs ≤ longest = simp length-append (omega arith) in
    scan-cons (at_line c q) b (bs ++ rest) (to (at_line c (q ++ b ∷ []))) (line_goes c q b parts.0 (omega arith))
    ∙ (scan_line c bs rest (q ++ b ∷ []) parts.1 more ∙ ap (λ xs. scan (at_line c xs) rest) (append_assoc q (b ∷ []) bs))

-- one byte past the limit
pub scan_past : (c : Coming) (p rest q : List ℕ) → is_one_line p ≡ true → length q ≤ longest → length q + length p ≡ 67108865 → scan (at_line c q) (p ++ rest) ≡ fails RowTooLong
scan_past c [] rest q h fits past = absurd (omega arith)
scan_past c (b ∷ bs) rest q h fits past =
    let parts = both_parts (not (is_newline b)) (is_one_line bs) h in
    elim (lt_or_ge (length q) longest) [
      | inl less ↦
          let more : length (q ++ b ∷ []) ≤ longest = simp length-append (omega arith) in
          let all : length (q ++ b ∷ []) + length bs ≡ 67108865 = simp length-append (omega arith) in
          scan-cons (at_line c q) b (bs ++ rest) (to (at_line c (q ++ b ∷ []))) (line_goes c q b parts.0 less)
          ∙ scan_past c bs rest (q ++ b ∷ []) parts.1 more all
      | inr full ↦
          let newline : nat_eq b 10 ≡ false = not_true (nat_eq b 10) parts.0 in
          let over : nat_le longest (length q) ≡ true = grind (arith, nat_tests) in
          scan-cons (at_line c q) b (bs ++ rest) (stops RowTooLong) (rw (newline, over) refl)
    ]
  where
    lt_or_ge : (a b : ℕ) → (a < b) ⊎ (b ≤ a)
    lt_or_ge a b = elim (cases_lt a b) [ inl x ↦ inl x | inr x ↦ inr (omega (arith, x)) ]

-- digits of a length
length_step : (d i n v : ℕ) → is_hex d ≡ true → n < 8 → step (at_length i n v) d ≡ to (at_length i (n + 1) (16 * v + hex_value d))
length_step d i n v hex less =
    let mark : nat_eq d 44 ≡ false = (no_mark d hex).1 in
    let full : nat_le 8 n ≡ false = grind (arith, nat_tests) in
    rw (mark, hex, full) refl

scan_length : (ds rest : List ℕ) (i n v : ℕ) → list_all is_hex ds ≡ true → n + length ds ≤ 8 → scan (at_length i n v) (ds ++ rest) ≡ scan (at_length i (n + length ds) (folded v ds)) rest
scan_length [] rest i n v h short = rw add-zero refl
scan_length (d ∷ ds) rest i n v h short =
    let p = both_parts (is_hex d) (list_all is_hex ds) h in
    let count : n + 1 + length ds ≡ n + suc (length ds) = omega arith in
    scan-cons (at_length i n v) d (ds ++ rest) (to (at_length i (n + 1) (16 * v + hex_value d))) (length_step d i n v p.0 (omega arith))
    ∙ (scan_length ds rest i (n + 1) (16 * v + hex_value d) p.1 (omega arith)
    ∙ ap (λ k. scan (at_length i k (folded (16 * v + hex_value d) ds)) rest) count)

pub scan_number : (ds rest : List ℕ) (i v : ℕ) → AreDigits ds v → scan (at_length i 0 0) (ds ++ rest) ≡ scan (at_length i (length ds) v) rest
scan_number ds rest i v are =
    let value : folded 0 ds ≡ v = are.value in
    let short : 0 + length ds ≤ 8 = omega (arith, are.short) in
    scan_length ds rest i 0 0 are.digits short
    ∙ (ap (λ n. scan (at_length i n (folded 0 ds)) rest) (zero-add (length ds)) ∙ ap (λ n. scan (at_length i (length ds) n) rest) value)

scan_comma : (rest : List ℕ) (i n v : ℕ) → 0 < n → scan (at_length i n v) (44 ∷ rest) ≡ goes_by (comma_step i v) rest
scan_comma rest i n v some = let e : nat_lt 0 n ≡ true = grind (arith, nat_tests) in scan-cons (at_length i n v) 44 rest (comma_step i v) (rw e refl)

-- behind the head of a text
pub scan_text_head : (h rest : List ℕ) (i v : ℕ) → IsTextHead h i v → scan start (h ++ rest) ≡ goes_by (comma_step i v) rest
scan_text_head h rest i v is =
    let regrouped : h ++ rest ≡ is.head ++ (is.digits ++ 44 ∷ rest) = rw is.is_text_head (simp append_assoc) in
    ap (scan start) regrouped ∙ (scan_tagged is.head (is.digits ++ 44 ∷ rest) i tag.Sized is.is_head
    ∙ (scan_number is.digits (44 ∷ rest) i v is.is_length.are_digits ∙ scan_comma rest i (length is.digits) v is.is_length.some))

-- bytes of a text
pub scan_some : (p rest q : List ℕ) (i left : ℕ) → length p < left → scan (at_text i q left) (p ++ rest) ≡ scan (at_text i (q ++ p) (left - length p)) rest
scan_some [] rest q i left h = let e : left - 0 ≡ left = omega arith in rw (append-nil, e) refl
scan_some (b ∷ bs) rest q i left h =
    let over : nat_le left 1 ≡ false = grind (arith, nat_tests) in
    let less : left - 1 - length bs ≡ left - suc (length bs) = omega arith in
    scan-cons (at_text i q left) b (bs ++ rest) (to (at_text i (q ++ b ∷ []) (left - 1))) (rw over refl)
    ∙ (scan_some bs rest (q ++ b ∷ []) i (left - 1) (omega arith)
    ∙ (ap (λ xs. scan (at_text i xs (left - 1 - length bs)) rest) (append_assoc q (b ∷ []) bs) ∙ ap (λ k. scan (at_text i (q ++ b ∷ bs) k) rest) less))

scan_all : (p rest q : List ℕ) (i : ℕ) → 0 < length p → scan (at_text i q (length p)) (p ++ rest) ≡ goes_by (settle (ARow i Text) (q ++ p)) rest
scan_all [] rest q i h = absurd (omega arith)
scan_all (b ∷ []) rest q i h = scan-cons (at_text i q 1) b rest (settle (ARow i Text) (q ++ b ∷ [])) refl
scan_all (b ∷ d ∷ bs) rest q i h =
    let over : nat_le (length (b ∷ d ∷ bs)) 1 ≡ false = grind (arith, nat_tests) in
    let less : length (b ∷ d ∷ bs) - 1 ≡ length (d ∷ bs) = omega arith in
    scan-cons (at_text i q (length (b ∷ d ∷ bs))) b (d ∷ bs ++ rest) (to (at_text i (q ++ b ∷ []) (length (d ∷ bs)))) (rw (over, less) refl)
    ∙ (scan_all (d ∷ bs) rest (q ++ b ∷ []) i (omega arith) ∙ ap (λ xs. goes_by (settle (ARow i Text) xs) rest) (append_assoc q (b ∷ []) (d ∷ bs)))

text_payload : (rest p : List ℕ) (i : ℕ) → length p ≤ longest → goes_by (comma_step i (length p)) (p ++ rest) ≡ goes_by (settle (ARow i Text) p) rest
text_payload rest [] i h = refl
text_payload rest (b ∷ bs) i h =
    let fits : nat_lt longest (length (b ∷ bs)) ≡ false = grind (arith, nat_tests) in
    let some : nat_eq (length (b ∷ bs)) 0 ≡ false = grind (arith, nat_tests) in
    ap (λ s. goes_by s (b ∷ bs ++ rest)) (comma_some i (length (b ∷ bs)) fits some) ∙ scan_all (b ∷ bs) rest [] i (omega arith)
  where
    comma_some : (i v : ℕ) → nat_lt longest v ≡ false → nat_eq v 0 ≡ false → comma_step i v ≡ to (at_text i [] v)
    comma_some i v fits some = rw (fits, some) refl

text_settles : (i : ℕ) (a rest p : List ℕ) → IsTextRow a i p → scan start (a ++ rest) ≡ goes_by (settle (ARow i Text) p) rest
text_settles i a rest p s =
    let regrouped : a ++ rest ≡ s.head ++ (p ++ rest) = rw s.spelled (append_assoc s.head p rest) in
    ap (scan start) regrouped ∙ (scan_text_head s.head (p ++ rest) i (length p) s.is_head ∙ text_payload rest p i s.within)

first_of_line : (p rest : List ℕ) → begins_model p → HasFirst (p ++ 10 ∷ rest)
first_of_line [] rest h = record { some = omega arith; first = tag_of-newline }
first_of_line (b ∷ bs) rest h = record { some = omega arith; first = h }

line_settles : (c : Coming) (h a rest p : List ℕ) → IsBefore c h → Starts c (p ++ 10 ∷ rest) → IsLine p → a ≡ h ++ p ++ 10 ∷ [] → scan start (a ++ rest) ≡ goes_by (settle c p) rest
line_settles c h a rest p is starts line spelled =
    let regrouped : a ++ rest ≡ h ++ (p ++ 10 ∷ rest) = rw spelled (simp append_assoc) in
    ap (scan start) regrouped ∙ (scan_before c h (p ++ 10 ∷ rest) is starts
    ∙ (scan_line c p (10 ∷ rest) [] line.one_line (omega (arith, line.within)) ∙ scan-cons (at_line c p) 10 rest (settle c p) refl))

row_settles : (k : RowKind) (i : ℕ) (a rest p : List ℕ) → IsLineRow a i k p → scan start (a ++ rest) ≡ goes_by (settle (ARow i k) p) rest
row_settles k i a rest p r =
    line_settles (ARow i k) r.head a rest p r.is_head (starts_row i k (p ++ 10 ∷ rest) (λ e. first_of_line p rest (r.is_model e))) r.is_line r.spelled

-- whole bytes show what their payload is
pub form_settles : (c : Coming) (a rest p : List ℕ) → HasForm c a p → scan start (a ++ rest) ≡ goes_by (settle c p) rest
form_settles (ARow i Model) a rest p f = row_settles Model i a rest p f
form_settles (ARow i Import) a rest p f = row_settles Import i a rest p f
form_settles (ARow i Error) a rest p f = row_settles Error i a rest p f
form_settles (ARow i Text) a rest p f = text_settles i a rest p f
form_settles (ARow i (Open flow)) a rest p f = row_settles (Open flow) i a rest p f
form_settles (ARow i Close) a rest p f = row_settles Close i a rest p f
form_settles AHint a rest p f =
    line_settles AHint f.head a rest f.payload f.is_head (starts_hint (f.payload ++ 10 ∷ rest)) f.is_line f.spelled

pub settle-fit : (c : Coming) (p : List ℕ) → IsFit c p → settle c p ≡ ends (item_of c p)
settle-fit (ARow i k) p fit = let e : is_utf8 p ≡ true = is_utf8-from_IsUtf8 p fit in rw e refl
settle-fit AHint p fit = refl

pub settle-unfit : (k : RowKind) (i : ℕ) (p : List ℕ) → ¬ IsUtf8 p → settle (ARow i k) p ≡ stops BadText
settle-unfit k i p unfit =
    let e : is_utf8 p ≡ false = false_from_ne_true (is_utf8 p) (λ yes. unfit (IsUtf8-from_is_utf8 p yes)) in rw e refl
