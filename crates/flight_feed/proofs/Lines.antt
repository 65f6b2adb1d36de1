-- Payloads that a newline ends.
use Rattle.std.proofs.Common.{◌≡◌, ℕ, suc, zero, ◌+◌, ◌-◌, append_assoc, length-take, ◌<◌, ◌≤◌, not, Bool, true, List, [], ◌∷◌, ◌++◌, length, take, slice_index, refl, arith, ap, length-append, inl, inr}
use Rattle.std.specs.List.{list_all}
use Rattle.std.specs.Prelude.{Option, Some, None, unwrap_or}
use Rattle.std.proofs.lemmas.Bool.{false_from_ne_true}
use Rattle.memchr.specs.Find.{IsFirstByte, is_byte}
use Rattle.std.proofs.lemmas.List.Folds.{list_all-append}
use Rattle.std.specs.Cmp.Derive.{both_true}
use Rattle.std.proofs.lemmas.List.{take_more}
use Rattle.flight_row.specs.Rows.{is_newline, is_one_line, IsLine, begins_model, longest}
use Rattle.flight_feed.specs.declared.fault.FeedKind.TheVariants.{RowTooLong}
use Rattle.flight_feed.specs.declared.begun.Coming.{Coming}
use Rattle.flight_feed.specs.declared.begun.Coming.TheVariants.{Row as ARow, Hint as AHint}
use Rattle.flight_feed.specs.Faults.{IsBad, IsPast}
use Rattle.flight_feed.specs.Parts.{HasFirst}
use Rattle.flight_feed.specs.Begun.{IsBefore, MayBegin, InComing}
use Rattle.flight_feed.proofs.Digits.{both_parts}
use Rattle.flight_feed.proofs.Forms.{HasForm, line_row}

begins_model-take : (p piece : List ℕ) (n : ℕ) → begins_model (p ++ piece) → begins_model (p ++ take n piece)
begins_model-take (b ∷ bs) piece n h = h
begins_model-take [] [] zero h = tt
begins_model-take [] [] (suc n) h = tt
begins_model-take [] (x ∷ xs) zero h = tt
begins_model-take [] (x ∷ xs) (suc n) h = h

pub may_begin-take : (c : Coming) (p piece : List ℕ) (n : ℕ) → MayBegin c (p ++ piece) → MayBegin c (p ++ take n piece)
may_begin-take (ARow id kind) p piece n h = λ e. begins_model-take p piece n (h e)
may_begin-take AHint p piece n h = tt

has_first-append : (p piece : List ℕ) → HasFirst p → begins_model (p ++ piece)
has_first-append [] piece h = let some : 0 < 0 = h.some in absurd (omega arith)
has_first-append (b ∷ bs) piece h = h.first

-- a line that has begun may go on with any bytes
pub may_go_on : (c : Coming) (h p piece : List ℕ) → InComing c h p → MayBegin c (p ++ piece)
may_go_on (ARow id kind) h p piece b = λ e. has_first-append p piece (b.is_model e)
may_go_on AHint h p piece b = tt

pub is_before : (c : Coming) (h p : List ℕ) → InComing c h p → IsBefore c h
is_before (ARow id kind) h p b = b.is_head
is_before AHint h p b = b.is_head

pub is_line : (c : Coming) (h p : List ℕ) → InComing c h p → IsLine p
is_line (ARow id kind) h p b = b.is_line
is_line AHint h p b = b.is_line

is_one_line-take : (xs : List ℕ) (m n : ℕ) → m ≤ n → is_one_line (take n xs) ≡ true → is_one_line (take m xs) ≡ true
is_one_line-take [] zero n le h = refl
is_one_line-take [] (suc m) n le h = refl
is_one_line-take (x ∷ xs) zero n le h = refl
is_one_line-take (x ∷ xs) (suc m) zero le h = absurd (omega arith)
is_one_line-take (x ∷ xs) (suc m) (suc n) le h =
    let parts = both_parts (not (is_newline x)) (is_one_line (take n xs)) h in
    both_true parts.0 (is_one_line-take xs m n (omega arith) parts.1)

list_all-take : (f : ℕ → Bool) (xs : List ℕ) (n : ℕ) → ((k : ℕ) → k < n → k < length xs → f (slice_index xs k) ≡ true) → list_all f (take n xs) ≡ true
list_all-take f [] zero h = refl
list_all-take f [] (suc n) h = refl
list_all-take f (x ∷ xs) zero h = refl
list_all-take f (x ∷ xs) (suc n) h =
    both_true (h 0 (omega arith) (omega arith)) (list_all-take f xs n (λ k below within. h (suc k) (omega arith) (omega arith)))

before_first : (r : Option ℕ) (xs : List ℕ) (k : ℕ) → IsFirstByte (is_byte 10) xs r → k < unwrap_or r (length xs) → k < length xs → not (is_newline (slice_index xs k)) ≡ true
before_first None xs k h below within = ap not (false_from_ne_true (is_newline (slice_index xs k)) (h k (omega arith) within))
before_first (Some n) xs k h below within = ap not (false_from_ne_true (is_newline (slice_index xs k)) (h.0.before k (omega arith) below))

pub before_newline : (r : Option ℕ) (xs : List ℕ) (n : ℕ) → IsFirstByte (is_byte 10) xs r → n ≡ unwrap_or r (length xs) → is_one_line (take n xs) ≡ true
before_newline r xs n h e =
    list_all-take (λ b. not (is_newline b)) xs n (λ k below within. before_first r xs k h (rw (← e) below) within)

pub line_more : (p piece : List ℕ) (n : ℕ) → IsLine p → is_one_line (take n piece) ≡ true → length (p ++ take n piece) ≤ longest → IsLine (p ++ take n piece)
line_more p piece n line pass fits =
    record {
      one_line = rw list_all-append (both_true line.one_line pass);
      within = fits;
    }

pub too_long_at : (c : Coming) (h q : List ℕ) → IsBefore c h → MayBegin c q → IsPast q → IsBad RowTooLong (h ++ q)
too_long_at (ARow i k) h q is_before may past =
    inr (inl (record { head = h; id = i; kind = k; payload = q; is_head = is_before; is_model = may; is_past = past; spelled = refl }))
too_long_at AHint h q is_before may past =
    inr (inr (record { head = h; payload = q; is_head = is_before; is_past = past; spelled = refl }))

-- a line that has no newline in time is too long at its first byte too many
pub too_long : (c : Coming) (h p piece : List ℕ) (n : ℕ) → IsBefore c h → IsLine p → MayBegin c (p ++ piece) → is_one_line (take n piece) ≡ true → n ≤ length piece → longest - length p < n → (x : ℕ) × (x ≤ length piece) × IsBad RowTooLong ((h ++ p) ++ take x piece)
too_long c h p piece n is_before line may pass within past =
    let fits : length p ≤ longest = line.within in
    let x : ℕ = longest + 1 - length p in
    let less : x ≤ n = omega arith in
    let is_past : IsPast (p ++ take x piece) =
    record {
      one_line = rw list_all-append (both_true line.one_line (is_one_line-take piece x n less pass));
      past = simp (length-append, length-take) (omega arith);
    } in
    (x, omega arith, rw append_assoc (too_long_at c h (p ++ take x piece) is_before (may_begin-take c p piece x may) is_past))

pub has_form : (c : Coming) (h q bytes : List ℕ) → IsBefore c h → MayBegin c q → IsLine q → bytes ≡ h ++ q ++ 10 ∷ [] → HasForm c bytes q
has_form (ARow i k) h q bytes is_before may line spelled =
    line_row k bytes i q (record { head = h; is_head = is_before; is_line = line; is_model = may; spelled = spelled })
has_form AHint h q bytes is_before may line spelled =
    record { head = h; payload = q; is_head = is_before; is_line = line; spelled = spelled }

-- with its newline it is whole
pub whole_line : (c : Coming) (h p piece : List ℕ) (n : ℕ) → IsBefore c h → IsLine p → MayBegin c (p ++ piece) → is_one_line (take n piece) ≡ true → length p + n ≤ longest → n < length piece → slice_index piece n ≡ 10 → HasForm c ((h ++ p) ++ take (n + 1) piece) (p ++ take n piece)
whole_line c h p piece n is_before line may pass fits within end =
    has_form c h (p ++ take n piece) ((h ++ p) ++ take (n + 1) piece) is_before (may_begin-take c p piece n may)
    (line_more p piece n line pass (simp (length-append, length-take) (omega arith)))
    (rw (take_more piece n 0 within, end) (simp append_assoc))
