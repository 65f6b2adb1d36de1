-- No text has two readings.
use Rattle.std.proofs.Common.{◌≡◌, ◌≢◌, ℕ, ◌+◌, ◌-◌, ◌*◌, ◌<◌, ◌≤◌, ◌&&◌, ◌||◌, not, Bool, true, false, nat_eq, nat_lt, List, [], ◌∷◌, ◌++◌, length, refl, sym, ◌∙◌, ap, arith, append_assoc, append-nil, inl, inr, ◌⊎◌}
use Rattle.std.specs.Prelude.{nat_le, if◌then◌else◌}
use Rattle.std.proofs.lemmas.Bool.Decides.{nat_tests}
use Rattle.flight_row.specs.declared.tag.Tag.{Tag}
use Rattle.flight_row.specs.declared.tag.Tag.TheVariants as tag
use Rattle.flight_row.specs.Rows.{tag_of, is_hex, hex_value, longest, IsLine, begins_model, Item, handed, hint, SpellsItem, SpellAll}
use Rattle.flight_feed.specs.declared.fault.FeedKind.{FeedKind}
use Rattle.flight_feed.specs.declared.fault.FeedKind.TheVariants.{BadId, BadTag, DevRow, BadLength, RowTooLong, BadText, Cut}
use Rattle.flight_feed.specs.declared.begun.Coming.{Coming}
use Rattle.flight_feed.specs.declared.begun.Coming.TheVariants.{Row as ARow, Hint as AHint}
use Rattle.flight_feed.specs.Parts.{IsPart, in_id, behind_id, behind_colon, in_length, in_text, in_line, in_hint, HasFirst}
use Rattle.flight_feed.specs.Faults.{IsBad, IsPast}
use Rattle.flight_feed.specs.Begun.{IsBefore}
use Rattle.flight_feed.specs.Stream.{HasOneReading}
use Rattle.flight_feed.proofs.Parts.{no_part}
use Rattle.flight_feed.proofs.Grows.{reads}
use Rattle.flight_feed.proofs.Scan.{Place, at_id, at_tag, at_colon, at_length, at_text, at_line, Step, to, stops, goes, whole, fails, colon_step, comma_step, step, scan, start, scan-nil, scan-cons}
use Rattle.flight_feed.proofs.Ways.{goes_by, scan_digits, scan_bare, scan_head, scan_tagged, Starts, scan_before, starts_row, starts_hint, scan_line, scan_past, scan_number, scan_text_head, scan_some, form_settles, settle-fit, settle-unfit}

-- a whole item is the first that is seen, whatever follows
pub item_whole : (item : Item) (a rest : List ℕ) → SpellsItem a item → scan start (a ++ rest) ≡ whole item rest
item_whole (handed row) a rest s =
    let c : Coming = ARow row.id row.kind in
    form_settles c a rest row.payload s.0 ∙ ap (λ t. goes_by t rest) (settle-fit c row.payload s.1)
item_whole hint a rest s = form_settles AHint a rest s.payload s

-- what a row begins with is no whole row
place_of : (bytes : List ℕ) (p : Place) → scan start (bytes ++ []) ≡ scan p [] → (q : Place) × (scan start bytes ≡ goes q)
place_of bytes p e = (p, ap (scan start) (sym (append-nil bytes)) ∙ (e ∙ scan-nil p))

more_goes : (h p : List ℕ) (q : Place) → scan start (h ++ (p ++ [])) ≡ scan q [] → (r : Place) × (scan start (h ++ p) ≡ goes r)
more_goes h p q e = (q, ap (λ xs. scan start (h ++ xs)) (sym (append-nil p)) ∙ (e ∙ scan-nil q))

comma_some : (i v : ℕ) → v ≤ longest → 0 < v → comma_step i v ≡ to (at_text i [] v)
comma_some i v within some =
    let fits : nat_lt longest v ≡ false = grind (arith, nat_tests) in
    let more : nat_eq v 0 ≡ false = grind (arith, nat_tests) in
    rw (fits, more) refl

line_part : (c : Coming) (h p : List ℕ) → IsBefore c h → Starts c (p ++ []) → IsLine p → (q : Place) × (scan start (h ++ p) ≡ goes q)
line_part c h p is starts line =
    more_goes h p (at_line c p) (scan_before c h (p ++ []) is starts ∙ scan_line c p [] [] line.one_line (omega (arith, line.within)))

pub part_goes : (bytes : List ℕ) → IsPart bytes → (q : Place) × (scan start bytes ≡ goes q)
part_goes _ (in_id bytes id p) = place_of bytes (at_id (length bytes) id) (scan_digits bytes [] id p.are_digits p.small)
part_goes _ (behind_id bytes id p) = place_of bytes (at_tag id) (scan_head bytes [] id p)
part_goes _ behind_colon = (at_colon, scan_bare [] ∙ scan-nil at_colon)
part_goes _ (in_length bytes id count value p) =
    let regrouped : bytes ++ [] ≡ p.head ++ (p.digits ++ []) = rw p.spelled (simp append_assoc) in
    place_of bytes (at_length id (length p.digits) value)
    (ap (scan start) regrouped ∙ (scan_tagged p.head (p.digits ++ []) id tag.Sized p.is_head ∙ scan_number p.digits [] id value p.are_digits))
part_goes _ (in_text head payload id left p some) =
    more_goes head payload (at_text id payload (length payload + left - length payload))
    (scan_text_head head (payload ++ []) id (length payload + left) p.is_head
    ∙ (ap (λ s. goes_by s (payload ++ [])) (comma_some id (length payload + left) p.within (omega (arith, some)))
    ∙ scan_some payload [] [] id (length payload + left) (omega (arith, some))))
part_goes _ (in_line head payload id kind p) =
    line_part (ARow id kind) head payload p.is_head (starts_row id kind (payload ++ []) (λ e. rw append-nil (p.is_model e))) p.is_line
part_goes _ (in_hint head payload p) = line_part AHint head payload p.is_head (starts_hint (payload ++ [])) p.is_line

chosen : (h f o : Bool) (x e : Step) → (h ≡ true → (f ≡ true) ⊎ (o ≡ true)) → (if not h || f then e else (if o then e else x)) ≡ e
chosen false f o x e q = refl
chosen true true o x e q = refl
chosen true false true x e q = refl
chosen true false false x e q = elim (q refl) [ inl a ↦ cc | inr a ↦ cc ]

chosen_two : (h f : Bool) (x e : Step) → (h ≡ true → f ≡ true) → (if not h || f then e else x) ≡ e
chosen_two false f x e q = refl
chosen_two true true x e q = refl
chosen_two true false x e q = let w = q refl in cc

no_id : (byte n v : ℕ) → byte ≢ 58 → (is_hex byte ≡ true → (n ≡ 8) ⊎ (2147483648 ≤ 16 * v + hex_value byte)) → step (at_id n v) byte ≡ stops BadId
no_id byte n v colon digit =
    let mark : nat_eq byte 58 ≡ false = grind (arith, nat_tests) in
    rw mark (chosen (is_hex byte) (nat_le 8 n) (nat_le 2147483648 (16 * v + hex_value byte)) (to (at_id (n + 1) (16 * v + hex_value byte))) (stops BadId)
    (λ h. elim (digit h) [ inl e ↦ inl (let w : nat_le 8 n ≡ true = grind (arith, nat_tests) in w) | inr e ↦ inr (let w : nat_le 2147483648 (16 * v + hex_value byte) ≡ true = grind (arith, nat_tests) in w) ]))

no_comma : (byte n : ℕ) → (byte ≡ 44 → n ≡ 0) → (nat_eq byte 44 && nat_lt 0 n) ≡ false
no_comma byte n h = grind (arith, nat_tests)

no_length : (byte i n v : ℕ) → (byte ≡ 44 → n ≡ 0) → (is_hex byte ≡ true → n ≡ 8) → step (at_length i n v) byte ≡ stops BadLength
no_length byte i n v comma digit =
    rw (no_comma byte n comma) (chosen_two (is_hex byte) (nat_le 8 n) (to (at_length i (n + 1) (16 * v + hex_value byte))) (stops BadLength)
    (λ h. let e : n ≡ 8 = digit h in let w : nat_le 8 n ≡ true = grind (arith, nat_tests) in w))

no_hint : (t : Tag) → t ≢ tag.Hint → colon_step t ≡ stops BadId
no_hint tag.Plain h = refl
no_hint tag.Sized h = refl
no_hint (tag.Line k) h = refl
no_hint tag.Hint h = absurd (h refl)
no_hint tag.Dev h = refl
no_hint tag.Unknown h = refl

nothing_counted : (ds : List ℕ) → ds ≡ [] → length ds ≡ 0
nothing_counted ds e = rw e refl

past_first : (p rest : List ℕ) → begins_model p → length p ≡ longest + 1 → HasFirst (p ++ rest)
past_first [] rest h past = absurd (omega (arith, past))
past_first (b ∷ bs) rest h past = record { some = omega arith; first = h }

past_line : (c : Coming) (h p rest : List ℕ) → IsBefore c h → Starts c (p ++ rest) → IsPast p → scan start ((h ++ p) ++ rest) ≡ fails RowTooLong
past_line c h p rest is starts past =
    ap (scan start) (append_assoc h p rest) ∙ (scan_before c h (p ++ rest) is starts ∙ scan_past c p rest [] past.one_line (omega arith) (omega (arith, past.past)))

-- a fault is one, whatever follows
pub bad_fails : (kind : FeedKind) (bytes rest : List ℕ) → IsBad kind bytes → scan start (bytes ++ rest) ≡ fails kind
bad_fails BadId bytes rest (inl b) =
    let regrouped : bytes ++ rest ≡ b.digits ++ b.byte ∷ rest = rw b.spelled (append_assoc b.digits (b.byte ∷ []) rest) in
    ap (scan start) regrouped ∙ (scan_digits b.digits (b.byte ∷ rest) b.id b.are_digits b.small
    ∙ scan-cons (at_id (length b.digits) b.id) b.byte rest (stops BadId) (no_id b.byte (length b.digits) b.id b.no_colon b.no_digit))
bad_fails BadId bytes rest (inr b) =
    let regrouped : bytes ++ rest ≡ 58 ∷ b.byte ∷ rest = rw b.spelled refl in
    ap (scan start) regrouped ∙ (scan_bare (b.byte ∷ rest) ∙ scan-cons at_colon b.byte rest (stops BadId) (no_hint (tag_of b.byte) b.no_hint))
bad_fails BadTag bytes rest b = scan_tagged bytes rest b.0 tag.Unknown b.1
bad_fails DevRow bytes rest b = scan_tagged bytes rest b.0 tag.Dev b.1
bad_fails BadLength bytes rest b =
    let regrouped : bytes ++ rest ≡ b.head ++ (b.digits ++ b.byte ∷ rest) = rw b.spelled (simp append_assoc) in
    ap (scan start) regrouped ∙ (scan_tagged b.head (b.digits ++ b.byte ∷ rest) b.id tag.Sized b.is_head
    ∙ (scan_number b.digits (b.byte ∷ rest) b.id b.value b.are_digits
    ∙ scan-cons (at_length b.id (length b.digits) b.value) b.byte rest (stops BadLength)
    (no_length b.byte b.id (length b.digits) b.value (λ e. nothing_counted b.digits (b.no_comma e)) b.no_digit)))
bad_fails RowTooLong bytes rest (inl b) =
    let over : nat_lt longest b.len ≡ true = grind (arith, nat_tests, b.past) in
    scan_text_head bytes rest b.id b.len b.is_head ∙ rw over refl
bad_fails RowTooLong bytes rest (inr (inl b)) =
    rw b.spelled (past_line (ARow b.id b.kind) b.head b.payload rest b.is_head (starts_row b.id b.kind (b.payload ++ rest) (λ e. past_first b.payload rest (b.is_model e) b.is_past.past)) b.is_past)
bad_fails RowTooLong bytes rest (inr (inr b)) =
    rw b.spelled (past_line AHint b.head b.payload rest b.is_head (starts_hint (b.payload ++ rest)) b.is_past)
bad_fails BadText bytes rest b =
    form_settles (ARow b.id b.kind) bytes rest b.payload b.is_row ∙ ap (λ t. goes_by t rest) (settle-unfit b.kind b.id b.payload b.not_text)
bad_fails Cut bytes rest b = absurd b

-- nothing whole stands at the front
abbrev pub IsTail : List ℕ → Type 0
IsTail t = (item : Item) (x : List ℕ) → scan start t ≢ whole item x

-- the first item and what is behind it
pub one_item : (i j : Item) (a b x y : List ℕ) → SpellsItem a i → SpellsItem b j → a ++ x ≡ b ++ y → (i ≡ j) × (x ≡ y)
one_item i j a b x y h k e =
    let left : scan start (a ++ x) ≡ whole i x = item_whole i a x h in
    let right : scan start (b ++ y) ≡ whole j y = item_whole j b y k in
    let same : whole i x ≡ whole j y = sym left ∙ (ap (scan start) e ∙ right) in
    ((cc), (cc))

pub one_reading : (is js : List Item) (f g t u : List ℕ) → SpellAll f is → SpellAll g js → f ++ t ≡ g ++ u → IsTail t → IsTail u → (is ≡ js) × (t ≡ u)
one_reading [] [] f g t u h k e here there =
    let left : t ≡ f ++ t = rw h refl in
    let right : g ++ u ≡ u = rw k refl in
    (refl, left ∙ (e ∙ right))
one_reading [] (j ∷ js) f g t u h k e here there =
    let left : t ≡ f ++ t = rw h refl in
    let right : g ++ u ≡ k.0 ++ (k.1 ++ u) = rw k.2 (append_assoc k.0 k.1 u) in
    let same : t ≡ k.0 ++ (k.1 ++ u) = left ∙ (e ∙ right) in
    absurd (here j (k.1 ++ u) (ap (scan start) same ∙ item_whole j k.0 (k.1 ++ u) k.3))
one_reading (i ∷ is) [] f g t u h k e here there =
    let left : u ≡ g ++ u = rw k refl in
    let right : f ++ t ≡ h.0 ++ (h.1 ++ t) = rw h.2 (append_assoc h.0 h.1 t) in
    let same : u ≡ h.0 ++ (h.1 ++ t) = left ∙ (sym e ∙ right) in
    absurd (there i (h.1 ++ t) (ap (scan start) same ∙ item_whole i h.0 (h.1 ++ t) h.3))
one_reading (i ∷ is) (j ∷ js) f g t u h k e here there =
    let left : f ++ t ≡ h.0 ++ (h.1 ++ t) = rw h.2 (append_assoc h.0 h.1 t) in
    let right : g ++ u ≡ k.0 ++ (k.1 ++ u) = rw k.2 (append_assoc k.0 k.1 u) in
    let same : h.0 ++ (h.1 ++ t) ≡ k.0 ++ (k.1 ++ u) = sym left ∙ (e ∙ right) in
    let first = one_item i j h.0 k.0 (h.1 ++ t) (k.1 ++ u) h.3 k.3 same in
    let others = one_reading is js h.1 k.1 t u h.4 k.4 first.1 here there in
    (ap (λ xs. i ∷ xs) others.0 ∙ ap (λ x. x ∷ js) first.0, others.1)

pub part_tail : (t : List ℕ) → IsPart t → IsTail t
part_tail t p item x e =
    let goes_on = part_goes t p in
    let same : goes goes_on.0 ≡ whole item x = sym goes_on.1 ∙ e in
    cc

pub bad_tail : (kind : FeedKind) (bad more : List ℕ) → IsBad kind bad → IsTail (bad ++ more)
bad_tail kind bad more b item x e =
    let same : fails kind ≡ whole item x = sym (bad_fails kind bad more b) ∙ e in
    cc

pub has_one_reading : (text : List ℕ) → HasOneReading text
has_one_reading text =
    record {
      some = reads text [] no_part;
      rows = λ items others rest other a b.
          one_reading items others a.front b.front rest other a.spelled b.spelled (sym a.whole ∙ b.whole) (part_tail rest a.is_part) (part_tail other b.is_part);
      not_both = λ kind items others rest a b.
          let same = one_reading items others a.front b.front rest (b.bad ++ b.more) a.spelled b.spelled (sym a.whole ∙ b.whole) (part_tail rest a.is_part) (bad_tail kind b.bad b.more b.is_bad) in
          let goes_on = part_goes rest a.is_part in
          let right : scan start (b.bad ++ b.more) ≡ fails kind = bad_fails kind b.bad b.more b.is_bad in
          let both : goes goes_on.0 ≡ fails kind = sym goes_on.1 ∙ (ap (scan start) same.1 ∙ right) in
          cc;
      one_fault = λ kind kind' items others a b.
          let same = one_reading items others a.front b.front (a.bad ++ a.more) (b.bad ++ b.more) a.spelled b.spelled (sym a.whole ∙ b.whole) (bad_tail kind a.bad a.more a.is_bad) (bad_tail kind' b.bad b.more b.is_bad) in
          let left : scan start (a.bad ++ a.more) ≡ fails kind = bad_fails kind a.bad a.more a.is_bad in
          let right : scan start (b.bad ++ b.more) ≡ fails kind' = bad_fails kind' b.bad b.more b.is_bad in
          let both : fails kind ≡ fails kind' = sym left ∙ (ap (scan start) same.1 ∙ right) in
          ((cc), same.0);
    }
