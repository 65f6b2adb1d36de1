-- The JSON of a static tree is one line that begins as a model row's payload.
use Rattle.std.proofs.Common.{◌≡◌, ◌≢◌, ℕ, zero, suc, ◌+◌, ◌*◌, ◌/◌, ◌%◌, ◌^◌, ◌<◌, ◌≤◌, List, [], ◌∷◌, ◌++◌, length, map, refl, sym, ◌∙◌, ap, subst, arith, true, false, Bool, Option, Some, None, is_some, cond, nat_lt, nat_eq, ◌==◌, ◌&&◌, ◌||◌, if◌then◌else◌, flat_map}
use Rattle.std.specs.Prelude.{ℤ, pos, negsuc, not, ◌-◌}
use Rattle.std.specs.Char.{digit_char}
use Rattle.std.specs.List.{list_all}
use Rattle.std.specs.Fmt.{decimal}
use Rattle.std.proofs.lemmas.Fmt.{decimal_by_steps}
use Rattle.std.proofs.lemmas.Bool.{false≢true, ltb-true}
use Rattle.std.proofs.lemmas.Bool.Decides.{nat_tests}
use Rattle.json.specs.Print.{escape_letter, escape_byte, escape, quoted}
use Rattle.serde_json.specs.Data as json
use Rattle.serde_json.specs.Data.{Data, Members, Num, unsigned, negative, float}
use Rattle.serde_json.specs.Read.{max_depth}
use Rattle.serde_json.specs.Written.{compact_text, number_text, items_text, members_text, comma_if}
use Rattle.flight_row.specs.Rows as rows
use Rattle.flight_row.specs.Rows.{is_one_line, is_newline, tag_of}
use Rattle.flight_row.specs.declared.tag.Tag.TheVariants.{Plain}
use Rattle.flight_top.specs.Model.{whole_of, is_mark, has_element_form, is_plain, is_array_plain, are_plain, are_members_plain}
use Rattle.flight_top.specs.OneRow.{begins_model}
use Rattle.flight_top.specs.StaticRow.{IsRowJson}
use Rattle.flight_top.proofs.Fronts.{both}
use Rattle.flight_top.proofs.StaticFine.{IsFineJson}

line-append : (xs ys : List ℕ) → is_one_line xs ≡ true → is_one_line ys ≡ true → is_one_line (xs ++ ys) ≡ true
line-append [] ys h k = k
line-append (x ∷ xs) ys h k = let p = both (not (is_newline x)) (is_one_line xs) h in rw (p.0, line-append xs ys p.1 k) refl

line-cons : (x : ℕ) (xs : List ℕ) → nat_eq x 10 ≡ false → is_one_line xs ≡ true → is_one_line (x ∷ xs) ≡ true
line-cons x xs h k = rw (h, k) refl

not_ten : (x : ℕ) → x ≢ 10 → nat_eq x 10 ≡ false
not_ten x h = grind (arith, nat_tests)

digit_line : (d : ℕ) → nat_eq (digit_char d) 10 ≡ false
digit_line d = go (nat_lt d 10)
  where
    go : (b : Bool) → nat_eq (cond b (48 + d) (87 + d)) 10 ≡ false
    go true = not_ten (48 + d) (λ e. omega arith)
    go false = not_ten (87 + d) (λ e. omega arith)

-- a short escape is no newline
letter_line : (x : ℕ) → nat_eq (escape_letter x) 10 ≡ false
letter_line x = go (x == 34) (x == 92) (x == 8) (x == 12) (x == 10) (x == 13) (x == 9) refl refl
  where
    go : (a b c d e f g : Bool) → (x == 34) ≡ a → (x == 92) ≡ b → nat_eq (cond (a || b) x (cond c 98 (cond d 102 (cond e 110 (cond f 114 (cond g 116 0)))))) 10 ≡ false
    go true b c d e f g p q = let is : x ≡ 34 = grind (arith, nat_tests) in not_ten x (λ k. omega arith)
    go false true c d e f g p q = let is : x ≡ 92 = grind (arith, nat_tests) in not_ten x (λ k. omega arith)
    go false false true d e f g p q = refl
    go false false false true e f g p q = refl
    go false false false false true f g p q = refl
    go false false false false false true g p q = refl
    go false false false false false false true p q = refl
    go false false false false false false false p q = refl

byte_line : (x : ℕ) → is_one_line (escape_byte x) ≡ true
unfolding escape_byte
byte_line x = go (nat_lt 0 (escape_letter x)) (nat_lt x 32) refl
  where
    go : (a b : Bool) → nat_lt x 32 ≡ b → is_one_line (cond a (92 ∷ escape_letter x ∷ []) (cond b (92 ∷ 117 ∷ 48 ∷ 48 ∷ digit_char (x / 16) ∷ digit_char (x % 16) ∷ []) (x ∷ []))) ≡ true
    go true b p = line-cons (escape_letter x) [] (letter_line x) refl
    go false true p = line-cons (digit_char (x / 16)) (digit_char (x % 16) ∷ []) (digit_line (x / 16)) (line-cons (digit_char (x % 16)) [] (digit_line (x % 16)) refl)
    go false false p = let le : 32 ≤ x = grind (arith, nat_tests) in line-cons x [] (not_ten x (λ k. omega arith)) refl

escape_line : (s : List ℕ) → is_one_line (escape s) ≡ true
escape_line [] = refl
escape_line (x ∷ xs) = line-append (escape_byte x) (escape xs) (byte_line x) (escape_line xs)

quoted_line : (s : List ℕ) → is_one_line (quoted s) ≡ true
quoted_line s = line-append (escape s) (34 ∷ []) (escape_line s) refl

-- ---- numbers

-- a digit comes first
abbrev IsDigitFirst : List ℕ → Type 0
IsDigitFirst [] = ⊥
IsDigitFirst (d ∷ ds) = (k : ℕ) × (k < 10) × (d ≡ 48 + k)

first-append : (xs ys : List ℕ) → IsDigitFirst xs → IsDigitFirst (xs ++ ys)
first-append [] ys h = absurd h
first-append (x ∷ xs) ys h = h

record IsNumberLine (n : ℕ) (bytes : List ℕ) : Type 0 where
  pub one_line : is_one_line bytes ≡ true
  pub first : IsDigitFirst bytes

decimal_line : (n : ℕ) → n < 2 ^ 64 → IsNumberLine n (decimal n)
decimal_line =
    decimal_by_steps IsNumberLine (λ n less. record { one_line = line-cons (48 + n) [] (not_ten (48 + n) (λ e. omega arith)) refl; first = (n, less, refl) })
    (λ n ds least h. record { one_line = line-append ds ((48 + n % 10) ∷ []) h.one_line (line-cons (48 + n % 10) [] (not_ten (48 + n % 10) (λ e. omega arith)) refl); first = first-append ds ((48 + n % 10) ∷ []) h.first })

-- ---- plain JSON

small_of : (n limit : ℕ) (z : ℤ) → is_some (if nat_lt n limit then Some z else None) ≡ true → n < limit
small_of n limit z h = go (nat_lt n limit) refl h
  where
    go : (b : Bool) → nat_lt n limit ≡ b → is_some (if b then Some z else None) ≡ true → n < limit
    go true e k = ltb-true n limit e
    go false e k = absurd (false≢true k)

below_word : (n : ℕ) → n < 2 ^ 53 → n < 2 ^ 64
below_word n h = omega arith

number_line : (x : Num) → is_some (whole_of x) ≡ true → is_one_line (number_text x) ≡ true
number_line (unsigned n) h = (decimal_line n (below_word n (small_of n (2 ^ 53) (pos n) h))).one_line
number_line (negative (pos n)) h = absurd (false≢true h)
number_line (negative (negsuc n)) h = let small = small_of n (2 ^ 53 - 1) (negsuc n) h in line-cons 45 (decimal (suc n)) refl (decimal_line (suc n) (below_word (suc n) (omega arith))).one_line
number_line (float x) h = absurd (false≢true h)

mark_line : (d : Data) → is_mark d ≡ true → is_one_line (compact_text d) ≡ true
mark_line (json.string s) h = quoted_line s
mark_line json.null h = absurd (false≢true h)
mark_line (json.boolean b) h = absurd (false≢true h)
mark_line (json.number x) h = absurd (false≢true h)
mark_line (json.array ds) h = absurd (false≢true h)
mark_line (json.object ms) h = absurd (false≢true h)

first_line : (d : Data) (marked : Bool) → is_mark d ≡ marked → (is_mark d ≡ false → is_plain d ≡ true) → (is_plain d ≡ true → is_one_line (compact_text d) ≡ true) → is_one_line (compact_text d) ≡ true
first_line d true e plain line = mark_line d e
first_line d false e plain line = line (plain e)

rest_plain : (d : Data) (ds : json.Items) (marked : Bool) → is_mark d ≡ marked → is_array_plain (json.item d ds) ≡ true → are_plain ds ≡ true
rest_plain d ds true e h = (both (has_element_form ds) (are_plain ds) (rw e at h)).1
rest_plain d ds false e h = (both (is_plain d) (are_plain ds) (rw e at h)).1

comma_line : (later : Bool) → is_one_line (comma_if later) ≡ true
comma_line true = refl
comma_line false = refl

mutual
  data_line : (d : Data) → is_plain d ≡ true → is_one_line (compact_text d) ≡ true
  data_line json.null h = refl
  data_line (json.boolean true) h = refl
  data_line (json.boolean false) h = refl
  data_line (json.number x) h = number_line x h
  data_line (json.string s) h = quoted_line s
  data_line (json.array ds) h = line-cons 91 (items_text false ds) refl (array_line ds h)
  data_line (json.object ms) h = line-cons 123 (members_text false ms) refl (members_line ms false h)

  array_line : (ds : json.Items) → is_array_plain ds ≡ true → is_one_line (items_text false ds) ≡ true
  array_line json.no_items h = refl
  array_line (json.item d ds) h =
      line-append (compact_text d) (items_text true ds) (first_line d (is_mark d) refl (λ e. (both (is_plain d) (are_plain ds) (rw e at h)).0) (λ k. data_line d k)) (items_line ds true (rest_plain d ds (is_mark d) refl h))

  items_line : (ds : json.Items) (later : Bool) → are_plain ds ≡ true → is_one_line (items_text later ds) ≡ true
  items_line json.no_items later h = refl
  items_line (json.item d ds) later h =
      let p = both (is_plain d) (are_plain ds) h in
      line-append (comma_if later) (compact_text d ++ items_text true ds) (comma_line later) (line-append (compact_text d) (items_text true ds) (data_line d p.0) (items_line ds true p.1))

  members_line : (ms : Members) (later : Bool) → are_members_plain ms ≡ true → is_one_line (members_text later ms) ≡ true
  members_line json.no_members later h = refl
  members_line (json.member k d ms) later h =
      let p = both (is_plain d) (are_members_plain ms) h in
      line-append (comma_if later) (quoted k ++ 58 ∷ (compact_text d ++ members_text true ms)) (comma_line later)
      (line-append (quoted k) (58 ∷ (compact_text d ++ members_text true ms)) (quoted_line k) (line-cons 58 (compact_text d ++ members_text true ms) refl (line-append (compact_text d) (members_text true ms) (data_line d p.0) (members_line ms true p.1))))

-- ---- how it begins

digit_tag : (k : ℕ) → k < 10 → tag_of (48 + k) ≡ Plain
unfolding tag_of
digit_tag zero h = refl
digit_tag (suc zero) h = refl
digit_tag (suc (suc zero)) h = refl
digit_tag (suc (suc (suc zero))) h = refl
digit_tag (suc (suc (suc (suc zero)))) h = refl
digit_tag (suc (suc (suc (suc (suc zero))))) h = refl
digit_tag (suc (suc (suc (suc (suc (suc zero)))))) h = refl
digit_tag (suc (suc (suc (suc (suc (suc (suc zero))))))) h = refl
digit_tag (suc (suc (suc (suc (suc (suc (suc (suc zero)))))))) h = refl
digit_tag (suc (suc (suc (suc (suc (suc (suc (suc (suc zero))))))))) h = refl
digit_tag (suc (suc (suc (suc (suc (suc (suc (suc (suc (suc k)))))))))) h = absurd (omega arith)

digit_begins : (k : ℕ) (bs : List ℕ) → k < 10 → begins_model ((48 + k) ∷ bs) ≡ true
digit_begins zero bs h = refl
digit_begins (suc zero) bs h = refl
digit_begins (suc (suc zero)) bs h = refl
digit_begins (suc (suc (suc zero))) bs h = refl
digit_begins (suc (suc (suc (suc zero)))) bs h = refl
digit_begins (suc (suc (suc (suc (suc zero))))) bs h = refl
digit_begins (suc (suc (suc (suc (suc (suc zero)))))) bs h = refl
digit_begins (suc (suc (suc (suc (suc (suc (suc zero))))))) bs h = refl
digit_begins (suc (suc (suc (suc (suc (suc (suc (suc zero)))))))) bs h = refl
digit_begins (suc (suc (suc (suc (suc (suc (suc (suc (suc zero))))))))) bs h = refl
digit_begins (suc (suc (suc (suc (suc (suc (suc (suc (suc (suc k)))))))))) bs h = absurd (omega arith)

-- as the reader of one row and the writer of rows ask
abbrev Begins : List ℕ → Type 0
Begins bytes = (begins_model bytes ≡ true) × rows.begins_model bytes

digits_begin : (bytes : List ℕ) → IsDigitFirst bytes → Begins bytes
digits_begin [] h = absurd h
digits_begin (d ∷ ds) h = (ap (λ d. begins_model (d ∷ ds)) h.2 ∙ digit_begins h.0 ds h.1, ap tag_of h.2 ∙ digit_tag h.0 h.1)

byte_begins : (b : ℕ) (bs : List ℕ) → begins_model (b ∷ bs) ≡ true → tag_of b ≡ Plain → Begins (b ∷ bs)
byte_begins b bs h k = (h, k)

data_begins : (d : Data) → is_plain d ≡ true → Begins (compact_text d)
unfolding tag_of
data_begins json.null h = (refl, refl)
data_begins (json.boolean true) h = (refl, refl)
data_begins (json.boolean false) h = (refl, refl)
data_begins (json.number (unsigned n)) h = digits_begin (decimal n) (decimal_line n (below_word n (small_of n (2 ^ 53) (pos n) h))).first
data_begins (json.number (negative (pos n))) h = absurd (false≢true h)
data_begins (json.number (negative (negsuc n))) h = (refl, refl)
data_begins (json.number (float x)) h = absurd (false≢true h)
data_begins (json.string s) h = (refl, refl)
data_begins (json.array ds) h = (refl, refl)
data_begins (json.object ms) h = (refl, refl)

-- plain JSON that is shallow and has no float can stand in a row
pub row_json : (d : Data) (limit : ℕ) → limit ≤ max_depth → IsFineJson limit d → IsRowJson d
row_json d limit le h =
    let b = data_begins d h.plain in
    let s = h.shallow in
    record { plain = h.plain; shallow = omega (arith, s); no_float = h.no_float; one_line = data_line d h.plain; begins = b.0; is_model = b.1 }
