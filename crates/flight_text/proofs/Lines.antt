-- The marks by what a string begins with: the line of the table that a string can fit.
use Rattle.std.proofs.Common.{ℕ, ◌<◌, ◌≡◌, ◌≢◌, ◌⊎◌, inl, inr, ◌||◌, Bool, true, false, nat_eq, if◌then◌else◌, List, [], ◌∷◌, ◌++◌, length, get_or, length-append, Result, Ok, Err, IfOk, refl, sym, ap, ◌∙◌, subst, codes, ℤ, pos, neg_ℤ, arith}
use lib.Utf8.{encode}
use Rattle.std.specs.Str.Parse.{IsNumeral, digits_value}
use Rattle.std.proofs.lemmas.Str.{encode_ascii, char_from_byte, length-encode, len_utf8_bounds}
use Rattle.std.proofs.lemmas.Bool.{cases_eq}
use Rattle.std.proofs.lemmas.Bool.Decides.{nat_tests, eqb_tells}
use Rattle.flight_value.specs.Date.{IsDate}
use Rattle.flight_value.specs.declared.graph.Constant.{Constant}
use Rattle.flight_value.specs.declared.graph.Constant.TheVariants.{NotANumber, Infinity, MinusInfinity, MinusZero}
use Rattle.std.specs.List.{starts_with}
use Rattle.flight_text.specs.declared.mark.Ref.{Ref}
use Rattle.flight_text.specs.declared.mark.Mark.{Mark}
use Rattle.flight_text.specs.declared.mark.Mark.TheVariants as mark
use Rattle.flight_text.specs.declared.mark.Marked.{Marked}
use Rattle.flight_text.specs.declared.mark.Marked.TheVariants.{BadToken, Memory}
use Rattle.flight_text.specs.Answer.{Answers}
use Rattle.flight_text.specs.Hex.{is_hex_digit, IsId}
use Rattle.flight_text.specs.Big.{IsBig}
use Rattle.flight_text.specs.Reference.{IsReference}
use Rattle.flight_text.specs.Mark.{plain, word_of, IsSpelling, IsNoWord}
use Rattle.flight_text.proofs.Digits.{same_id}
use Rattle.flight_text.proofs.Paths.{first_digit, same_reference}

-- what the byte behind a `$` leaves open
pub data Sign : Type 0 where
  hex : Sign
  dollar : Sign
  lazy : Sign
  promise : Sign
  action : Sign
  map_of : Sign
  set_of : Sign
  big : Sign
  date : Sign
  symbol : Sign
  word : Sign

abbrev pub sign_of : ℕ → Sign
sign_of c =
    if is_hex_digit c then hex else
    if nat_eq c 36 then dollar else
    if nat_eq c 76 then lazy else
    if nat_eq c 64 then promise else
    if nat_eq c 70 || nat_eq c 104 then action else
    if nat_eq c 81 then map_of else
    if nat_eq c 87 then set_of else
    if nat_eq c 110 then big else
    if nat_eq c 68 then date else
    if nat_eq c 83 then symbol else
    word

-- the mark is made of what the rest spells
abbrev pub Made : {A : Type 0} → (A → Type 0) → (A → Mark) → Mark → Type 0
Made {A} Kind make m = (a : A) × Kind a × (m ≡ make a)

abbrev pub IsWordOf : List ℕ → Mark → Type 0
IsWordOf text m = ((text ≡ codes "$undefined") × (m ≡ mark.Undefined)) ⊎ Made (λ k. text ≡ word_of k) mark.Constant m

-- the line of a sign, of the byte and the rest behind a `$`
abbrev pub Line : Sign → ℕ → List ℕ → Mark → Type 0
Line hex c rest m = Made (IsReference (c ∷ rest)) mark.Value m
Line dollar c rest m = m ≡ mark.Plain (36 ∷ rest)
Line lazy c rest m = Made (IsId rest) mark.Lazy m
Line promise c rest m = Made (IsId rest) mark.Promise m
Line action c rest m = Made (IsId rest) mark.Action m
Line map_of c rest m = Made (IsReference rest) mark.Map m
Line set_of c rest m = Made (IsReference rest) mark.Set m
Line big c rest m = Made (IsBig rest) mark.Big m
Line date c rest m = IsDate rest × (m ≡ mark.Date rest)
Line symbol c rest m = m ≡ mark.Symbol rest
Line word c rest m = IsWordOf (36 ∷ c ∷ rest) m

-- where two spellings agree on the byte
along : (P : ℕ → List ℕ → Type 0) (c d : ℕ) (xs ys : List ℕ) → 36 ∷ c ∷ xs ≡ 36 ∷ d ∷ ys → P d ys → P c xs
along P c d xs ys e h =
    let byte : d ≡ c = cc in
    let rest : ys ≡ xs = cc in
    subst (λ x. P x xs) byte (subst (P d) rest h)

-- whether a text begins with a `$`
abbrev pub is_marked : List ℕ → Bool
is_marked text = starts_with nat_eq text (codes "$")

plain_as : (t : List ℕ) (v : Bool) → is_marked t ≡ v → plain t ≡ (if v then 36 ∷ t else t)
plain_as t v e = ap (λ x. if x then 36 ∷ t else t) e

head_of_marked : (b : ℕ) (bs : List ℕ) → is_marked (b ∷ bs) ≡ true → b ≡ 36
head_of_marked b bs e = grind (arith, nat_tests)

line_of_plain : (c : ℕ) (rest t : List ℕ) (v : Bool) → is_marked t ≡ v → 36 ∷ c ∷ rest ≡ plain t → Line (sign_of c) c rest (mark.Plain t)
line_of_plain c rest [] v test e = cc
line_of_plain c rest (b ∷ bs) true test e =
    let first : b ≡ 36 = head_of_marked b bs test in
    let whole : 36 ∷ c ∷ rest ≡ 36 ∷ b ∷ bs = e ∙ plain_as (b ∷ bs) true test in
    let agreed : 36 ∷ c ∷ rest ≡ 36 ∷ 36 ∷ bs = cc in
    along (λ c xs. Line (sign_of c) c xs (mark.Plain (b ∷ bs))) c 36 rest bs agreed (ap (λ x. mark.Plain (x ∷ bs)) first)
line_of_plain c rest (b ∷ bs) false test e =
    let whole : 36 ∷ c ∷ rest ≡ b ∷ bs = e ∙ plain_as (b ∷ bs) false test in
    let marked : is_marked (b ∷ bs) ≡ true = ap is_marked (sym whole) in
    cc

line_of_value : (c : ℕ) (rest : List ℕ) (place : Ref) → IsReference (c ∷ rest) place → Line (sign_of c) c rest (mark.Value place)
line_of_value c rest place is =
    let h : is_hex_digit c ≡ true = first_digit c rest is.digits _ is.spelled is.is_id.hex.lower is.is_id.hex.some in
    rw h (place, is, refl)

-- a spelling fits the line of its second byte
pub line_of : (c : ℕ) (rest : List ℕ) (m : Mark) → IsSpelling (36 ∷ c ∷ rest) m → Line (sign_of c) c rest m
line_of c rest (mark.Plain t) s = line_of_plain c rest t (is_marked t) refl s
line_of c rest mark.Element s = cc
line_of c rest (mark.Lazy id) s = along (λ c xs. Line (sign_of c) c xs (mark.Lazy id)) c 76 rest s.rest s.spelled (id, s.is_kind, refl)
line_of c rest (mark.Promise id) s = along (λ c xs. Line (sign_of c) c xs (mark.Promise id)) c 64 rest s.rest s.spelled (id, s.is_kind, refl)
line_of c rest (mark.Value place) s =
    let e : s.rest ≡ c ∷ rest = cc in
    line_of_value c rest place (subst (λ t. IsReference t place) e s.is_kind)
line_of c rest (mark.Map place) s = along (λ c xs. Line (sign_of c) c xs (mark.Map place)) c 81 rest s.rest s.spelled (place, s.is_kind, refl)
line_of c rest (mark.Set place) s = along (λ c xs. Line (sign_of c) c xs (mark.Set place)) c 87 rest s.rest s.spelled (place, s.is_kind, refl)
line_of c rest (mark.Action id) (inl s) = along (λ c xs. Line (sign_of c) c xs (mark.Action id)) c 70 rest s.rest s.spelled (id, s.is_kind, refl)
line_of c rest (mark.Action id) (inr s) = along (λ c xs. Line (sign_of c) c xs (mark.Action id)) c 104 rest s.rest s.spelled (id, s.is_kind, refl)
line_of c rest (mark.Date t) s = along (λ c xs. Line (sign_of c) c xs (mark.Date t)) c 68 rest t s.0 (s.1, refl)
line_of c rest (mark.Big n) s = along (λ c xs. Line (sign_of c) c xs (mark.Big n)) c 110 rest s.rest s.spelled (n, s.is_kind, refl)
line_of c rest (mark.Symbol t) s = along (λ c xs. Line (sign_of c) c xs (mark.Symbol t)) c 83 rest t s refl
line_of c rest mark.Undefined s = along (λ c xs. Line (sign_of c) c xs mark.Undefined) c 117 rest _ s (inl (refl, refl))
line_of c rest (mark.Constant NotANumber) s = along (λ c xs. Line (sign_of c) c xs (mark.Constant NotANumber)) c 78 rest _ s (inr (NotANumber, refl, refl))
line_of c rest (mark.Constant Infinity) s = along (λ c xs. Line (sign_of c) c xs (mark.Constant Infinity)) c 73 rest _ s (inr (Infinity, refl, refl))
line_of c rest (mark.Constant MinusInfinity) s = along (λ c xs. Line (sign_of c) c xs (mark.Constant MinusInfinity)) c 45 rest _ s (inr (MinusInfinity, refl, refl))
line_of c rest (mark.Constant MinusZero) s = along (λ c xs. Line (sign_of c) c xs (mark.Constant MinusZero)) c 45 rest _ s (inr (MinusZero, refl, refl))

-- ---- texts with no line

-- where the line asks for what the rest does not spell, nothing is spelled
pub no_line : {A : Type 0} (Kind : A → Type 0) (text : List ℕ) (c : ℕ) (rest : List ℕ) (e : Marked) → text ≡ c ∷ rest → ((m : Mark) → Line (sign_of c) c rest m → (a : A) × Kind a) → Answers Kind (Err e) → Answers (IsSpelling (36 ∷ text)) (Err e)
no_line Kind text c rest BadToken spelled asks none = λ m s.
    let found = asks m (line_of c rest m (subst (λ t. IsSpelling (36 ∷ t) m) spelled s)) in
    none found.0 found.1
no_line Kind text c rest Memory spelled asks none = tt

-- the text begins with a sign of one byte
pub behind_sign : (text rest : List ℕ) (sign c : ℕ) → c < 128 → text ≡ encode sign ++ rest → sign ≡ c → text ≡ c ∷ rest
behind_sign text rest sign c small spelled is = spelled ∙ (ap (λ s. encode s ++ rest) is ∙ ap (λ bs. bs ++ rest) (encode_ascii c small))

pub date_answer : (text rest : List ℕ) (r : Result Mark Marked) → text ≡ 68 ∷ rest → IfOk r (IsSpelling (codes "$D" ++ rest)) → (r ≡ Err BadToken → ¬ IsDate rest) → Answers (IsSpelling (36 ∷ text)) r
date_answer text rest (Ok m) spelled fits bad = subst (λ t. IsSpelling (36 ∷ t) m) (sym spelled) fits
date_answer text rest (Err BadToken) spelled fits bad = no_line (λ (n : ℕ). IsDate rest) text 68 rest BadToken spelled (λ m l. (0, l.0)) (λ n. bad refl)
date_answer text rest (Err Memory) spelled fits bad = tt

-- what read_mark says of a text without a `$` in front
pub plain_unmarked : (text : List ℕ) → ((rest : List ℕ) → text ≢ 36 ∷ rest) → (v : Bool) → is_marked text ≡ v → text ≡ plain text
plain_unmarked [] bare v test = refl
plain_unmarked (b ∷ bs) bare true test = absurd (bare bs (ap (λ x. x ∷ bs) (head_of_marked b bs test)))
plain_unmarked (b ∷ bs) bare false test = sym (plain_as (b ∷ bs) false test)

-- a byte that is no sign
pub record IsOther (c : ℕ) : Type 0 where
  pub no_dollar : c ≢ 36
  pub no_lazy : c ≢ 76
  pub no_promise : c ≢ 64
  pub no_action : c ≢ 70
  pub no_old_action : c ≢ 104
  pub no_map : c ≢ 81
  pub no_set : c ≢ 87
  pub no_big : c ≢ 110
  pub no_date : c ≢ 68
  pub no_symbol : c ≢ 83

apart : (c d : ℕ) → c ≢ d → nat_eq c d ≡ false
apart c d h = elim (eqb_tells c d) [ inl p ↦ absurd (h p.1) | inr p ↦ p.0 ]

either : (a b : Bool) → a ≡ false → b ≡ false → (a || b) ≡ false
either a b d e = rw (d, e) refl

sign_of_other : (c : ℕ) → IsOther c → (v : Bool) → is_hex_digit c ≡ v → sign_of c ≡ (if v then hex else word)
sign_of_other c is true e = rw e refl
sign_of_other c is false e =
    rw (e, apart c 36 is.no_dollar, apart c 76 is.no_lazy, apart c 64 is.no_promise, apart c 70 is.no_action, apart c 104 is.no_old_action, apart c 81 is.no_map, apart c 87 is.no_set, apart c 110 is.no_big, apart c 68 is.no_date, apart c 83 is.no_symbol) refl

no_word_line : (text : List ℕ) (m : Mark) → IsNoWord text → IsWordOf text m → ⊥
no_word_line text m none (inl p) = none.no_undefined p.0
no_word_line text m none (inr p) = none.no_constant p.0 p.1

no_other_line : (c : ℕ) (rest : List ℕ) → IsOther c → IsNoWord (36 ∷ c ∷ rest) → ((place : Ref) → ¬ IsReference (c ∷ rest) place) → (v : Bool) → is_hex_digit c ≡ v → (m : Mark) → Line (sign_of c) c rest m → ⊥
no_other_line c rest is none bare true e m l = let p = subst (λ s. Line s c rest m) (sign_of_other c is true e) l in bare p.0 p.1
no_other_line c rest is none bare false e m l = no_word_line (36 ∷ c ∷ rest) m none (subst (λ s. Line s c rest m) (sign_of_other c is false e) l)

-- the first byte of a text is no sign where its first character is none
first_is_other : (sign b : ℕ) (bs rest : List ℕ) → b ∷ bs ≡ encode sign ++ rest → IsOther sign → IsOther b
first_is_other sign b bs rest e is =
    let byte : b < 128 → sign ≡ b = λ small. char_from_byte (b ∷ bs) rest sign e small (omega arith) in
    record {
      no_dollar = λ h. is.no_dollar (byte (omega arith) ∙ h);
      no_lazy = λ h. is.no_lazy (byte (omega arith) ∙ h);
      no_promise = λ h. is.no_promise (byte (omega arith) ∙ h);
      no_action = λ h. is.no_action (byte (omega arith) ∙ h);
      no_old_action = λ h. is.no_old_action (byte (omega arith) ∙ h);
      no_map = λ h. is.no_map (byte (omega arith) ∙ h);
      no_set = λ h. is.no_set (byte (omega arith) ∙ h);
      no_big = λ h. is.no_big (byte (omega arith) ∙ h);
      no_date = λ h. is.no_date (byte (omega arith) ∙ h);
      no_symbol = λ h. is.no_symbol (byte (omega arith) ∙ h);
    }

no_char_in_nothing : (sign : ℕ) (rest : List ℕ) → [] ≡ encode sign ++ rest → ⊥
no_char_in_nothing sign rest e = omega (arith, length-append (encode sign) rest, length-encode sign, len_utf8_bounds sign, ap length e)

pub other_answer : (text rest : List ℕ) (sign : ℕ) (r : Result Mark Marked) → text ≡ encode sign ++ rest → IsOther sign
    → IfOk r (IsSpelling (36 ∷ text)) → (r ≡ Err BadToken → IsNoWord (36 ∷ text) × ((place : Ref) → ¬ IsReference text place)) → Answers (IsSpelling (36 ∷ text)) r
other_answer text rest sign (Ok m) spelled is fits bad = fits
other_answer [] rest sign (Err BadToken) spelled is fits bad = absurd (no_char_in_nothing sign rest spelled)
other_answer (b ∷ bs) rest sign (Err BadToken) spelled is fits bad =
    let none = bad refl in
    λ m s. no_other_line b bs (first_is_other sign b bs rest spelled is) none.0 none.1 (is_hex_digit b) refl m (line_of b bs m s)
other_answer text rest sign (Err Memory) spelled is fits bad = tt

-- ---- one mark

no_minus : (a b : List ℕ) → a ≡ 45 ∷ b → IsNumeral 10 a → ⊥
no_minus a b e is = let k = subst (λ ds. IsNumeral 10 ds) e is in omega (arith, k.1.0)

unmarked_plain : (text : List ℕ) → ((rest : List ℕ) → text ≢ 36 ∷ rest) → (t : List ℕ) (v : Bool) → is_marked t ≡ v → text ≡ plain t → text ≡ t
unmarked_plain text bare t true test e = absurd (bare t (e ∙ plain_as t true test))
unmarked_plain text bare t false test e = e ∙ plain_as t false test

no_plain_dollar : (t : List ℕ) (v : Bool) → is_marked t ≡ v → 36 ∷ [] ≡ plain t → ⊥
no_plain_dollar [] v test e = cc
no_plain_dollar (b ∷ bs) true test e = let whole : 36 ∷ [] ≡ 36 ∷ b ∷ bs = e ∙ plain_as (b ∷ bs) true test in cc
no_plain_dollar (b ∷ bs) false test e =
    let whole : 36 ∷ [] ≡ b ∷ bs = e ∙ plain_as (b ∷ bs) false test in
    let marked : is_marked (b ∷ bs) ≡ true = ap is_marked (sym whole) in
    cc

no_empty_front : (front path : List ℕ) → [] ≡ front ++ path → 0 < length front → ⊥
no_empty_front [] path e some = omega arith
no_empty_front (b ∷ bs) path e some = cc

no_empty_place : (text : List ℕ) (place : Ref) → [] ≡ text → IsReference text place → ⊥
no_empty_place text place e is = no_empty_front is.digits _ (e ∙ is.spelled) is.is_id.hex.some

same_made : {A : Type 0} (Kind : A → Type 0) (make : A → Mark) (m n : Mark) → ((x y : A) → Kind x → Kind y → x ≡ y) → Made Kind make m → Made Kind make n → m ≡ n
same_made Kind make m n same a b = a.2 ∙ (ap make (same a.0 b.0 a.1 b.1) ∙ sym b.2)

same_big_digits : (text : List ℕ) (m n : ℤ) (a b : List ℕ) → IsNumeral 10 a → IsNumeral 10 b
    → ((text ≡ a) × (m ≡ pos (digits_value 10 a))) ⊎ ((text ≡ 45 ∷ a) × (m ≡ neg_ℤ (pos (digits_value 10 a))))
    → ((text ≡ b) × (n ≡ pos (digits_value 10 b))) ⊎ ((text ≡ 45 ∷ b) × (n ≡ neg_ℤ (pos (digits_value 10 b)))) → m ≡ n
same_big_digits text m n a b x y (inl p) (inl q) = let same : a ≡ b = cc in p.1 ∙ (ap (λ ds. pos (digits_value 10 ds)) same ∙ sym q.1)
same_big_digits text m n a b x y (inr p) (inr q) = let same : a ≡ b = cc in p.1 ∙ (ap (λ ds. neg_ℤ (pos (digits_value 10 ds))) same ∙ sym q.1)
same_big_digits text m n a b x y (inl p) (inr q) = let e : a ≡ 45 ∷ b = cc in absurd (no_minus a b e x)
same_big_digits text m n a b x y (inr p) (inl q) = let e : b ≡ 45 ∷ a = cc in absurd (no_minus b a e y)

same_big : (text : List ℕ) (m n : ℤ) → IsBig text m → IsBig text n → m ≡ n
same_big text m n a b = same_big_digits text m n a.digits b.digits a.are_digits b.are_digits a.signed b.signed

same_constant : (text : List ℕ) (j k : Constant) → text ≡ word_of j → text ≡ word_of k → j ≡ k
same_constant text NotANumber NotANumber d e = refl
same_constant text Infinity Infinity d e = refl
same_constant text MinusInfinity MinusInfinity d e = refl
same_constant text MinusZero MinusZero d e = refl
same_constant text j k d e = cc

second : List ℕ → ℕ
second text = get_or text 1 0

no_constant_undefined : (text : List ℕ) (k : Constant) → text ≡ codes "$undefined" → text ≡ word_of k → ⊥
unfolding second
no_constant_undefined text NotANumber d e = let bytes : ◌≡◌ {A = ℕ} 117 78 = ap second (sym d ∙ e) in omega arith
no_constant_undefined text Infinity d e = let bytes : ◌≡◌ {A = ℕ} 117 73 = ap second (sym d ∙ e) in omega arith
no_constant_undefined text MinusInfinity d e = let bytes : ◌≡◌ {A = ℕ} 117 45 = ap second (sym d ∙ e) in omega arith
no_constant_undefined text MinusZero d e = let bytes : ◌≡◌ {A = ℕ} 117 45 = ap second (sym d ∙ e) in omega arith

same_word : (text : List ℕ) (m n : Mark) → IsWordOf text m → IsWordOf text n → m ≡ n
same_word text m n (inl p) (inl q) = cc
same_word text m n (inl p) (inr q) = absurd (no_constant_undefined text q.0 p.0 q.1)
same_word text m n (inr p) (inl q) = absurd (no_constant_undefined text p.0 q.0 p.1)
same_word text m n (inr p) (inr q) = same_made (λ k. text ≡ word_of k) mark.Constant m n (same_constant text) p q

same_line : (s : Sign) (c : ℕ) (rest : List ℕ) (m n : Mark) → Line s c rest m → Line s c rest n → m ≡ n
same_line hex c rest m n a b = same_made (IsReference (c ∷ rest)) mark.Value m n (same_reference (c ∷ rest)) a b
same_line dollar c rest m n a b = a ∙ sym b
same_line lazy c rest m n a b = same_made (IsId rest) mark.Lazy m n (same_id rest) a b
same_line promise c rest m n a b = same_made (IsId rest) mark.Promise m n (same_id rest) a b
same_line action c rest m n a b = same_made (IsId rest) mark.Action m n (same_id rest) a b
same_line map_of c rest m n a b = same_made (IsReference rest) mark.Map m n (same_reference rest) a b
same_line set_of c rest m n a b = same_made (IsReference rest) mark.Set m n (same_reference rest) a b
same_line big c rest m n a b = same_made (IsBig rest) mark.Big m n (same_big rest) a b
same_line date c rest m n a b = a.1 ∙ sym b.1
same_line symbol c rest m n a b = a ∙ sym b
same_line word c rest m n a b = same_word (36 ∷ c ∷ rest) m n a b

-- a text without a `$` in front is itself
only_plain : (text : List ℕ) → ((rest : List ℕ) → text ≢ 36 ∷ rest) → (m : Mark) → IsSpelling text m → m ≡ mark.Plain text
only_plain text bare (mark.Plain t) s = ap mark.Plain (sym (unmarked_plain text bare t (is_marked t) refl s))
only_plain text bare mark.Element s = absurd (bare _ s)
only_plain text bare (mark.Lazy id) s = absurd (bare _ s.spelled)
only_plain text bare (mark.Promise id) s = absurd (bare _ s.spelled)
only_plain text bare (mark.Value place) s = absurd (bare _ s.spelled)
only_plain text bare (mark.Map place) s = absurd (bare _ s.spelled)
only_plain text bare (mark.Set place) s = absurd (bare _ s.spelled)
only_plain text bare (mark.Action id) (inl s) = absurd (bare _ s.spelled)
only_plain text bare (mark.Action id) (inr s) = absurd (bare _ s.spelled)
only_plain text bare (mark.Date t) s = absurd (bare _ s.0)
only_plain text bare (mark.Big n) s = absurd (bare _ s.spelled)
only_plain text bare (mark.Symbol t) s = absurd (bare _ s)
only_plain text bare mark.Undefined s = absurd (bare _ s)
only_plain text bare (mark.Constant NotANumber) s = absurd (bare _ s)
only_plain text bare (mark.Constant Infinity) s = absurd (bare _ s)
only_plain text bare (mark.Constant MinusInfinity) s = absurd (bare _ s)
only_plain text bare (mark.Constant MinusZero) s = absurd (bare _ s)

-- a `$` alone is the element mark
only_element : (m : Mark) → IsSpelling (36 ∷ []) m → m ≡ mark.Element
only_element (mark.Plain t) s = absurd (no_plain_dollar t (is_marked t) refl s)
only_element mark.Element s = refl
only_element (mark.Lazy id) s = cc
only_element (mark.Promise id) s = cc
only_element (mark.Value place) s = let e : [] ≡ s.rest = cc in absurd (no_empty_place s.rest place e s.is_kind)
only_element (mark.Map place) s = cc
only_element (mark.Set place) s = cc
only_element (mark.Action id) (inl s) = cc
only_element (mark.Action id) (inr s) = cc
only_element (mark.Date t) s = cc
only_element (mark.Big n) s = cc
only_element (mark.Symbol t) s = cc
only_element mark.Undefined s = cc
only_element (mark.Constant NotANumber) s = cc
only_element (mark.Constant Infinity) s = cc
only_element (mark.Constant MinusInfinity) s = cc
only_element (mark.Constant MinusZero) s = cc

same_behind_dollar : (rest : List ℕ) (m n : Mark) → IsSpelling (36 ∷ rest) m → IsSpelling (36 ∷ rest) n → m ≡ n
same_behind_dollar [] m n a b = only_element m a ∙ sym (only_element n b)
same_behind_dollar (c ∷ rest) m n a b = same_line (sign_of c) c rest m n (line_of c rest m a) (line_of c rest n b)

pub same_mark : (text : List ℕ) (m n : Mark) → IsSpelling text m → IsSpelling text n → m ≡ n
same_mark [] m n a b = let bare : (rest : List ℕ) → [] ≢ 36 ∷ rest = λ rest e. cc in only_plain [] bare m a ∙ sym (only_plain [] bare n b)
same_mark (c ∷ rest) m n a b = elim (cases_eq c 36) [
  | inl e ↦ same_behind_dollar rest m n (subst (λ x. IsSpelling (x ∷ rest) m) e a) (subst (λ x. IsSpelling (x ∷ rest) n) e b)
  | inr other ↦ let bare : (others : List ℕ) → c ∷ rest ≢ 36 ∷ others = λ others e. other cc in only_plain (c ∷ rest) bare m a ∙ sym (only_plain (c ∷ rest) bare n b)
]
