-- The compact JSON of a client component spells JSON that is read as the same.
use Rattle.std.proofs.Common.{◌≡◌, ℕ, zero, suc, ◌+◌, ◌<◌, ◌^◌, Bool, true, false, inl, inr, List, [], ◌∷◌, ◌++◌, length, Option, Some, None, pos, negsuc, decimal, refl, sym, ap, ap₂, subst, ◌∙◌, arith, append_assoc, append-nil, option_map, if◌then◌else◌, codes, Ordering, Less, Equal, Greater}
use Rattle.std.specs.Prelude.{option_and_then}
use Rattle.std.specs.Ordering.{nat_cmp, match_ordering, ordering_reverse}
use Rattle.std.specs.Cmp.Lexicographic.{slice_cmp}
use Rattle.std.specs.Str.{bytes_eq}
use Rattle.std.proofs.lemmas.Cmp.{nat_list_cmp_total}
use Rattle.json.specs.Json as json
use Rattle.json.specs.Print.{quoted}
use Rattle.serde_json.specs.Data.{Num, unsigned, negative, float, Data, null, boolean, number, string, array, object, Items, no_items, item, Members, no_members, member, put}
use Rattle.serde_json.specs.Read.{number_of, of_json, of_items, of_members}
use Rattle.serde_json.specs.Written.{outline, items_outline, members_outline, comma_if, compact_text, items_text, members_text}
use Rattle.serde_json.proofs.Numbers.{number_of-decimal, number_of-negative}
use Rattle.flight_text.specs.Ordered.{names, Below, OrderedMembers}
use Rattle.flight_text.proofs.Ordered.{put-ordered}
use Rattle.flight_syntax.specs.declared.token.TokenKind.TheVariants.{Name, Number, Text, Mark}
use Rattle.flight_syntax.specs.declared.word.Keyword.TheVariants as keys
use Rattle.flight_syntax.specs.declared.word.Punctuator.{Punctuator}
use Rattle.flight_syntax.specs.declared.word.Punctuator.TheVariants.{OpenBracket, CloseBracket, OpenBrace, CloseBrace, Comma, Colon, Semicolon, Minus}
use Rattle.flight_syntax.specs.Pieces as syntax
use Rattle.flight_syntax.specs.Pieces.{IsNumber, begins_pair}
use Rattle.flight_syntax.specs.Lexicon as lexicon
use Rattle.flight_syntax.specs.Lexicon.{Placed, Word, Phrase, ◌▸◌, nothing, one, sign, key, literal, mark, word_as, sign_spelled, is_mark, sign_number, taken_where, is_deep, text_of, json_of, negative_json_of}
use Rattle.flight_syntax.specs.Grammar.{SpellsJson, JsonItems, MoreJsonItems, JsonMembers, MoreJsonMembers}
use Rattle.flight_syntax.proofs.Meanings.{bytes_is, bytes_same}
use Rattle.flight_print.specs.Text.{line_end}
use Rattle.flight_print.specs.Pieces as pieces
use Rattle.flight_print.specs.Pieces.{Piece, EndsBy, AreApart, words_at, total}
use Rattle.flight_print.proofs.Lexing.{text_of-append, words_at-append}
use Rattle.flight_print.proofs.Numerals.{decimal_number, quoted_text, decimal_of}
use Rattle.flight_print.proofs.Said.{IsSaid, AreSaid, left, right, number_said, deep_said, sign_word}
use Rattle.flight_print.proofs.Again.{Again, same_sign}
use Rattle.flight_print.proofs.Atoms.{text_word, zero_text}

-- ---- values that the language spells

abbrev IsSmall : Num → Type 0
IsSmall (unsigned n) = n < 2 ^ 53
IsSmall (negative (pos n)) = ⊥
IsSmall (negative (negsuc n)) = suc n < 2 ^ 53
IsSmall (float x) = ⊥

-- within so many levels
abbrev mutual
  Fits : ℕ → Data → Type 0
  Fits zero d = ⊥
  Fits (suc l) null = Unit {0}
  Fits (suc l) (boolean b) = Unit {0}
  Fits (suc l) (number n) = IsSmall n
  Fits (suc l) (string s) = Unit {0}
  Fits (suc l) (array ds) = ItemsFit l ds
  Fits (suc l) (object ms) = OrderedMembers ms × MembersFit l ms

  ItemsFit : ℕ → Items → Type 0
  ItemsFit l no_items = Unit {0}
  ItemsFit l (item d ds) = Fits l d × ItemsFit l ds

  MembersFit : ℕ → Members → Type 0
  MembersFit l no_members = Unit {0}
  MembersFit l (member k d ms) = Fits l d × MembersFit l ms

put_fits_at : (o : Ordering) (l : ℕ) (k m : List ℕ) (d e : Data) (ms : Members) → Fits l d → MembersFit l (member m e ms) → MembersFit l (put k d ms) → MembersFit l (match_ordering o (member k d (member m e ms)) (member m d ms) (member m e (put k d ms)))
put_fits_at Less l k m d e ms w h r = (w, h)
put_fits_at Equal l k m d e ms w h r = (w, h.1)
put_fits_at Greater l k m d e ms w h r = (h.0, r)

put_fits : (l : ℕ) (k : List ℕ) (d : Data) (ms : Members) → Fits l d → MembersFit l ms → MembersFit l (put k d ms)
put_fits l k d no_members w h = (w, tt)
put_fits l k d (member m e ms) w h = put_fits_at (slice_cmp nat_cmp k m) l k m d e ms w h (put_fits l k d ms w h.1)

abbrev If : {A : Type 0} → (A → Type 0) → Option A → Type 0
If P None = Unit {0}
If P (Some x) = P x

if_map : {A B : Type 0} (P : A → Type 0) (Q : B → Type 0) (f : A → B) (o : Option A) → ((x : A) → P x → Q (f x)) → If P o → If Q (option_map f o)
if_map P Q f None g h = tt
if_map P Q f (Some x) g h = g x h

if_then : {A B : Type 0} (P : A → Type 0) (Q : B → Type 0) (f : A → Option B) (o : Option A) → ((x : A) → P x → If Q (f x)) → If P o → If Q (option_and_then f o)
if_then P Q f None g h = tt
if_then P Q f (Some x) g h = g x h

not_deep : (w : Word) → is_deep w ≡ Some tt → IsSaid w → ⊥
not_deep lexicon.deep e s = deep_said s
not_deep _ e s = cc

so_number : (l : ℕ) (s : List ℕ) (n : Num) → number_of s ≡ Some n → IsSmall n → If (Fits (suc l)) (of_json (json.number s))
so_number l s n e h = subst (λ o. If (Fits (suc l)) (option_map number o)) (sym e) h

number_word : (w : Word) (l : ℕ) (s : List ℕ) → IsSaid w → json_of w ≡ Some (json.number s) → If (Fits (suc l)) (of_json (json.number s))
number_word (lexicon.number digits) l s w e =
    let is = number_said digits w in
    let small = is.1.within in
    let same : digits ≡ s = cc in
    let written = decimal_of digits is.0 is.1 in
    so_number l s (unsigned is.0) (ap number_of (sym same ∙ sym written) ∙ number_of-decimal is.0 (omega (arith, small))) small
number_word (key k at) l s w e = absurd (no_key k at s e)
  where
    no_key : (k : _) (at : ℕ) (s : List ℕ) → json_of (key k at) ≡ Some (json.number s) → ⊥
    no_key keys.Null at s e = cc
    no_key keys.True at s e = cc
    no_key keys.False at s e = cc
    no_key _ at s e = cc
number_word _ l s w e = absurd cc

zero_decimal : (n : ℕ) → n < 2 ^ 53 → (digits : List ℕ) → IsNumber digits n → n ≡ 0 → bytes_eq digits (codes "0") ≡ true
zero_decimal n h digits is e = bytes_same digits (codes "0") (sym (decimal_of digits n is) ∙ (ap decimal e ∙ zero_text))

minus_word : (w : Word) (l : ℕ) (s : List ℕ) → IsSaid w → negative_json_of w ≡ Some (json.number s) → If (Fits (suc l)) (of_json (json.number s))
minus_word (lexicon.number digits) l s w e = by (number_said digits w).0 (number_said digits w).1 (bytes_eq digits (codes "0")) refl e
  where
    by : (n : ℕ) → IsNumber digits n → (b : Bool) → bytes_eq digits (codes "0") ≡ b → (if b then None else Some (json.number (45 ∷ digits))) ≡ Some (json.number s) → If (Fits (suc l)) (of_json (json.number s))
    by n is true q e = absurd cc
    by zero is false q e = let z = zero_decimal 0 (omega arith) digits is refl in absurd cc
    by (suc n) is false q e =
        let small = is.within in
        let same : 45 ∷ digits ≡ s = cc in
        so_number l s (negative (negsuc n)) (ap number_of (sym same ∙ ap (λ z. 45 ∷ z) (sym (decimal_of digits (suc n) is))) ∙ number_of-negative n (omega (arith, small))) small
minus_word _ l s w e = absurd cc

said_one : {x : List Word} (w : Word) → x ≡ w ∷ [] → AreSaid x → IsSaid w
said_one w e r = (subst AreSaid e r).0

mutual
  json_fits : (j : json.Json) (l : ℕ) (x : List Word) → AreSaid x → SpellsJson j l x → If (Fits l) (of_json j)
  json_fits json.null zero x r m = absurd (not_deep m.0 m.1 (said_one m.0 m.2 r))
  json_fits _ zero x r m = absurd m
  json_fits json.null (suc l) x r m = tt
  json_fits (json.boolean b) (suc l) x r m = tt
  json_fits (json.number s) (suc l) x r (inl m) = number_word m.0 l s (said_one m.0 m.2 r) m.1
  json_fits (json.number s) (suc l) x r (inr m) = let w = m.4 in minus_word w.0 l s (said_one w.0 w.2 (right m.0 m.1 m.2 r)) w.1
  json_fits (json.string s) (suc l) x r m = tt
  json_fits (json.array js) (suc l) x r m = let a = m.4 in if_map (ItemsFit l) (Fits (suc l)) array (of_items js) (λ ds h. h) (items_fit js l a.0 (left a.0 a.1 a.2 (right m.0 m.1 m.2 r)) a.3)
  json_fits (json.object ms) (suc l) x r m =
      let a = m.4 in
      if_map (λ ms. OrderedMembers ms × MembersFit l ms) (Fits (suc l)) object (of_members ms no_members) (λ ds h. h) (members_fit ms l a.0 (left a.0 a.1 a.2 (right m.0 m.1 m.2 r)) a.3 no_members (tt, tt))

  items_fit : (js : json.Items) (l : ℕ) (x : List Word) → AreSaid x → JsonItems js l x → If (ItemsFit l) (of_items js)
  items_fit json.no_items l x r m = tt
  items_fit (json.item j js) l x r m =
      if_then (Fits l) (ItemsFit l) (λ d. option_map (item d) (of_items js)) (of_json j) (λ d w. if_map (ItemsFit l) (ItemsFit l) (item d) (of_items js) (λ ds h. (w, h)) (more_items_fit js l m.1 (right m.0 m.1 m.2 r) m.4)) (json_fits j l m.0 (left m.0 m.1 m.2 r) m.3)

  more_items_fit : (js : json.Items) (l : ℕ) (x : List Word) → AreSaid x → MoreJsonItems js l x → If (ItemsFit l) (of_items js)
  more_items_fit json.no_items l x r m = tt
  more_items_fit (json.item j js) l x r m =
      let a = m.3 in
      if_then (Fits l) (ItemsFit l) (λ d. option_map (item d) (of_items js)) (of_json j) (λ d w. if_map (ItemsFit l) (ItemsFit l) (item d) (of_items js) (λ ds h. (w, h)) (more_items_fit js l m.1 (right m.0 m.1 m.2 r) m.4)) (json_fits j l a.1 (right a.0 a.1 a.2 (left m.0 m.1 m.2 r)) a.4)

  members_fit : (ms : json.Members) (l : ℕ) (x : List Word) → AreSaid x → JsonMembers ms l x → (found : Members) → OrderedMembers found × MembersFit l found → If (λ ms. OrderedMembers ms × MembersFit l ms) (of_members ms found)
  members_fit json.no_members l x r m found h = h
  members_fit (json.member k j ms) l x r m found h =
      let a = m.3.4 in
      let q = right m.3.0 m.3.1 m.3.2 (left m.0 m.1 m.2 r) in
      if_then (Fits l) (λ ms. OrderedMembers ms × MembersFit l ms) (λ d. of_members ms (put k d found)) (of_json j)
      (λ d w. more_members_fit ms l m.1 (right m.0 m.1 m.2 r) m.4 (put k d found) (put-ordered k d found h.0, put_fits l k d found w h.1)) (json_fits j l a.1 (right a.0 a.1 a.2 q) a.4)

  more_members_fit : (ms : json.Members) (l : ℕ) (x : List Word) → AreSaid x → MoreJsonMembers ms l x → (found : Members) → OrderedMembers found × MembersFit l found → If (λ ms. OrderedMembers ms × MembersFit l ms) (of_members ms found)
  more_members_fit json.no_members l x r m found h = h
  more_members_fit (json.member k j ms) l x r m found h =
      let c = m.3.4 in
      let p = right m.3.0 m.3.1 m.3.2 (left m.0 m.1 m.2 r) in
      let a = c.4 in
      let q = right c.0 c.1 c.2 p in
      if_then (Fits l) (λ ms. OrderedMembers ms × MembersFit l ms) (λ d. of_members ms (put k d found)) (of_json j)
      (λ d w. more_members_fit ms l m.1 (right m.0 m.1 m.2 r) m.4 (put k d found) (put-ordered k d found h.0, put_fits l k d found w h.1)) (json_fits j l a.1 (right a.0 a.1 a.2 q) a.4)

-- ---- such a value is read again from its outline

abbrev joined : Members → Members → Members
joined no_members ms = ms
joined (member k d found) ms = member k d (joined found ms)

joined_on : (found : Members) (k : List ℕ) (d : Data) (ms : Members) → joined (joined found (member k d no_members)) ms ≡ joined found (member k d ms)
joined_on no_members k d ms = refl
joined_on (member l e found) k d ms = ap (member l e) (joined_on found k d ms)

below_in : (l : List ℕ) (found : Members) (k : List ℕ) (d : Data) (ms : Members) → Below l (names (joined found (member k d ms))) → slice_cmp nat_cmp l k ≡ Less
below_in l no_members k d ms h = h.0
below_in l (member m e found) k d ms h = below_in l found k d ms h.1

put_last : (found : Members) (k : List ℕ) (d : Data) (ms : Members) → OrderedMembers (joined found (member k d ms)) → put k d found ≡ joined found (member k d no_members)
put_last no_members k d ms h = refl
put_last (member l e found) k d ms h =
    let above : slice_cmp nat_cmp k l ≡ Greater = nat_list_cmp_total.antisymm k l ∙ ap ordering_reverse (below_in l found k d ms h.0) in
    ap (λ o. match_ordering o (member k d (member l e found)) (member l d found) (member l e (put k d found))) above ∙ ap (member l e) (put_last found k d ms h.1)

joined_end : (found : Members) → joined found no_members ≡ found
joined_end no_members = refl
joined_end (member k d found) = ap (member k d) (joined_end found)

mutual
  outline_read : (l : ℕ) (d : Data) → Fits l d → of_json (outline d) ≡ Some d
  outline_read zero d h = absurd h
  outline_read (suc l) null h = refl
  outline_read (suc l) (boolean b) h = refl
  outline_read (suc l) (number (unsigned n)) h = ap (option_map number) (number_of-decimal n (omega (arith, h)))
  outline_read (suc l) (number (negative (pos n))) h = absurd h
  outline_read (suc l) (number (negative (negsuc n))) h = ap (option_map number) (number_of-negative n (omega (arith, h)))
  outline_read (suc l) (number (float x)) h = absurd h
  outline_read (suc l) (string s) h = refl
  outline_read (suc l) (array ds) h = ap (option_map array) (items_read l ds h)
  outline_read (suc l) (object ms) h = ap (option_map object) (members_read l ms no_members h.1 h.0)

  items_read : (l : ℕ) (ds : Items) → ItemsFit l ds → of_items (items_outline ds) ≡ Some ds
  items_read l no_items h = refl
  items_read l (item d ds) h = rw (outline_read l d h.0, items_read l ds h.1) refl

  members_read : (l : ℕ) (ms found : Members) → MembersFit l ms → OrderedMembers (joined found ms) → of_members (members_outline ms) found ≡ Some (joined found ms)
  members_read l no_members found h o = ap Some (sym (joined_end found))
  members_read l (member k d ms) found h o =
      ap (option_and_then (λ d. of_members (members_outline ms) (put k d found))) (outline_read l d h.0)
      ∙ (ap (of_members (members_outline ms)) (put_last found k d ms o)
      ∙ (members_read l ms (joined found (member k d no_members)) h.1 (subst OrderedMembers (sym (joined_on found k d ms)) o) ∙ ap Some (joined_on found k d ms)))

append_assoc_pieces : (a b c : List Piece) → (a ++ b) ++ c ≡ a ++ (b ++ c)
append_assoc_pieces a b c = append_assoc a b c

-- ---- its tokens, none with a space behind it

abbrev tight : Punctuator → Piece
tight s = record { kind = Mark; bytes = sign_spelled s; gap = [] }

abbrev tight_text : List ℕ → Piece
tight_text v = record { kind = Text; bytes = quoted v; gap = [] }

abbrev after : Bool → List Piece → List Piece
after true ps = tight Comma ∷ ps
after false ps = ps

abbrev mutual
  data_pieces : Data → List Piece
  data_pieces null = record { kind = Name; bytes = codes "null"; gap = [] } ∷ []
  data_pieces (boolean true) = record { kind = Name; bytes = codes "true"; gap = [] } ∷ []
  data_pieces (boolean false) = record { kind = Name; bytes = codes "false"; gap = [] } ∷ []
  data_pieces (number (unsigned n)) = record { kind = Number; bytes = decimal n; gap = [] } ∷ []
  data_pieces (number (negative (pos n))) = []
  data_pieces (number (negative (negsuc n))) = tight Minus ∷ record { kind = Number; bytes = decimal (suc n); gap = [] } ∷ []
  data_pieces (number (float x)) = []
  data_pieces (string s) = tight_text s ∷ []
  data_pieces (array ds) = tight OpenBracket ∷ items_pieces false ds
  data_pieces (object ms) = tight OpenBrace ∷ members_pieces false ms

  -- with the closing bracket
  items_pieces : Bool → Items → List Piece
  items_pieces later no_items = tight CloseBracket ∷ []
  items_pieces later (item d ds) = after later (data_pieces d ++ items_pieces true ds)

  members_pieces : Bool → Members → List Piece
  members_pieces later no_members = tight CloseBrace ∷ []
  members_pieces later (member k d ms) = after later (tight_text k ∷ tight Colon ∷ (data_pieces d ++ members_pieces true ms))

text_after : (later : Bool) (ps : List Piece) (s : List ℕ) → pieces.text_of ps ≡ s → pieces.text_of (after later ps) ≡ comma_if later ++ s
text_after true ps s e = ap (λ z. 44 ∷ z) e
text_after false ps s e = e

parts_text : (ps qs : List Piece) (s t : List ℕ) → pieces.text_of ps ≡ s → pieces.text_of qs ≡ t → pieces.text_of (ps ++ qs) ≡ s ++ t
parts_text ps qs s t e f = text_of-append ps qs ∙ ap₂ (λ a b. a ++ b) e f

mutual
  data_text : (l : ℕ) (d : Data) → Fits l d → pieces.text_of (data_pieces d) ≡ compact_text d
  data_text zero d h = absurd h
  data_text (suc l) null h = refl
  data_text (suc l) (boolean true) h = refl
  data_text (suc l) (boolean false) h = refl
  data_text (suc l) (number (unsigned n)) h = append-nil (decimal n)
  data_text (suc l) (number (negative (pos n))) h = absurd h
  data_text (suc l) (number (negative (negsuc n))) h = ap (λ z. 45 ∷ z) (append-nil (decimal (suc n)))
  data_text (suc l) (number (float x)) h = absurd h
  data_text (suc l) (string s) h = append-nil (quoted s)
  data_text (suc l) (array ds) h = ap (λ z. 91 ∷ z) (items_are_text l false ds h)
  data_text (suc l) (object ms) h = ap (λ z. 123 ∷ z) (members_are_text l false ms h.1)

  items_are_text : (l : ℕ) (later : Bool) (ds : Items) → ItemsFit l ds → pieces.text_of (items_pieces later ds) ≡ items_text later ds
  items_are_text l later no_items h = refl
  items_are_text l later (item d ds) h = text_after later _ _ (parts_text (data_pieces d) (items_pieces true ds) _ _ (data_text l d h.0) (items_are_text l true ds h.1))

  members_are_text : (l : ℕ) (later : Bool) (ms : Members) → MembersFit l ms → pieces.text_of (members_pieces later ms) ≡ members_text later ms
  members_are_text l later no_members h = refl
  members_are_text l later (member k d ms) h =
      text_after later _ _ (ap (λ z. quoted k ++ 58 ∷ z) (parts_text (data_pieces d) (members_pieces true ms) _ _ (data_text l d h.0) (members_are_text l true ms h.1)))

-- ---- what they spell

abbrev Spelling : Phrase → List Piece → Type 0
Spelling P ps = (at : ℕ) → P (words_at at ps)

both : {P Q : Phrase} (ps qs : List Piece) → Spelling P ps → Spelling Q qs → Spelling (P ▸ Q) (ps ++ qs)
both ps qs p q at = (words_at at ps, words_at (at + total ps) qs, words_at-append at ps qs, p at, q (at + total ps))

ungrouped : {P Q R : Phrase} (x : List Word) → (P ▸ (Q ▸ R)) x → ((P ▸ Q) ▸ R) x
ungrouped x m =
    let a = m.4 in
    (m.0 ++ a.0, a.1, m.2 ∙ (ap (λ z. m.0 ++ z) a.2 ∙ sym (append_assoc m.0 a.0 a.1)), (m.0, a.0, refl, m.3, a.3), a.4)

tight_spelled : (s : Punctuator) → Spelling (sign s) (tight s ∷ [])
tight_spelled s at = (_, ap (is_mark s) (sign_word s at) ∙ same_sign s, refl)

not_zero : (n : ℕ) → suc n < 2 ^ 53 → bytes_eq (decimal (suc n)) (codes "0") ≡ false
not_zero n h = by (bytes_eq (decimal (suc n)) (codes "0")) refl
  where
    by : (b : Bool) → bytes_eq (decimal (suc n)) (codes "0") ≡ b → b ≡ false
    by false e = refl
    by true e =
        let same = bytes_is (decimal (suc n)) (codes "0") e in
        let value : suc n ≡ 0 = sym (decimal_number (suc n) h).is_numeral.spelled ∙ ap syntax.decimal same in
        absurd (omega (arith, value))

inside : {P Q R : Phrase} (x : List Word) → ((y : List Word) → Q y → R y) → (P ▸ Q) x → (P ▸ R) x
inside x f m = (m.0, m.1, m.2, m.3, f m.1 m.4)

abbrev Key : List ℕ → Phrase
Key named x = (at : ℕ) × one text_of (record { bytes = named; at = at }) x

-- a member, and what follows it
member_spelled : {S R : Phrase} (k : List ℕ) (ps qs : List Piece) → Spelling S ps → Spelling R qs → Spelling ((Key k ▸ (sign Colon ▸ S)) ▸ R) (tight_text k ∷ tight Colon ∷ (ps ++ qs))
member_spelled {S} {R} k ps qs s r at =
    let m = both {P = Key k} (tight_text k ∷ []) (tight Colon ∷ (ps ++ qs)) (λ n. (n, (_, ap text_of (text_word k n), refl))) (both {P = sign Colon} (tight Colon ∷ []) (ps ++ qs) (tight_spelled Colon) (both {P = S} {Q = R} ps qs s r)) at in
    ungrouped {P = Key k} {Q = sign Colon ▸ S} {R = R} _ (inside {P = Key k} _ (λ y. ungrouped {P = sign Colon} {Q = S} {R = R} y) m)

mutual
  data_spelled : (l : ℕ) (d : Data) → Fits l d → Spelling (SpellsJson (outline d) l) (data_pieces d)
  data_spelled zero d h at = absurd h
  data_spelled (suc l) null h at = (_, refl, refl)
  data_spelled (suc l) (boolean true) h at = (_, refl, refl)
  data_spelled (suc l) (boolean false) h at = (_, refl, refl)
  data_spelled (suc l) (number (unsigned n)) h at = inl (_, refl, refl)
  data_spelled (suc l) (number (negative (pos n))) h at = absurd h
  data_spelled (suc l) (number (negative (negsuc n))) h at =
      inr (
        _,
        _,
        words_at-append at (tight Minus ∷ []) (record { kind = Number; bytes = decimal (suc n); gap = [] } ∷ []),
        tight_spelled Minus at,
        (_, ap (λ b. if b then None else Some (json.number (45 ∷ decimal (suc n)))) (not_zero n h), refl),
      )
  data_spelled (suc l) (number (float x)) h at = absurd h
  data_spelled (suc l) (string s) h at = (_, ap json_of (text_word s at), refl)
  data_spelled (suc l) (array ds) h at = both (tight OpenBracket ∷ []) (items_pieces false ds) (tight_spelled OpenBracket) (items_spelled l ds h) at
  data_spelled (suc l) (object ms) h at = both (tight OpenBrace ∷ []) (members_pieces false ms) (tight_spelled OpenBrace) (members_spelled l ms h.1) at

  items_spelled : (l : ℕ) (ds : Items) → ItemsFit l ds → Spelling (JsonItems (items_outline ds) l ▸ sign CloseBracket) (items_pieces false ds)
  items_spelled l no_items h at = ([], _, refl, refl, tight_spelled CloseBracket at)
  items_spelled l (item d ds) h at = ungrouped _ (both (data_pieces d) (items_pieces true ds) (data_spelled l d h.0) (more_items_spelled l ds h.1) at)

  more_items_spelled : (l : ℕ) (ds : Items) → ItemsFit l ds → Spelling (MoreJsonItems (items_outline ds) l ▸ sign CloseBracket) (items_pieces true ds)
  more_items_spelled l no_items h at = ([], _, refl, refl, tight_spelled CloseBracket at)
  more_items_spelled l (item d ds) h at =
      ungrouped _ (ungrouped _ (both (tight Comma ∷ []) (data_pieces d ++ items_pieces true ds) (tight_spelled Comma) (both (data_pieces d) (items_pieces true ds) (data_spelled l d h.0) (more_items_spelled l ds h.1)) at))

  members_spelled : (l : ℕ) (ms : Members) → MembersFit l ms → Spelling (JsonMembers (members_outline ms) l ▸ sign CloseBrace) (members_pieces false ms)
  members_spelled l no_members h at = ([], _, refl, refl, tight_spelled CloseBrace at)
  members_spelled l (member k d ms) h at =
      ungrouped {P = Key k ▸ (sign Colon ▸ SpellsJson (outline d) l)} {Q = MoreJsonMembers (members_outline ms) l} {R = sign CloseBrace} _ (member_spelled k (data_pieces d) (members_pieces true ms) (data_spelled l d h.0) (more_members_spelled l ms h.1) at)

  more_members_spelled : (l : ℕ) (ms : Members) → MembersFit l ms → Spelling (MoreJsonMembers (members_outline ms) l ▸ sign CloseBrace) (members_pieces true ms)
  more_members_spelled l no_members h at = ([], _, refl, refl, tight_spelled CloseBrace at)
  more_members_spelled l (member k d ms) h at =
      let m = member_spelled {S = SpellsJson (outline d) l} {R = MoreJsonMembers (members_outline ms) l ▸ sign CloseBrace} k (data_pieces d) (members_pieces true ms) (data_spelled l d h.0) (more_members_spelled l ms h.1) in
      let more = both {P = sign Comma} (tight Comma ∷ []) (tight_text k ∷ tight Colon ∷ (data_pieces d ++ members_pieces true ms)) (tight_spelled Comma) m at in
      ungrouped {P = sign Comma ▸ (Key k ▸ (sign Colon ▸ SpellsJson (outline d) l))} {Q = MoreJsonMembers (members_outline ms) l} {R = sign CloseBrace} _
      (ungrouped {P = sign Comma} {Q = Key k ▸ (sign Colon ▸ SpellsJson (outline d) l)} {R = MoreJsonMembers (members_outline ms) l ▸ sign CloseBrace} _ more)

-- ---- none runs into the next

-- a token that is no name, number or mark may stand before these
abbrev IsSome : List Piece → Type 0
IsSome ps = EndsBy [] Text [] ps

-- and any token but a mark
abbrev Breaks : List Piece → Type 0
Breaks ps = EndsBy [] Name [] ps

breaks_some : (ps : List Piece) → Breaks ps → IsSome ps
breaks_some (p ∷ ps) h = by p.bytes h
  where
    by : (b : List ℕ) → pieces.IsApart Name [] b → pieces.IsApart Text [] b
    by [] h = h
    by (b ∷ bs) h = tt
breaks_some [] h = h

breaks_word : (bytes : List ℕ) (ps : List Piece) → Breaks ps → EndsBy [] Name bytes ps
breaks_word bytes (p ∷ ps) h = by p.bytes h
  where
    by : (b : List ℕ) → pieces.IsApart Name [] b → pieces.IsApart Name bytes b
    by [] h = h
    by (b ∷ bs) h = h
breaks_word bytes [] h = h

breaks_number : (bytes : List ℕ) (ps : List Piece) → Breaks ps → EndsBy [] Number bytes ps
breaks_number bytes (p ∷ ps) h = by p.bytes h
  where
    by : (b : List ℕ) → pieces.IsApart Name [] b → pieces.IsApart Number bytes b
    by [] h = h
    by (b ∷ bs) h = h
breaks_number bytes [] h = h

some_text : (bytes : List ℕ) (ps : List Piece) → IsSome ps → EndsBy [] Text bytes ps
some_text bytes (p ∷ ps) h = by p.bytes h
  where
    by : (b : List ℕ) → pieces.IsApart Text [] b → pieces.IsApart Text bytes b
    by [] h = h
    by (b ∷ bs) h = h
some_text bytes [] h = h

-- a mark that begins no longer one
some_mark : (a : ℕ) → ((b : ℕ) → begins_pair (a ∷ b ∷ []) ≡ false) → (ps : List Piece) → IsSome ps → EndsBy [] Mark (a ∷ []) ps
some_mark a f (p ∷ ps) h = by p.bytes h
  where
    by : (b : List ℕ) → pieces.IsApart Text [] b → pieces.IsApart Mark (a ∷ []) b
    by [] h = h
    by (b ∷ bs) h = f b
some_mark a f [] h = h

decimal_some : (n : ℕ) → n < 2 ^ 53 → (ps : List Piece) (gap : List ℕ) → IsSome (record { kind = Number; bytes = decimal n; gap = gap } ∷ ps)
decimal_some n h ps gap = by (decimal n) (decimal_number n h).is_numeral.some
  where
    by : (b : List ℕ) → 0 < length b → pieces.IsApart Text [] b
    by [] l = omega (arith, l)
    by (b ∷ bs) l = tt

later_breaks : (ds : Items) (rest : List Piece) → Breaks (items_pieces true ds ++ rest)
later_breaks no_items rest = refl
later_breaks (item d ds) rest = refl

later_members_break : (ms : Members) (rest : List Piece) → Breaks (members_pieces true ms ++ rest)
later_members_break no_members rest = refl
later_members_break (member k d ms) rest = refl

data_some : (l : ℕ) (d : Data) (rest : List Piece) → Fits l d → IsSome (data_pieces d ++ rest)
data_some zero d rest h = absurd h
data_some (suc l) null rest h = tt
data_some (suc l) (boolean true) rest h = tt
data_some (suc l) (boolean false) rest h = tt
data_some (suc l) (number (unsigned n)) rest h = decimal_some n h rest []
data_some (suc l) (number (negative (pos n))) rest h = absurd h
data_some (suc l) (number (negative (negsuc n))) rest h = tt
data_some (suc l) (number (float x)) rest h = absurd h
data_some (suc l) (string s) rest h = tt
data_some (suc l) (array ds) rest h = tt
data_some (suc l) (object ms) rest h = tt

items_some : (l : ℕ) (ds : Items) (rest : List Piece) → ItemsFit l ds → IsSome (items_pieces false ds ++ rest)
items_some l no_items rest h = tt
items_some l (item d ds) rest h = subst IsSome (sym (append_assoc_pieces (data_pieces d) (items_pieces true ds) rest)) (data_some l d (items_pieces true ds ++ rest) h.0)

members_some : (ms : Members) (rest : List Piece) → IsSome (members_pieces false ms ++ rest)
members_some no_members rest = tt
members_some (member k d ms) rest = tt

mutual
  data_apart : (l : ℕ) (d : Data) (rest : List Piece) → Fits l d → Breaks rest → AreApart rest → AreApart (data_pieces d ++ rest)
  data_apart zero d rest h b r = absurd h
  data_apart (suc l) null rest h b r = (refl, breaks_word (codes "null") rest b, r)
  data_apart (suc l) (boolean true) rest h b r = (refl, breaks_word (codes "true") rest b, r)
  data_apart (suc l) (boolean false) rest h b r = (refl, breaks_word (codes "false") rest b, r)
  data_apart (suc l) (number (unsigned n)) rest h b r = ((n, decimal_number n h), breaks_number (decimal n) rest b, r)
  data_apart (suc l) (number (negative (pos n))) rest h b r = absurd h
  data_apart (suc l) (number (negative (negsuc n))) rest h b r =
      (refl, some_mark 45 (λ c. refl) (record { kind = Number; bytes = decimal (suc n); gap = [] } ∷ rest) (decimal_some (suc n) h rest []), ((suc n, decimal_number (suc n) h), breaks_number (decimal (suc n)) rest b, r))
  data_apart (suc l) (number (float x)) rest h b r = absurd h
  data_apart (suc l) (string s) rest h b r = ((s, quoted_text s), some_text (quoted s) rest (breaks_some rest b), r)
  data_apart (suc l) (array ds) rest h b r = (refl, some_mark 91 (λ c. refl) (items_pieces false ds ++ rest) (items_some l ds rest h), items_apart l ds rest h b r)
  data_apart (suc l) (object ms) rest h b r = (refl, some_mark 123 (λ c. refl) (members_pieces false ms ++ rest) (members_some ms rest), members_apart l ms rest h.1 b r)

  items_apart : (l : ℕ) (ds : Items) (rest : List Piece) → ItemsFit l ds → Breaks rest → AreApart rest → AreApart (items_pieces false ds ++ rest)
  items_apart l no_items rest h b r = (refl, some_mark 93 (λ c. refl) rest (breaks_some rest b), r)
  items_apart l (item d ds) rest h b r =
      subst AreApart (sym (append_assoc_pieces (data_pieces d) (items_pieces true ds) rest)) (data_apart l d (items_pieces true ds ++ rest) h.0 (later_breaks ds rest) (more_items_apart l ds rest h.1 b r))

  more_items_apart : (l : ℕ) (ds : Items) (rest : List Piece) → ItemsFit l ds → Breaks rest → AreApart rest → AreApart (items_pieces true ds ++ rest)
  more_items_apart l no_items rest h b r = (refl, some_mark 93 (λ c. refl) rest (breaks_some rest b), r)
  more_items_apart l (item d ds) rest h b r =
      let e = sym (append_assoc_pieces (data_pieces d) (items_pieces true ds) rest) in (
        refl,
        some_mark 44 (λ c. refl) ((data_pieces d ++ items_pieces true ds) ++ rest) (subst IsSome e (data_some l d (items_pieces true ds ++ rest) h.0)),
        subst AreApart e (data_apart l d (items_pieces true ds ++ rest) h.0 (later_breaks ds rest) (more_items_apart l ds rest h.1 b r)),
      )

  members_apart : (l : ℕ) (ms : Members) (rest : List Piece) → MembersFit l ms → Breaks rest → AreApart rest → AreApart (members_pieces false ms ++ rest)
  members_apart l no_members rest h b r = (refl, some_mark 125 (λ c. refl) rest (breaks_some rest b), r)
  members_apart l (member k d ms) rest h b r =
      let e = sym (append_assoc_pieces (data_pieces d) (members_pieces true ms) rest) in (
        (k, quoted_text k),
        tt,
        (
          refl,
          some_mark 58 (λ c. refl) ((data_pieces d ++ members_pieces true ms) ++ rest) (subst IsSome e (data_some l d (members_pieces true ms ++ rest) h.0)),
          subst AreApart e (data_apart l d (members_pieces true ms ++ rest) h.0 (later_members_break ms rest) (more_members_apart l ms rest h.1 b r)),
        ),
      )

  more_members_apart : (l : ℕ) (ms : Members) (rest : List Piece) → MembersFit l ms → Breaks rest → AreApart rest → AreApart (members_pieces true ms ++ rest)
  more_members_apart l no_members rest h b r = (refl, some_mark 125 (λ c. refl) rest (breaks_some rest b), r)
  more_members_apart l (member k d ms) rest h b r =
      let e = sym (append_assoc_pieces (data_pieces d) (members_pieces true ms) rest) in (
        refl,
        refl,
        (
          (k, quoted_text k),
          tt,
          (
            refl,
            some_mark 58 (λ c. refl) ((data_pieces d ++ members_pieces true ms) ++ rest) (subst IsSome e (data_some l d (members_pieces true ms ++ rest) h.0)),
            subst AreApart e (data_apart l d (members_pieces true ms ++ rest) h.0 (later_members_break ms rest) (more_members_apart l ms rest h.1 b r)),
          ),
        ),
      )

-- ---- a client component's JSON, and the end of the declaration

abbrev end_piece : Piece
end_piece = record { kind = Mark; bytes = codes ";"; gap = 10 ∷ [] }

fits_some : (l : ℕ) (o : Option Data) (d : Data) → o ≡ Some d → If (Fits l) o → Fits l d
fits_some l o d e h = subst (If (Fits l)) e h

pub import_again : (l : ℕ) (j : json.Json) (d : Data) (x : List Word) → AreSaid x → SpellsJson j l x → of_json j ≡ Some d → Again (λ k. SpellsJson k l ▸ sign Semicolon) (λ k. of_json k ≡ Some d) (compact_text d ++ line_end)
import_again l j d x r m e =
    let fits = fits_some l (of_json j) d e (json_fits j l x r m) in
    record {
      pieces = data_pieces d ++ end_piece ∷ [];
      is_text = parts_text (data_pieces d) (end_piece ∷ []) (compact_text d) line_end (data_text l d fits) refl;
      apart = data_apart l d (end_piece ∷ []) fits refl (refl, refl, tt);
      spells = λ at. (outline d, outline_read l d fits, both {P = SpellsJson (outline d) l} {Q = sign Semicolon} (data_pieces d) (end_piece ∷ []) (data_spelled l d fits) (λ n. (_, ap (is_mark Semicolon) (sign_word Semicolon n) ∙ same_sign Semicolon, refl)) at);
    }
